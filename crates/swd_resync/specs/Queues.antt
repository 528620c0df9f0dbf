-- A queue of bits that counts one run of zeros.
use Rattle.std.specs.Prelude.{◌≡◌, ◌+◌, ◌%◌, ◌^◌, ◌<◌, ◌≤◌, Bool, false, List, ◌++◌, replicate}
use Rattle.swd_bits.specs.Bits.{low_bits}
use Rattle.swd_resync.specs.declared.queue.Queue.{Queue}

-- the bits of a queue: the front, a run of zeros, and the bits after it
abbrev pub resync_queued : Queue → List Bool
resync_queued q = low_bits q.front_len q.front ++ (replicate q.zeros false ++ low_bits q.back_len q.back)

-- the numbers hold no more bits than are counted
pub record IsResyncQueue (q : Queue) : Type 0 where
  pub front_whole : q.front < 2 ^ q.front_len
  pub front_short : q.front_len ≤ 92
  pub back_whole : q.back < 2 ^ q.back_len
  pub back_short : q.back_len ≤ 63

-- after a front that isn't full, there are no bits
abbrev pub IsResyncQueueFull : Queue → Type 0
IsResyncQueueFull q = 0 < q.zeros + q.back_len → q.front_len ≡ 92

-- the bit after the run is a one
abbrev pub ResyncQueueEndsRun : Queue → Type 0
ResyncQueueEndsRun q = 0 < q.back_len → q.back % 2 ≡ 1

pub record IsResyncHeld (q : Queue) : Type 0 where
  pub queue : IsResyncQueue q
  pub full : IsResyncQueueFull q
  pub ends : ResyncQueueEndsRun q
