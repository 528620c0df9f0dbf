-- What a decoder of captures holds.
use Rattle.std.specs.Prelude.{ℕ, ◌≡◌, ◌-◌, ◌%◌, ◌<◌, ◌≤◌, min, Bool, false, List, length, drop, replicate}
use Rattle.swd_bits.specs.Bits.{low_bits}
use Rattle.swd_resync.specs.declared.held.HeldBits.{HeldBits}
use Rattle.swd_resync.specs.Queues.{resync_queued}
use Rattle.swd_resync.specs.Parts.{past_zeros}

abbrev pub resync_held : HeldBits → List Bool
resync_held h = resync_queued h.queue

-- how many bits are held after the run of zeros
abbrev pub resync_behind_run : HeldBits → ℕ
resync_behind_run h = h.queue.back_len

-- fewer than fifty bits are held after at most `most` bits and zeros
pub record IsResyncNear (most : ℕ) (bits : List Bool) : Type 0 where
  pub place : ℕ
  pub within : place ≤ most
  pub few : length (past_zeros (drop place bits)) < 50

-- how many low bits are taken where `held` bits are held apart from a count of zeros: with fewer than 92 held all, or
-- as many as make 92; with 92 held at least the zeros at their front; with more all, or as many as make 155
pub record ResyncTakesMany (held bits count taken : ℕ) : Type 0 where
  pub front : held < 92 → taken ≡ min count (92 - held)
  pub run : held ≡ 92 → (n : ℕ) → n ≤ count → low_bits n bits ≡ replicate n false → n ≤ taken
  pub one : held ≡ 92 → bits % 2 ≡ 1 → taken ≡ min count 63
  pub back : 92 < held → taken ≡ min count (155 - held)
