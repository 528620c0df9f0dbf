-- Kinds of bursts, and what each may take.
use Rattle.std.specs.Prelude.{ℕ}
use Rattle.swd_host.specs.declared.task.Bursts.{Bursts}
use Rattle.swd_host.specs.declared.task.Bursts.TheVariants.{Never, Reads}

abbrev pub bursts_limit : Bursts → ℕ
bursts_limit Reads = 2
bursts_limit kind = 1

-- how many further requests an event takes at most; where each write is confirmed by itself, a corrupted one may take
-- TAR's write too
abbrev pub event_requests : Bursts → ℕ
event_requests Never = 6
event_requests kind = 5
