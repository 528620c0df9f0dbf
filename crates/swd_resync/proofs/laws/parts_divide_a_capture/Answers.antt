use Rattle.swd_resync.proofs.PartLemmas.{resync_parts_divide, skips_never_adjacent}
use Rattle.swd_resync.proofs.laws.parts_divide_a_capture.Goals as goal

pub returns-clause-divides : goal.returns-clause-divides
returns-clause-divides c = λ over bits. resync_parts_divide _ _ bits

pub returns-clause-apart : goal.returns-clause-apart
returns-clause-apart c = λ over bits. skips_never_adjacent _ _ bits
