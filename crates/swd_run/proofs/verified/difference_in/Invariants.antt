use Rattle.std.proofs.Common.{◌≡◌, drop}
use Rattle.swd_run.specs.Verified.{verify_difference_in}
use Rattle.swd_run.proofs.verified.difference_in.Given as goal

abbrev pub invariant-loop-read : goal.invariant-loop-read
invariant-loop-read l = verify_difference_in l.reads l.answers
    ≡ verify_difference_in (drop l.read-index l.reads) l.answers
