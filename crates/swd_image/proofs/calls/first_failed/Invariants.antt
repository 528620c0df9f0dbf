use Rattle.std.proofs.Common.{◌≡◌, drop}
use Rattle.swd_image.specs.Sessions.{image_first_failed}
use Rattle.swd_image.proofs.calls.first_failed.Given as goal

abbrev pub invariant-loop-index : goal.invariant-loop-index
invariant-loop-index l =
    image_first_failed l.accesses l.answers ≡ image_first_failed (drop l.index l.accesses) (drop l.index l.answers)
