use Rattle.std.proofs.Common.{subst, sym}
use Rattle.swd_resync.specs.Fronts.{IsResyncFront}
use Rattle.swd_resync.proofs.decoder.CaptureDecoder.go.Goals as goal

pub invariant_of-self-clause-front_so : goal.invariant_of-self-clause-front_so
invariant_of-self-clause-front_so c =
    subst (IsResyncFront c.args.step.now.next.over.phases c.args.step.now.behind) (sym c.without-self.ensures.bits)
    c.requires.behind
