use Rattle.std.proofs.Common.{[], ◌∷◌}
use Rattle.swd_resync.specs.Holding.{resync_held}
use Rattle.swd_resync.proofs.FrontLemmas.{resync_front_more}
use Rattle.swd_resync.proofs.decoder.CaptureDecoder.take.Goals as goal

pub invariant_of-self-clause-front_so : goal.invariant_of-self-clause-front_so
invariant_of-self-clause-front_so c =
    let d = c.args.self.now in
    resync_front_more d.over.phases d.front (resync_held d.held) (c.args.bit ∷ []) _ c.push.ensures.bits d.front_so
