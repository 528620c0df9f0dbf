use Rattle.std.proofs.Common.{arith}
use Rattle.swd_resync.proofs.PlaceLemmas.{no_stretch_unless_marked}
use Rattle.swd_resync.proofs.judge.places_of.Goals as goal

pub returns : goal.returns
returns c = λ over len place back some within fits none.
    no_stretch_unless_marked over len c.args.bits place back (omega (arith, c.ranges.bits.fits)) some within fits none
