use Rattle.std.proofs.Common.{◌<◌, subst}
use Rattle.swd_target.specs.Flips.{target_flip_place}
use Rattle.swd_target.proofs.PhaseNumbers.{target_flip_in_33_bits, target_flip_shift_64}
use Rattle.swd_target.proofs.phase.flip_bit.Goals as goal

pub returns-in-Some-clause-range : goal.returns-in-Some-clause-range
returns-in-Some-clause-range c =
    let small : c.in-Some.place < 33 = subst (λ flip. target_flip_place flip < 33) c.in-Some.is c.requires.place in
    rw (target_flip_shift_64 c.in-Some.place small)
    (target_flip_in_33_bits c.args.bits c.in-Some.place c.requires.bits small)
