use Rattle.std.proofs.Common.{◌%◌, ap, ◌∙◌}
use Rattle.std.specs.Prelude.{◌==◌, count_ones}
use Rattle.std.proofs.lemmas.Nat.{and_mask}
use Rattle.swd_bits.specs.declared.tx.TxEnd.TheVariants.{Moved}
use Rattle.swd_recorder.proofs.AckLemmas.{recorded_phase_moved}
use Rattle.swd_recorder.proofs.of_call.moved.Goals as goal

pub returns : goal.returns
returns c = ap (λ w. Moved w (count_ones c.args.bits % 2 == 0)) (and_mask c.args.bits 32)
    ∙ recorded_phase_moved c.args.bits c.requires
