use Rattle.std.proofs.Common.{refl, sym, ◌∙◌}
use Rattle.swd_port.specs.declared.cue.Cue.TheVariants.{Ask}
use Rattle.swd_conform.proofs.AimLemmas.{conform_aim_left, conform_other_leaves}
use Rattle.swd_conform.proofs.aim.Aim.after_request.Goals as goal

pub returns : goal.returns
returns c = λ bounds calls h.
    conform_aim_left bounds c.args.self (Ask c.args.request) c.args.seen calls
    (conform_other_leaves _ _ _ _ (sym c.is_unsettling.ensures ∙ c.if-is_unsettling.false)
    (sym c.is_address.ensures ∙ c.if-is_address.false) (sym c.is_transfer.ensures ∙ c.if-is_transfer.false)) refl h
