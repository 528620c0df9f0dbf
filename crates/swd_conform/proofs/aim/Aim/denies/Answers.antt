use Rattle.std.proofs.Common.{ℕ, ◌∷◌, subst, sym, ◌∙◌}
use Rattle.swd_port.specs.declared.cue.Cue.{Cue}
use Rattle.swd_port.specs.declared.cue.Cue.TheVariants.{Ask}
use Rattle.swd_conform.specs.declared.aim.Aim.{Aim}
use Rattle.swd_conform.specs.declared.aim.Aim.TheVariants.{Behind}
use Rattle.swd_conform.specs.Aims.{ConformUnrefused, IsConformAim, here}
use Rattle.swd_conform.proofs.aim.Aim.denies.Goals as goal

pub returns : goal.returns
returns c = λ bounds calls answered h.
    let k : IsConformAim bounds (Behind c.in-Behind.used c.in-Behind.refused) calls =
    subst (λ (aim : Aim). IsConformAim bounds aim calls) c.in-Behind.is h in
    subst (λ (cue : Cue). ConformUnrefused bounds (record { cue = cue; seen = c.args.seen } ∷ calls)) (sym c.in-Ask.is)
    (subst (λ (seen : ℕ). ConformUnrefused bounds (record { cue = Ask c.in-Ask.request; seen = seen } ∷ calls))
    (sym c.if-seen-ne1.false)
    (here c.in-Ask.request k.0 k.2 (sym c.is_answer.ensures ∙ answered) (k.5 c.if-not-used.false)))
