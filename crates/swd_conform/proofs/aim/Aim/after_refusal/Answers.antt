use Rattle.std.proofs.Common.{refl, subst, inl, inr}
use Rattle.swd_port.specs.declared.cue.Cue.TheVariants.{Ask}
use Rattle.swd_conform.specs.declared.aim.Aim.{Aim}
use Rattle.swd_conform.specs.declared.aim.Aim.TheVariants.{Behind}
use Rattle.swd_conform.specs.Aims.{IsConformAim, kept, left}
use Rattle.swd_conform.proofs.AimLemmas.{conform_aim_left, conform_refused_leaves}
use Rattle.swd_conform.proofs.aim.Aim.after_refusal.Goals as goal

pub returns-in_default : goal.returns-in_default
returns-in_default c = λ bounds calls h.
    conform_aim_left bounds c.args.self (Ask c.args.request) c.args.seen calls
    (conform_refused_leaves _ _ _ c.requires.settled c.requires.refused) refl h

pub returns-then-refused : goal.returns-then-refused
returns-then-refused c = λ bounds calls h.
    let k : IsConformAim bounds (Behind c.in-Behind.used c.in-Behind.refused) calls =
    subst (λ (aim : Aim). IsConformAim bounds aim calls) c.in-Behind.is h in (
      k.0,
      k.1,
      k.2,
      left (Ask c.args.request) c.args.seen
          (conform_refused_leaves _ _ _ c.requires.settled c.requires.refused) k.3,
      λ is. inr (c.requires.settled, refl, k.4 is),
      λ is. kept (Ask c.args.request) c.args.seen
          (conform_refused_leaves _ _ _ c.requires.settled c.requires.refused) refl (k.5 is),
    )

pub returns-else-refused : goal.returns-else-refused
returns-else-refused c = λ bounds calls h.
    let k : IsConformAim bounds (Behind c.in-Behind.used c.in-Behind.refused) calls =
    subst (λ (aim : Aim). IsConformAim bounds aim calls) c.in-Behind.is h in (
      k.0,
      k.1,
      k.2,
      left (Ask c.args.request) c.args.seen
          (conform_refused_leaves _ _ _ c.requires.settled c.requires.refused) k.3,
      λ is. inl is,
      λ is. kept (Ask c.args.request) c.args.seen
          (conform_refused_leaves _ _ _ c.requires.settled c.requires.refused) refl (k.5 is),
    )
