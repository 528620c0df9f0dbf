use Rattle.std.proofs.Common.{◌/◌, arith, ap, subst, inl, inr, ◌∙◌}
use Rattle.std.proofs.lemmas.Bool.{eqb-true}
use Rattle.swd_conform.specs.declared.aim.Aim.{Aim}
use Rattle.swd_conform.specs.declared.aim.Aim.TheVariants.{Hole, Behind, Words}
use Rattle.swd_conform.specs.Aims.{IsConformAim, unpowered, outside, faulted, inside}
use Rattle.swd_conform.proofs.aim.Bounds.allows.Goals as goal

pub returns-in-Unpowered : goal.returns-in-Unpowered
returns-in-Unpowered c = λ calls allowed h. elim c.in-Unpowered.is [
  | inl e ↦ unpowered (subst (λ (aim : Aim). IsConformAim c.args.self.now aim calls) e h)
  | inr e ↦ let k : IsConformAim c.args.self.now Hole calls =
      subst (λ (aim : Aim). IsConformAim c.args.self.now aim calls) e h in
      outside k.0 k.1 k.2
]

pub returns-in-Behind : goal.returns-in-Behind
returns-in-Behind c = λ calls allowed h.
    let k : IsConformAim c.args.self.now (Behind c.in-Behind.used c.in-Behind.refused) calls =
    subst (λ (aim : Aim). IsConformAim c.args.self.now aim calls) c.in-Behind.is h in
    faulted k.0 k.1 k.2 k.3 (k.4 allowed)

pub returns-else-self-high : goal.returns-else-self-high
returns-else-self-high c = λ calls allowed h.
    let k : IsConformAim c.args.self.now (Words c.in-Words.low c.in-Words.high) calls =
    subst (λ (aim : Aim). IsConformAim c.args.self.now aim calls) c.in-Words.is h in
    inside c.in-Words.low k.0 k.2 c.if-low-ne0.false (omega (arith, c.if-low-self.false))
    (omega (arith, k.1, c.if-self-high.false)) (eqb-true _ _ allowed ∙ ap (λ n. n / 1024) k.1)
