use Rattle.std.proofs.Common.{ℕ, ◌+◌, ◌∷◌, subst, sym, arith}
use Rattle.std.proofs.lemmas.Bool.{eqb-true}
use Rattle.swd_port.specs.declared.cue.Cue.TheVariants.{Ask}
use Rattle.swd_conform.specs.declared.aim.Aim.{Aim}
use Rattle.swd_conform.specs.declared.aim.Aim.TheVariants.{Hole, Words}
use Rattle.swd_conform.specs.Aims.{ConformTook, IsConformAim, moved, took}
use Rattle.swd_conform.proofs.aim.Aim.after_transfer.Goals as goal

pub returns-in-Some : goal.returns-in-Some
returns-in-Some c = λ bounds calls h.
    let k : IsConformAim bounds (Words c.in-Words.low c.in-Words.high) calls =
    subst (λ (aim : Aim). IsConformAim bounds aim calls) c.in-Words.is h in
    (k.0 + 1, omega (arith, k.1, c.in-Some.ensures), moved c.args.request c.args.seen c.requires k.2)

pub returns-in-Hole : goal.returns-in-Hole
returns-in-Hole c = λ bounds calls h.
    let k : IsConformAim bounds Hole calls = subst (λ (aim : Aim). IsConformAim bounds aim calls) c.in-Hole.is h in (
      k.0,
      1,
      k.1,
      moved c.args.request c.args.seen c.requires k.2,
      λ is. absurd (cc),
      λ is.
          subst (λ (seen : ℕ). ConformTook k.0 (record { cue = Ask c.args.request; seen = seen } ∷ calls))
          (sym (eqb-true _ _ is)) (took c.args.request c.requires k.2),
    )
