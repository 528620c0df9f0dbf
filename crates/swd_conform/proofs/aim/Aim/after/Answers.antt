use Rattle.std.proofs.Common.{Option, ap, refl, sym, ◌∙◌, inl, inr}
use Rattle.swd_port.specs.declared.cue.Cue.TheVariants.{Give, Lead, Take, Pass}
use Rattle.swd_recorder.specs.declared.in_hand.InHand.{InHand}
use Rattle.swd_conform.specs.Aims.{conform_powers}
use Rattle.swd_conform.proofs.AimLemmas.{conform_aim_passes}
use Rattle.swd_conform.proofs.aim.Aim.after.Goals as goal

pub returns-in-None : goal.returns-in-None
returns-in-None c = λ calls held h.
    conform_aim_passes c.args.bounds.now c.args.self c.args.cue (Give c.in-Give.bits) c.args.seen calls c.in-Give.is
    refl (ap (λ (o : Option InHand). conform_powers (Give c.in-Give.bits) o) (sym held ∙ c.in-None.is)) h

pub returns-in-Lead : goal.returns-in-Lead
returns-in-Lead c = λ calls held h. elim c.in-Lead.is [
  | inl w ↦ conform_aim_passes c.args.bounds.now c.args.self c.args.cue (Lead w.0 w.1 w.2 w.3) c.args.seen calls w.4
      refl refl h
  | inr rest ↦ elim rest [
    | inl e ↦ conform_aim_passes c.args.bounds.now c.args.self c.args.cue Take c.args.seen calls e refl refl h
    | inr e ↦ conform_aim_passes c.args.bounds.now c.args.self c.args.cue Pass c.args.seen calls e refl refl h
  ]
]
