use Rattle.std.proofs.Common.{◌≡◌, Option, Some, false, ap, refl, subst, sym, ◌∙◌, ◌∷◌}
use Rattle.swd_bits.specs.declared.ack.Ack.{Ack}
use Rattle.swd_port.specs.declared.cue.Cue.TheVariants.{Give}
use Rattle.swd_recorder.specs.declared.in_hand.InHand.{InHand}
use Rattle.swd_conform.specs.Aims.{conform_powers, given}
use Rattle.swd_conform.proofs.AimLemmas.{conform_aim_left}
use Rattle.swd_conform.proofs.aim.Aim.after_data.Goals as goal

pub returns-in_default-ack : goal.returns-in_default-ack
returns-in_default-ack c = λ seen calls held h.
    conform_aim_left c.args.bounds.now c.args.self (Give c.args.bits) seen calls refl
    (subst (λ (o : Option InHand). conform_powers (Give c.args.bits) o ≡ false) held
    (sym c.powers.ensures ∙ c.if-powers.false)) h

pub returns-then-not-is_address : goal.returns-then-not-is_address
returns-then-not-is_address c = λ seen calls held h.
    conform_aim_left c.args.bounds.now c.args.self (Give c.args.bits) seen calls refl
    (subst (λ (o : Option InHand). conform_powers (Give c.args.bits) o ≡ false) held
    (sym c.powers.ensures ∙ c.if-powers.false)) h

pub returns-in-Some : goal.returns-in-Some
returns-in-Some c = λ seen calls held h.
    c.aim_at.ensures (record { cue = Give c.args.bits; seen = seen } ∷ calls)
    (given c.args.held.request c.args.bits seen
    (sym held ∙ ap (λ (ack : Ack). Some (record { request = c.args.held.request; ack = ack })) c.in-Ok.is)
    (sym c.is_address.ensures ∙ c.if-not-is_address.false) (sym c.word_of.ensures.number ∙ c.in-Some.is))
