-- What the host sees of a reply whose acknowledgement has one bit changed.
use Rattle.std.proofs.Common.{◌≡◌, ℕ, ◌*◌, ◌<◌, ◌%◌, ◌^◌, ◌∙◌, ap, sym, subst, refl}
use Rattle.std.specs.Int.RustNames.{bit_xor}
use Rattle.swd_port.specs.Choices.{IsPortMark}
use Rattle.swd_port.specs.Answers.{port_ack_driven, port_seen_at}
use Rattle.swd_port.specs.declared.mark.Mark.{Mark}
use Rattle.swd_port.specs.declared.mark.Mark.TheVariants as mark
use Rattle.swd_port.specs.declared.state.Reply.{Reply}
use Rattle.swd_port.specs.declared.state.Reply.TheVariants as reply
use Rattle.swd_target.proofs.PhaseNumbers.{target_flip_shift_8}

seen_muted : (r : Reply) (place : ℕ) → (r ≡ reply.Silent → ⊥)
    → bit_xor (port_ack_driven r) (2 ^ place) ≡ port_seen_at (mark.Mute place) r
seen_muted reply.Okay place n = refl
seen_muted reply.Waits place n = refl
seen_muted reply.Faults place n = refl
seen_muted reply.Silent place n = absurd (n refl)

-- an acknowledgement with the bit changed that a Mute mark names is what the host sees of the reply, unless that is
-- silence
pub target_muted_ack_seen : (m : Mark) (r : Reply) (place bits : ℕ) → m ≡ mark.Mute place → IsPortMark m
    → (r ≡ reply.Silent → ⊥) → bits ≡ port_ack_driven r → bit_xor bits (1 * 2 ^ place % 256) ≡ port_seen_at m r
target_muted_ack_seen m r place bits is legal n e =
    let small : place < 3 = subst (λ x. IsPortMark x) is legal in
    ap (bit_xor bits) (target_flip_shift_8 place small)
    ∙ (ap (λ b. bit_xor b (2 ^ place)) e ∙ (seen_muted r place n ∙ ap (λ x. port_seen_at x r) (sym is)))
