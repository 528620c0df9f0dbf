use Rattle.swd_host.proofs.Words.{◌≡◌, ◌<◌, ℕ, true, ap, sym, subst, low_bits, IsPortNoAck, engine_state_after_ack}
use Rattle.swd_bits.specs.declared.ack.Ack.{Ack}
use Rattle.swd_bits.specs.Bits.{bits_number}
use Rattle.swd_bits.specs.Acks.{bits_of_ack}
use Rattle.swd_port.proofs.CallLaws.{port_ack_seen, port_no_ack_seen}
use Rattle.swd_host.proofs.engine.after_ack.Goals as goal

-- what was seen is the number of the acknowledgement that was found
number_seen : (seen : ℕ) (found a : Ack) → seen < 8 → found ≡ a → bits_of_ack found ≡ low_bits 3 seen
    → bits_number (bits_of_ack a) ≡ seen
number_seen seen found a range is h = sym ((port_ack_seen seen a range).0
    (subst (λ x. bits_of_ack x ≡ low_bits 3 seen) is h))

pub returns-in-Some-Ok : goal.returns-in-Some-Ok
returns-in-Some-Ok c = ap (engine_state_after_ack c.args.job)
    (number_seen c.args.seen _ _ c.requires c.in-Some-Ok.field-0-is c.in-Some-Ok.ensures.found)

pub returns-in-Some-Wait : goal.returns-in-Some-Wait
returns-in-Some-Wait c = ap (engine_state_after_ack c.args.job)
    (number_seen c.args.seen _ _ c.requires c.in-Some-Wait.field-0-is c.in-Some-Wait.ensures.found)

pub returns-in-Some-Fault : goal.returns-in-Some-Fault
returns-in-Some-Fault c = ap (engine_state_after_ack c.args.job)
    (number_seen c.args.seen _ _ c.requires c.in-Some-Fault.field-0-is c.in-Some-Fault.ensures.found)

pub returns-in-None : goal.returns-in-None
returns-in-None c =
    let n : IsPortNoAck c.args.seen =
    (port_no_ack_seen c.args.seen true c.requires c.in-None.ensures.none).0 in
    rw (n.not_okay, n.not_wait, n.not_fault)
