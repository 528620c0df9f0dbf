use Rattle.std.proofs.Common.{◌≡◌, ◌≢◌, ℕ, Bool, true, length, refl, sym, ap, ◌∙◌}
use Rattle.swd_bits.specs.Bits.{low_bits}
use Rattle.swd_bits.specs.Acks.{bits_of_ack}
use Rattle.swd_bits.specs.BitLists.{tx_bits_of}
use Rattle.swd_bits.specs.Transactions.{tx_ack_bits, tx_tail_bits, IsTxEnd}
use Rattle.swd_bits.specs.declared.ack.Ack.{Ack}
use Rattle.swd_bits.specs.declared.ack.Ack.TheVariants.{Ok as AckOk, Wait as AckWait, Fault as AckFault}
use Rattle.swd_bits.specs.declared.tx.TxEnd.{TxEnd}
use Rattle.swd_bits.proofs.BitsLemmas.{length-low_bits}
use Rattle.swd_bits.proofs.TxLemmas.{no_ack_bits_five_numbers, tx_bits_after_ack_length, tx_bits_end_at_no_ack}
use Rattle.swd_bits.proofs.TxLemmas.{tx_bits_one_bit, tx_bits_no_bit, tx_bits_after_ack}
use Rattle.swd_bits.proofs.tx.end_of.Goals as goal

-- a rest of another length than the acknowledgement asks for is no end
other_length : (a : Ack) (read : Bool) (seen len bits : ℕ) → bits_of_ack a ≡ low_bits 3 seen
    → len ≢ tx_bits_after_ack a → (end : TxEnd) (u : Bool) → IsTxEnd end → tx_ack_bits end ≡ low_bits 3 seen
    → low_bits len bits ≡ tx_tail_bits read end u → ⊥
other_length a read seen len bits k n end u h e f =
    n (sym (length-low_bits len bits) ∙ ap length f ∙ tx_bits_after_ack_length a read u end h (e ∙ sym k))

pub returns-then-rest-eq0-clause-found : goal.returns-then-rest-eq0-clause-found
returns-then-rest-eq0-clause-found c = (
  no_ack_bits_five_numbers c.args.seen c.requires.seen c.in-None.ensures.none,
  refl,
  true,
  tx_bits_no_bit (tx_bits_of c.args.rest)
      (length-low_bits c.args.rest.len c.args.rest.bits ∙ c.if-rest-eq0.true),
)

pub returns-else-rest-eq0-clause-none : goal.returns-else-rest-eq0-clause-none
returns-else-rest-eq0-clause-none c = λ end u h e f.
    c.if-rest-eq0.false (sym (length-low_bits c.args.rest.len c.args.rest.bits) ∙ ap length f
    ∙ ap length (tx_bits_end_at_no_ack c.args.seen c.in-None.ensures.none c.args.read u end e))

pub returns-then-rest-eq1-clause-found : goal.returns-then-rest-eq1-clause-found
returns-then-rest-eq1-clause-found c =
    let last = tx_bits_one_bit (tx_bits_of c.args.rest)
    (length-low_bits c.args.rest.len c.args.rest.bits ∙ c.if-rest-eq1.true) in
    (tt, rw c.in-Some-Wait.field-0-is at c.in-Some-Wait.ensures.found, last.0, last.1)

pub returns-else-rest-eq1-clause-none : goal.returns-else-rest-eq1-clause-none
returns-else-rest-eq1-clause-none c =
    other_length AckWait c.args.read c.args.seen c.args.rest.len c.args.rest.bits
    (rw c.in-Some-Wait.field-0-is at c.in-Some-Wait.ensures.found) c.if-rest-eq1.false

pub returns-then-rest-eq1-2-clause-found : goal.returns-then-rest-eq1-2-clause-found
returns-then-rest-eq1-2-clause-found c =
    let last = tx_bits_one_bit (tx_bits_of c.args.rest)
    (length-low_bits c.args.rest.len c.args.rest.bits ∙ c.if-rest-eq1-2.true) in
    (tt, rw c.in-Some-Fault.field-0-is at c.in-Some-Fault.ensures.found, last.0, last.1)

pub returns-else-rest-eq1-2-clause-none : goal.returns-else-rest-eq1-2-clause-none
returns-else-rest-eq1-2-clause-none c =
    other_length AckFault c.args.read c.args.seen c.args.rest.len c.args.rest.bits
    (rw c.in-Some-Fault.field-0-is at c.in-Some-Fault.ensures.found) c.if-rest-eq1-2.false

pub returns-else-rest-eq34-clause-none : goal.returns-else-rest-eq34-clause-none
returns-else-rest-eq34-clause-none c =
    other_length AckOk c.args.read c.args.seen c.args.rest.len c.args.rest.bits
    (rw c.in-Some-Ok.field-0-is at c.in-Some-Ok.ensures.found) c.if-rest-eq34.false
