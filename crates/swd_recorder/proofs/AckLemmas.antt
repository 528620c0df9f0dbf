-- Acknowledgements that were seen, and data phases: the code's numbers are those of the definitions.
use Rattle.std.proofs.Common.{◌≡◌, ◌≢◌, ℕ, ◌<◌, ◌^◌, ◌/◌, ◌%◌, true, not, ◌++◌, take, Option, Some, None, refl, sym}
use Rattle.std.proofs.Common.{ap, ◌∙◌, arith, inl, inr}
use Rattle.std.specs.Prelude.{◌==◌, count_ones, IfSome, IfNone}
use Rattle.swd_bits.specs.Bits.{low_bits, bits_number, odd}
use Rattle.swd_bits.specs.Acks.{bits_of_ack}
use Rattle.swd_bits.specs.Transactions.{IsTxEnd}
use Rattle.swd_bits.specs.declared.ack.Ack.{Ack}
use Rattle.swd_bits.specs.declared.ack.Ack.TheVariants.{Ok as AckOk, Wait as AckWait, Fault as AckFault}
use Rattle.swd_bits.specs.declared.tx.TxEnd.TheVariants.{Moved, NoAck}
use Rattle.swd_bits.proofs.BitsLemmas.{odd-low_bits, low_bits-split, number-low_bits, length-low_bits}
use Rattle.std.proofs.lemmas.List.{take_at}
use Rattle.swd_bits.proofs.TxLemmas.{no_ack_bits_five_numbers}
use Rattle.swd_port.proofs.CallLaws.{port_ack_seen}
use Rattle.swd_recorder.specs.Chains.{is_recorded_no_ack}
use Rattle.swd_recorder.specs.Items.{recorded_ack_seen, recorded_moved}

ack_found : (seen : ℕ) (a : Ack) → seen < 8 → bits_of_ack a ≡ low_bits 3 seen → recorded_ack_seen seen ≡ Some a
ack_found seen AckOk h e = let is : seen ≡ 1 = (port_ack_seen seen AckOk h).0 e in rw is refl
ack_found seen AckWait h e = let is : seen ≡ 2 = (port_ack_seen seen AckWait h).0 e in rw is refl
ack_found seen AckFault h e = let is : seen ≡ 4 = (port_ack_seen seen AckFault h).0 e in rw is refl

none_of : (seen : ℕ) → IsTxEnd (NoAck seen) → (recorded_ack_seen seen ≡ None) × (is_recorded_no_ack seen ≡ true)
none_of seen h = elim h [
  | inl e ↦ rw e (refl, refl)
  | inr (inl e) ↦ rw e (refl, refl)
  | inr (inr (inl e)) ↦ rw e (refl, refl)
  | inr (inr (inr (inl e))) ↦ rw e (refl, refl)
  | inr (inr (inr (inr e))) ↦ rw e (refl, refl)
]

ack_missing : (seen : ℕ) → seen < 8 → ((a : Ack) → bits_of_ack a ≢ low_bits 3 seen) → (recorded_ack_seen seen ≡ None)
    × (is_recorded_no_ack seen ≡ true)
ack_missing seen h none = none_of seen (no_ack_bits_five_numbers seen h none)

-- what `Ack::of` finds
pub recorded_ack_is_seen : (o : Option Ack) (seen : ℕ) → seen < 8 → IfSome o (λ a. bits_of_ack a ≡ low_bits 3 seen)
    → IfNone o ((a : Ack) → bits_of_ack a ≢ low_bits 3 seen) → o ≡ recorded_ack_seen seen
recorded_ack_is_seen (Some a) seen h found none = sym (ack_found seen a h found)
recorded_ack_is_seen None seen h found none = sym (ack_missing seen h none).0

-- and where it finds none
pub recorded_no_ack_seen : (o : Option Ack) (seen : ℕ) → seen < 8
    → IfNone o ((a : Ack) → bits_of_ack a ≢ low_bits 3 seen) → IfNone o (is_recorded_no_ack seen ≡ true)
recorded_no_ack_seen (Some a) seen h none = tt
recorded_no_ack_seen None seen h none = (ack_missing seen h none).1

-- ---- the data phase

even : (n : ℕ) → not (n % 2 == 1) ≡ (n % 2 == 0)
even n = grind arith

-- the word and the parity of a phase
pub recorded_phase_moved : (bits : ℕ) → bits < 2 ^ 33
    → Moved (bits % 2 ^ 32) (count_ones bits % 2 == 0) ≡ recorded_moved bits
recorded_phase_moved bits h =
    let low = low_bits 32 (bits % 2 ^ 32) in
    let high = low_bits 1 (bits / 2 ^ 32) in
    let parts : low_bits 33 bits ≡ low ++ high = low_bits-split 32 1 bits in
    let front : take 32 (low_bits 33 bits) ≡ low = ap (take 32) parts
    ∙ take_at low high 32 (length-low_bits 32 (bits % 2 ^ 32)) in
    let word : bits_number (take 32 (low_bits 33 bits)) ≡ bits % 2 ^ 32 = ap bits_number front
    ∙ number-low_bits 32 (bits % 2 ^ 32) (omega arith) in
    let parity : not (odd (low_bits 33 bits)) ≡ (count_ones bits % 2 == 0) = ap not (odd-low_bits 33 bits h)
    ∙ even (count_ones bits) in
    sym (ap (λ w. Moved w (not (odd (low_bits 33 bits)))) word ∙ ap (Moved (bits % 2 ^ 32)) parity)
