use Rattle.std.proofs.Common.{◌≡◌, ℕ, ◌+◌, ◌^◌, ◌<◌, ◌%◌, Bool, true, false, not, [], ◌∷◌, ◌++◌, sym, refl, ap, ◌∙◌}
use Rattle.std.proofs.Common.{arith}
use Rattle.std.specs.Prelude.{◌==◌, count_ones, if◌then◌else◌}
use Rattle.swd_bits.specs.Bits.{low_bits}
use Rattle.swd_bits.specs.Transactions.{phase_with}
use Rattle.swd_bits.proofs.BitsLemmas.{odd-low_bits}
use Rattle.swd_bits.proofs.tx.phase_in.Goals as goal

-- one bit as a number, and nothing after it
last : (n len bits : ℕ) → n < 2 → len + 1 ≡ 1 → low_bits 1 n ++ low_bits len bits ≡ (n == 1) ∷ []
unfolding low_bits
last n len bits h e =
    let m : n % 2 ≡ n = omega arith in
    let z : len ≡ 0 = omega arith in
    rw (m, z) refl

right : (o : Bool) → (if o then o else not o) ≡ true
right true = refl
right false = refl

wrong : (o : Bool) → (if not o then o else not o) ≡ false
wrong true = refl
wrong false = refl

-- the parts of a phase
whole : (word n len bits rlen rbits plen pbits : ℕ) (ok : Bool) → word < 2 ^ 32 → n < 2 → rlen + 32 ≡ 33
    → len + 1 ≡ rlen →
    low_bits plen pbits ≡ low_bits 32 word ++ low_bits rlen rbits
    → low_bits rlen rbits ≡ low_bits 1 n ++ low_bits len bits →
    (if ok then (count_ones word % 2 == 1) else not (count_ones word % 2 == 1)) ≡ (n == 1) →
    low_bits plen pbits ≡ phase_with word ok
unfolding phase_with
whole word n len bits rlen rbits plen pbits ok h k r l e f g =
    let one : len + 1 ≡ 1 = omega arith in
    rw (e, f, last n len bits k one, odd-low_bits 32 word h, g) refl

pub returns-then-parity-eq1-clause-bits : goal.returns-then-parity-eq1-clause-bits
returns-then-parity-eq1-clause-bits c =
    whole c.split-word.result.0 c.split-parity.result.0 c.split-parity.result.1.len c.split-parity.result.1.bits
    c.split-word.result.1.len c.split-word.result.1.bits c.args.phase.len c.args.phase.bits _
    c.split-word.ensures.small c.split-parity.ensures.small (omega arith) c.split-parity.ensures.len
    c.split-word.ensures.bits c.split-parity.ensures.bits
    (right (count_ones c.split-word.result.0 % 2 == 1) ∙ sym (ap (λ n. n == 1) c.if-parity-eq1.true))

pub returns-else-parity-eq1-clause-bits : goal.returns-else-parity-eq1-clause-bits
returns-else-parity-eq1-clause-bits c =
    let zero_bit : c.split-parity.result.0 ≡ 0 = omega arith in
    whole c.split-word.result.0 c.split-parity.result.0 c.split-parity.result.1.len c.split-parity.result.1.bits
    c.split-word.result.1.len c.split-word.result.1.bits c.args.phase.len c.args.phase.bits _
    c.split-word.ensures.small c.split-parity.ensures.small (omega arith) c.split-parity.ensures.len
    c.split-word.ensures.bits c.split-parity.ensures.bits
    (wrong (count_ones c.split-word.result.0 % 2 == 1) ∙ sym (ap (λ n. n == 1) zero_bit))
