use Rattle.std.proofs.Common.{◌≡◌, ℕ, ◌+◌, ◌-◌, ◌*◌, ◌^◌, ◌<◌, ◌≤◌, List, Bool, true, false, length, refl, drop, sym}
use Rattle.std.proofs.Common.{ap, ◌∙◌, subst, arith, Some}
use mir.Val.{bool_byte}
use Rattle.swd_bits.specs.declared.tx_bits.TxBits.{TxBits}
use Rattle.swd_trace.proofs.WordLemmas.{listing_bits_number, listing_bits_number_lt, listing_bits_number_more}
use Rattle.swd_trace.proofs.WordLemmas.{listing_bits_number_room, written-digits, length-digits}
use Rattle.swd_trace.proofs.listing.word.bits_in.Goals as goal
use Rattle.swd_trace.proofs.listing.word.bits_in.Goals.{then-len-eq0-via-then-len-eq0}
use Rattle.swd_trace.proofs.listing.word.bits_in.Goals.{then-len-eq0-via-else-len-eq0+then-len-gt-LONGEST_CUT}

pub returns-then-len-eq0-clause-found : goal.returns-then-len-eq0-clause-found
returns-then-len-eq0-clause-found c = λ bits cut e.
    let n : length c.args.digits.now ≡ bits.len = length-digits bits.len bits.bits c.args.digits.now e in
    let some : 1 ≤ bits.len = cut.some in
    let short : bits.len ≤ 49 = cut.short in
    absurd (elim c.then-len-eq0.branch [
      | then-len-eq0-via-then-len-eq0 w ↦ omega arith
      | then-len-eq0-via-else-len-eq0+then-len-gt-LONGEST_CUT w ↦
          omega arith
    ])

pub loop-i-preserved : goal.loop-i-preserved
loop-i-preserved c =
    let within : c.loop-i.i < length c.args.digits.now = c.loop-i-test.true in
    ap (λ n. n * 2 + c.from.result) c.loop-i.invariant
    ∙ ap (λ n. listing_bits_number (drop (length c.args.digits.now - c.loop-i.i) c.args.digits.now) * 2 + n)
    c.from.ensures ∙ sym (listing_bits_number_more c.args.digits.now c.loop-i.i within)

pub overflow_mul-bits : goal.overflow_mul-bits
overflow_mul-bits c =
    let k : c.loop-i.bits ≡ listing_bits_number (drop (length c.args.digits.now - c.loop-i.i) c.args.digits.now) =
    c.loop-i.invariant in
    let room = listing_bits_number_room c.args.digits.now c.loop-i.i c.loop-i-test.true c.if-len-gt-LONGEST_CUT.false in
    omega (arith, room, k)

bool_byte_lt : (b : Bool) → bool_byte b < 2
bool_byte_lt true = omega arith
bool_byte_lt false = omega arith

pub overflow_add-bits : goal.overflow_add-bits
overflow_add-bits c =
    let k : c.loop-i.bits ≡ listing_bits_number (drop (length c.args.digits.now - c.loop-i.i) c.args.digits.now) =
    c.loop-i.invariant in
    let room = listing_bits_number_room c.args.digits.now c.loop-i.i c.loop-i-test.true c.if-len-gt-LONGEST_CUT.false in
    let small : c.from.result < 2 = subst (λ n. n < 2) (sym c.from.ensures) (bool_byte_lt _) in
    omega (arith, room, k)

all_of : (digits : List ℕ) (i bits : ℕ) → length digits ≤ i → i ≤ length digits
    → bits ≡ listing_bits_number (drop (length digits - i) digits) → bits ≡ listing_bits_number digits
all_of digits i bits h k e =
    let z : length digits - i ≡ 0 = omega arith in
    e ∙ ap (λ n. listing_bits_number (drop n digits)) z

pub returns-clause-legal : goal.returns-clause-legal
returns-clause-legal c =
    let e = all_of c.args.digits.now c.loop-i.i c.loop-i.bits c.loop-i-test.false c.loop-i.auto.i-end
    c.loop-i.invariant in
    record {
      some = omega arith;
      short = omega arith;
      spelled = subst (λ n. n < 2 ^ length c.args.digits.now) (sym e)
          (listing_bits_number_lt c.args.digits.now);
    }

same : (len bits : ℕ) (other : TxBits) → len ≡ other.len → bits ≡ other.bits
    → Some (record { len = len; bits = bits }) ≡ Some other
same len bits other e f = rw (e, f) refl

pub returns-clause-found : goal.returns-clause-found
returns-clause-found c = λ bits cut e.
    let f = all_of c.args.digits.now c.loop-i.i c.loop-i.bits c.loop-i-test.false c.loop-i.auto.i-end
    c.loop-i.invariant in
    same (length c.args.digits.now) c.loop-i.bits bits (length-digits bits.len bits.bits c.args.digits.now e)
    (f ∙ written-digits bits.len bits.bits c.args.digits.now cut.spelled e)
