-- Laws of what a decoder holds.
use Rattle.std.proofs.Common.{◌≡◌, ◌≢◌, ℕ, zero, suc, ◌+◌, ◌*◌, ◌%◌, ◌^◌, ◌<◌, ◌≤◌, Bool, true, false, List, [], ◌∷◌}
use Rattle.std.proofs.Common.{◌++◌, length, replicate, append_assoc, refl, sym, ap, ◌∙◌, subst, arith, lit<, bit_or}
use Rattle.std.specs.Prelude.{◌==◌}
use Rattle.std.proofs.lemmas.List.{replicate-append-replicate}
use Rattle.std.proofs.lemmas.Nat.{or_comm}
use mir.Val.{bool_byte}
use mathlib.Core.Bool.{beq}
use Rattle.swd_bits.specs.Bits.{low_bits}
use Rattle.swd_bits.proofs.BitsLemmas.{low_bits-join, low_bits_join_lt}
use Rattle.swd_trace.specs.declared.item.Item.{Item}
use Rattle.swd_trace.specs.declared.mode.Mode.{Mode}
use Rattle.swd_trace.specs.Reading.{reading}
use Rattle.swd_trace.specs.Decided.{DecidesNoItem}
use Rattle.swd_trace.specs.Holding.{DecoderHolds}
use Rattle.swd_trace.proofs.NumberLemmas.{decoder_bits_none}
use Rattle.swd_trace.proofs.ReadingLemmas.{no_bits_decide_no_item}

-- without a run, where nothing is known yet of the bits
pub decoder_holds_bits : (mode : Mode) (one : Bool) (len bits fed : ℕ) → bits < 2 ^ len → len ≤ 50 → len ≤ fed
    → DecoderHolds mode one 0 len bits 1 fed
unfolding low_bits
decoder_holds_bits mode one len bits fed h s n = record {
  whole = h;
  short = s;
  stage = omega arith;
  counted = omega arith;
  ran = λ p. absurd (omega arith);
  ends = λ p. absurd (omega arith);
  idle = λ p. absurd (omega arith);
  quiet = λ p more q. none len more q;
}
  where
    none : (len : ℕ) (more : List Bool) → len + length more < 1
        → DecidesNoItem (λ after. reading mode (low_bits len bits ++ (more ++ after)))
    none zero [] q = no_bits_decide_no_item mode
    none zero (b ∷ more) q = absurd (omega arith)
    none (suc len) more q = absurd (omega arith)

-- ---- a bit is pushed

byte_lt : (b : ℕ) (bit : Bool) → b ≡ bool_byte bit → b < 2 ^ 1
byte_lt b true e = omega arith
byte_lt b false e = omega arith

bit_of : (b : ℕ) (bit : Bool) → b ≡ bool_byte bit → low_bits 1 b ≡ bit ∷ []
unfolding low_bits
bit_of b true e = rw e refl
bit_of b false e = rw e refl

-- the bits with one more after them
pub decoder_bit_pushed : (len bits b : ℕ) (bit : Bool) → bits < 2 ^ len → len < 50 → b ≡ bool_byte bit →
    low_bits (len + 1) (bit_or bits (b * 2 ^ len % 2 ^ 64)) ≡ low_bits len bits ++ bit ∷ []
decoder_bit_pushed len bits b bit h k e =
    let small : b < 2 ^ 1 = byte_lt b bit e in
    let room : len + 1 ≤ 63 = omega arith in
    ap (low_bits (len + 1)) (or_comm bits (b * 2 ^ len % 2 ^ 64)) ∙ low_bits-join len 1 b bits small h room
    ∙ ap (λ x. low_bits len bits ++ x) (bit_of b bit e)

pub decoder_bit_pushed_lt : (len bits b : ℕ) (bit : Bool) → bits < 2 ^ len → len < 50 → b ≡ bool_byte bit
    → bit_or bits (b * 2 ^ len % 2 ^ 64) < 2 ^ (len + 1)
decoder_bit_pushed_lt len bits b bit h k e =
    let small : b < 2 ^ 1 = byte_lt b bit e in
    let room : len + 1 ≤ 63 = omega arith in
    subst (λ x. x < 2 ^ (len + 1)) (or_comm (b * 2 ^ len % 2 ^ 64) bits) (low_bits_join_lt len 1 b bits small h room)

-- a bit that is pushed to the held bits comes after them and before any later bits
pub decoder_bit_pushed_before : (len bits b : ℕ) (bit : Bool) (more : List Bool) → bits < 2 ^ len → len < 50
    → b ≡ bool_byte bit → low_bits (len + 1) (bit_or bits (b * 2 ^ len % 2 ^ 64)) ++ more ≡ low_bits len bits
    ++ (bit ∷ more)
decoder_bit_pushed_before len bits b bit more h k e =
    ap (λ x. x ++ more) (decoder_bit_pushed len bits b bit h k e) ∙ append_assoc (low_bits len bits) (bit ∷ []) more

-- readings that are the same everywhere decide the same
pub same_readings_decide_no_item : (f g : List Bool → List Item) → ((more : List Bool) → f more ≡ g more)
    → DecidesNoItem f → DecidesNoItem g
same_readings_decide_no_item f g e u = λ item all. u item (λ more c. ((all more c).0, e more ∙ (all more c).1))

abbrev head_or : List Bool → Bool
head_or [] = false
head_or (b ∷ bits) = b

-- the first bit that is pushed
first_pushed : (bits b : ℕ) (bit : Bool) → bits < 2 ^ 0 → b ≡ bool_byte bit
    → (bit_or bits (b * 2 ^ 0 % 2 ^ 64) % 2 == 1) ≡ bit
unfolding low_bits
first_pushed bits b bit h e = ap head_or (decoder_bit_pushed 0 bits b bit h (lit< tt) e)

-- the invariant of a decoder holds after a bit is pushed, where no item is due and the bit ends the run, if any
pub decoder_holds_pushed_bit : (mode : Mode) (one : Bool) (run len bits next fed b : ℕ) (bit : Bool)
    → DecoderHolds mode one run len bits next fed → len < next → (0 < run → one ≢ bit) →
    b ≡ bool_byte bit → DecoderHolds mode one run (len + 1) (bit_or bits (b * 2 ^ len % 2 ^ 64)) next (fed + 1)
decoder_holds_pushed_bit mode one run len bits next fed b bit held h n e =
    let stage : next ≤ 50 = held.stage in
    let counted : run + len ≤ fed = held.counted in
    let room : len < 50 = omega arith in
    record {
      whole = decoder_bit_pushed_lt len bits b bit held.whole room e;
      short = omega arith;
      stage = stage;
      counted = omega arith;
      ran = λ p. let r = held.ran p in let one_left : next ≡ 1 = r.0 in (one_left, omega arith);
      ends = λ p q.
          let r = held.ran p in
          let one_left : next ≡ 1 = r.0 in
          let none : len ≡ 0 = omega arith in
          let small : bits < 2 ^ 0 = subst (λ m. bits < 2 ^ m) none held.whole in
          let first : (bit_or bits (b * 2 ^ len % 2 ^ 64) % 2 == 1) ≡ bit =
          ap (λ m. bit_or bits (b * 2 ^ m % 2 ^ 64) % 2 == 1) none ∙ first_pushed bits b bit small e in
          λ same. n p (same ∙ first);
      idle = held.idle;
      quiet = λ p more q.
          same_readings_decide_no_item (λ after. reading mode (low_bits len bits ++ ((bit ∷ more) ++ after)))
          (λ after. reading mode (low_bits (len + 1) (bit_or bits (b * 2 ^ len % 2 ^ 64)) ++ (more ++ after)))
          (λ after. ap (reading mode) (sym
          (decoder_bit_pushed_before len bits b bit (more ++ after) held.whole room e)))
          (held.quiet p (bit ∷ more) (omega arith));
    }

-- one more in the run
pub decoder_run_one_longer : (mode : Mode) (one bit : Bool) (run len bits : ℕ) (more : List Bool) → len ≡ 0
    → one ≡ bit → reading mode (replicate (run + 1) one ++ (low_bits len bits ++ more)) ≡ reading mode
    (replicate run one ++ (low_bits len bits ++ (bit ∷ more)))
decoder_run_one_longer mode one bit run len bits more h e =
    ap (reading mode) (ap (λ x. replicate (run + 1) one ++ (x ++ more)) (decoder_bits_none len bits h)
    ∙ ap (λ x. x ++ more) (sym (replicate-append-replicate run 1 one))
    ∙ append_assoc (replicate run one) (one ∷ []) more ∙ ap (λ b. replicate run one ++ (b ∷ more)) e
    ∙ ap (λ x. replicate run one ++ (x ++ (bit ∷ more))) (sym (decoder_bits_none len bits h)))

-- bits that the test of equality finds equal are the same bit
pub decoder_equal_bits : (a b : Bool) → beq a b ≡ true → a ≡ b
decoder_equal_bits true true e = refl
decoder_equal_bits true false e = absurd cc
decoder_equal_bits false true e = absurd cc
decoder_equal_bits false false e = refl

-- bits that the test of equality finds different are different bits
pub decoder_unequal_bits : (a b : Bool) → beq a b ≡ false → a ≢ b
decoder_unequal_bits true true e = λ f. cc
decoder_unequal_bits true false e = λ f. cc
decoder_unequal_bits false true e = λ f. cc
decoder_unequal_bits false false e = λ f. cc

-- ---- bits are joined

-- the invariant of a decoder without a run holds after bits are joined to those held, up to fifty in all
pub decoder_holds_joined_bits : (mode : Mode) (one : Bool) (run len bits count more fed n : ℕ) → run ≡ 0
    → bits < 2 ^ len → more < 2 ^ count → len + count ≤ 50 → len ≤ fed → n ≡ count →
    DecoderHolds mode one run (len + count) (bit_or (more * 2 ^ len % 2 ^ 64) bits) 1 (fed + n)
decoder_holds_joined_bits mode one run len bits count more fed n e h k room counted same =
    subst (λ r. DecoderHolds mode one r (len + count) (bit_or (more * 2 ^ len % 2 ^ 64) bits) 1 (fed + n)) (sym e)
    (decoder_holds_bits mode one (len + count) (bit_or (more * 2 ^ len % 2 ^ 64) bits) (fed + n)
    (low_bits_join_lt len count more bits k h (omega arith)) room (omega arith))

-- the bits and those after them, and what may follow
pub decoder_bits_joined : (len bits count more : ℕ) (after : List Bool) → bits < 2 ^ len → more < 2 ^ count
    → len + count ≤ 50 → low_bits (len + count) (bit_or (more * 2 ^ len % 2 ^ 64) bits) ++ after ≡ low_bits len bits
    ++ (low_bits count more ++ after)
decoder_bits_joined len bits count more after h k room =
    ap (λ x. x ++ after) (low_bits-join len count more bits k h (omega arith))
    ∙ append_assoc (low_bits len bits) (low_bits count more) after
