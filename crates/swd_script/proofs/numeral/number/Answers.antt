use Rattle.std.proofs.Common.{◌≡◌, ℕ, suc, ◌+◌, ◌*◌, ◌^◌, ◌<◌, ◌≤◌, List, length, drop, drop-cons, get_or, sym, ap, ◌∙◌}
use Rattle.std.proofs.Common.{arith, add-one, Some}
use Rattle.std.specs.Option.{option_and_then}
use Rattle.std.proofs.Math.Nat.{pow-le-pow_right, mul-le-mul_right, pow-succ'}
use Rattle.swd_script.specs.Numerals.{script_number_from, script_digit_of}
use Rattle.swd_script.proofs.numeral.number.Goals as goal

-- one digit more
step_below : (base value digit power : ℕ) → base ≤ 16 → value + 1 ≤ power → digit < base
    → base * value + digit + 1 ≤ 16 * power
step_below base value digit power h k d =
    let p : base * value ≤ 16 * value = mul-le-mul_right value h in
    omega arith

power_below : (i : ℕ) → i < 10 → 16 ^ i ≤ 16 ^ 9
power_below i h = let k : i ≤ 9 = omega arith in pow-le-pow_right (omega arith) {i = i} {j = 9} k

number_step : (base value digit i : ℕ) (word : List ℕ) → i < length word
    → script_number_from base 0 word ≡ script_number_from base value (drop i word)
    → script_digit_of base (get_or word i 0) ≡ Some digit
    → script_number_from base 0 word ≡ script_number_from base (base * value + digit) (drop (suc i) word)
number_step base value digit i word h e d =
    e ∙ ap (script_number_from base value) (drop-cons word i 0 h)
    ∙ ap (option_and_then (λ digit. script_number_from base (base * value + digit) (drop (suc i) word))) d

pub overflow_mul-value : goal.overflow_mul-value
overflow_mul-value c =
    let i : c.loop-byte.byte-index < 10 = omega arith in
    let p : 16 ^ c.loop-byte.byte-index ≤ 16 ^ 9 = power_below c.loop-byte.byte-index i in
    let q : c.args.base * c.loop-byte.value ≤ 16 * c.loop-byte.value = mul-le-mul_right c.loop-byte.value
    c.requires.small in
    omega (arith, c.loop-byte.invariant.bound)

pub overflow_add-value : goal.overflow_add-value
overflow_add-value c =
    let i : c.loop-byte.byte-index < 10 = omega arith in
    let p : 16 ^ c.loop-byte.byte-index ≤ 16 ^ 9 = power_below c.loop-byte.byte-index i in
    let q : c.args.base * c.loop-byte.value + c.in_ok-value.field-0 + 1 ≤ 16 * 16 ^ c.loop-byte.byte-index =
    step_below c.args.base c.loop-byte.value c.in_ok-value.field-0 (16 ^ c.loop-byte.byte-index) c.requires.small
    c.loop-byte.invariant.bound c.in_ok-value.ensures.small in
    omega arith

pub loop-byte-preserved : goal.loop-byte-preserved
loop-byte-preserved c =
    let i = c.loop-byte.byte-index in
    let q : c.args.base * c.loop-byte.value + c.in_ok-value.field-0 + 1 ≤ 16 * 16 ^ i =
    step_below c.args.base c.loop-byte.value c.in_ok-value.field-0 (16 ^ i) c.requires.small c.loop-byte.invariant.bound
    c.in_ok-value.ensures.small in
    let e : 16 ^ (i + 1) ≡ 16 * 16 ^ i = ap (λ n. 16 ^ n) (add-one i) ∙ pow-succ' 16 i in
    record {
      bound = omega arith;
      rest = number_step c.args.base c.loop-byte.value c.in_ok-value.field-0 i c.args.word.now c.loop-byte-test.true
          c.loop-byte.invariant.rest (sym c.in_ok-value.ensures.value)
          ∙ ap (λ n. script_number_from c.args.base (c.args.base * c.loop-byte.value + c.in_ok-value.field-0)
          (drop n c.args.word.now)) (sym (add-one i));
    }
