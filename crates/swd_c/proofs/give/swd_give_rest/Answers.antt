use Rattle.std.proofs.Common.{◌≡◌, ◌∙◌, ◌+◌, ◌*◌, ◌-◌, ◌%◌, ◌^◌, ◌<◌, ◌≤◌, true, ap, ap₂, arith, lit<, subst, sym}
use Rattle.std.proofs.Common.{◌++◌}
use Rattle.std.proofs.lemmas.Nat.{and_mask}
use Rattle.std.proofs.Math.Nat.{pow-le-pow_right}
use Rattle.std.specs.Int.RustNames.{count_ones}
use Rattle.std.specs.Prelude.{if◌then◌else◌, replicate}
use lib.Bits.{bit_and, bit_or}
use Rattle.swd_bits.specs.Bits.{low_bits, odd}
use Rattle.swd_bits.proofs.BitsLemmas.{low_bits_join_lt}
use Rattle.swd_c.specs.Gives.{c_api_cut_level}
use Rattle.swd_c.proofs.Gives.{cut_phase_is_odd}
use Rattle.swd_c.proofs.give.swd_give_rest.Goals as goal

pub returns-clause-drops : goal.returns-clause-drops
returns-clause-drops c = λ within again few room.
    let bits = c.args.bits in
    let made = c.args.made in
    let place = c.saturating_sub-place.result in
    let level = c_api_cut_level bits made in
    let d = c.deciding-deciding.result in
    let low = c.levels-before.result in
    let high = c.levels.result in
    let j = 32 - made - place - again in
    let at = c.saturating_sub-place.ensures in
    let count : again + j ≡ 32 - made - place = omega (arith, at) in
    let all : place + (again + j) ≡ 32 - made = omega (arith, at) in
    let most : 2 ^ made ≤ 2 ^ 32 = pow-le-pow_right (lit< tt) within in
    let plain : 1 * 2 ^ made % 18446744073709551616 - 1 ≡ 2 ^ made - 1 = omega (arith, most) in
    let masked : bit_and bits (1 * 2 ^ made % 18446744073709551616 - 1) ≡ bits % 2 ^ made =
    ap (bit_and bits) plain ∙ and_mask bits made in
    let decides : d ≡ (count_ones (bits % 2 ^ made) + (if level then place + (again + j) else 0) + 1) % 2 =
    c.deciding-deciding.ensures
    ∙ ap₂ (λ b n. (count_ones b + (if level then n else 0) + 1) % 2) masked (sym all) in
    let rest : place + (1 + j) ≡ 33 - made - again = omega (arith, at) in
    let given = bit_or (bit_or (high * 2 % 18446744073709551616) d * 2 ^ place % 18446744073709551616) low in
    subst (λ n. odd (low_bits made bits ++ replicate again level ++ low_bits n given) ≡ true) rest
    (cut_phase_is_odd bits made again place j d low high level (omega (arith, all)) decides
    c.levels-before.ensures.bound (subst (λ n. high < 2 ^ n) (sym count) c.levels.ensures.bound)
    (c.levels-before.ensures.bits place (omega arith)) (c.levels.ensures.bits j (omega (arith, at))))

pub returns-clause-bound : goal.returns-clause-bound
returns-clause-bound c = λ within.
    let made = c.args.made in
    let place = c.saturating_sub-place.result in
    let k = 32 - made - place in
    let d = c.deciding-deciding.result in
    let low = c.levels-before.result in
    let high = c.levels.result in
    let at = c.saturating_sub-place.ensures in
    let bit_d : d < 2 = omega (arith, c.deciding-deciding.ensures) in
    let above = bit_or (high * 2 % 18446744073709551616) d in
    let above_lt : above < 2 ^ (1 + k) = low_bits_join_lt 1 k high d c.levels.ensures.bound bit_d (omega arith) in
    let all : place + (1 + k) ≡ 33 - made = omega (arith, at) in
    subst (λ n. bit_or (above * 2 ^ place % 18446744073709551616) low < 2 ^ n) all
    (low_bits_join_lt place (1 + k) above low above_lt c.levels-before.ensures.bound (omega (arith, all)))
