use Rattle.std.proofs.Common.{◌≡◌, map, ap, arith}
use Rattle.swd_bits.specs.Bits.{low_bits}
use Rattle.swd_trace.specs.declared.item.Item.TheVariants.{Junk}
use Rattle.swd_trace.specs.Texts.{listing}
use Rattle.swd_text.proofs.lister.junk_lines.Goals as goal

pub returns-in-0 : goal.returns-in-0
unfolding low_bits
returns-in-0 c =
    let at = c.in-0.is in
    let is : 0 ≡ c.args.bits = omega arith in
    ap (λ n. listing (map Junk (low_bits 4 n))) is

pub returns-in-1 : goal.returns-in-1
unfolding low_bits
returns-in-1 c =
    let at = c.in-1.is in
    let is : 1 ≡ c.args.bits = omega arith in
    ap (λ n. listing (map Junk (low_bits 4 n))) is

pub returns-in-2 : goal.returns-in-2
unfolding low_bits
returns-in-2 c =
    let at = c.in-2.is in
    let is : 2 ≡ c.args.bits = omega arith in
    ap (λ n. listing (map Junk (low_bits 4 n))) is

pub returns-in-3 : goal.returns-in-3
unfolding low_bits
returns-in-3 c =
    let at = c.in-3.is in
    let is : 3 ≡ c.args.bits = omega arith in
    ap (λ n. listing (map Junk (low_bits 4 n))) is

pub returns-in-4 : goal.returns-in-4
unfolding low_bits
returns-in-4 c =
    let at = c.in-4.is in
    let is : 4 ≡ c.args.bits = omega arith in
    ap (λ n. listing (map Junk (low_bits 4 n))) is

pub returns-in-5 : goal.returns-in-5
unfolding low_bits
returns-in-5 c =
    let at = c.in-5.is in
    let is : 5 ≡ c.args.bits = omega arith in
    ap (λ n. listing (map Junk (low_bits 4 n))) is

pub returns-in-6 : goal.returns-in-6
unfolding low_bits
returns-in-6 c =
    let at = c.in-6.is in
    let is : 6 ≡ c.args.bits = omega arith in
    ap (λ n. listing (map Junk (low_bits 4 n))) is

pub returns-in-7 : goal.returns-in-7
unfolding low_bits
returns-in-7 c =
    let at = c.in-7.is in
    let is : 7 ≡ c.args.bits = omega arith in
    ap (λ n. listing (map Junk (low_bits 4 n))) is

pub returns-in-8 : goal.returns-in-8
unfolding low_bits
returns-in-8 c =
    let at = c.in-8.is in
    let is : 8 ≡ c.args.bits = omega arith in
    ap (λ n. listing (map Junk (low_bits 4 n))) is

pub returns-in-9 : goal.returns-in-9
unfolding low_bits
returns-in-9 c =
    let at = c.in-9.is in
    let is : 9 ≡ c.args.bits = omega arith in
    ap (λ n. listing (map Junk (low_bits 4 n))) is

pub returns-in-10 : goal.returns-in-10
unfolding low_bits
returns-in-10 c =
    let at = c.in-10.is in
    let is : 10 ≡ c.args.bits = omega arith in
    ap (λ n. listing (map Junk (low_bits 4 n))) is

pub returns-in-11 : goal.returns-in-11
unfolding low_bits
returns-in-11 c =
    let at = c.in-11.is in
    let is : 11 ≡ c.args.bits = omega arith in
    ap (λ n. listing (map Junk (low_bits 4 n))) is

pub returns-in-12 : goal.returns-in-12
unfolding low_bits
returns-in-12 c =
    let at = c.in-12.is in
    let is : 12 ≡ c.args.bits = omega arith in
    ap (λ n. listing (map Junk (low_bits 4 n))) is

pub returns-in-13 : goal.returns-in-13
unfolding low_bits
returns-in-13 c =
    let at = c.in-13.is in
    let is : 13 ≡ c.args.bits = omega arith in
    ap (λ n. listing (map Junk (low_bits 4 n))) is

pub returns-in-14 : goal.returns-in-14
unfolding low_bits
returns-in-14 c =
    let at = c.in-14.is in
    let is : 14 ≡ c.args.bits = omega arith in
    ap (λ n. listing (map Junk (low_bits 4 n))) is

pub returns-in_default : goal.returns-in_default
unfolding low_bits
returns-in_default c =
    let at = c.in_default in
    let is : 15 ≡ c.args.bits = omega arith in
    ap (λ n. listing (map Junk (low_bits 4 n))) is
