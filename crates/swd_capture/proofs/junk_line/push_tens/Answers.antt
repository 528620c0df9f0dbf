use Rattle.std.proofs.Common.{◌*◌, ◌^◌, ◌<◌, ◌≤◌, ℕ, length, ap, arith, rules}
use Rattle.std.specs.Fmt.{decimal}
use Rattle.std.proofs.lemmas.Fmt.{length-decimal-le}
use Rattle.swd_capture.proofs.junk_line.push_tens.Goals as goal

-- the digits of a 64-bit number without its last one
short : (tens : ℕ) → tens * 10 < 2 ^ 64 → length (decimal tens) ≤ 19
short tens h = length-decimal-le 19 tens (omega arith) (omega arith) (omega arith)

pub push_str-requires-2 : goal.push_str-requires-2
push_str-requires-2 g c =
    let len = ap length c.format.ensures.text in
    (search rules, omega (arith, len, short c.args.tens c.requires.tens, c.push_str.ensures.len, c.requires.room))

pub returns-clause-len : goal.returns-clause-len
returns-clause-len g c =
    let len = ap length c.format.ensures.text in
    omega (arith, len, short c.args.tens c.requires.tens, c.push_str.ensures.len, c.push_str-2.ensures.len)
