use Rattle.std.proofs.Common.{◌≡◌, ℕ, ◌^◌, ◌<◌, ◌%◌, Bool, true, false, not, [], ◌∷◌, ◌++◌, refl}
use Rattle.std.specs.Prelude.{◌==◌, count_ones, if◌then◌else◌}
use Rattle.swd_bits.specs.Bits.{low_bits}
use Rattle.swd_bits.specs.Transactions.{phase_with}
use Rattle.swd_bits.proofs.BitsLemmas.{odd-low_bits}
use Rattle.swd_bits.proofs.tx.phase_of.Goals as goal
use Rattle.swd_bits.proofs.tx.phase_of.Goals.{then-parity_ok, else-parity_ok}

whole : (word : ℕ) (ok one : Bool) → word < 2 ^ 32 →
    one ≡ (if ok then (count_ones word % 2 == 1) else not (count_ones word % 2 == 1))
    → low_bits 32 word ++ one ∷ [] ≡ phase_with word ok
unfolding phase_with
whole word true one h e = rw (e, odd-low_bits 32 word h) refl
whole word false one h e = rw (e, odd-low_bits 32 word h) refl

one_is : (c : goal.After-then)
    → c.if-parity_ok.one ≡ (if c.args.parity_ok then (count_ones c.args.word % 2 == 1) else not
    (count_ones c.args.word % 2 == 1))
one_is c = elim c.if-parity_ok.branch
    [ then-parity_ok w ↦ rw w.if-parity_ok.true w.one-is | else-parity_ok w ↦ rw w.if-parity_ok.false w.one-is ]

pub returns-clause-bits : goal.returns-clause-bits
returns-clause-bits c =
    rw (c.then.ensures.bits, c.one.ensures.bits, c.from.ensures)
    (whole c.args.word c.args.parity_ok c.if-parity_ok.one c.ranges.word.fits (one_is c))
