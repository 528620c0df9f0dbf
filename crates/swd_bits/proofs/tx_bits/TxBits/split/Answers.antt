use Rattle.std.proofs.Common.{◌≡◌, ℕ, ◌+◌, ◌-◌, ◌/◌, ◌*◌, ◌%◌, ◌^◌, ◌<◌, ◌≤◌, ◌++◌, arith, bit_and, subst, sym}
use Rattle.std.proofs.Math.Pow.{shr_lt}
use Rattle.std.proofs.lemmas.Nat.{and_mask, one_shl}
use Rattle.swd_bits.specs.Bits.{low_bits}
use Rattle.swd_bits.proofs.BitsLemmas.{low_bits-split}
use Rattle.swd_bits.proofs.tx_bits.TxBits.split.Goals as goal

pub returns-clause-whole : goal.returns-clause-whole
returns-clause-whole c =
    let e : c.args.self.len - c.args.len + c.args.len ≡ c.args.self.len = omega arith in
    shr_lt (c.args.self.len - c.args.len) c.args.len (subst (λ n. c.args.self.bits < 2 ^ n) (sym e) c.requires.whole)

parted : (m len v : ℕ) → m ≤ len → len ≤ 63 → low_bits len v ≡ low_bits m (bit_and v (1 * 2 ^ m % 2 ^ 64 - 1))
    ++ low_bits (len - m) (v / 2 ^ m)
parted m len v h k =
    let e : m + (len - m) ≡ len = omega arith in
    rw (one_shl m 64 (omega arith), and_mask v m)
    (subst (λ n. low_bits n v ≡ low_bits m (v % 2 ^ m) ++ low_bits (len - m) (v / 2 ^ m)) e
    (low_bits-split m (len - m) v))

pub returns-clause-bits : goal.returns-clause-bits
returns-clause-bits c = parted c.args.len c.args.self.len c.args.self.bits c.requires.within c.requires.short
