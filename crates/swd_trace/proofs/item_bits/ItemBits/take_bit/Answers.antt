use Rattle.std.proofs.Common.{◌≡◌, ℕ, zero, suc, ◌-◌, ◌/◌, ◌%◌, ◌<◌, ◌≤◌, Bool, [], ◌∷◌, ◌++◌, replicate, refl, arith}
use Rattle.std.specs.Prelude.{◌==◌}
use Rattle.swd_bits.specs.Bits.{low_bits}
use Rattle.swd_trace.proofs.NumberLemmas.{decoder_bits_next, decoder_bits_none}
use Rattle.swd_trace.proofs.item_bits.ItemBits.take_bit.Goals as goal

first : (run len bits : ℕ) (one : Bool) → run ≤ 0 → 0 < len →
    replicate run one ++ low_bits len bits ≡ (bits % 2 == 1) ∷ (replicate run one ++ low_bits (len - 1) (bits / 2))
first zero len bits one r h = decoder_bits_next len bits h
first (suc run) len bits one r h = absurd (omega arith)

none : (run len bits : ℕ) (one : Bool) → run ≤ 0 → len ≤ 0 → replicate run one ++ low_bits len bits ≡ []
none zero len bits one r h = decoder_bits_none len bits (omega arith)
none (suc run) len bits one r h = absurd (omega arith)

pub returns-then-self-gt0-2-clause-bit : goal.returns-then-self-gt0-2-clause-bit
returns-then-self-gt0-2-clause-bit c =
    first c.args.self.now.run c.args.self.now.len c.args.self.now.bits c.args.self.now.one c.if-self-gt0.false
    c.if-self-gt0-2.true

pub returns-clause-none : goal.returns-clause-none
returns-clause-none c = (
  none c.args.self.now.run c.args.self.now.len c.args.self.now.bits c.args.self.now.one c.if-self-gt0.false
      c.if-self-gt0-2.false,
  refl,
)
