use Rattle.std.proofs.Common.{◌≡◌, ◌<◌, ◌%◌, ℕ, length, refl, arith}
use Rattle.swd_bits.specs.Bits.{low_bits}
use Rattle.swd_bits.proofs.BitsLemmas.{length-low_bits}
use Rattle.swd_trace.proofs.BitsStepLemmas.{decoder_holds_begun_tx, decoder_begun_tx_open, decoder_junk_in_synced}
use Rattle.swd_trace.proofs.decoder.Decoder.synced.Goals as goal

odd_of : (n : ℕ) → (n % 2 ≡ 0 → ⊥) → n % 2 ≡ 1
odd_of n h = let small : n % 2 < 2 = omega arith in by (n % 2) small h
  where
    by : (d : ℕ) → d < 2 → (d ≡ 0 → ⊥) → d ≡ 1
    by d k h = omega arith

pub invariant_of-self : goal.invariant_of-self
invariant_of-self c = record {
  holds = decoder_holds_begun_tx c.args.self.now.mode c.args.self.now.one c.args.self.now.run c.args.self.now.len
      c.args.self.now.bits c.args.self.now.next c.in-Begun.next c.args.self.now.fed
      c.args.self.now.holds c.requires.run c.requires.mode c.requires.some
      (odd_of c.args.self.now.bits c.if-self-eq0.false) c.in-Begun.ensures.1 c.in-Begun.ensures.2;
}

pub returns-in-Begun : goal.returns-in-Begun
returns-in-Begun c =
    let l : length (low_bits c.args.self.now.len c.args.self.now.bits) ≡ c.args.self.now.len = length-low_bits
    c.args.self.now.len c.args.self.now.bits in
    let below : length (low_bits c.args.self.now.len c.args.self.now.bits) < c.in-Begun.next = c.in-Begun.ensures.0 in
    record {
      law = λ more. refl;
      open_end = record {
        ran = λ p. let none : c.args.self.now.run ≡ 0 = c.requires.run in absurd (omega arith);
        held = λ e p. decoder_begun_tx_open c.args.self.now.mode c.args.self.now.len c.args.self.now.bits
            c.in-Begun.next c.requires.mode p
            (odd_of c.args.self.now.bits c.if-self-eq0.false) c.in-Begun.ensures.0 c.in-Begun.ensures.2;
      };
      settled = omega arith;
      places = omega arith;
      fed = refl;
    }

pub junk-requires-clause-first : goal.junk-requires-clause-first
junk-requires-clause-first c =
    decoder_junk_in_synced c.args.self.now.mode c.args.self.now.len c.args.self.now.bits c.requires.mode c.requires.some
    c.args.self.now.holds.short c.requires.zero
    (odd_of c.args.self.now.bits c.if-self-eq0.false) c.in-Broken.ensures
