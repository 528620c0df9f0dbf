use Rattle.std.proofs.Common.{◌≡◌, ◌≤◌, ◌+◌, false, inl, inr, sym, subst, arith}
use Rattle.swd_bits.specs.Bits.{low_bits}
use Rattle.swd_trace.specs.Reading.{trace_all_ones}
use Rattle.swd_trace.specs.Holding.{DecoderHolds}
use Rattle.swd_trace.proofs.NumberLemmas.{decoder_bits_ones_alone, decoder_bits_zero_among}
use Rattle.swd_trace.proofs.HoldingLemmas.{decoder_holds_bits}
use Rattle.swd_trace.proofs.BitsStepLemmas.{decoder_junk_in_lost, decoder_junk_after_switch}
use Rattle.swd_trace.proofs.decoder.Decoder.decide_bits.Goals as goal

pub invariant_of-self : goal.invariant_of-self
invariant_of-self c =
    let counted : c.args.self.now.run + c.args.self.now.len ≤ c.args.self.now.fed = c.args.self.now.holds.counted in
    record {
      holds = subst (λ r. DecoderHolds c.args.self.now.mode c.args.self.now.one r c.args.self.now.len
          c.args.self.now.bits 1 c.args.self.now.fed) (sym c.requires)
          (decoder_holds_bits c.args.self.now.mode c.args.self.now.one c.args.self.now.len c.args.self.now.bits
          c.args.self.now.fed c.args.self.now.holds.whole c.args.self.now.holds.short (omega arith));
    }

pub pack-requires-clause-same : goal.pack-requires-clause-same
pack-requires-clause-same c =
    let short : c.args.self.now.len ≤ 50 = c.args.self.now.holds.short in
    decoder_bits_ones_alone c.args.self.now.len c.args.self.now.bits (omega arith) c.if-self.true

pub synced-requires-clause-zero : goal.synced-requires-clause-zero
synced-requires-clause-zero c =
    let short : c.args.self.now.len ≤ 50 = c.args.self.now.holds.short in
    decoder_bits_zero_among c.args.self.now.len c.args.self.now.bits c.args.self.now.holds.whole (omega arith)
    c.if-self.false

pub after_reset-requires-clause-zero : goal.after_reset-requires-clause-zero
after_reset-requires-clause-zero c =
    let short : c.args.self.now.len ≤ 50 = c.args.self.now.holds.short in
    decoder_bits_zero_among c.args.self.now.len c.args.self.now.bits c.args.self.now.holds.whole (omega arith)
    c.if-self.false

pub junk-requires-clause-first : goal.junk-requires-clause-first
junk-requires-clause-first c =
    let short : c.args.self.now.len ≤ 50 = c.args.self.now.holds.short in
    let zero : trace_all_ones (low_bits c.args.self.now.len c.args.self.now.bits) ≡ false =
    decoder_bits_zero_among c.args.self.now.len c.args.self.now.bits c.args.self.now.holds.whole (omega arith)
    c.if-self.false in
    elim c.in-AfterSwitch.is [
      | inl m ↦ decoder_junk_after_switch c.args.self.now.mode c.args.self.now.len c.args.self.now.bits m (omega arith)
          short zero
      | inr m ↦ decoder_junk_in_lost c.args.self.now.mode c.args.self.now.len c.args.self.now.bits m
          (omega arith) short zero
    ]
