use Rattle.std.proofs.Common.{◌+◌, ◌≤◌, ◌++◌, replicate, ap, arith}
use Rattle.swd_trace.specs.Reading.{reading}
use Rattle.swd_trace.proofs.HoldingLemmas.{decoder_holds_joined_bits, decoder_bits_joined}
use Rattle.swd_trace.proofs.decoder.Decoder.append_bits.Goals as goal

pub invariant_of-self : goal.invariant_of-self
invariant_of-self c =
    let counted : c.args.self.now.run + c.args.self.now.len ≤ c.args.self.now.fed = c.args.self.now.holds.counted in
    record {
      holds = decoder_holds_joined_bits c.args.self.now.mode c.args.self.now.one c.args.self.now.run c.args.self.now.len
          c.args.self.now.bits c.args.count c.args.bits c.args.self.now.fed c.from.result
          c.requires.run c.args.self.now.holds.whole c.requires.whole c.requires.short (omega arith) c.from.ensures;
    }

pub returns-clause-law : goal.returns-clause-law
returns-clause-law c = λ more.
    ap (λ x. reading c.args.self.now.mode (replicate c.args.self.now.run c.args.self.now.one ++ x))
    (decoder_bits_joined c.args.self.now.len c.args.self.now.bits c.args.count c.args.bits more
    c.args.self.now.holds.whole c.requires.whole c.requires.short)
