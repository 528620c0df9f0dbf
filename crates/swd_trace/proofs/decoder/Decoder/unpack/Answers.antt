use Rattle.swd_trace.proofs.HeldLemmas.{decoder_holds_unpacked, decoder_unpacked_reading}
use Rattle.swd_trace.proofs.decoder.Decoder.unpack.Goals as goal

pub invariant_of-self : goal.invariant_of-self
invariant_of-self c = record {
  holds = decoder_holds_unpacked c.args.self.now.mode c.args.self.now.one c.args.self.now.run c.args.self.now.len
      c.args.self.now.bits c.args.self.now.next c.args.self.now.fed
      c.args.self.now.holds c.requires.run c.requires.few;
}

pub returns-clause-law : goal.returns-clause-law
returns-clause-law c =
    decoder_unpacked_reading c.args.self.now.mode c.args.self.now.one c.args.self.now.run c.args.self.now.len
    c.args.self.now.bits c.args.self.now.next c.args.self.now.fed
    c.args.self.now.holds c.requires.run c.requires.few c.requires.ones
