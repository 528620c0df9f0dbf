use Rattle.std.proofs.Common.{refl, arith}
use Rattle.swd_trace.proofs.HeldLemmas.{decoder_packed_reading}
use Rattle.swd_trace.proofs.decoder.Decoder.pack.Goals as goal

pub returns : goal.returns
returns c = record {
  law = decoder_packed_reading c.args.self.now.mode c.args.self.now.one c.args.bit c.args.self.now.run
      c.args.self.now.len c.args.self.now.bits c.from-self.result c.requires.run c.from-self.ensures c.requires.same;
  open_end = record { ran = λ p. refl; held = λ e p. absurd (omega arith) };
  settled = omega arith;
  places = omega arith;
  fed = refl;
}
