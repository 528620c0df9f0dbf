use Rattle.std.proofs.Common.{refl, arith}
use Rattle.swd_trace.proofs.CloseLemmas.{trace_end_no_item}
use Rattle.swd_trace.proofs.decoder.Decoder.close.Goals as goal

pub returns-then-self-eq0 : goal.returns-then-self-eq0
returns-then-self-eq0 c = (
  trace_end_no_item c.args.self.now.mode c.args.self.now.one c.args.self.now.run c.args.self.now.len
      c.args.self.now.bits (omega arith) c.if-self-eq0.true,
  refl,
)
