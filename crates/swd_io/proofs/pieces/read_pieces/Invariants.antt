use Rattle.std.proofs.Common.{ℕ, List}
use Rattle.std.specs.Io.KnownBytes.{Consumes}
use Rattle.swd_io.proofs.pieces.read_pieces.Given as goal

abbrev pub invariant-loop : goal.invariant-loop
invariant-loop g l = record {
  can_take : g.C.Consumer.can_take l.consumer;
  reads : (text : List ℕ) × Consumes (g.R.Read.remaining l.fn.reader) (g.R.Read.remaining l.reader) text
      × g.C.Consumer.takes (l.fn.consumer, l.fn.writer) text (l.consumer, l.writer);
}
