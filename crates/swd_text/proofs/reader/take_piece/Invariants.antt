use Rattle.std.proofs.Common.{List, ℕ, ◌≡◌, ◌-◌, ◌≤◌, ◌++◌, take, length}
use Rattle.swd_text.specs.Sinks.{TextFeeds}
use Rattle.swd_text.proofs.reader.take_piece.Given as goal

abbrev pub invariant-loop-index : goal.invariant-loop-index
invariant-loop-index g l = record {
  within : l.index ≤ length l.piece;
  ready : g.S.BitSink.ready l.reader.sink;
  place : l.reader.place ≡ l.fn.reader.place;
  goes : (start : g.row.S.Denot × g.row.W.Denot) (seen : List ℕ)
      → TextFeeds g.S.BitSink.led g.S.BitSink.fed start l.fn.reader l.fn.writer seen
      → TextFeeds g.S.BitSink.led g.S.BitSink.fed start l.reader l.writer (seen ++ take l.index l.piece);
}

abbrev pub decreases-loop-index : goal.decreases-loop-index
decreases-loop-index g l = length l.piece - l.index
