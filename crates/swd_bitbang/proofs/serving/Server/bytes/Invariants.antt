use Rattle.std.proofs.Common.{◌≡◌, ℕ, List, ◌++◌, take}
use Rattle.swd_bitbang.specs.Serving.{ServingBegin, ServingTaken}
use Rattle.swd_bitbang.specs.Watching.{PinsReach}
use Rattle.swd_bitbang.proofs.serving.Server.bytes.Given as goal

abbrev pub invariant-loop-byte : goal.invariant-loop-byte
invariant-loop-byte g l = record {
  writer : l.block.writer.ghost_name ≡ l.fn.block.writer.ghost_name;
  written : l.self.written ≡ l.fn.self.written;
  watch : l.self.watch ≡ l.fn.self.watch;
  reaches : PinsReach g.D.Device.bus (g.P.Protocol.pins_of l.fn.self.protocol) (g.P.Protocol.pins_of l.self.protocol);
  goes : (begin : ServingBegin g.row.P.Denot) (seen : List ℕ)
      → ServingTaken g.P.Protocol.step g.W.Write.contents begin l.fn.self l.fn.block seen
      → ServingTaken g.P.Protocol.step g.W.Write.contents begin l.self l.block (seen ++ take l.byte-index l.piece);
}
