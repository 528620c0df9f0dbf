use Rattle.std.proofs.Common.{ℕ, List, ◌++◌, take}
use Rattle.swd_script.specs.Readers.{ReadsScriptLines}
use Rattle.swd_script.proofs.line_reader.LineReaderConsumerUnit.take.Given as goal

abbrev pub invariant-loop-byte : goal.invariant-loop-byte
invariant-loop-byte g l =
    let took = g.S.LineSink.took in
    (seen : List ℕ) → ReadsScriptLines took l.fn.self seen
    → ReadsScriptLines took l.self (seen ++ take l.byte-index l.piece)
