use Rattle.std.proofs.Common.{suc, ◌++◌, take, drop, subst}
use Rattle.swd_script.proofs.ReadLemmas.{script_piece_about_byte}
use Rattle.swd_script.proofs.line_reader.LineReaderConsumerUnit.take.Goals as goal

pub returns-in-Err-clause-err : goal.returns-in-Err-clause-err
returns-in-Err-clause-err g c = λ u seen r more.
    let piece = c.args.piece.now in
    let i = c.loop-byte.byte-index in
    subst (g.S.LineSink.refuses c.in-Err.fault) (script_piece_about_byte seen piece more i c.loop-byte-test.true)
    (c.in-Err.ensures.err (seen ++ take i piece) (drop (suc i) piece ++ more) (c.loop-byte.invariant seen r))
