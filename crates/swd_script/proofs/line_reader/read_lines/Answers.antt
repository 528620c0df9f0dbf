use Rattle.swd_io.specs.Pieces.{LeadsConsumerToEnd}
use Rattle.swd_io.proofs.PieceLemmas.{consumer_input_exists, consumer_input_at_end, consumer_input_unread}
use Rattle.swd_script.specs.Readers.{HasReadScriptLines, RefusesScriptLines}
use Rattle.swd_script.proofs.line_reader.read_lines.Goals as goal

pub returns-in-Ok-finish-clause-ok : goal.returns-in-Ok-finish-clause-ok
returns-in-Ok-finish-clause-ok g c = λ t.
    let read = HasReadScriptLines g.S.LineSink.took in
    consumer_input_exists read (LeadsConsumerToEnd read (RefusesScriptLines g.S.LineSink.refuses)) tt
    (g.R.Read.remaining c.args.reader.now)
    (g.R.Read.remaining c.read_pieces.new.reader) (c.over-lines.result, tt) (c.read_pieces.new.consumer, tt)
    (λ text. g.S.LineSink.says text c.in-Ok-finish.whole) (c.over-lines.ensures t) c.in-Ok-finish.ensures.ok
    c.in-Ok.ensures

pub returns-in-Err-finish-clause-err : goal.returns-in-Err-finish-clause-err
returns-in-Err-finish-clause-err g c = λ t.
    let read = HasReadScriptLines g.S.LineSink.took in
    consumer_input_at_end read (LeadsConsumerToEnd read (RefusesScriptLines g.S.LineSink.refuses)) tt
    (g.R.Read.remaining c.args.reader.now)
    (g.R.Read.remaining c.read_pieces.new.reader) (c.over-lines.result, tt) (c.read_pieces.new.consumer, tt)
    (g.S.LineSink.refuses c.in-Err-finish.fault) (c.over-lines.ensures t) c.in-Err-finish.ensures.err c.in-Ok.ensures

pub returns-in-Err-clause-err : goal.returns-in-Err-clause-err
returns-in-Err-clause-err g c = λ t.
    let refuses = g.S.LineSink.refuses in
    consumer_input_unread (HasReadScriptLines g.S.LineSink.took) (RefusesScriptLines refuses) refuses tt
    (g.R.Read.remaining c.args.reader.now)
    (g.R.Read.remaining c.read_pieces.new.reader) (c.over-lines.result, tt) (c.read_pieces.new.consumer, tt)
    c.in-Err.unread
    (c.over-lines.ensures t) (λ fault text more f. f more) c.in-Err.ensures
