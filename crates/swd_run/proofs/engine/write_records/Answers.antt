use Rattle.swd_run.specs.Records.{run_file_held}
use Rattle.swd_run.specs.Engine.{accesses_stop, short, trace_stops, whole}
use Rattle.swd_run.proofs.EngineLemmas.{run_file_some, run_file_unchanged}
use Rattle.swd_run.proofs.GrowingLemmas.{growing_file_stopped, growing_file_whole}
use Rattle.swd_run.proofs.engine.write_records.Goals as goal

pub returns-in-Err : goal.returns-in-Err
returns-in-Err g c = λ start h.
    let stop = growing_file_stopped g.T.Write.contents start _ _ _ c.in-Err.written c.in-Err.is h in
    trace_stops (record {
      wanted = stop.0;
      trace = stop.1;
      accesses = run_file_unchanged (run_file_held g.T.Write.contents c.args.records.now.accesses);
    })

pub returns-in-Err-write_accesses : goal.returns-in-Err-write_accesses
returns-in-Err-write_accesses g c = λ start h. accesses_stop (record {
  wanted = run_file_some g.T.Write.contents c.args.records.now.accesses c.in-Err-write_accesses.ensures.err;
  trace = growing_file_whole g.T.Write.contents start _ _ _ c.in_default.field-0 c.in_default.is h;
  accesses = c.in-Err-write_accesses.ensures.file;
})

pub returns-then-cut : goal.returns-then-cut
returns-then-cut g c = λ start h. short c.if-cut.true (record {
  trace = growing_file_whole g.T.Write.contents start _ _ _ c.in_default.field-0 c.in_default.is h;
  accesses = c.in_default-write_accesses.ensures.file;
})

pub returns-else-cut : goal.returns-else-cut
returns-else-cut g c = λ start h. whole c.if-cut.false (record {
  trace = growing_file_whole g.T.Write.contents start _ _ _ c.in_default.field-0 c.in_default.is h;
  accesses = c.in_default-write_accesses.ensures.file;
})
