use Rattle.swd_script.specs.Readers.{read_script_meaning}
use Rattle.swd_script.proofs.TextLaws.{script_is_runnable}
use Rattle.swd_ends.proofs.RemoteLemmas.{remote_end_answered}
use Rattle.swd_ends.proofs.remote.run_remote.Goals as goal

pub invariant_of-job : goal.invariant_of-job
invariant_of-job g c =
    let read = c.in-Ok.ensures.ok in
    record { runnable = script_is_runnable read.0 (read_script_meaning c.in-Ok.script) read.2 }

pub returns : goal.returns
returns g c =
    let read = c.in-Ok.ensures.ok in
    let (calls, came, over) = c.over_line-answer.ensures in
    remote_end_answered _ c.over_line-answer.result.0 c.answer_of.result c.answer_of.ensures (record {
      text = read.0;
      is_script = read.1;
      meaning = read_script_meaning c.in-Ok.script;
      means = read.2;
      ran = record { calls = calls; answers = came; over = over };
    })
