use Rattle.std.proofs.Common.{ap, map, sym, subst}
use Rattle.std.specs.Prelude.{All as Each}
use Rattle.swd_port.specs.Outside.{wire_calls}
use Rattle.swd_port.specs.Stories.{port_due_by}
use Rattle.swd_script.specs.Laws.{IsScriptBatch}
use Rattle.swd_script.specs.Readers.{script_batch_listed}
use Rattle.swd_ends.proofs.RemoteLemmas.{remote_end_came}
use Rattle.swd_ends.proofs.run_job.RunJobLineJob.perform.Goals as goal

pub run_batches-requires-clause-batches : goal.run_batches-requires-clause-batches
run_batches-requires-clause-batches g c =
    subst (λ batches. Each IsScriptBatch (map script_batch_listed batches)) (sym c.as_slice-batches.ensures.value)
    c.args.self.now.runnable.batches

pub run_batches-requires-clause-due : goal.run_batches-requires-clause-due
run_batches-requires-clause-due g c = ap port_due_by c.requires

pub returns : goal.returns
returns g c =
    remote_end_came (λ w. wire_calls w) g.P.Story.at _ _ _
    (ap (map script_batch_listed) c.as_slice-batches.ensures.value) _ _ c.requires _ _ _ _ _
    c.run_batches.ensures.answer
