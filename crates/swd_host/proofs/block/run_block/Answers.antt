use Rattle.swd_host.proofs.Words.{◌≤◌, ◌∙◌, false, length, subst, sym, AreHostAccesses, Closes, RunsWithin}
use Rattle.swd_host.proofs.Words.{host_report_of}
use Rattle.swd_host.specs.declared.task.Bursts.TheVariants.{Reads}
use Rattle.swd_host.proofs.Blocked.{block_reads_runnable}
use Rattle.swd_host.proofs.Alone.{new_engine_closes}
use Rattle.swd_host.proofs.Runs.{new_engine_runs_within}
use Rattle.swd_host.specs.Sent.{HostReportsCalls}
use Rattle.swd_host.proofs.Making.{host_calls_weaken}
use Rattle.swd_host.proofs.block.run_block.Goals as goal

pub returns-in_default-reads_of-clause-refused : goal.returns-in_default-reads_of-clause-refused
returns-in_default-reads_of-clause-refused g c = block_reads_runnable c.args.addr c.args.count c.in_default.ensures.none

pub returns-in_default-with_capacity-clause-refused : goal.returns-in_default-with_capacity-clause-refused
returns-in_default-with_capacity-clause-refused g c =
    block_reads_runnable c.args.addr c.args.count c.in_default.ensures.none

pub conduct-requires-clause-accepted : goal.conduct-requires-clause-accepted
conduct-requires-clause-accepted g c =
    subst (λ list. (length list ≤ 65536) × AreHostAccesses list) (sym (c.deref.ensures.value ∙ c.in-Ok.ensures))
    (block_reads_runnable c.args.addr c.args.count c.in_default.ensures.none)

pub returns-clause-fits : goal.returns-clause-fits
returns-clause-fits g c = λ lawful.
    let was = c.conduct.ensures.fits lawful in (
      was.0,
      subst (λ list. RunsWithin Reads list c.args.tries (host_report_of c.conduct.result)
          (g.W.Wire.port c.args.wire.now) (g.W.Wire.port c.conduct.new.wire)) (c.deref.ensures.value ∙ c.in-Ok.ensures)
          (new_engine_runs_within _ c.args.tries _ c.blocks-2.result _ _ _ c.blocks-2.ensures.new was.1),
    )

pub returns-clause-closes : goal.returns-clause-closes
returns-clause-closes g c =
    subst (λ list. Closes 0 Reads list c.args.tries (host_report_of c.conduct.result)
    (g.W.Wire.port c.conduct.new.wire).link.due) (c.deref.ensures.value ∙ c.in-Ok.ensures)
    (new_engine_closes _ false 0 c.args.tries _ c.blocks-2.result _ _ c.blocks-2.ensures.new c.conduct.ensures.closes)

pub returns-clause-told : goal.returns-clause-told
returns-clause-told g c = host_calls_weaken g.W.Wire.notes _ _ _ _
    (λ calls. subst (λ list. HostReportsCalls list (host_report_of c.conduct.result) calls)
    (c.deref.ensures.value ∙ c.in-Ok.ensures)) c.conduct.ensures.told
