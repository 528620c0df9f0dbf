use Rattle.swd_host.proofs.Words.{◌≤◌, ◌∙◌, length, subst, sym, AreHostAccesses, ListCloses, ListsWithin}
use Rattle.swd_host.proofs.Words.{host_report_of}
use Rattle.swd_host.specs.declared.task.Bursts.TheVariants.{Reads}
use Rattle.swd_host.proofs.Blocked.{block_reads_runnable}
use Rattle.swd_host.specs.Sent.{HostReportsCalls}
use Rattle.swd_host.proofs.Making.{host_calls_weaken}
use Rattle.swd_host.proofs.listing.run_open_block.Goals as goal

pub returns-in_default-reads_of-clause-refused : goal.returns-in_default-reads_of-clause-refused
returns-in_default-reads_of-clause-refused g c = block_reads_runnable c.args.addr c.args.count c.in_default.ensures.none

pub returns-in_default-with_capacity-clause-refused : goal.returns-in_default-with_capacity-clause-refused
returns-in_default-with_capacity-clause-refused g c =
    block_reads_runnable c.args.addr c.args.count c.in_default.ensures.none

pub report_open-requires-clause-accepted : goal.report_open-requires-clause-accepted
report_open-requires-clause-accepted g c =
    subst (λ list. (length list ≤ 65536) × AreHostAccesses list) (sym (c.deref.ensures.value ∙ c.in-Ok.ensures))
    (block_reads_runnable c.args.addr c.args.count c.in_default.ensures.none)

pub returns-clause-fits : goal.returns-clause-fits
returns-clause-fits g c = λ lawful.
    let was = c.report_open.ensures.fits lawful in (
      was.0,
      subst (λ list. ListsWithin Reads list c.args.tries (host_report_of c.report_open.result)
          (g.W.Wire.port c.args.wire.now) (g.W.Wire.port c.report_open.new.wire))
          (c.deref.ensures.value ∙ c.in-Ok.ensures) was.1,
    )

pub returns-clause-closes : goal.returns-clause-closes
returns-clause-closes g c =
    subst (λ list. ListCloses Reads list c.args.tries (host_report_of c.report_open.result)
    (g.W.Wire.port c.report_open.new.wire).link.due) (c.deref.ensures.value ∙ c.in-Ok.ensures)
    c.report_open.ensures.closes

pub returns-clause-told : goal.returns-clause-told
returns-clause-told g c = host_calls_weaken g.W.Wire.notes _ _ _ _
    (λ calls. subst (λ list. HostReportsCalls list (host_report_of c.report_open.result) calls)
    (c.deref.ensures.value ∙ c.in-Ok.ensures)) c.report_open.ensures.told
