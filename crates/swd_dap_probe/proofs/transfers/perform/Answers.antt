use Rattle.std.proofs.Common.{[], ◌∷◌, sym, subst, if◌then◌else◌}
use Rattle.swd_dap_probe.specs.Transfers.{DapStepsMade, Makes, Tells, dap_own, dap_run}
use Rattle.swd_dap_probe.proofs.StepLemmas.{does_make}
use Rattle.swd_dap_probe.proofs.transfers.perform.Goals as goal

pub returns-in-Write-clause-makes : goal.returns-in-Write-clause-makes
returns-in-Write-clause-makes g c = λ count.
    let clock = g.L.ProbeLine.clocks in
    let settings = c.args.settings.now in
    let run = dap_run count c.args.words.now.items c.args.run.now.mask in
    let line = c.persist.new.line in
    let value = c.value-value in
    subst (λ x. DapStepsMade clock settings (dap_own x) value.result run run c.args.line.now line) (sym c.in-Write.is)
    (does_make clock settings c.in-Write.request c.in-Write.word c.persist.result value.result run c.args.line.now line
    value.ensures c.persist.ensures)

pub returns-in-Read-clause-makes : goal.returns-in-Read-clause-makes
returns-in-Read-clause-makes g c = λ count.
    let clock = g.L.ProbeLine.clocks in
    let settings = c.args.settings.now in
    let run = dap_run count c.args.words.now.items c.args.run.now.mask in
    let line = c.persist-in-Read.new.line in
    let value = c.value-value-in-Read in
    let request = c.in-Read.request in
    subst (λ x. DapStepsMade clock settings (dap_own x) value.result run run c.args.line.now line) (sym c.in-Read.is)
    (subst (λ b. DapStepsMade clock settings (if b then Makes request 0 ∷ [] else Tells request ∷ []) value.result run
    run
    c.args.line.now line) (sym c.if-request.true)
    (does_make clock settings request 0 c.persist-in-Read.result value.result run c.args.line.now line value.ensures
    c.persist-in-Read.ensures))
