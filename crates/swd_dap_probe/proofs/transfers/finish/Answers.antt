use Rattle.std.proofs.Common.{sym, subst}
use Rattle.swd_dap_probe.specs.Transfers.{DapStepsMade, dap_finish, dap_read_buffer, dap_run}
use Rattle.swd_dap_probe.proofs.StepLemmas.{does_make}
use Rattle.swd_dap_probe.proofs.transfers.finish.Goals as goal

pub returns-in-Check-clause-makes : goal.returns-in-Check-clause-makes
returns-in-Check-clause-makes g c = λ count mask.
    let clock = g.L.ProbeLine.clocks in
    let settings = c.args.settings.now in
    let run = dap_run count c.args.words.now.items mask in
    subst (λ p. DapStepsMade clock settings (dap_finish p) c.value.result run run c.args.line.now c.persist.new.line)
    (sym c.in-Check.is)
    (does_make clock settings dap_read_buffer 0 c.persist.result c.value.result run c.args.line.now c.persist.new.line
    c.value.ensures c.persist.ensures)
