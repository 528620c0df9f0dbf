use Rattle.std.proofs.Common.{[], sym, subst}
use Rattle.swd_sequences.specs.Going.{SequencesGoBy}
use Rattle.swd_dap_probe.specs.Transactions.{dap_pass}
use Rattle.swd_dap_probe.proofs.transaction.pass.Goals as goal

pub returns-in-false-default : goal.returns-in-false-default
returns-in-false-default g c =
    subst (λ b. SequencesGoBy g.L.ProbeLine.clocks (dap_pass c.args.settings.now b c.args.read) [] c.args.line.now
    c.release_turnaround.new.line) (sym c.in-false-default.is-0) (c.release_turnaround.ensures c.args.read)
