use Rattle.std.proofs.Common.{arith, sym, subst}
use Rattle.swd_dap_probe.specs.Transfers.{DapStepsMade, dap_fetch, dap_own, dap_run}
use Rattle.swd_dap_probe.proofs.StepLemmas.{does_then, does_stop}
use Rattle.swd_dap_probe.proofs.transfers.fetch_and_perform.Goals as goal

pub returns-then-value-eq-OK-clause-makes : goal.returns-then-value-eq-OK-clause-makes
returns-then-value-eq-OK-clause-makes g c = λ count.
    let clock = g.L.ProbeLine.clocks in
    let settings = c.args.settings.now in
    let was = c.args.run.now in
    let first = c.fetch-value in
    let next = c.perform in
    let mid = dap_run count first.new.words.items was.mask in
    let to = dap_run count next.new.words.items next.new.run.mask in
    does_then clock settings (dap_fetch was.pending) (dap_own c.args.asked) first.result next.result
    (dap_run count c.args.words.now.items was.mask) mid to c.args.line.now first.new.line next.new.line
    (omega (arith, c.if-value-eq-OK.true)) (first.ensures.makes count was.mask)
    (subst (λ x. DapStepsMade clock settings (dap_own c.args.asked) next.result (dap_run count first.new.words.items
    x) to
    first.new.line next.new.line) first.ensures.mask (next.ensures.makes count))

pub returns-else-value-eq-OK-clause-makes : goal.returns-else-value-eq-OK-clause-makes
returns-else-value-eq-OK-clause-makes g c = λ count.
    let clock = g.L.ProbeLine.clocks in
    let settings = c.args.settings.now in
    let was = c.args.run.now in
    let first = c.fetch-value in
    let from = dap_run count c.args.words.now.items was.mask in
    let to = dap_run count first.new.words.items first.new.run.mask in
    does_stop clock settings (dap_fetch was.pending) (dap_own c.args.asked) first.result from to c.args.line.now
    first.new.line (λ e. absurd (omega (arith, e, c.if-value-eq-OK.false)))
    (subst (λ x. DapStepsMade clock settings (dap_fetch was.pending) first.result from
    (dap_run count first.new.words.items x) c.args.line.now first.new.line) (sym first.ensures.mask)
    (first.ensures.makes count was.mask))
