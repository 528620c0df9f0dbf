use Rattle.std.proofs.Common.{◌≡◌, get_or, drop, [], refl, sym, subst, arith}
use Rattle.swd_dap_probe.specs.declared.transfers.Pending.TheVariants.{Nothing}
use Rattle.swd_dap_probe.specs.Transfers.{DapStepsMade, dap_asked_list, dap_run, dap_steps, dap_transfer_value}
use Rattle.swd_dap_probe.proofs.StepLemmas.{does_none, transfer_value}
use Rattle.swd_dap_probe.proofs.transfers.perform_list.Goals as goal

pub returns-then-request-eq0-clause-makes : goal.returns-then-request-eq0-clause-makes
returns-then-request-eq0-clause-makes g c =
    let clock = g.L.ProbeLine.clocks in
    let settings = c.args.settings.now in
    let bytes = c.args.request.now in
    let mask = c.args.mask.now in
    let line = c.args.line.now in
    let zero : get_or bytes 2 0 ≡ 0 = omega (arith, c.if-request-eq0.true) in
    let from = dap_run 0 [] mask in (
      1,
      subst (λ w. DapStepsMade clock settings (dap_steps Nothing (dap_asked_list (get_or bytes 2 0) (drop 3 bytes))) 1
          from
          (dap_run 0 w mask) line line) (sym c.requires.none)
          (subst (λ n. DapStepsMade clock settings (dap_steps Nothing (dap_asked_list n (drop 3 bytes))) 1 from from
          line
          line) (sym zero) (does_none clock settings from line)),
      subst (λ n. 0 ≡ dap_transfer_value n 1) (sym zero) refl,
    )

pub returns-else-request-eq0-clause-makes : goal.returns-else-request-eq0-clause-makes
returns-else-request-eq0-clause-makes g c = (
  c.perform_all.result.value,
  c.perform_all.ensures.makes,
  transfer_value (get_or c.args.request.now 2 0) c.perform_all.result.value
      (omega (arith, c.if-request-eq0.false)),
)
