use Rattle.std.proofs.Common.{[], ◌∷◌, sym, subst, if◌then◌else◌}
use Rattle.swd_dap_probe.specs.Transfers.{DapStepsMade, Makes}
use Rattle.swd_dap_probe.proofs.StepLemmas.{does_make}
use Rattle.swd_dap_probe.proofs.transfers.post.Goals as goal

pub returns-then-request : goal.returns-then-request
returns-then-request g c = record {
  makes = λ run.
      let clock = g.L.ProbeLine.clocks in
      let settings = c.args.settings.now in
      let request = c.args.request in
      subst (λ b. DapStepsMade clock settings (if b then Makes request 0 ∷ [] else []) c.value.result run run
      c.args.line.now
      c.persist.new.line) (sym c.if-request.true)
      (does_make clock settings request 0 c.persist.result c.value.result run c.args.line.now c.persist.new.line
      c.value.ensures c.persist.ensures);
}
