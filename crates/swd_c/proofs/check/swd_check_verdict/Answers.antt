use Rattle.std.proofs.Common.{◌∙◌, ap, sym}
use Rattle.swd_c.specs.declared.check.SwdVerdict.{SwdVerdict}
use Rattle.swd_c.specs.Checks.{c_api_verdict}
use Rattle.swd_c.proofs.Checks.{c_api_verdict_told}
use Rattle.swd_c.proofs.check.swd_check_verdict.Goals as goal

pub returns-clause-verdict : goal.returns-clause-verdict
returns-clause-verdict c = λ yes d h.
    let is = c.of.ensures in
    is ∙ (c_api_verdict_told d _ _ h ∙ ap (c_api_verdict d) (sym (ap (λ (v : SwdVerdict). v.faults) is)))
