-- The verdict of a checker in the caller's memory.
use Rattle.std.proofs.Common.{arith, ◌≡◌, ◌∙◌, ap, sym, ℕ}
use Rattle.swd_checker.specs.declared.checker.Checker.{Checker}
use Rattle.swd_checker.specs.declared.checker.fields.CheckerFields.{CheckerFields}
use Rattle.swd_checker.specs.Fields.{checker_fields}
use Rattle.swd_c.specs.Checks.{c_api_verdict, c_api_verdict_from}

verdict_back : (c : Checker) (faults : ℕ) → c_api_verdict_from (checker_fields c) faults ≡ c_api_verdict c faults
verdict_back c faults = grind arith

-- the verdict of a checker by its fields
pub c_api_verdict_told : (c : Checker) (fields : CheckerFields) (faults : ℕ) → checker_fields c ≡ fields
    → c_api_verdict_from fields faults ≡ c_api_verdict c faults
c_api_verdict_told c fields faults h = ap (λ f. c_api_verdict_from f faults) (sym h) ∙ verdict_back c faults
