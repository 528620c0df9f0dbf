use Rattle.std.proofs.Common.{◌≡◌, ◌∙◌, Some, true, false, ap, sym}
use Rattle.swd_checker.specs.declared.checker.Checker.{Checker as CheckerType}
use Rattle.swd_checker.specs.declared.checker.fields.CheckerFields.{CheckerFields}
use Rattle.swd_checker.specs.contracts.checker.fields.CheckerFieldsPartialEq.TheImpl.{ghosts}
use Rattle.swd_checker.specs.Fields.{checker_fields}
use Rattle.swd_checker.specs.FieldsRead.{checker_from}
use Rattle.swd_checker.proofs.EqualLemmas.{checker_fields_same, checker_fields_equal}
use Rattle.swd_checker.proofs.FieldsLemmas.{checker_back}
use Rattle.swd_checker.proofs.checker.fields.CheckerFields.checker.Goals as goal

-- what is read from the fields of a checker is that checker
read_is : (read c : CheckerType) (fields : CheckerFields) → read ≡ checker_from fields → checker_fields c ≡ fields
    → read ≡ c
read_is read c fields is has = is ∙ (sym (ap checker_from has) ∙ checker_back c)

pub returns-then-eq-clause-found : goal.returns-then-eq-clause-found
returns-then-eq-clause-found c = λ e h. ap Some (read_is c.read-checker.result e c.args.self.now c.read-checker.ensures
    h)

pub returns-then-eq-clause-same : goal.returns-then-eq-clause-same
returns-then-eq-clause-same c = sym c.fields.ensures
    ∙ checker_fields_same c.fields.result c.args.self.now (sym c.eq.ensures ∙ c.if-eq.true)

pub returns-else-eq-clause-found : goal.returns-else-eq-clause-found
returns-else-eq-clause-found c = λ e h.
    let read : c.read-checker.result ≡ e = read_is c.read-checker.result e c.args.self.now c.read-checker.ensures h in
    let same : c.fields.result ≡ c.args.self.now = c.fields.ensures ∙ (ap checker_fields read ∙ h) in
    let equal : c.eq.result ≡ true = c.eq.ensures
    ∙ (ap (λ f. ghosts.eq f c.args.self.now) same ∙ checker_fields_equal c.args.self.now) in
    let differs : c.eq.result ≡ false = c.if-eq.false in
    cc
