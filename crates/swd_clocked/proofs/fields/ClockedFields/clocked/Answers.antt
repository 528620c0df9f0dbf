use Rattle.std.proofs.Common.{◌≡◌, ◌==◌, ℕ, true, false, ap, sym, ◌∙◌, refl, eq-eqb}
use Rattle.swd_clocked.specs.declared.fields.ClockedFields.{ClockedFields}
use Rattle.swd_clocked.specs.contracts.fields.ClockedFieldsPartialEq.TheImpl.{ghosts}
use Rattle.swd_clocked.specs.Fields.{restored_clocked}
use Rattle.swd_clocked.proofs.FieldsLemmas.{clocked_fields_restore}
use Rattle.swd_clocked.proofs.fields.ClockedFields.clocked.Goals as goal

same_number : (n : ℕ) → (n == n) ≡ true
same_number n = eq-eqb n n refl

-- fields are equal to themselves by the derived comparison
equal_to_itself : (fields : ClockedFields) → ghosts.eq fields fields ≡ true
equal_to_itself fields = simp same_number

pub returns-else-eq-clause-found : goal.returns-else-eq-clause-found
returns-else-eq-clause-found g c = λ e h.
    let same : c.fields.result ≡ c.args.self.now = c.fields.ensures
    ∙ (c.read-clocked.ensures.numbers ∙ (ap restored_clocked (sym h) ∙ (clocked_fields_restore e ∙ h))) in
    let equal : c.eq.result ≡ true = c.eq.ensures
    ∙ (ap (λ f. ghosts.eq f c.args.self.now) same ∙ equal_to_itself c.args.self.now) in
    let differs : c.eq.result ≡ false = c.if-eq.false in
    cc
