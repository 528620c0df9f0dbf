use Rattle.swd_host.proofs.Words.{◌≡◌, ◌==◌, ℕ, Some, true, false, ap, sym, ◌∙◌, refl, fields_of_engine, engine_at}
use Rattle.std.proofs.Common.{eq-eqb}
use Rattle.swd_host.specs.declared.engine.Engine.{Engine as EngineType}
use Rattle.swd_host.specs.declared.fields.EngineFields.{EngineFields}
use Rattle.swd_host.specs.contracts.fields.EngineFieldsPartialEq.TheImpl.{ghosts}
use Rattle.swd_host.proofs.FieldsLemmas.{engine_back}
use Rattle.swd_host.proofs.fields.EngineFields.engine.Goals as goal

-- what is read from the fields of an engine is that engine
read_is : (read e : EngineType) (fields : EngineFields) → read ≡ engine_at fields → fields_of_engine e ≡ fields
    → read ≡ e
read_is read e fields is has = is ∙ (sym (ap engine_at has) ∙ engine_back e)

pub returns-then-eq-clause-found : goal.returns-then-eq-clause-found
returns-then-eq-clause-found c = λ e h. ap Some (read_is c.read-engine.result e c.args.self.now c.read-engine.ensures h)

same_number : (n : ℕ) → (n == n) ≡ true
same_number n = eq-eqb n n refl

-- fields are equal to themselves by the derived comparison
equal_to_itself : (fields : EngineFields) → ghosts.eq fields fields ≡ true
equal_to_itself fields = simp same_number

pub returns-else-eq-clause-found : goal.returns-else-eq-clause-found
returns-else-eq-clause-found c = λ e h.
    let read : c.read-engine.result ≡ e = read_is c.read-engine.result e c.args.self.now c.read-engine.ensures h in
    let same : c.fields.result ≡ c.args.self.now = c.fields.ensures ∙ (ap fields_of_engine read ∙ h) in
    let equal : c.eq.result ≡ true = c.eq.ensures
    ∙ (ap (λ f. ghosts.eq f c.args.self.now) same ∙ equal_to_itself c.args.self.now) in
    let differs : c.eq.result ≡ false = c.if-eq.false in
    cc
