-- What a conformance run says of the calls that it made of a wire.
use Rattle.std.specs.Prelude.{ℕ, ◌≡◌, ◌≤◌, ◌+◌, ◌*◌, true, List, [], ◌++◌}
use Rattle.swd_port.specs.declared.call.Call.{Call}
use Rattle.swd_check.specs.declared.check.Check.{Check}
use Rattle.swd_check.specs.Watched.{CheckIndex, CheckHolds, CheckSays}
use Rattle.swd_trace.specs.declared.item.Item.{Item}
use Rattle.swd_recorder.specs.Calls.{recorded_calls_items}
use Rattle.swd_conform.specs.Aims.{ConformStays, ConformUnrefused}
use Rattle.swd_conform.specs.Calls.{conform_requests_by, conform_saw}
use Rattle.swd_conform.specs.declared.aim.Bounds.{Bounds}
use Rattle.swd_conform.specs.Plans.{conform_steps_left}
use Rattle.swd_conform.specs.declared.plan.Plan.{Plan}
use Rattle.swd_conform.specs.declared.run.Conformed.{Conformed}
use Rattle.swd_conform.specs.declared.run.ConformRun.{ConformRun}

-- The verdict is what a check says of the items of these calls, behind those that it took before. The requests are
-- those of these calls, and each transfer that they ask for is where a plan may make one. OK, and WAIT, is told exactly
-- where one of them was answered so, and only where such calls were made, that a transfer was no bus error.
pub record ConformReports {A : Type 0} (bounds : Bounds) (check : Check A) (told : Conformed) (calls : List Call)
    : Type 0 where
  pub stays : ∥ ConformStays bounds calls ∥₁
  pub says : (i : CheckIndex) (seen : List Item) → CheckHolds i check seen
      → CheckSays i (seen ++ recorded_calls_items calls) told.checked
  pub requests : told.requests ≡ conform_requests_by calls
  pub answered : told.answered ≡ conform_saw 1 calls
  pub waited : told.waited ≡ conform_saw 2 calls
  pub unrefused : told.unrefused ≡ true → ∥ ConformUnrefused bounds calls ∥₁

-- a run of this plan, with this check, that made no call
pub record ConformBegins {A : Type 0} (plan : Plan) (check : Check A) (run : ConformRun A) : Type 0 where
  pub plan_of : run.plan ≡ plan
  pub bounds_of : run.bounds ≡ plan.bounds
  pub check_of : run.items.check ≡ check
  pub calls : run.noted.calls ≡ []
  pub requests : run.requests ≡ 0

-- the most steps that are left
abbrev pub conform_run_left : {A : Type 0} → ConformRun A → ℕ
conform_run_left run = conform_steps_left run.plan

-- What a run found so far. The verdict is that of its check.
pub record ConformFinds {A : Type 0} (run : ConformRun A) (told : Conformed) : Type 0 where
  pub says : (i : CheckIndex) (seen : List Item) → CheckHolds i run.items.check seen → CheckSays i seen told.checked
  pub requests : told.requests ≡ run.requests
  pub answered : told.answered ≡ run.answered
  pub waited : told.waited ≡ run.waited
  pub unrefused : told.unrefused ≡ run.unrefused

-- what a run that made no call before says of these calls of a wire
abbrev pub ConformCame : {A : Type 0} → ConformRun A → Conformed → List Call → Type 0
ConformCame run told calls = run.noted.calls ≡ [] → ConformReports run.bounds run.items.check told calls

-- A run made further calls of a wire, the last one first, and its check took their items.
pub record ConformGoes {A W : Type 0} (notes : List Call → W → Type 0) (u : W) (run : ConformRun A) (v : W)
    (now : ConformRun A) : Type 0 where
  pub made : List Call
  pub noted : (calls : List Call) → notes calls u → notes (made ++ calls) v
  pub calls : now.noted.calls ≡ made ++ run.noted.calls
  pub bounds : now.bounds ≡ run.bounds
  pub takes : (i : CheckIndex) (seen : List Item) → CheckHolds i run.items.check (seen ++ recorded_calls_items
      run.noted.calls)
      → CheckHolds i now.items.check (seen ++ recorded_calls_items now.noted.calls)

-- it did so with at most so many requests, and no step of the plan
pub record ConformMakes {A W : Type 0} (notes : List Call → W → Type 0) (most : ℕ) (u : W) (run : ConformRun A) (v : W)
    (now : ConformRun A) : Type 0 where
  pub goes : ConformGoes notes u run v now
  pub requests : now.requests ≤ run.requests + most
  pub left : conform_run_left now ≡ conform_run_left run

-- it may make so many requests before the next step of the plan
abbrev pub ConformHasRoom : {A : Type 0} → ℕ → ConformRun A → Type 0
ConformHasRoom more run = run.requests + 256 * run.plan.left + more ≤ 512000

-- what it spent of its requests, and of those that its steps may make
abbrev pub ConformSpends : {A : Type 0} → ConformRun A → ConformRun A → Type 0
ConformSpends run now = now.requests + 256 * conform_run_left now ≤ run.requests + 256 * conform_run_left run
