-- What a run did, call by call.
use Rattle.std.proofs.Common.{◌≡◌, ◌≤◌, ◌+◌, ℕ, List, [], ◌∷◌, ◌++◌, refl, sym, ap, subst, ◌∙◌, append_assoc}
use Rattle.std.proofs.Common.{append-nil, arith, Bool, true, false, ◌||◌}
use Rattle.std.proofs.Math.Logic.{∥∥₁_map}
use Rattle.swd_port.specs.declared.call.Call.{Call}
use Rattle.swd_port.specs.declared.cue.Cue.{Cue}
use Rattle.swd_trace.specs.declared.item.Item.{Item}
use Rattle.swd_check.specs.declared.check.Check.{Check}
use Rattle.swd_check.specs.Watched.{CheckHolds, CheckSays, CheckTakes}
use Rattle.swd_recorder.specs.Items.{recorded_in_hand_by}
use Rattle.swd_recorder.specs.Calls.{recorded_call_items, recorded_calls_items}
use Rattle.swd_conform.specs.Aims.{ConformStays, ConformUnrefused, earlier}
use Rattle.swd_conform.specs.Calls.{conform_asked, conform_requests_by, conform_saw, conform_sees}
use Rattle.swd_conform.specs.declared.aim.Bounds.{Bounds}
use Rattle.swd_host.specs.Sent.{HostCalls}
use Rattle.swd_conform.specs.Runs.{ConformCame}
use Rattle.swd_conform.specs.Runs.{ConformFinds, ConformGoes, ConformMakes, ConformReports}
use Rattle.swd_conform.specs.Runs.{conform_run_left}
use Rattle.swd_conform.specs.declared.run.Conformed.{Conformed}
use Rattle.swd_conform.specs.declared.run.ConformRun.{ConformRun}

-- the requests, with one call more
pub conform_counts : (cue : Cue) (seen n m : ℕ) (calls now : List Call)
    → now ≡ record { cue = cue; seen = seen } ∷ calls → m ≡ conform_asked cue → n ≡ conform_requests_by calls
    → n + m ≡ conform_requests_by now
conform_counts cue seen n m calls now e a b =
    ap (λ k. n + k) a ∙ ap (λ k. k + conform_asked cue) b ∙ ap conform_requests_by (sym e)

-- whether a request was answered so, with one call more
pub conform_saw_more : (bits : ℕ) (cue : Cue) (seen : ℕ) (is was : Bool) (calls now : List Call)
    → now ≡ record { cue = cue; seen = seen } ∷ calls → is ≡ conform_sees bits cue seen → was ≡ conform_saw bits calls
    → (is || was) ≡ conform_saw bits now
conform_saw_more bits cue seen is was calls now e a b =
    ap (λ k. k || was) a ∙ ap (λ k. conform_sees bits cue seen || k) b ∙ ap (conform_saw bits) (sym e)

-- that a transfer was no bus error, with one call more
pub conform_unrefused_more : (bounds : Bounds) (call : Call) (calls : List Call) (is was : Bool)
    → (is ≡ true → ∥ ConformUnrefused bounds (call ∷ calls) ∥₁) → (was ≡ true → ∥ ConformUnrefused bounds calls ∥₁)
    → (is || was) ≡ true → ∥ ConformUnrefused bounds (call ∷ calls) ∥₁
conform_unrefused_more bounds call calls true was here before e = here refl
conform_unrefused_more bounds call calls false was here before e = ∥∥₁_map (before e) (λ h. earlier call h)

module _ {A W : Type 0} (notes : List Call → W → Type 0) where
  -- no call was made, and nothing that counts changed
  pub conform_goes_none : (u : W) (r t : ConformRun A) → t.noted.calls ≡ r.noted.calls → t.items.check ≡ r.items.check
      → t.bounds ≡ r.bounds → ConformGoes notes u r u t
  conform_goes_none u r t e f g = record {
    made = [];
    noted = λ calls n. n;
    calls = e;
    bounds = g;
    takes = λ i seen x.
        subst (λ (check : Check A). CheckHolds i check (seen ++ recorded_calls_items t.noted.calls)) (sym f)
        (subst (λ (calls : List Call). CheckHolds i r.items.check (seen ++ recorded_calls_items calls)) (sym e) x);
  }

  -- calls, and others after them
  pub conform_goes_trans : (u v w : W) (r s t : ConformRun A) → ConformGoes notes u r v s → ConformGoes notes v s w t
      → ConformGoes notes u r w t
  conform_goes_trans u v w r s t g h = record {
    made = h.made ++ g.made;
    noted = λ calls n. subst (λ (l : List Call). notes l w) (sym (append_assoc h.made g.made calls))
        (h.noted (g.made ++ calls) (g.noted calls n));
    calls = h.calls ∙ ap (λ (l : List Call). h.made ++ l) g.calls ∙ sym (append_assoc h.made g.made r.noted.calls);
    bounds = h.bounds ∙ g.bounds;
    takes = λ i seen x. h.takes i seen (g.takes i seen x);
  }

  -- the same call was made of another wire
  pub conform_goes_step : (cue : Cue) (seen : ℕ) (u v : W) (r t : ConformRun A)
      → ((calls : List Call) → notes calls u → notes (record { cue = cue; seen = seen } ∷ calls) v)
      → t.noted.calls ≡ record { cue = cue; seen = seen } ∷ r.noted.calls
      → CheckTakes (recorded_call_items (recorded_in_hand_by r.noted.calls) cue seen) r.items.check t.items.check
      → t.bounds ≡ r.bounds → ConformGoes notes u r v t
  conform_goes_step cue seen u v r t h e takes same = record {
    made = record { cue = cue; seen = seen } ∷ [];
    noted = λ calls n. h calls n;
    calls = e;
    bounds = same;
    takes = λ i before x.
        let items = recorded_calls_items r.noted.calls in
        let more = recorded_call_items (recorded_in_hand_by r.noted.calls) cue seen in
        subst (λ (l : List Item). CheckHolds i t.items.check l)
        (append_assoc before items more ∙ ap (λ (l : List Call). before ++ recorded_calls_items l) (sym e))
        (takes i (before ++ items) x);
  }

  -- a run that made no call, and whose check took nothing
  pub conform_makes_none : (u : W) (r t : ConformRun A) → t.noted.calls ≡ r.noted.calls
      → t.items.check ≡ r.items.check → t.requests ≡ r.requests → t.bounds ≡ r.bounds
      → conform_run_left t ≡ conform_run_left r → ConformMakes notes 0 u r u t
  conform_makes_none u r t e f g same h = record {
    goes = conform_goes_none u r t e f same;
    requests = omega (arith, g);
    left = h;
  }

  -- calls, and calls after them
  pub conform_makes_trans : (k m n : ℕ) (u v w : W) (r s t : ConformRun A) → m + n ≤ k → ConformMakes notes m u r v s
      → ConformMakes notes n v s w t → ConformMakes notes k u r w t
  conform_makes_trans k m n u v w r s t few g h = record {
    goes = conform_goes_trans u v w r s t g.goes h.goes;
    requests = omega (arith, few, g.requests, h.requests);
    left = h.left ∙ g.left;
  }

  -- what makes so many requests at most makes more at most
  pub conform_makes_more : (m n : ℕ) (u v : W) (r t : ConformRun A) → m ≤ n → ConformMakes notes m u r v t
      → ConformMakes notes n u r v t
  conform_makes_more m n u v r t few g = record {
    goes = g.goes;
    requests = omega (arith, few, g.requests);
    left = g.left;
  }

  -- what a run reports that made no call before
  pub conform_reports : (bounds : Bounds) (check : Check A) (told : Conformed) (u v : W) (r t : ConformRun A)
      → r.bounds ≡ bounds → r.items.check ≡ check → r.noted.calls ≡ [] → ConformGoes notes u r v t → ConformFinds t told
      → HostCalls notes (ConformReports bounds check told) u v
  conform_reports bounds check told u v r t same is none g f calls n =
      let all : t.noted.calls ≡ g.made =
      g.calls ∙ ap (λ (l : List Call). g.made ++ l) none ∙ append-nil g.made in (
        g.made,
        g.noted calls n,
        record {
          stays = subst (λ (l : List Call). ∥ ConformStays bounds l ∥₁) all
              (subst (λ (here : Bounds). ∥ ConformStays here t.noted.calls ∥₁) (g.bounds ∙ same) t.stays);
          says = λ i seen x.
              let first : CheckHolds i r.items.check (seen ++ recorded_calls_items r.noted.calls) =
              subst (λ (l : List Call). CheckHolds i r.items.check (seen ++ recorded_calls_items l)) (sym none)
              (subst (λ (l : List Item). CheckHolds i r.items.check l) (sym (append-nil seen))
              (subst (λ (check : Check A). CheckHolds i check seen) (sym is) x)) in
              subst (λ (l : List Call). CheckSays i (seen ++ recorded_calls_items l) told.checked) all
              (f.says i (seen ++ recorded_calls_items t.noted.calls) (g.takes i seen first));
          requests = f.requests ∙ t.counted ∙ ap conform_requests_by all;
          answered = f.answered ∙ t.heard ∙ ap (conform_saw 1) all;
          waited = f.waited ∙ t.slowed ∙ ap (conform_saw 2) all;
          unrefused = λ is. subst (λ (l : List Call). ∥ ConformUnrefused bounds l ∥₁) all
              (subst (λ (here : Bounds). ∥ ConformUnrefused here t.noted.calls ∥₁) (g.bounds ∙ same)
              (t.denied (sym f.unrefused ∙ is)));
        },
      )

-- what a job over a wire reports that made no call before
pub conform_came : {A W : Type 0} (calls_of : W → List Call) (told : Conformed) (u v : W) (r t : ConformRun A)
    → calls_of u ≡ [] → ConformGoes (λ calls w. calls_of w ≡ calls) u r v t → ConformFinds t told
    → ConformCame r told (calls_of v)
conform_came {A} {W} calls_of told u v r t empty g f none =
    let out = conform_reports (λ calls w. calls_of w ≡ calls) r.bounds r.items.check told u v r t refl refl none g f []
    empty in
    subst (λ (l : List Call). ConformReports r.bounds r.items.check told l) (sym (out.1 ∙ append-nil out.0)) out.2
