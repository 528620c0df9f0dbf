-- Runs of a script, one after the other.
use Rattle.std.proofs.Common.{◌≡◌, ℕ, zero, suc, ◌+◌, ◌<◌, ◌≤◌, ◌∙◌, List, [], ◌∷◌, ◌++◌, length, take, drop, map}
use Rattle.std.proofs.Common.{get_or, Bool, true, false, refl, sym, ap, subst, arith, add-one, append_assoc}
use Rattle.std.specs.Prelude.{◌↔◌, All as Each}
use Rattle.std.proofs.Math.Seq.{drop-cons, take-suc}
use Rattle.swd_port.specs.declared.wire.Wire.{Ghosts}
use Rattle.swd_port.specs.declared.mark.Mark.{Mark}
use Rattle.swd_port.specs.declared.wire.Due.{Due}
use Rattle.swd_port.specs.declared.wire.Due.TheVariants.{Nothing, Lost as DueLost}
use Rattle.swd_port.specs.MarkCounts.{port_disturbed_among, port_lost_among}
use Rattle.swd_port.specs.Made.{port_made as made_port}
use Rattle.swd_recorder.specs.Steps.{recorded_due_count}
use Rattle.swd_host.specs.declared.outcome.End.TheVariants.{All, Lost}
use Rattle.swd_host.specs.Reports.{IsAtRest, host_due_at_end}
use Rattle.swd_script.specs.Scripts.{ScriptListed, ScriptMeaning}
use Rattle.swd_host.specs.declared.task.Bursts.{Bursts}
use Rattle.swd_run.specs.declared.limits.Limits.{Limits}
use Rattle.swd_run.specs.GoingOn.{script_calls_in_all}
use Rattle.swd_run.specs.Running.{RunsScript, ScriptSession, none as no_run, then as then_run}
use Rattle.swd_run.specs.ScriptDevices.{script_bus}
use Rattle.swd_run.specs.Sessions.{batch_bursts, ScriptRun, RunsBatchFrom, RunsBatches, script_ended, none, then}
use Rattle.swd_run.specs.Sessions.{script_is_open, script_requests}
use Rattle.swd_run.specs.Starts.{ScriptStarts}
use Rattle.swd_run.specs.Unfoldings.{BatchRuns, Unfolds, calls_of, runs_of}
use Rattle.swd_run.proofs.RunLemmas.{IsRunTraceRecorded, script_target_at_rest}
use Rattle.swd_run.proofs.WentLemmas.{asked, due_after, ending, law_before, opens, plan_kept, runs_on}

-- ---- lists of runs

-- runs end as the last one ends
pub script_ended_last : (runs : List ScriptRun) (run : ScriptRun) → script_ended (runs ++ run ∷ []) ≡ run.told.ended
script_ended_last [] run = refl
script_ended_last (first ∷ []) run = refl
script_ended_last (first ∷ next ∷ runs) run = script_ended_last (next ∷ runs) run

-- after a run the target is open
pub script_open_last : (opened : Bool) (runs : List ScriptRun) (run : ScriptRun)
    → script_is_open opened (runs ++ run ∷ []) ≡ true
script_open_last opened [] run = refl
script_open_last opened (first ∷ runs) run = refl

-- and so it is after runs and a further one
pub script_open_later : (opened : Bool) (runs more : List ScriptRun) (run : ScriptRun)
    → script_is_open opened (runs ++ (more ++ run ∷ [])) ≡ true
script_open_later opened runs more run =
    ap (script_is_open opened) (sym (append_assoc runs more (run ∷ []))) ∙ script_open_last opened (runs ++ more) run

requests_last : (runs : List ScriptRun) (run : ScriptRun)
    → script_requests (runs ++ run ∷ []) ≡ script_requests runs + (script_calls_in_all run.stops run.told).requests
requests_last [] run = omega arith
requests_last (first ∷ runs) run = let h = requests_last runs run in omega (arith, h)

-- a mapped list has as many items as the list
pub batch_map_length : {X Y : Type 0} (f : X → Y) (xs : List X) → length (map f xs) ≡ length xs
batch_map_length f [] = refl
batch_map_length f (x ∷ xs) = ap (λ n. suc n) (batch_map_length f xs)

pub batch_map_at : {X Y : Type 0} (f : X → Y) (xs : List X) (i : ℕ) (d : X)
    → get_or (map f xs) i (f d) ≡ f (get_or xs i d)
batch_map_at f [] i d = refl
batch_map_at f (x ∷ xs) zero d = refl
batch_map_at f (x ∷ xs) (suc i) d = batch_map_at f xs i d

-- one item more of the front of a list
pub batch_map_take_next : {X Y : Type 0} (f : X → Y) (xs : List X) (i : ℕ) (d : X) → i < length xs
    → take (i + 1) (map f xs) ≡ take i (map f xs) ++ f (get_or xs i d) ∷ []
batch_map_take_next f xs i d low =
    let many : length (map f xs) ≡ length xs = batch_map_length f xs in
    ap (λ n. take n (map f xs)) (add-one i) ∙ take-suc (map f xs) i (f d) (omega (arith, many, low))
    ∙ ap (λ y. take i (map f xs) ++ y ∷ []) (batch_map_at f xs i d)

-- what is left of a list from an item on
pub batch_map_drop_next : {X Y : Type 0} (f : X → Y) (xs : List X) (i : ℕ) (d : X) → i < length xs
    → drop i (map f xs) ≡ f (get_or xs i d) ∷ drop (suc i) (map f xs)
batch_map_drop_next f xs i d low =
    let many : length (map f xs) ≡ length xs = batch_map_length f xs in
    drop-cons (map f xs) i (f d) (omega (arith, many, low))
    ∙ ap (λ y. y ∷ drop (suc i) (map f xs)) (batch_map_at f xs i d)

-- ---- runs over a wire

module _ {W : Type 0} (wire : Ghosts W) (limits : Limits) (s : W) where
  -- nothing is due after a run that ended `All`
  pub due_then : {opened : Bool} (batch : ScriptListed) (run : ScriptRun) (t u : W) → run.told.ended ≡ All
      → RunsBatchFrom wire opened (batch_bursts limits.bursts batch) limits batch t run u
      → (wire.port u).link.due ≡ Nothing
  due_then batch run t u all goes =
      due_after wire (batch_bursts limits.bursts batch) batch.accesses limits.tries t run.stops run.told u goes.went
      ∙ ap host_due_at_end all

  -- from a target at rest
  module _ (rest : IsAtRest (wire.port s)) where
    pub record Ends (runs : List ScriptRun) (t : W) : Type 0 where
      pub law : wire.lawful s
      pub open_for : script_ended runs ≡ All → ScriptStarts (script_is_open false runs) (wire.port t)
      pub counted : (wire.port t).tally.asked ≡ (wire.port s).tally.asked + script_requests runs
      pub ending : (recorded_due_count (wire.port t).link.due ≡ 0)
          × (((wire.port t).link.due ≡ DueLost) ↔ (script_ended runs ≡ Lost))

    -- after runs of a script that leave a lawful wire, all of this holds
    pub ends : (batches : List ScriptListed) (runs : List ScriptRun) (t : W)
        → RunsBatches wire false (batch_bursts limits.bursts) limits s batches runs t → wire.lawful t → Ends runs t
    ends batches runs t none law = record {
      law = law;
      open_for = λ all. rest;
      counted = omega arith;
      ending = (
        ap recorded_due_count rest.due,
        (λ lost. absurd (apart (wire.port s).link.due rest.due lost), λ lost. absurd cc),
      );
    }
      where
        apart : (due : Due) → due ≡ Nothing → due ≡ DueLost → ⊥
        apart due e d = cc
    ends batches runs t (then {batches = before} {runs = earlier} {t = u} {u = v} {batch = batch} {run = run}
        runs_before all goes) law =
        let n : Bursts = batch_bursts limits.bursts batch in
        let back : wire.lawful u = law_before wire n batch.accesses limits.tries u run.stops run.told v goes.went law in
        let h : Ends earlier u = ends before earlier u runs_before back in
        let r : ScriptStarts (script_is_open false earlier) (wire.port u) = h.open_for all in
        let last : script_ended (earlier ++ run ∷ []) ≡ run.told.ended = script_ended_last earlier run in
        let many = asked wire n batch.accesses limits.tries u r run.stops run.told v goes.went law in
        let ending_is = ending wire n batch.accesses limits.tries u r run.stops run.told v goes.went law in
        let before_counted = h.counted in
        let sum = requests_last earlier run in
        record {
          law = h.law;
          open_for = λ e. subst (λ opened. ScriptStarts opened (wire.port v)) (sym (script_open_last false earlier run))
              (opens wire n batch.accesses limits.tries u r run.stops run.told v goes.went law (sym last ∙ e));
          counted = omega (arith, many, before_counted, sum);
          ending = subst (λ x. (recorded_due_count (wire.port v).link.due ≡ 0)
              × (((wire.port v).link.due ≡ DueLost) ↔ (x ≡ Lost))) (sym last) ending_is;
        }

    -- over a lawful wire, from a target at rest and a count of 0, the requests counted are those of the runs; no
    -- transaction is incomplete, and a line reset is due exactly if the runs ended `Lost`
    pub recorded : (batches : List ScriptListed) (runs : List ScriptRun) (t : W) → (wire.port s).tally.asked ≡ 0
        → RunsBatches wire false (batch_bursts limits.bursts) limits s batches runs t → wire.lawful t
        → IsRunTraceRecorded (script_requests runs) (script_ended runs) (wire.port t)
    recorded batches runs t no_request all law =
        let h : Ends runs t = ends batches runs t all law in
        let many = h.counted in
        record { asked = omega (arith, many, no_request); rests = h.ending.0; lost = h.ending.1 }

    -- whose marks are among those of a plan
    module _ (marks : List Mark) (planned : wire.plan s ≡ marks)
        (marked : (w : W) → wire.plan w ≡ marks
        → ((wire.port w).tally.disturbed ≤ port_disturbed_among marks)
        × ((wire.port w).tally.lost ≤ port_lost_among marks)) where
      pub sessions : (batches : List ScriptListed) (runs : List ScriptRun) (t : W)
          → RunsBatches wire false (batch_bursts limits.bursts) limits s batches runs t → wire.lawful t
          → (wire.plan t ≡ marks) × ScriptSession limits marks (wire.port s).target.memory batches runs
          (wire.port t).target.memory
      sessions batches runs t none law = (planned, no_run)
      sessions batches runs t (then {batches = before} {runs = earlier} {t = u} {u = v} {batch = batch} {run = run}
          runs_before all goes) law =
          let n : Bursts = batch_bursts limits.bursts batch in
          let back : wire.lawful u = law_before wire n batch.accesses limits.tries u run.stops run.told v goes.went
          law in
          let (same, session) = sessions before earlier u runs_before back in
          let opened : Bool = script_is_open false earlier in
          let r : ScriptStarts opened (wire.port u) = (ends before earlier u runs_before back).open_for all in (
            plan_kept wire n batch.accesses limits.tries u run.stops run.told v goes.went ∙ same,
            then_run session all
                (runs_on wire opened limits batch marks run u v r law goes same marked),
          )

-- ---- batches and runs as they are kept

-- each batch of a list is one that a host takes
pub each_batch_at : {X : Type 0} (P : ScriptListed → Type 0) (f : X → ScriptListed) (xs : List X) (i : ℕ) (x : X)
    → Each P (map f xs) → x ≡ get_or xs i x → i < length xs → P (f x)
each_batch_at P f xs i x each is low =
    subst P (batch_map_at f xs i x ∙ ap f (sym is))
    (each i (f x) (let many = batch_map_length f xs in omega (arith, many, low)))

-- ---- a script over a target that was just made

module _ {W : Type 0} (wire : Ghosts W) (limits : Limits)
    (script : ScriptMeaning) (marks : List Mark) (made : List BatchRuns) (s t : W)
    (is_made : wire.port s ≡ made_port 731911287 (script_bus script)) (planned : wire.plan s ≡ marks)
    (marked : (w : W) → wire.plan w ≡ marks
    → ((wire.port w).tally.disturbed ≤ port_disturbed_among marks) × ((wire.port w).tally.lost ≤ port_lost_among marks))
    (law : wire.lawful t) (unfolds : Unfolds (take (length made) script.batches) made)
    (all : RunsBatches wire false (batch_bursts limits.bursts) limits s (calls_of script.batches made) (runs_of made) t)
  where
    -- over a lawful wire the runs of a script's first batches are those from its initial memory, and leave the target's
    -- memory
    pub script_runs : RunsScript limits script marks made (wire.port t).target.memory
    script_runs =
        let rest : IsAtRest (wire.port s) = script_target_at_rest (script_bus script) (wire.port s) is_made in
        let calls : List ScriptListed = calls_of script.batches made in
        let (same, session) = sessions wire limits s rest marks planned marked calls (runs_of made) t
        all law in
        record {
          unfolds = unfolds;
          session = subst (λ m. ScriptSession limits marks m calls (runs_of made) (wire.port t).target.memory)
              (ap (λ x. x.target.memory) is_made) session;
        }
