-- What a script's batches unfold to, and one batch more.
use Rattle.std.proofs.Common.{◌≡◌, ℕ, suc, ◌+◌, ◌<◌, ◌≤◌, ◌∙◌, Bool, true, false, List, [], ◌∷◌, ◌++◌, length, take}
use Rattle.std.proofs.Common.{Option, None, Some, refl, sym, ap, ap₂, subst, append_assoc, arith}
use Rattle.std.specs.Prelude.{◌||◌, ◌&&◌, IfSome}
use Rattle.std.specs.List.{list_all}
use Rattle.std.proofs.lemmas.List.{append-nil, length-append, map-append}
use Rattle.swd_port.specs.declared.access.Answer.{Answer}
use Rattle.swd_port.specs.declared.access.Answer.TheVariants.{Value, Written, BusFault}
use Rattle.swd_port.specs.declared.wire.Wire.{Ghosts}
use Rattle.swd_host.specs.declared.task.Bursts.{Bursts}
use Rattle.swd_host.specs.declared.outcome.End.{End}
use Rattle.swd_host.specs.declared.outcome.End.TheVariants.{All, Lost, TriesOut, WrongId, Confused}
use Rattle.swd_host.specs.Resuming.{host_end_is_all}
use Rattle.swd_script.specs.declared.batch.Until.{Until}
use Rattle.swd_script.specs.Scripts.{ScriptListed}
use Rattle.swd_script.specs.Laws.{IsScriptBatch, IsScriptUntil}
use Rattle.swd_run.specs.declared.limits.Limits.{Limits}
use Rattle.swd_run.specs.declared.verified.Difference.{Difference}
use Rattle.swd_run.specs.Sessions.{ScriptRun, RunsBatchFrom, IsBatchRefused, RunsBatches, script_ended, batch_bursts}
use Rattle.swd_run.specs.Sessions.{script_is_open, none, then}
use Rattle.swd_run.specs.Verified.{verify_difference_in, first_difference, report_has_bus_fault, runs_met_bus_fault}
use Rattle.swd_run.specs.Verified.{verify_or_else}
use Rattle.swd_run.specs.Unfoldings.{AreEarlierReads, AreRunsOfBatch, BatchRuns, IsCutShort, IsLastRead, Performs}
use Rattle.swd_run.specs.Unfoldings.{Unfolds, batch_again, asks_again, calls_of, ends_until, is_other_until_word}
use Rattle.swd_run.specs.Unfoldings.{until_never_came, no_batch, one_more, batch_reads_of, runs_of}
use Rattle.swd_run.proofs.SessionLemmas.{script_ended_last, script_open_last}

-- of two tests that both passed, each passed
pub until_and_left : (a b : Bool) → (a && b) ≡ true → a ≡ true
until_and_left true b e = refl
until_and_left false b e = absurd cc

-- where both bits are set, the second is
pub until_and_right : (a b : Bool) → (a && b) ≡ true → b ≡ true
until_and_right true b e = e
until_and_right false b e = absurd cc

-- where each of two bits is set, both are
pub until_and_both : (a b : Bool) → a ≡ true → b ≡ true → (a && b) ≡ true
until_and_both true b e f = f
until_and_both false b e f = absurd cc

-- ---- the ends of runs

ended_all : (ended : End) → host_end_is_all ended ≡ true → ended ≡ All
ended_all All e = refl
ended_all Lost e = absurd cc
ended_all TriesOut e = absurd cc
ended_all (WrongId word) e = absurd cc
ended_all Confused e = absurd cc

-- a read that asks for another ended `All`
pub until_reread_ended_all : (until : Until) (run : ScriptRun) → asks_again until run ≡ true → run.told.ended ≡ All
until_reread_ended_all until run e =
    ended_all run.told.ended (until_and_left (host_end_is_all run.told.ended)
    (is_other_until_word until run.told.answers) e)

-- reads that ask for another ended `All`
pub until_rereads_ended_all : (until : Until) (runs : List ScriptRun)
    → list_all (λ run. asks_again until run) runs ≡ true → script_ended runs ≡ All
until_rereads_ended_all until [] e = refl
until_rereads_ended_all until (run ∷ []) e =
    until_reread_ended_all until run (until_and_left (asks_again until run) true e)
until_rereads_ended_all until (run ∷ next ∷ runs) e =
    until_rereads_ended_all until (next ∷ runs)
    (until_and_right (asks_again until run) (list_all (λ run. asks_again until run) (next ∷ runs)) e)

-- so did the earlier runs of a batch
pub earlier_reads_ended_all : (until : Option Until) (earlier : List ScriptRun) → AreEarlierReads until earlier
    → script_ended earlier ≡ All
earlier_reads_ended_all None earlier e = ap script_ended e
earlier_reads_ended_all (Some until) earlier e = until_rereads_ended_all until earlier e.0

ended_append : (first second : List ScriptRun) → script_ended first ≡ All → script_ended second ≡ All
    → script_ended (first ++ second) ≡ All
ended_append [] second e f = f
ended_append (run ∷ []) [] e f = e
ended_append (run ∷ []) (next ∷ second) e f = f
ended_append (run ∷ next ∷ first) second e f = ended_append (next ∷ first) second e f

-- one read more that asks for another
pub until_rereads_append : (until : Until) (earlier : List ScriptRun) (run : ScriptRun)
    → list_all (λ run. asks_again until run) earlier ≡ true → asks_again until run ≡ true
    → list_all (λ run. asks_again until run) (earlier ++ run ∷ []) ≡ true
until_rereads_append until [] run e f = until_and_both (asks_again until run) true f refl
until_rereads_append until (first ∷ earlier) run e f =
    until_and_both (asks_again until first) (list_all (λ run. asks_again until run) (earlier ++ run ∷ []))
    (until_and_left (asks_again until first) (list_all (λ run. asks_again until run) earlier) e)
    (until_rereads_append until earlier run
    (until_and_right (asks_again until first) (list_all (λ run. asks_again until run) earlier) e) f)

-- ---- runs after runs

-- whether the target is open after runs and others
script_open_append : (opened : Bool) (first second : List ScriptRun)
    → script_is_open (script_is_open opened first) second ≡ script_is_open opened (first ++ second)
script_open_append opened [] [] = refl
script_open_append opened [] (run ∷ second) = refl
script_open_append opened (run ∷ first) [] = refl
script_open_append opened (run ∷ first) (next ∷ second) = refl

module _ {W : Type 0} (wire : Ghosts W) (opened : Bool)
    (most : ScriptListed → Bursts) (limits : Limits) where
  -- runs after runs that all ended `All`
  pub runs_append : (s t : W) (xs : List ScriptListed) (first : List ScriptRun) (u : W) (ys : List ScriptListed)
      (second : List ScriptRun)
      → RunsBatches wire opened most limits s xs first t → script_ended first ≡ All
      → RunsBatches wire (script_is_open opened first) most limits t ys second u
      → RunsBatches wire opened most limits s (xs ++ ys) (first ++ second) u
  runs_append s t xs first u ys second before all none =
      subst (λ z. RunsBatches wire opened most limits s z (first ++ []) u) (sym (append-nil xs))
      (subst (λ z. RunsBatches wire opened most limits s xs z u) (sym (append-nil first)) before)
  runs_append s t xs first u ys second before all
      (then {batches = front} {runs = earlier} {t = v} {u = w} {batch = batch} {run = run} prior ended goes) =
      let whole = runs_append s t xs first v front earlier before all prior in
      subst (λ z. RunsBatches wire opened most limits s z (first ++ (earlier ++ run ∷ [])) w)
      (append_assoc xs front (batch ∷ []))
      (subst (λ z. RunsBatches wire opened most limits s ((xs ++ front) ++ batch ∷ []) z w)
      (append_assoc first earlier (run ∷ []))
      (then whole (ended_append first earlier all ended)
      (subst (λ o. RunsBatchFrom wire o (most batch) limits batch v run w)
      (script_open_append opened first earlier) goes)))

-- a batch once more
pub batch_again_append : (batch : ScriptListed) (earlier : List ScriptRun) (run : ScriptRun)
    → batch_again batch (earlier ++ run ∷ []) ≡ batch_again batch earlier ++ batch ∷ []
batch_again_append batch earlier run = map-append (λ run. batch) earlier (run ∷ [])

-- ---- the calls of batches, and of one batch more

-- there are runs of as many batches
pub unfolded_batch_count : (batches : List ScriptListed) (made : List BatchRuns) → Unfolds batches made
    → length made ≡ length batches
unfolded_batch_count batches made no_batch = refl
unfolded_batch_count batches made (one_more {batches = before} {made = earlier} {batch = batch} {runs = runs} prior came
    are) =
    let many = unfolded_batch_count before earlier prior in
    let made_are = length-append earlier (runs ∷ []) in
    let batches_are = length-append before (batch ∷ []) in
    omega (arith, many, made_are, batches_are)

-- the runs, with those of one batch more
pub unfolded_runs_last : (made : List BatchRuns) (runs : BatchRuns)
    → runs_of (made ++ runs ∷ []) ≡ runs_of made ++ (runs.earlier ++ runs.last ∷ [])
unfolded_runs_last [] runs = refl
unfolded_runs_last (first ∷ made) runs =
    let more : List ScriptRun = runs.earlier ++ runs.last ∷ [] in
    ap (λ l. first.earlier ++ first.last ∷ l) (unfolded_runs_last made runs)
    ∙ sym (append_assoc first.earlier (first.last ∷ runs_of made) more)

-- the calls, with those of one batch more
pub unfolded_calls_last : (batches : List ScriptListed) (made : List BatchRuns) (batch : ScriptListed)
    (runs : BatchRuns) → length made ≡ length batches
    → calls_of (batches ++ batch ∷ []) (made ++ runs ∷ [])
    ≡ calls_of batches made ++ (batch_again batch runs.earlier ++ batch ∷ [])
unfolded_calls_last [] [] batch runs same = refl
unfolded_calls_last [] (v ∷ made) batch runs same = absurd (omega (arith, same))
unfolded_calls_last (u ∷ batches) [] batch runs same = absurd (omega (arith, same))
unfolded_calls_last (u ∷ batches) (v ∷ made) batch runs same =
    let more : List ScriptListed = batch_again batch runs.earlier ++ batch ∷ [] in
    ap (λ l. batch_again u v.earlier ++ u ∷ l) (unfolded_calls_last batches made batch runs (omega (arith, same)))
    ∙ sym (append_assoc (batch_again u v.earlier) (u ∷ calls_of batches made) more)

-- without runs there is no call, and none waits for a word
pub unfolded_calls_empty : (batches : List ScriptListed) → calls_of batches [] ≡ []
unfolded_calls_empty [] = refl
unfolded_calls_empty (batch ∷ batches) = refl

-- without runs none is the read of an `until` whose word never came
pub unfolded_until_empty : (batches : List ScriptListed) → ends_until batches [] ≡ false
unfolded_until_empty [] = refl
unfolded_until_empty (batch ∷ batches) = refl

-- batches without runs add no call
pub unfolded_calls_front : (batches : List ScriptListed) (made : List BatchRuns)
    → calls_of (take (length made) batches) made ≡ calls_of batches made
unfolded_calls_front [] [] = refl
unfolded_calls_front [] (v ∷ made) = refl
unfolded_calls_front (u ∷ batches) [] = refl
unfolded_calls_front (u ∷ batches) (v ∷ made) =
    ap (λ l. batch_again u v.earlier ++ u ∷ l) (unfolded_calls_front batches made)

-- how the last one ended
pub unfolded_runs_ended : (made : List BatchRuns) (runs : BatchRuns)
    → script_ended (runs_of (made ++ runs ∷ [])) ≡ runs.last.told.ended
unfolded_runs_ended made runs =
    ap script_ended (unfolded_runs_last made runs ∙ sym (append_assoc (runs_of made) runs.earlier (runs.last ∷ [])))
    ∙ script_ended_last (runs_of made ++ runs.earlier) runs.last

-- whether the last one is an `until` whose word never came
pub unfolded_until_last : (batches : List ScriptListed) (made : List BatchRuns) (batch : ScriptListed)
    (runs : BatchRuns) → length made ≡ length batches
    → ends_until (batches ++ batch ∷ []) (made ++ runs ∷ []) ≡ until_never_came batch.until runs.last.told
unfolded_until_last [] [] batch runs same = refl
unfolded_until_last [] (v ∷ made) batch runs same = absurd (omega (arith, same))
unfolded_until_last (u ∷ batches) [] batch runs same = absurd (omega (arith, same))
unfolded_until_last (u ∷ []) (v ∷ []) batch runs same = refl
unfolded_until_last (u ∷ []) (v ∷ w ∷ made) batch runs same = absurd (omega (arith, same))
unfolded_until_last (u ∷ x ∷ batches) (v ∷ []) batch runs same = absurd (omega (arith, same))
unfolded_until_last (u ∷ x ∷ batches) (v ∷ w ∷ made) batch runs same =
    unfolded_until_last (x ∷ batches) (w ∷ made) batch runs (omega (arith, same))

-- batches without runs make no difference to that
pub unfolded_until_front : (batches : List ScriptListed) (made : List BatchRuns)
    → ends_until (take (length made) batches) made ≡ ends_until batches made
unfolded_until_front [] [] = refl
unfolded_until_front [] (v ∷ made) = refl
unfolded_until_front (u ∷ batches) [] = refl
unfolded_until_front (u ∷ batches) (v ∷ []) = refl
unfolded_until_front (u ∷ batches) (v ∷ w ∷ made) = unfolded_until_front batches (w ∷ made)

-- ---- differences and bus errors

-- there is a run of each call
calls_many : (batches : List ScriptListed) (made : List BatchRuns) → length made ≡ length batches
    → length (runs_of made) ≡ length (calls_of batches made)
calls_many [] [] same = refl
calls_many [] (v ∷ made) same = absurd (omega (arith, same))
calls_many (u ∷ batches) [] same = absurd (omega (arith, same))
calls_many (u ∷ batches) (v ∷ made) same =
    let rest = calls_many batches made (omega (arith, same)) in
    let runs_are = length-append v.earlier (v.last ∷ runs_of made) in
    let calls_are = length-append (batch_again u v.earlier) (u ∷ calls_of batches made) in
    let many = again_many u v.earlier in
    omega (arith, rest, runs_are, calls_are, many)
  where
    again_many : (batch : ScriptListed) (earlier : List ScriptRun) → length (batch_again batch earlier) ≡ length earlier
    again_many batch [] = refl
    again_many batch (run ∷ earlier) = ap (λ n. suc n) (again_many batch earlier)

or_later : (first second third : Option Difference)
    → verify_or_else first (verify_or_else second third) ≡ verify_or_else (verify_or_else first second) third
or_later (Some found) second third = refl
or_later None second third = refl

or_none : (first : Option Difference) → verify_or_else first None ≡ first
or_none (Some found) = refl
or_none None = refl

difference_append : (calls more : List ScriptListed) (runs others : List ScriptRun) → length runs ≡ length calls
    → first_difference (calls ++ more) (runs ++ others)
    ≡ verify_or_else (first_difference calls runs) (first_difference more others)
difference_append [] more [] others same = refl
difference_append [] more (v ∷ runs) others same = absurd (omega (arith, same))
difference_append (u ∷ calls) more [] others same = absurd (omega (arith, same))
difference_append (u ∷ calls) more (v ∷ runs) others same =
    ap (verify_or_else (verify_difference_in u.expected v.told.answers))
    (difference_append calls more runs others (omega (arith, same)))
    ∙ or_later (verify_difference_in u.expected v.told.answers) (first_difference calls runs)
    (first_difference more others)

-- an `until` has no word to verify
no_difference : (batch : ScriptListed) (earlier : List ScriptRun) → IsScriptBatch batch
    → AreEarlierReads batch.until earlier
    → (last : ScriptRun) → first_difference (batch_again batch earlier ++ batch ∷ []) (earlier ++ last ∷ [])
    ≡ verify_difference_in batch.expected last.told.answers
no_difference batch earlier is are last = by batch.until are is.waits
  where
    nothing : batch.expected ≡ [] → (runs : List ScriptRun)
        → first_difference (batch_again batch runs ++ batch ∷ []) (runs ++ last ∷ [])
        ≡ verify_difference_in batch.expected last.told.answers
    nothing e [] = or_none (verify_difference_in batch.expected last.told.answers)
    nothing e (run ∷ runs) =
        ap (λ reads. verify_or_else (verify_difference_in reads run.told.answers)
        (first_difference (batch_again batch runs ++ batch ∷ []) (runs ++ last ∷ []))) e
        ∙ nothing e runs

    by : (until : Option Until) → AreEarlierReads until earlier → IfSome until (λ until. IsScriptUntil until batch)
        → first_difference (batch_again batch earlier ++ batch ∷ []) (earlier ++ last ∷ [])
        ≡ verify_difference_in batch.expected last.told.answers
    by None none_there waits =
        ap (λ runs. first_difference (batch_again batch runs ++ batch ∷ []) (runs ++ last ∷ [])) none_there
        ∙ or_none (verify_difference_in batch.expected last.told.answers)
    by (Some until) asked waits = nothing waits.nothing_expected earlier

-- the first difference, with one batch more
pub unfolded_difference_last : (batches : List ScriptListed) (made : List BatchRuns) (batch : ScriptListed)
    (runs : BatchRuns) → length made ≡ length batches → IsScriptBatch batch → AreRunsOfBatch batch runs
    → first_difference (calls_of (batches ++ batch ∷ []) (made ++ runs ∷ [])) (runs_of (made ++ runs ∷ []))
    ≡ verify_or_else (first_difference (calls_of batches made) (runs_of made))
    (verify_difference_in batch.expected runs.last.told.answers)
unfolded_difference_last batches made batch runs same is are =
    ap₂ first_difference (unfolded_calls_last batches made batch runs same) (unfolded_runs_last made runs)
    ∙ difference_append (calls_of batches made) (batch_again batch runs.earlier ++ batch ∷ []) (runs_of made)
    (runs.earlier ++ runs.last ∷ []) (calls_many batches made same)
    ∙ ap (verify_or_else (first_difference (calls_of batches made) (runs_of made)))
    (no_difference batch runs.earlier is are.earlier runs.last)

either_later : (a b c : Bool) → (a || (b || c)) ≡ ((a || b) || c)
either_later true b c = refl
either_later false b c = refl

either_none : (a : Bool) → (a || false) ≡ a
either_none true = refl
either_none false = refl

fault_append : (runs others : List ScriptRun)
    → runs_met_bus_fault (runs ++ others) ≡ (runs_met_bus_fault runs || runs_met_bus_fault others)
fault_append [] others = refl
fault_append (run ∷ runs) others =
    ap (λ later. report_has_bus_fault run.told.answers || later) (fault_append runs others)
    ∙ either_later (report_has_bus_fault run.told.answers) (runs_met_bus_fault runs) (runs_met_bus_fault others)

-- a read that asks for another wasn't answered with a bus error
no_fault : (until : Until) (answers : List Answer) → is_other_until_word until answers ≡ true
    → report_has_bus_fault answers ≡ false
no_fault until [] e = refl
no_fault until (Value word ∷ []) e = refl
no_fault until (Value word ∷ next ∷ answers) e = absurd cc
no_fault until (Written ∷ answers) e = absurd cc
no_fault until (BusFault ∷ answers) e = absurd cc

no_faults : (until : Option Until) (earlier : List ScriptRun) → AreEarlierReads until earlier
    → runs_met_bus_fault earlier ≡ false
no_faults None earlier e = ap runs_met_bus_fault e
no_faults (Some until) earlier e = each earlier e.0
  where
    each : (runs : List ScriptRun) → list_all (λ run. asks_again until run) runs ≡ true
        → runs_met_bus_fault runs ≡ false
    each [] e = refl
    each (run ∷ runs) e =
        let asked = until_and_left (asks_again until run) (list_all (λ run. asks_again until run) runs) e in
        let rest = until_and_right (asks_again until run) (list_all (λ run. asks_again until run) runs) e in
        ap (λ b. b || runs_met_bus_fault runs) (no_fault until run.told.answers
        (until_and_right (host_end_is_all run.told.ended) (is_other_until_word until run.told.answers) asked)) ∙ each
        runs rest

-- whether an access was a bus error, with one batch more
pub unfolded_bus_fault_last : (made : List BatchRuns) (until : Option Until) (runs : BatchRuns)
    → AreEarlierReads until runs.earlier → runs_met_bus_fault (runs_of (made ++ runs ∷ []))
    ≡ (runs_met_bus_fault (runs_of made) || report_has_bus_fault runs.last.told.answers)
unfolded_bus_fault_last made until runs are =
    ap runs_met_bus_fault (unfolded_runs_last made runs) ∙ fault_append (runs_of made) (runs.earlier ++ runs.last ∷ [])
    ∙ ap (λ b. runs_met_bus_fault (runs_of made) || b) (fault_append runs.earlier (runs.last ∷ [])
    ∙ ap (λ b. b || runs_met_bus_fault (runs.last ∷ [])) (no_faults until runs.earlier are)
    ∙ either_none (report_has_bus_fault runs.last.told.answers))

-- ---- the reads of an `until`

-- a batch with an `until` isn't one without
pub until_is_not_none : {until : Until} → Some until ≡ None → ⊥
until_is_not_none e = cc

module _ {W : Type 0} (wire : Ghosts W) (opened : Bool)
    (limits : Limits) (batch : ScriptListed) (s : W) where
  -- the only run of a batch without `until`
  pub performed_once : (last : ScriptRun) (t : W) → batch.until ≡ None
      → RunsBatchFrom wire opened (batch_bursts limits.bursts batch) limits batch s last t
      → (runs : BatchRuns) × (runs.last ≡ last) × (batch_reads_of runs ≡ 1)
      × Performs wire opened limits batch s runs t
  performed_once last t plain goes = (
    record { earlier = []; last = last },
    refl,
    refl,
    record {
      between = s;
      earlier = none;
      last = goes;
      are = record {
        earlier = subst (λ until. AreEarlierReads until []) (sym plain) refl;
        last = subst (λ until. IsLastRead until (record { earlier = []; last = last })) (sym plain) tt;
      };
    },
  )

  -- memory was refused for the first run
  pub cut_first : IsScriptBatch batch → (t : W)
      → IsBatchRefused wire opened (batch_bursts limits.bursts batch) limits batch s t
      → (batch.until ≡ None → t ≡ s)
      → IsCutShort wire opened limits batch s t
  cut_first is t refused unsent = record {
    runs = [];
    are = first batch.until is.waits;
    between = s;
    earlier = none;
    refused = refused;
    unsent = unsent;
  }
    where
      first : (until : Option Until) → IfSome until (λ until. IsScriptUntil until batch) → AreEarlierReads until []
      first None waits = refl
      first (Some until) waits = let some = waits.some in (refl, omega (arith, some))

  module _ (until : Until) where
    -- so many reads, each of which but the last asked for another
    pub record Asking (n : ℕ) (last : ScriptRun) (t : W) : Type 0 where
      pub earlier : List ScriptRun
      pub many : length earlier + 1 ≡ n
      pub asked : list_all (λ run. asks_again until run) earlier ≡ true
      pub between : W
      pub runs : RunsBatches wire opened (batch_bursts limits.bursts) limits s
          (batch_again batch earlier) earlier between
      pub goes : RunsBatchFrom wire (script_is_open opened earlier) (batch_bursts limits.bursts batch) limits batch
          between last t

    -- a first read of an `until`, before which there is none
    pub asking_first : (last : ScriptRun) (t : W)
        → RunsBatchFrom wire opened (batch_bursts limits.bursts batch) limits batch s last t → Asking 1 last t
    asking_first last t goes = record {
      earlier = [];
      many = refl;
      asked = refl;
      between = s;
      runs = none;
      goes = goes;
    }

    module _ (n : ℕ) (last : ScriptRun) (t : W) (asking : Asking n last t) where
      -- the runs so far, and the last one among them
      runs_more : RunsBatches wire opened (batch_bursts limits.bursts) limits s
          (batch_again batch (asking.earlier ++ last ∷ [])) (asking.earlier ++ last ∷ []) t
      runs_more =
          subst (λ z. RunsBatches wire opened (batch_bursts limits.bursts) limits s z (asking.earlier ++ last ∷ []) t)
          (sym (batch_again_append batch asking.earlier last))
          (then asking.runs (until_rereads_ended_all until asking.earlier asking.asked) asking.goes)

      -- one read more of an `until`, after one that asked for another
      pub asking_more : asks_again until last ≡ true → (next : ScriptRun) (u : W)
          → RunsBatchFrom wire true (batch_bursts limits.bursts batch) limits batch t next u
          → Asking (n + 1) next u
      asking_more again_asked next u goes =
          let many = asking.many in
          let longer = length-append asking.earlier (last ∷ []) in
          record {
            earlier = asking.earlier ++ last ∷ [];
            many = omega (arith, many, longer);
            asked = until_rereads_append until asking.earlier last asking.asked again_asked;
            between = t;
            runs = runs_more;
            goes = subst (λ o. RunsBatchFrom wire o (batch_bursts limits.bursts batch) limits batch t next u)
                (sym (script_open_last opened asking.earlier last)) goes;
          }

      module _ (waits : batch.until ≡ Some until) where
        -- the reads of an `until` are the runs of its batch, where the last one doesn't ask for another, or is the
        -- last allowed
        pub performed : n ≤ until.most → (asks_again until last ≡ true → n ≡ until.most)
            → (runs : BatchRuns) × (runs.last ≡ last) × (batch_reads_of runs ≡ n)
            × Performs wire opened limits batch s runs t
        performed low ends =
            let many = asking.many in
            let runs : BatchRuns = record { earlier = asking.earlier; last = last } in
            let earlier : AreEarlierReads (Some until) asking.earlier = (asking.asked, omega (arith, many, low)) in
            let last_is : IsLastRead (Some until) runs = λ asked. many ∙ ends asked in (
              runs,
              refl,
              many,
              record {
                between = asking.between;
                earlier = asking.runs;
                last = asking.goes;
                are = record {
                  earlier = subst (λ x. AreEarlierReads x asking.earlier) (sym waits) earlier;
                  last = subst (λ x. IsLastRead x runs) (sym waits) last_is;
                };
              },
            )

        -- memory was refused for the next one
        pub cut_later : asks_again until last ≡ true → n < until.most → (u : W)
            → IsBatchRefused wire true (batch_bursts limits.bursts batch) limits batch t u
            → IsCutShort wire opened limits batch s u
        cut_later again_asked low u refused =
            let many = asking.many in
            let longer = length-append asking.earlier (last ∷ []) in
            let more : List ScriptRun = asking.earlier ++ last ∷ [] in
            let are : AreEarlierReads (Some until) more =
            (until_rereads_append until asking.earlier last asking.asked again_asked, omega (arith, many, longer, low))
            in
            record {
              runs = more;
              are = subst (λ x. AreEarlierReads x more) (sym waits) are;
              between = t;
              earlier = runs_more;
              refused = subst (λ o. IsBatchRefused wire o (batch_bursts limits.bursts batch) limits batch t u)
                  (sym (script_open_last opened asking.earlier last)) refused;
              unsent = λ plain. absurd (until_is_not_none (sym waits ∙ plain));
            }
