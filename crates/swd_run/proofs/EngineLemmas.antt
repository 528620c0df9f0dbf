-- The engine's answers, from one account of what ran to another.
use Rattle.std.proofs.Common.{◌≡◌, ℕ, List, [], ◌++◌, Option, None, Some, Result, Ok, Err, Bool, true, false, inl, inr}
use Rattle.std.proofs.Common.{refl}
use Rattle.std.proofs.Common.{sym, ap, ap₂, ◌∙◌, subst}
use Rattle.std.proofs.KnownBytes.{Appends-nil}
use Rattle.std.proofs.lemmas.List.{append-nil}
use Rattle.std.proofs.Math.Logic.{∥∥₁_map}
use Rattle.std.specs.Prelude.{◌≤◌, ◌||◌, is_some, take, length}
use Rattle.std.specs.Io.KnownBytes.{Appends}
use Rattle.swd_trace.specs.declared.item.Item.{Item}
use Rattle.swd_port.specs.declared.access.Access.{Access}
use Rattle.swd_port.specs.declared.mark.Mark.{Mark}
use Rattle.swd_port.specs.MarkCounts.{port_disturbed_among, port_lost_among}
use Rattle.swd_port.specs.Bus.{Bus}
use Rattle.swd_port.specs.declared.call.Call.{Call}
use Rattle.swd_port.specs.Made.{port_made}
use Rattle.swd_port.specs.Laws.Calls.{port_with_asked}
use Rattle.swd_port.specs.declared.wire.Wire.{Ghosts}
use Rattle.swd_recorder.specs.declared.recorder.Recorder.{Recorder}
use Rattle.swd_recorder.specs.Recorders.{recorder_calls, recorder_wire_under}
use Rattle.swd_recorder.specs.Chains.{Clear}
use Rattle.swd_recorder.proofs.ChainLemmas.{recorded_chain_reads_back}
use Rattle.swd_host.specs.Reports.{IsAtRest, HostReport}
use Rattle.swd_script.specs.Scripts.{ScriptListed, ScriptMeaning}
use Rattle.swd_host.specs.declared.task.Bursts.{Bursts}
use Rattle.swd_run.specs.declared.engine.Finished.{Finished}
use Rattle.swd_run.specs.declared.fault.EngineFault.{EngineFault}
use Rattle.swd_run.specs.declared.fault.EngineFault.TheVariants.{Memory, Write, WriteAccesses, TraceCut}
use Rattle.swd_run.specs.declared.going_on.Stop.{Stop}
use Rattle.swd_run.specs.declared.limits.Limits.{Limits}
use Rattle.swd_run.specs.Engine.{Answers, BatchAnswersAt, BatchAnswers, AreItemsSoFar, AreRunTraceItems}
use Rattle.swd_run.specs.Engine.{IsOfTraceOver, IsScriptFinished, IsTraceOver, RanBatches, RanBatchesShort}
use Rattle.swd_run.specs.Engine.{RunFilesOutcome, whole, short, trace_stops, accesses_stop}
use Rattle.swd_run.specs.GoingOn.{ScriptCallsFrom, ran, resumed}
use Rattle.swd_run.specs.Reports.{session_text}
use Rattle.swd_run.specs.declared.records.Records.{Records}
use Rattle.swd_run.specs.Records.{AreRunFilesStarted, AreRunFilesLeft, RunFiles, ForRunFile, IfRunFiles}
use Rattle.swd_run.specs.Records.{IsRunFileStarted, IsRunFileLeft, run_files_of, run_file_held, wants_run_files}
use Rattle.swd_run.specs.Records.{no_run_files}
use Rattle.swd_observer.specs.Explained.{ObservedLog}
use Rattle.swd_observer.specs.Traces.{trace_observer_made, observed_in_trace}
use Rattle.swd_run.specs.Running.{ScriptRunAnswers, IsPartOfTraceIn, IsTraceIn, IsTraceUpTo, RunsScript, full_room}
use Rattle.swd_run.specs.Running.{with_full_room}
use Rattle.swd_run.specs.ScriptDevices.{script_bus, script_bus_with, script_memory}
use Rattle.swd_run.specs.Sessions.{ScriptRun, RunsBatchFrom, IsBatchRefused, RunsBatches, batch_bursts, none}
use Rattle.swd_run.specs.Sessions.{then, unresumed, unsent}
use Rattle.swd_run.specs.Unfoldings.{AreBatchesDone, BatchRuns, IsCutShort, Unfolds, batch_again, calls_of, runs_of}
use Rattle.swd_run.specs.Wires.{run_recorder_wire, run_wire_by, run_wire_seen}
use Rattle.swd_run.proofs.RunLemmas.{script_target_at_rest}
use Rattle.swd_run.proofs.SessionLemmas.{script_runs}
use Rattle.swd_run.proofs.ToldLemmas.{runs_told, short_told}
use Rattle.swd_run.proofs.WentLemmas.{law_before}

-- what follows of items
pub if_run_files_map : (flag : Bool) (P R : List Item → Type 0) (Q : Type 0) → ((items : List Item) → P items → R items)
    → IfRunFiles flag P Q → IfRunFiles flag R Q
if_run_files_map true P R Q f h = (h.0, f h.0 h.1)
if_run_files_map false P R Q f h = h

once_recorded : (flag : Bool) (P : List Item → Type 0) (Q : Type 0) → flag ≡ true → (items : List Item) → P items
    → IfRunFiles flag P Q
once_recorded true P Q is items h = (items, h)
once_recorded false P Q is items h = absurd cc

once_unrecorded : (flag : Bool) (P : List Item → Type 0) (Q : Type 0) → flag ≡ false → Q → IfRunFiles flag P Q
once_unrecorded true P Q is h = absurd cc
once_unrecorded false P Q is h = h

-- a file to which nothing is written
pub run_file_unchanged : (file : Option (Option (List ℕ))) → ForRunFile IsRunFileLeft file file
run_file_unchanged None = refl
run_file_unchanged (Some held) = (held, refl, Appends-nil held)

-- a writer is there where its contents are
pub run_file_is_some : {T : Type 0} (contents : T → Option (List ℕ)) (file : Option T)
    → is_some (run_file_held contents file) ≡ is_some file
run_file_is_some contents None = refl
run_file_is_some contents (Some writer) = refl

-- where there is a writer, there are its contents
pub run_file_some : {T : Type 0} (contents : T → Option (List ℕ)) (file : Option T) → is_some file ≡ true
    → is_some (run_file_held contents file) ≡ true
run_file_some contents file is = run_file_is_some contents file ∙ is

-- a file is to be written where there is a writer
pub wants_files_by_records : {T I G : Type 0} (contents : T → Option (List ℕ)) (text : I → List Item → List ℕ)
    (records : Records T I G)
    → wants_run_files (run_files_of contents text records) ≡ (is_some records.trace || is_some records.accesses)
wants_files_by_records contents text records = ap₂ ◌||◌ (run_file_is_some contents records.trace)
    (run_file_is_some contents records.accesses)

-- files that are the same before and after are left: nothing was written to them
pub run_files_unchanged : (files : RunFiles) → AreRunFilesLeft files files
run_files_unchanged files = record {
  trace = run_file_unchanged files.trace;
  accesses = run_file_unchanged files.accesses;
}

-- nothing of the trace of no items was written, nor of the accesses
nothing_begun : (files : RunFiles) → AreRunFilesStarted [] files files
nothing_begun files = record { trace = none files.trace; accesses = run_file_unchanged files.accesses }
  where
    none : (file : Option (Option (List ℕ))) → ForRunFile (IsRunFileStarted []) file file
    none None = refl
    none (Some held) = (held, refl, ∣ inl (Appends-nil held) ∣₁)

-- the files of a run that made no call
pub no_call_run_files : (IsBegun : List Item → Type 0) → IsBegun [] → (files : RunFiles)
    → IfRunFiles (wants_run_files files) (λ items. IsBegun items × AreRunFilesStarted items files files)
    (AreRunFilesLeft files files)
no_call_run_files IsBegun is files = by (wants_run_files files)
  where
    by : (flag : Bool) → IfRunFiles flag (λ items. IsBegun items × AreRunFilesStarted items files files)
        (AreRunFilesLeft files files)
    by true = ([], (is, nothing_begun files))
    by false = run_files_unchanged files

-- no items are those of no call
pub no_items_read : AreRunTraceItems []
no_items_read = recorded_chain_reads_back Clear [] refl

-- each account of what ran is one of another kind, with the same runs and the same traces
pub script_answers_map : {X U Y V : Type 0} (batches : List ScriptListed) (used : Option ℕ) (runs : Y → List BatchRuns)
    (before : V → List BatchRuns) (IsWhole IsPart : X → List Item → Type 0) (IsBegun : U → List Item → Type 0)
    (IsWholeToo IsPartToo : Y → List Item → Type 0) (IsBegunToo : V → List Item → Type 0) (f : X → Y) (e : U → V)
    → ((x : X) (items : List Item) → IsWhole x items → IsWholeToo (f x) items)
    → ((x : X) (items : List Item) → IsPart x items → IsPartToo (f x) items)
    → ((u : U) (items : List Item) → IsBegun u items → IsBegunToo (e u) items)
    → (answer : Result Finished EngineFault) (old new : Option (List ℕ)) (held now : RunFiles)
    → Answers {Came = X} {Short = U} batches used (λ x. runs (f x)) (λ u. before (e u)) IsWhole IsPart IsBegun answer
    old
    new held now
    → Answers {Came = Y} {Short = V} batches used runs before IsWholeToo IsPartToo IsBegunToo answer old new held now
script_answers_map batches used runs before IsWhole IsPart IsBegun IsWholeToo IsPartToo IsBegunToo f e w p b
    (Ok finished) old new held now h = (
      f h.0,
      h.1,
      h.2,
      h.3,
      if_run_files_map (wants_run_files held) _ _ _ (λ items t. (w h.0 items t.0, t.1)) h.4,
    )
script_answers_map batches used runs before IsWhole IsPart IsBegun IsWholeToo IsPartToo IsBegunToo f e w p b
    (Err Memory) old new held now h =
    (e h.0, h.1, if_run_files_map (wants_run_files held) _ _ _ (λ items t. (b h.0 items t.0, t.1)) h.2)
script_answers_map batches used runs before IsWhole IsPart IsBegun IsWholeToo IsPartToo IsBegunToo f e w p b
    (Err (Write written)) old new held now (x, inl stop) =
    (f x, inl (stop.0, if_run_files_map (wants_run_files held) _ _ _ (λ items t. (p x items t.0, t.1)) stop.1))
script_answers_map batches used runs before IsWhole IsPart IsBegun IsWholeToo IsPartToo IsBegunToo f e w p b
    (Err (Write written)) old new held now (x, inr stop) =
    (f x, inr (stop.0, stop.1, stop.2, p x stop.0 stop.3, stop.4))
script_answers_map batches used runs before IsWhole IsPart IsBegun IsWholeToo IsPartToo IsBegunToo f e w p b
    (Err (WriteAccesses written)) old new held now h = (f h.0, h.1, h.2, h.3, p h.0 h.1 h.4, h.5)
script_answers_map batches used runs before IsWhole IsPart IsBegun IsWholeToo IsPartToo IsBegunToo f e w p b
    (Err TraceCut) old new held now h =
    (f h.0, h.1, h.2, h.3, p h.0 h.1 h.4, h.5, h.6)

-- runs over wires are runs over all that the wires are known by
module _ {W V : Type 0} (by : W → V) (wire : Ghosts V) (limits : Limits) where
  went_by : {opened : Bool} (kind : Bursts) (list : List Access) (s : W) (stops : List Stop) (told : HostReport) (t : W)
      → ScriptCallsFrom (run_wire_by by wire) opened kind list limits.tries s stops told t
      → ScriptCallsFrom wire opened kind list limits.tries (by s) stops told (by t)
  went_by kind list s stops told t (ran same closes over says) = ran same closes over says
  went_by kind list s stops told t (resumed {stops = before} {earlier = e} {t = u} went lost same goes over says) =
      resumed (went_by kind list s before e u went) lost same goes over says

  -- one run is
  pub goes_by : {opened : Bool} (batch : ScriptListed) (s : W) (run : ScriptRun) (t : W)
      → RunsBatchFrom (run_wire_by by wire) opened (batch_bursts limits.bursts batch) limits batch s run t
      → RunsBatchFrom wire opened (batch_bursts limits.bursts batch) limits batch (by s) run (by t)
  goes_by batch s run t goes = record {
    went = went_by (batch_bursts limits.bursts batch) batch.accesses s run.stops run.told t goes.went;
    few = goes.few;
    lost = goes.lost;
  }

  pub runs_by : {opened : Bool} (s : W) (batches : List ScriptListed) (runs : List ScriptRun) (t : W)
      → RunsBatches (run_wire_by by wire) opened (batch_bursts limits.bursts) limits s batches runs t
      → RunsBatches wire opened (batch_bursts limits.bursts) limits (by s) batches runs (by t)
  runs_by s batches runs t none = none
  runs_by s batches runs t
      (then {batches = before} {runs = earlier} {t = u} {u = v} {batch = batch} {run = run} prior all goes) =
      then (runs_by s before earlier u prior) all (goes_by batch u run v goes)

  refused_by : {opened : Bool} (kind : Bursts) (batch : ScriptListed) (s t : W)
      → IsBatchRefused (run_wire_by by wire) opened kind limits batch s t
      → IsBatchRefused wire opened kind limits batch (by s) (by t)
  refused_by kind batch s t (unsent same) = unsent (ap by same)
  refused_by kind batch s t (unresumed {stops = stops} {told = told} went lost few) =
      unresumed (went_by kind batch.accesses s stops told t went) lost few

  -- what ran of a script over wires is what ran of it over what these are known by
  abbrev pub ran_by : (batches : List ScriptListed) (s t : W)
      → RanBatches (run_wire_by by wire) limits batches s t
      → RanBatches wire limits batches (by s) (by t)
  ran_by batches s t over = record {
    made = over.made;
    unfolds = over.unfolds;
    are = runs_by s (calls_of batches over.made) (runs_of over.made) t over.are;
  }

  cut_by : {opened : Bool} (batch : ScriptListed) (s t : W)
      → IsCutShort (run_wire_by by wire) opened limits batch s t
      → IsCutShort wire opened limits batch (by s) (by t)
  cut_by batch s t over = record {
    runs = over.runs;
    are = over.are;
    between = by over.between;
    earlier = runs_by s (batch_again batch over.runs) over.runs over.between over.earlier;
    refused = refused_by (batch_bursts limits.bursts batch) batch over.between t over.refused;
    unsent = λ plain. ap by (over.unsent plain);
  }

  abbrev short_by : (batches : List ScriptListed) (s t : W)
      → RanBatchesShort (run_wire_by by wire) limits batches s t
      → RanBatchesShort wire limits batches (by s) (by t)
  short_by batches s t over = record {
    between = by over.between;
    before = ran_by batches s over.between over.before;
    all = over.all;
    came = over.came;
    batch = over.batch;
    later = over.later;
    next = over.next;
    refused = cut_by over.batch over.between t over.refused;
  }

  -- and so are the answers
  pub answers_by : (batches : List ScriptListed) (s t : W) (start end : V) → by s ≡ start → by t ≡ end
      → (answer : Result Finished EngineFault) (old new : Option (List ℕ)) (before after : RunFiles)
      → BatchAnswers (run_wire_by by wire) limits batches s t answer old new before after
      → BatchAnswers wire limits batches start end answer old new before after
  answers_by batches s t start end begins ends answer old new before after h =
      subst (λ x. BatchAnswers wire limits batches x end answer old new before after) begins
      (subst (λ x. BatchAnswers wire limits batches (by s) x answer old new before after) ends
      (script_answers_map batches None (λ over. over.made) (λ over. over.before.made) IsTraceOver IsOfTraceOver
      (λ short items. AreItemsSoFar (run_wire_by by wire) t items)
      IsTraceOver IsOfTraceOver (λ short items. AreItemsSoFar wire (by t) items) (ran_by batches s t)
      (short_by batches s t)
      (λ over items is. record {
        read = is.read;
        of_calls = is.of_calls;
        whole = is.whole;
        explained = is.explained;
        explained_any = is.explained_any;
        reported = is.reported;
        reported_any = is.reported_any;
      })
      (λ over items is. record {
        so_far = record { read = is.so_far.read; of_calls = is.so_far.of_calls };
        part = is.part;
      }) (λ short items is. record { read = is.read; of_calls = is.of_calls }) answer old new before after h))

-- also beside the recorded calls
seen_by : {W V : Type 0} (flag : Bool) (by : W → V) (wire : Ghosts V) (noted : List Call → Type 0) (limits : Limits)
    (batches : List ScriptListed) (calls : List Call) (s t : W) (answer : Result Finished EngineFault)
    (old new : Option (List ℕ)) (before after : RunFiles)
    → BatchAnswers (run_wire_seen flag (run_wire_by by wire) noted) limits batches ([], s) (calls, t) answer old
    new before after
    → BatchAnswers (run_wire_seen flag wire noted) limits batches ([], by s) (calls, by t) answer old new before
    after
seen_by false by wire noted limits batches calls s t answer old new before after h =
    answers_by (λ seen. (seen.0, by seen.1)) (run_wire_seen false wire noted) limits batches ([], s) (calls, t)
    ([], by s) (calls, by t) refl refl answer old new before after h
seen_by true by wire noted limits batches calls s t answer old new before after h =
    answers_by (λ seen. (seen.0, by seen.1)) (run_wire_seen true wire noted) limits batches ([], s) (calls, t)
    ([], by s) (calls, by t) refl refl answer old new before after h

-- what an answer states over wires it states over what these are known by, also where the run is recorded
pub batch_answers_at_by : {W V : Type 0} (by : W → V) (wire : Ghosts V) (limits : Limits)
    (batches : List ScriptListed) (s t : W) (start : V) → by s ≡ start → (answer : Result Finished EngineFault)
    (old new : Option (List ℕ)) (before after : RunFiles)
    → BatchAnswersAt (run_wire_by by wire) limits batches s t answer old new before after
    → BatchAnswersAt wire limits batches start (by t) answer old new before after
batch_answers_at_by by wire limits batches s t start begins answer old new before after h =
    subst (λ x. BatchAnswersAt wire limits batches x (by t) answer old new before after) begins (
      h.0,
      seen_by (wants_run_files before) by wire (λ noted. wire.notes noted (by s)) limits batches h.0 s t answer
          old new before after h.1,
    )

-- ---- the files after the report

module _ {W : Type 0} (wire : Ghosts W) (limits : Limits)
    (batches : List ScriptListed) (start end : W) (old new : Option (List ℕ)) where
  -- they were written
  pub recorded_in : (finished : Finished) (cut : Bool) (items : List Item)
      (over : RanBatches wire limits batches start end) → AreBatchesDone batches over.made
      → IsScriptFinished batches over.made None finished
      → Appends old new (session_text batches over.made) → (cut ≡ false → IsTraceOver over items)
      → IsOfTraceOver over items
      → (before after : RunFiles) → wants_run_files before ≡ true → (answer : Result Finished EngineFault)
      → RunFilesOutcome finished cut items before after answer
      → BatchAnswers wire limits batches start end answer old new before after
  recorded_in finished cut items over done is gone of part before after wanted answer (whole uncut all) =
      (over, done, is, gone, once_recorded (wants_run_files before) _ _ wanted items (of uncut, all))
  recorded_in finished cut items over done is gone of part before after wanted answer (short is_cut all) =
      (over, items, done, gone, part, wanted, all)
  recorded_in finished cut items over done is gone of part before after wanted answer (trace_stops stop) =
      (over, inr (items, done, gone, part, stop))
  recorded_in finished cut items over done is gone of part before after wanted answer (accesses_stop stop) =
      (over, items, done, gone, part, stop)

  -- if a report couldn't be written, or memory ran out, the trace was begun
  pub begun_in : (fault : EngineFault) (items : List Item) → AreItemsSoFar wire end items
      → ((over : RanBatches wire limits batches start end) → IsOfTraceOver over items)
      → (before after : RunFiles) → wants_run_files before ≡ true → AreRunFilesStarted items before after
      → BatchAnswers wire limits batches start end (Err fault) old new no_run_files no_run_files
      → BatchAnswers wire limits batches start end (Err fault) old new before after
  begun_in Memory items read part before after wanted begun h =
      (h.0, h.1, once_recorded (wants_run_files before) _ _ wanted items (read, begun))
  begun_in (Write written) items read part before after wanted begun (over, inl stop) =
      (over, inl (stop.0, once_recorded (wants_run_files before) _ _ wanted items (part over, begun)))
  begun_in (Write written) items read part before after wanted begun (over, inr stop) =
      let never = stop.4.wanted in absurd cc
  begun_in (WriteAccesses written) items read part before after wanted begun h = let never = h.5.wanted in absurd cc
  begun_in TraceCut items read part before after wanted begun h = let never = h.5 in absurd cc

  -- without files nothing is written
  untold : (fault : EngineFault) (held : RunFiles) → wants_run_files held ≡ false
      → BatchAnswers wire limits batches start end (Err fault) old new no_run_files no_run_files
      → BatchAnswers wire limits batches start end (Err fault) old new held held
  untold Memory held empty h = (h.0, h.1, once_unrecorded (wants_run_files held) _ _ empty (run_files_unchanged held))
  untold (Write written) held empty (over, inl stop) =
      (over, inl (stop.0, once_unrecorded (wants_run_files held) _ _ empty (run_files_unchanged held)))
  untold (Write written) held empty (over, inr stop) = let never = stop.4.wanted in absurd cc
  untold (WriteAccesses written) held empty h = let never = h.5.wanted in absurd cc
  untold TraceCut held empty h = let never = h.5 in absurd cc

  -- nor is it if the calls ended
  pub unwanted : (held : RunFiles) → wants_run_files held ≡ false → (answer : Result Finished EngineFault)
      → BatchAnswers wire limits batches start end answer old new no_run_files no_run_files
      → BatchAnswers wire limits batches start end answer old new held held
  unwanted held empty (Ok finished) h =
      (h.0, h.1, h.2, h.3, once_unrecorded (wants_run_files held) _ _ empty (run_files_unchanged held))
  unwanted held empty (Err fault) h = untold fault held empty h

-- where the wire was recorded from its start
pub batch_answers_recorded : {W A : Type 0} {g : Ghosts W} (noted : List Call → Type 0) (limits : Limits)
    (batches : List ScriptListed) (s t : Recorder W A g) (start end : W) → recorder_wire_under s ≡ start
    → recorder_calls s ≡ [] → recorder_wire_under t ≡ end
    → (answer : Result Finished EngineFault) (old new : Option (List ℕ)) (before after : RunFiles)
    → BatchAnswers (run_recorder_wire noted) limits batches s t answer old new before after
    → (calls : List Call)
    × BatchAnswers (run_wire_seen true g noted) limits batches ([], start) (calls, end) answer old new before
    after
batch_answers_recorded {g} noted limits batches s t start end begins fresh ends answer old new before after h = (
  recorder_calls t,
  answers_by (λ r. (recorder_calls r, recorder_wire_under r)) (run_wire_seen true g noted) limits batches s t
      ([], start) (recorder_calls t, end) (ap₂ (λ (n : List Call) (w : _). (n, w)) fresh begins)
      (ap (λ w. (recorder_calls t, w)) ends) answer old new before after h,
)

-- ---- over a target that was just made

law_refused : {W : Type 0} (wire : Ghosts W) {opened : Bool} (limits : Limits) (batch : ScriptListed) (s t : W)
    → IsBatchRefused wire opened (batch_bursts limits.bursts batch) limits batch s t → wire.lawful t → wire.lawful s
law_refused wire limits batch s t (unsent same) law = subst wire.lawful same law
law_refused wire limits batch s t (unresumed {stops = stops} {told = told} went lost few) law =
    law_before wire (batch_bursts limits.bursts batch) batch.accesses limits.tries s stops told t went law

law_runs : {W : Type 0} (wire : Ghosts W) {opened : Bool} (limits : Limits) (s t : W) (batches : List ScriptListed)
    (runs : List ScriptRun) → RunsBatches wire opened (batch_bursts limits.bursts) limits s batches runs t
    → wire.lawful t
    → wire.lawful s
law_runs wire limits s t batches runs none law = law
law_runs wire limits s t batches runs
    (then {batches = before} {runs = earlier} {t = u} {u = v} {batch = batch} {run = run} prior all goes) law =
    law_runs wire limits s u before earlier prior
    (law_before wire (batch_bursts limits.bursts batch) batch.accesses limits.tries u run.stops run.told v
    goes.went law)

law_cut : {W : Type 0} (wire : Ghosts W) {opened : Bool} (limits : Limits) (batch : ScriptListed) (s t : W)
    → IsCutShort wire opened limits batch s t → wire.lawful t → wire.lawful s
law_cut wire limits batch s t over law =
    law_runs wire limits s over.between (batch_again batch over.runs) over.runs over.earlier
    (law_refused wire limits batch over.between t over.refused law)

module _ {W : Type 0} (wire : Ghosts W) (noted : List Call → Type 0) where
  made_seen : (traced : Bool) (m : Bus) (w : W) → wire.port w ≡ port_made 731911287 m
      → (run_wire_seen traced wire noted).port ([], w) ≡ port_made 731911287 m
  made_seen false m w is_made = is_made
  made_seen true m w is_made = ap (port_with_asked 0) is_made

  memory_seen : (traced : Bool) (calls : List Call) (w : W)
      → ((run_wire_seen traced wire noted).port (calls, w)).target.memory ≡ (wire.port w).target.memory
  memory_seen false calls w = refl
  memory_seen true calls w = refl

  marks_seen : (traced : Bool) (disturbed lost : ℕ) (calls : List Call) (w : W)
      → ((wire.port w).tally.disturbed ≤ disturbed) × ((wire.port w).tally.lost ≤ lost)
      → (((run_wire_seen traced wire noted).port (calls, w)).tally.disturbed ≤ disturbed)
      × (((run_wire_seen traced wire noted).port (calls, w)).tally.lost ≤ lost)
  marks_seen false disturbed lost calls w h = h
  marks_seen true disturbed lost calls w h = h

  plan_seen : (traced : Bool) (calls : List Call) (w : W)
      → (run_wire_seen traced wire noted).plan (calls, w) ≡ wire.plan w
  plan_seen false calls w = refl
  plan_seen true calls w = refl

  law_seen : (traced : Bool) (calls : List Call) (w : W) → wire.lawful w
      → (run_wire_seen traced wire noted).lawful (calls, w)
  law_seen false calls w law = law
  law_seen true calls w law = law

  -- before any call none is noted
  notes_seen : (traced : Bool) (w : W) → wire.notes [] w → ((calls : List Call) → noted calls → wire.notes calls w)
      → (run_wire_seen traced wire noted).notes [] ([], w)
  notes_seen false w fresh as_noted = fresh
  notes_seen true w fresh as_noted = (refl, as_noted)

-- what an answer says with the room that is used up
full_answers : {Came Short : Type 0} (batches : List ScriptListed) (used : Option ℕ) (runs : Came → List BatchRuns)
    (before : Short → List BatchRuns) (IsWhole IsPart : Came → List Item → Type 0)
    (IsBegun : Short → List Item → Type 0)
    (answer : Result Finished EngineFault) (old new : Option (List ℕ)) (held now : RunFiles)
    → Answers {Came = Came} {Short = Short} batches None runs before IsWhole IsPart IsBegun answer old new held now
    → Answers {Came = Came} {Short = Short} batches used runs before IsWhole IsPart IsBegun (with_full_room used answer)
    old new held now
full_answers batches used runs before IsWhole IsPart IsBegun (Ok finished) old new held now h = (
  h.0,
  h.1,
  record {
    ended = h.2.ended;
    never_came = h.2.never_came;
    differs = h.2.differs;
    bus_fault = h.2.bus_fault;
    full = refl;
  },
  h.3,
  h.4,
)
full_answers batches used runs before IsWhole IsPart IsBegun (Err Memory) old new held now h = h
full_answers batches used runs before IsWhole IsPart IsBegun (Err (Write written)) old new held now h = h
full_answers batches used runs before IsWhole IsPart IsBegun (Err (WriteAccesses written)) old new held now h = h
full_answers batches used runs before IsWhole IsPart IsBegun (Err TraceCut) old new held now h = h

-- calls that were made before none are all calls
all_calls : {W : Type 0} (wire : Ghosts W) (calls : List Call) (w : W) → wire.notes (calls ++ []) w
    → wire.notes calls w
all_calls wire calls w = subst (λ l. wire.notes l w) (append-nil calls)

-- the bus of a script has no transfer yet
nothing_logged_yet : (core : Option ℕ) (script : ScriptMeaning)
    → (script_bus_with core script.room (script_memory script)).log ≡ []
nothing_logged_yet None script = refl
nothing_logged_yet (Some table) script = refl

-- over a lawful wire to a target that was just made, where a plan bounds what is disturbed and lost, an answer states
-- what the theorem of the host says for the script's memory, and whether its log is full
pub script_run_answers : {W : Type 0} (wire : Ghosts W) (limits : Limits)
    (script : ScriptMeaning) (marks : List Mark) (s t : W) → wire.port s ≡ port_made 731911287 (script_bus script)
    → wire.plan s ≡ marks → wire.notes [] s → ((w : W) → wire.plan w ≡ marks
    → ((wire.port w).tally.disturbed ≤ port_disturbed_among marks) × ((wire.port w).tally.lost ≤ port_lost_among marks))
    → wire.lawful t
    → (memory : Bus) → memory ≡ (wire.port t).target.memory → (answer : Result Finished EngineFault)
    (old new : Option (List ℕ)) (before after : RunFiles)
    → BatchAnswersAt wire limits script.batches s t answer old new before after
    → ScriptRunAnswers limits script marks (with_full_room (full_room script.room memory) answer) old new before
    after
script_run_answers wire limits script marks s t is_made planned none_noted marked law memory left answer old new
    before after h =
    let traced : Bool = wants_run_files before in
    let noted : List Call → Type 0 = λ calls. wire.notes calls s in
    let seen = run_wire_seen traced wire noted in
    let begins : seen.port ([], s) ≡ port_made 731911287 (script_bus script) =
    made_seen wire noted traced (script_bus script) s is_made in
    let rest : IsAtRest (seen.port ([], s)) = script_target_at_rest (script_bus script) (seen.port ([], s)) begins in
    let fresh : seen.notes [] ([], s) = notes_seen wire noted traced s none_noted (λ calls is. is) in
    let lawful : seen.lawful (h.0, t) = law_seen wire noted traced h.0 t law in
    let runs_at = λ (runs : List BatchRuns) (end : List Call × _) (law : seen.lawful end)
    (unfolds : Unfolds (take (length runs) script.batches) runs)
    (are : RunsBatches seen false (batch_bursts limits.bursts) limits ([], s)
    (calls_of script.batches runs) (runs_of runs) end).
    script_runs seen limits script marks runs ([], s) end begins (plan_seen wire noted traced [] s ∙ planned)
    (λ x same. marks_seen wire noted traced (port_disturbed_among marks) (port_lost_among marks) x.0 x.1
    (marked x.1 (sym (plan_seen wire noted traced x.0 x.1) ∙ same)))
    law unfolds are in
    let left_seen : (seen.port (h.0, t)).target.memory ≡ memory = memory_seen wire noted traced h.0 t ∙ sym left in
    let whole_calls = λ (over : RanBatches seen limits script.batches ([], s) (h.0, t)).
    runs_told seen false (batch_bursts limits.bursts) limits ([], s) (calls_of script.batches over.made)
    (runs_of over.made)
    (h.0, t) over.are [] fresh in
    let short_calls = λ (over : RanBatchesShort seen limits script.batches ([], s) (h.0, t)).
    short_told seen limits script.batches ([], s) (h.0, t) over in (
      memory,
      full_answers script.batches (full_room script.room memory) (λ over. over.made) (λ over. over.made)
          (λ ran items. IsTraceIn memory (calls_of script.batches ran.made) (runs_of ran.made) items)
          (λ ran items. IsPartOfTraceIn (calls_of script.batches ran.made) (runs_of ran.made) items)
          (λ short items. IsTraceUpTo script.batches short.made items) answer old new before after
          (script_answers_map script.batches None (λ over. over.made) (λ over. over.made) IsTraceOver IsOfTraceOver
          (λ short items. AreItemsSoFar seen (h.0, t) items)
          (λ ran items. IsTraceIn memory (calls_of script.batches ran.made) (runs_of ran.made) items)
          (λ ran items. IsPartOfTraceIn (calls_of script.batches ran.made) (runs_of ran.made) items)
          (λ short items. IsTraceUpTo script.batches short.made items)
          (λ over. record {
            made = over.made;
            are = subst (RunsScript limits script marks over.made) left_seen
                (runs_at over.made (h.0, t) lawful over.unfolds over.are);
          })
          (λ over. record {
            made = over.before.made;
            memory = (seen.port over.between).target.memory;
            are = runs_at over.before.made over.between
                (law_cut seen limits over.batch over.between (h.0, t) over.refused lawful) over.before.unfolds
                over.before.are;
            all = over.all;
            came = over.came;
          })
          (λ over items is. (
          let made = whole_calls over in
          record {
            is = is.whole lawful rest;
            calls = made.0;
            told = made.2;
            of_calls = is.of_calls made.0 (all_calls seen made.0 (h.0, t) made.1);
            explained = ∥∥₁_map (is.explained lawful rest 731911287 (script_bus script) begins)
                (λ told. subst (λ (m : Bus). ObservedLog (observed_in_trace items trace_observer_made) m.log)
                left_seen (subst (ObservedLog (observed_in_trace items trace_observer_made))
                (sym (told.now.is ∙ ap (λ l. l ++ told.now.more) (nothing_logged_yet script.core script)))
                told.now.explains));
            reported = λ whole. is.reported lawful rest whole 731911287 (script_bus script) begins;
          }))
          (λ over items is. (
          let made = whole_calls over in
          record {
            part = is.part lawful rest;
            calls = made.0;
            told = made.2;
            of_calls = is.so_far.of_calls made.0 (all_calls seen made.0 (h.0, t) made.1);
          }))
          (λ over items is. (
          let further = short_calls over in
          let made = further.1 [] fresh in
          record {
            read = is.read;
            more = further.0;
            calls = made.0;
            told = made.2;
            of_calls = is.of_calls made.0 (all_calls seen made.0 (h.0, t) made.1);
          })) answer old new before after h.1),
    )
