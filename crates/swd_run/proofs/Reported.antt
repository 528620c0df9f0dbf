-- The runs of a script so far, and the report of them that was written.
use Rattle.std.proofs.Common.{◌≡◌, ℕ, ◌+◌, ◌-◌, ◌<◌, ◌≤◌, ◌^◌, ◌∙◌, Bool, List, [], ◌∷◌, ◌++◌, length, take, drop}
use Rattle.std.proofs.Common.{Option}
use Rattle.std.proofs.Common.{None, Ok, Err, inl, min, false, true, refl, sym, ap, subst, arith}
use Rattle.std.proofs.KnownBytes.{Appends-nil, Appends-trans}
use Rattle.std.proofs.Math.Seq.{take-append-add}
use Rattle.std.proofs.lemmas.List.{length-append, length-take}
use Rattle.std.specs.Prelude.{◌||◌}
use Rattle.std.specs.Io.KnownBytes.{Appends}
use Rattle.swd_io.specs.Blocks.{OutputStopped}
use Rattle.swd_port.specs.declared.wire.Wire.{Ghosts}
use Rattle.swd_host.specs.declared.outcome.End.TheVariants.{All}
use Rattle.swd_host.specs.Reports.{HostReport}
use Rattle.swd_script.specs.Laws.{IsScriptBatch}
use Rattle.swd_script.specs.Scripts.{ScriptListed}
use Rattle.swd_run.specs.declared.engine.Finished.{Finished}
use Rattle.swd_run.specs.declared.fault.EngineFault.TheVariants.{Memory, Write}
use Rattle.swd_run.specs.declared.limits.Limits.{Limits}
use Rattle.swd_run.specs.Engine.{BatchAnswers, IsScriptFinished, RanBatches}
use Rattle.swd_run.specs.Records.{AreRunFilesLeft, no_run_files}
use Rattle.swd_run.specs.Reports.{HasReportWritten, batch_report, session_text}
use Rattle.swd_run.specs.Sessions.{ScriptRun, RunsBatches, batch_bursts, script_is_open, none, then}
use Rattle.swd_run.specs.Unfoldings.{AreRunsOfBatch, BatchRuns, IsCutShort, Performs, Unfolds, batch_again, calls_of}
use Rattle.swd_run.specs.Unfoldings.{ends_until, until_never_came, no_batch, runs_of, one_more as batch_more}
use Rattle.swd_run.specs.Verified.{verify_difference_in, first_difference, report_has_bus_fault, verify_or_else}
use Rattle.swd_run.proofs.ReportLemmas.{report_pairs_front, report_pairs_append}
use Rattle.swd_run.proofs.SessionLemmas.{script_open_later}
use Rattle.swd_run.proofs.UnfoldingLemmas.{unfolded_calls_front, unfolded_calls_last, earlier_reads_ended_all}
use Rattle.swd_run.proofs.UnfoldingLemmas.{unfolded_difference_last, unfolded_runs_ended, unfolded_bus_fault_last}
use Rattle.swd_run.proofs.UnfoldingLemmas.{unfolded_batch_count, runs_append, unfolded_runs_last, unfolded_until_front}
use Rattle.swd_run.proofs.UnfoldingLemmas.{unfolded_until_last}

-- how runs came out, and those of one batch more
pub script_finished_next_batch : (finished next : Finished) (batch : ScriptListed) (runs : BatchRuns)
    → IsScriptBatch batch → AreRunsOfBatch batch runs
    → next.ended ≡ runs.last.told.ended → next.never_came ≡ until_never_came batch.until runs.last.told
    → next.differs ≡ verify_or_else finished.differs (verify_difference_in batch.expected runs.last.told.answers)
    → next.bus_fault ≡ (finished.bus_fault || report_has_bus_fault runs.last.told.answers) → next.full ≡ finished.full
    → (batches : List ScriptListed) (made : List BatchRuns) → Unfolds batches made
    → IsScriptFinished batches made None finished
    → IsScriptFinished (batches ++ batch ∷ []) (made ++ runs ∷ []) None next
script_finished_next_batch finished next batch runs fits are ended came differs bus_fault full batches made unfolds is =
    let same = unfolded_batch_count batches made unfolds in
    let reads = runs.last.told.answers in
    record {
      ended = ended ∙ sym (unfolded_runs_ended made runs);
      never_came = came ∙ sym (unfolded_until_last batches made batch runs same);
      differs = differs ∙ ap (λ d. verify_or_else d (verify_difference_in batch.expected reads)) is.differs
          ∙ sym (unfolded_difference_last batches made batch runs same fits are);
      bus_fault = bus_fault ∙ ap (λ b. b || report_has_bus_fault reads) is.bus_fault
          ∙ sym (unfolded_bus_fault_last made batch.until runs are.earlier);
      full = full ∙ is.full;
    }

-- without files nothing is written to one
untouched : AreRunFilesLeft no_run_files no_run_files
untouched = record { trace = refl; accesses = refl }

-- a count of bytes, and more of them
abbrev Sums : ℕ → ℕ → ℕ → Type 0
Sums total before more = total ≡ min (before + more) (2 ^ 64 - 1)

counts : (total before more a b : ℕ) → Sums total before more → before ≡ min a (2 ^ 64 - 1) → more ≡ min b (2 ^ 64 - 1)
    → total ≡ min (a + b) (2 ^ 64 - 1)
counts total before more a b sum x y = omega (arith, sum, x, y)

-- a text that stops in its second part
abbrev stopped_after : (total before more : ℕ) (old mid new : Option (List ℕ)) (a b text : List ℕ)
    → Sums total before more
    → HasReportWritten old mid a before → OutputStopped more mid new b → a ++ b ≡ text
    → OutputStopped total old new text
stopped_after total before more old mid new a b text sum gone stop whole =
    let len = length-append a b in
    let same = ap length whole in
    let short = stop.short in
    record {
      sent = length a + stop.sent;
      short = omega (arith, len, same, short);
      gone = subst (Appends old new) (sym (take-append-add a b stop.sent) ∙ ap (take (length a + stop.sent)) whole)
          (Appends-trans old mid new a (take stop.sent b) gone.gone stop.gone);
      count = counts total before more (length a) stop.sent sum gone.count stop.count;
    }

module _ {W : Type 0} (wire : Ghosts W) (limits : Limits)
    (batches : List ScriptListed) (s : W) (old : Option (List ℕ)) where
  -- The runs of the first i batches, to this state of the wire, with what they come to. The report's writer has their
  -- report, and so many bytes are counted. `opened` says whether the target is open for the next run.
  pub record SoFar (i : ℕ) (t : W) (now : Option (List ℕ)) (finished : Finished) (written : ℕ) (opened : Bool) :
      Type 0 where
    pub made : List BatchRuns
    pub unfolds : Unfolds (take i batches) made
    pub are : RunsBatches wire false (batch_bursts limits.bursts) limits s (calls_of (take i batches) made)
        (runs_of made) t
    pub is : IsScriptFinished (take i batches) made None finished
    pub gone : HasReportWritten old now (session_text (take i batches) made) written
    pub is_open : opened ≡ script_is_open false (runs_of made)

  -- before the first batch there is no run, and nothing was written
  pub none_yet : (finished : Finished) → IsScriptFinished [] [] None finished
      → SoFar 0 s old finished 0 false
  none_yet finished is = record {
    made = [];
    unfolds = no_batch;
    are = none;
    is = is;
    gone = record { gone = Appends-nil old; count = refl };
    is_open = refl;
  }

  module _ (i : ℕ) (t : W) (now : Option (List ℕ)) (finished : Finished) (written : ℕ) (opened : Bool)
      (so_far : SoFar i t now finished written opened) where
    as_batches : length so_far.made ≡ length (take i batches)
    as_batches = unfolded_batch_count (take i batches) so_far.made so_far.unfolds

    counted : i ≤ length batches → length so_far.made ≡ i
    counted low =
        let few = length-take i batches in
        let same = as_batches in
        omega (arith, few, same, low)

    -- what is said of the batches that were run is said of all batches
    front : {X : Type 0} (f : List ScriptListed → List BatchRuns → X)
        → ((batches : List ScriptListed) (made : List BatchRuns) → f (take (length made) batches) made ≡ f batches made)
        → i ≤ length batches → f (take i batches) so_far.made ≡ f batches so_far.made
    front f same low =
        ap (λ n. f (take n batches) so_far.made) (sym (counted low)) ∙ same batches so_far.made

    front_text : i ≤ length batches
        → session_text (take i batches) so_far.made ≡ session_text batches so_far.made
    front_text low = front session_text (report_pairs_front batch_report) low

    abbrev ran : i ≤ length batches → RanBatches wire limits batches s t
    ran low = record {
      made = so_far.made;
      unfolds = subst (λ n. Unfolds (take n batches) so_far.made) (sym (counted low)) so_far.unfolds;
      are = subst (λ calls. RunsBatches wire false (batch_bursts limits.bursts) limits s calls (runs_of so_far.made) t)
          (front calls_of unfolded_calls_front low) so_far.are;
    }

    -- no run is left, or the last one did not end all, or its word never came
    pub all_told : i ≤ length batches → (finished.ended ≡ All → finished.never_came ≡ false → i ≡ length batches)
        → BatchAnswers wire limits batches s t (Ok finished) old now no_run_files no_run_files
    all_told low whole = (
      ran low,
      λ all came. counted low
          ∙ whole (so_far.is.ended ∙ all) (so_far.is.never_came ∙ front ends_until unfolded_until_front low ∙ came),
      record {
        ended = so_far.is.ended;
        never_came = so_far.is.never_came ∙ front ends_until unfolded_until_front low;
        differs = so_far.is.differs
            ∙ ap (λ calls. first_difference calls (runs_of so_far.made)) (front calls_of unfolded_calls_front low);
        bus_fault = so_far.is.bus_fault;
        full = so_far.is.full;
      },
      subst (Appends old now) (front_text low) so_far.gone.gone,
      untouched,
    )

    -- memory was refused for the next one
    pub refused_next : finished.ended ≡ All → finished.never_came ≡ false → i ≤ length batches → (batch : ScriptListed)
        (later : List ScriptListed) → drop i batches ≡ batch ∷ later → (u : W)
        → IsCutShort wire opened limits batch t u
        → BatchAnswers wire limits batches s u (Err Memory) old now no_run_files no_run_files
    refused_next all came low batch later next u refused = (
      record {
        between = t;
        before = ran low;
        all = sym so_far.is.ended ∙ all;
        came = sym (so_far.is.never_came ∙ front ends_until unfolded_until_front low) ∙ came;
        batch = batch;
        later = later;
        next = ap (λ n. drop n batches) (counted low) ∙ next;
        refused = subst (λ o. IsCutShort wire o limits batch t u) so_far.is_open refused;
      },
      subst (Appends old now) (front_text low) so_far.gone.gone,
      untouched,
    )

    -- the runs of the next batch
    module _ (all : finished.ended ≡ All) (came : finished.never_came ≡ false) (batch : ScriptListed)
        (split : take (i + 1) batches ≡ take i batches ++ batch ∷ []) (runs : BatchRuns) (u : W)
        (performs : Performs wire opened limits batch t runs u) (told : HostReport)
        (last_is : runs.last.told ≡ told) (new : Option (List ℕ)) where
      unfolds_next : Unfolds (take (i + 1) batches) (so_far.made ++ runs ∷ [])
      unfolds_next = subst (λ z. Unfolds z (so_far.made ++ runs ∷ [])) (sym split)
          (batch_more so_far.unfolds (sym so_far.is.never_came ∙ came) performs.are)

      runs_next : RunsBatches wire false (batch_bursts limits.bursts) limits s (calls_of (take (i + 1) batches)
          (so_far.made ++ runs ∷ [])) (runs_of (so_far.made ++ runs ∷ [])) u
      runs_next =
          let before = calls_of (take i batches) so_far.made in
          let next : List ScriptListed = batch_again batch runs.earlier ++ batch ∷ [] in
          let ended : List ScriptRun = runs.earlier ++ runs.last ∷ [] in
          let calls : before ++ next ≡ calls_of (take (i + 1) batches) (so_far.made ++ runs ∷ []) =
          sym (unfolded_calls_last (take i batches) so_far.made batch runs as_batches)
          ∙ ap (λ z. calls_of z (so_far.made ++ runs ∷ [])) (sym split) in
          subst (λ z. RunsBatches wire false (batch_bursts limits.bursts) limits s z (runs_of
          (so_far.made ++ runs ∷ [])) u)
          calls (subst (λ z. RunsBatches wire false (batch_bursts limits.bursts) limits s (before ++ next) z u)
          (sym (unfolded_runs_last so_far.made runs))
          (runs_append wire false (batch_bursts limits.bursts) limits s t before (runs_of so_far.made) u next ended
          so_far.are (sym so_far.is.ended ∙ all)
          (subst (λ o. RunsBatches wire o (batch_bursts limits.bursts) limits t next ended u) so_far.is_open
          (then performs.earlier (earlier_reads_ended_all batch.until runs.earlier performs.are.earlier)
          performs.last))))

      text_next : session_text (take i batches) so_far.made ++ batch_report batch runs
          ≡ session_text (take (i + 1) batches) (so_far.made ++ runs ∷ [])
      text_next =
          sym (report_pairs_append batch_report (take i batches) so_far.made batch runs as_batches)
          ∙ ap (λ z. session_text z (so_far.made ++ runs ∷ [])) (sym split)

      -- the runs of the next batch, and their report, which was written whole, come after those so far
      pub one_more : (written_next total : ℕ) → HasReportWritten now new (batch_report batch runs) written_next
          → Sums total written written_next → IsScriptBatch batch → (finished_next : Finished)
          → ((batches : List ScriptListed) (made : List BatchRuns) (runs : BatchRuns) → Unfolds batches made
          → IsScriptBatch batch
          → AreRunsOfBatch batch runs → runs.last.told ≡ told → IsScriptFinished batches made None finished
          → IsScriptFinished (batches ++ batch ∷ []) (made ++ runs ∷ []) None finished_next)
          → SoFar (i + 1) u new finished_next total true
      one_more written_next total wrote sum fits finished_next and =
          let front = session_text (take i batches) so_far.made in
          let len = length-append front (batch_report batch runs) in
          let same = ap length text_next in
          record {
            made = so_far.made ++ runs ∷ [];
            unfolds = unfolds_next;
            are = runs_next;
            is = subst (λ z. IsScriptFinished z (so_far.made ++ runs ∷ []) None finished_next) (sym split)
                (and (take i batches) so_far.made runs so_far.unfolds fits performs.are last_is so_far.is);
            gone = record {
              gone = subst (Appends old new) text_next
                  (Appends-trans old now new front (batch_report batch runs) so_far.gone.gone wrote.gone);
              count = counts total written written_next (length front) (length (batch_report batch runs)) sum
                  so_far.gone.count wrote.count ∙ ap (λ n. min n (2 ^ 64 - 1)) (sym len ∙ same);
            };
            is_open = sym (ap (script_is_open false) (unfolded_runs_last so_far.made runs)
                ∙ script_open_later false (runs_of so_far.made) runs.earlier runs.last);
          }

      -- the runs of the next batch, of whose report not all was written, are the last: the engine's answer is
      -- `Write`, with the number of all bytes written
      pub stopped_in : (written_next total : ℕ) → i < length batches
          → OutputStopped written_next now new (batch_report batch runs) → Sums total written written_next
          → BatchAnswers wire limits batches s u (Err (Write total)) old new no_run_files
          no_run_files
      stopped_in written_next total low stop sum =
          let front = session_text (take i batches) so_far.made in
          let made : List BatchRuns = so_far.made ++ runs ∷ [] in
          let same = counted (omega (arith, low)) in
          let longer = length-append so_far.made (runs ∷ []) in
          let many : i + 1 ≡ length made = omega (arith, same, longer) in
          let whole : front ++ batch_report batch runs ≡ session_text batches made =
          text_next ∙ ap (λ n. session_text (take n batches) made) many ∙ report_pairs_front batch_report batches made
          in
          let calls : calls_of (take (i + 1) batches) made ≡ calls_of batches made =
          ap (λ n. calls_of (take n batches) made) many ∙ unfolded_calls_front batches made in
          let before = ap length (front_text (omega (arith, low))) in (
            record {
              made = made;
              unfolds = subst (λ n. Unfolds (take n batches) made) many unfolds_next;
              are = subst (λ z. RunsBatches wire false (batch_bursts limits.bursts) limits s z (runs_of made) u) calls
                  runs_next;
            },
            inl (
              record {
                earlier = so_far.made;
                last = runs;
                are = refl;
                stopped = stopped_after total written written_next old now new front (batch_report batch runs)
                    (session_text batches made) sum so_far.gone stop whole;
                past = omega (arith, before);
              },
              untouched,
            ),
          )
