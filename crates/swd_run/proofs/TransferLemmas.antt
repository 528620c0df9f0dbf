-- The report of a run states the transfers that the memory logged, and so do the accesses that an observer reports.
use Rattle.std.proofs.Common.{◌≡◌, ℕ, ◌∙◌, Bool, true, false, List, [], ◌∷◌, ◌++◌, length, take, refl, sym, ap, ap₂}
use Rattle.std.proofs.Common.{subst, arith}
use Rattle.std.proofs.lemmas.List.{append-nil, append_assoc, append_cancel_left, length-append, take_all}
use Rattle.std.specs.Prelude.{◌≢◌, IfSome, None, Option, Some, if◌then◌else◌, is_some, map, unwrap_or}
use Rattle.swd_port.specs.declared.access.Access.{Access}
use Rattle.swd_port.specs.declared.access.Access.TheVariants.{Read, Write}
use Rattle.swd_port.specs.declared.access.Answer.{Answer}
use Rattle.swd_port.specs.declared.access.Answer.TheVariants.{BusFault}
use Rattle.swd_port.specs.declared.access.Transfer.{Transfer}
use Rattle.swd_port.specs.declared.wire.Wire.{Ghosts}
use Rattle.swd_port.specs.Bus.{Bus, bus_done_answer, bus_after, bus_answer, bus_succeeds, bus_transfer_of}
use Rattle.swd_port.specs.Port.{Port}
use Rattle.swd_observer.specs.declared.told.ObservedAccess.{ObservedAccess as Shown}
use Rattle.swd_observer.specs.declared.told.How.{How}
use Rattle.swd_observer.specs.declared.told.How.TheVariants.{Took, May, Not}
use Rattle.swd_observer.specs.Explained.{ObservedByHow, ObservedLog, ObservedSince}
use Rattle.swd_observer.specs.Runs.{Accounted}
use Rattle.swd_host.specs.declared.outcome.End.TheVariants.{All}
use Rattle.swd_host.specs.Plain.{answers_of, memory_after}
use Rattle.swd_host.specs.Reports.{HostEndsAt, IsAtRest, RunFitsFrom, HostReport}
use Rattle.swd_host.specs.Sessions.{HostSession, none as no_call, then as one_call}
use Rattle.swd_script.specs.Scripts.{ScriptListed}
use Rattle.swd_host.specs.declared.task.Bursts.{Bursts}
use Rattle.swd_run.specs.declared.limits.Limits.{Limits}
use Rattle.swd_run.specs.Sessions.{ScriptRun, RunsBatches, batch_bursts, script_is_open, none as no_run}
use Rattle.swd_run.specs.Sessions.{then as one_run}
use Rattle.swd_run.specs.Starts.{ScriptStarts, script_opening_requests}
use Rattle.swd_run.specs.Transfers.{AreReportAccessesKnown, AreReportTransfers, AreWholeRuns, ReportKnownIsExact}
use Rattle.swd_run.specs.Transfers.{ReportExplainsSession, ReportSureIsExact, report_is_took, report_taken_in}
use Rattle.swd_run.specs.Transfers.{report_transfer_by, report_known_transfer, report_transfers_by, report_transfers_in}
use Rattle.swd_run.specs.Transfers.{report_accesses_in, report_answers_in}
use Rattle.swd_run.proofs.SessionLemmas.{ends}
use Rattle.swd_run.proofs.WentLemmas.{alone, script_calls_answer_count, law_before}

-- ---- a list over the plain memory

logged_by : (a : Access) (m : Bus) (well : Bool)
    → (if well then m.log ++ bus_transfer_of a m ∷ [] else m.log) ≡ m.log
    ++ report_transfer_by a (if well then bus_done_answer a m else BusFault)
logged_by (Read at) m true = refl
logged_by (Write at word) m true = refl
logged_by (Read at) m false = sym (append-nil m.log)
logged_by (Write at word) m false = sym (append-nil m.log)

-- the log after a list has the transfers of its answers
logged_after : (list : List Access) (m : Bus)
    → (memory_after list m).log ≡ m.log ++ report_transfers_by list (answers_of list m)
logged_after [] m = sym (append-nil m.log)
logged_after (a ∷ list) m =
    let rest = report_transfers_by list (answers_of list (bus_after a m)) in
    logged_after list (bus_after a m) ∙ ap (λ log. log ++ rest) (logged_by a m (bus_succeeds a m))
    ∙ append_assoc m.log (report_transfer_by a (bus_answer a m)) rest

-- ---- a call that ended whole

module _ (opening : ℕ) (kind : Bursts) (tries : ℕ) (list : List Access) (told : HostReport) (s t : Port)
    (fits : RunFitsFrom opening kind list tries s.target.memory told s t) (all : told.ended ≡ All) where
  whole_list : take fits.now.0 list ≡ list
  whole_list = ap (λ n. take n list) (fits.now.1.all all) ∙ take_all (length list) list (omega arith)

  unbegun : (b : ℕ) → told.begun ≡ b → b ≡ 0
  unbegun b is = let fit = fits.now.1 in grind (arith, fit)

  whole_memory : t.target.memory ≡ memory_after list s.target.memory
  whole_memory = let fit = fits.now.1 in grind (arith, unbegun, fit, whole_list)

  rests_whole : IsAtRest t
  rests_whole = (subst (λ end. HostEndsAt end tries s t) all fits.ends).0

  answers_whole : told.answers ≡ answers_of list s.target.memory
  answers_whole = fits.now.1.answers ∙ ap (λ l. answers_of l s.target.memory) whole_list

  answered_all : length list ≡ length told.answers
  answered_all = sym (ap length answers_whole ∙ script_calls_answer_count list s.target.memory)

  logged_call : t.target.memory.log ≡ s.target.memory.log ++ report_transfers_by list told.answers
  logged_call =
      ap (λ (m : Bus). m.log) whole_memory ∙ logged_after list s.target.memory
      ∙ ap (λ answers. s.target.memory.log ++ report_transfers_by list answers)
      (sym answers_whole)

-- ---- successive lists

transfers_more : (list : List Access) (answers : List Answer) (more : List Access) (others : List Answer)
    → length list ≡ length answers → report_transfers_by (list ++ more) (answers ++ others)
    ≡ report_transfers_by list answers ++ report_transfers_by more others
transfers_more [] [] more others same = refl
transfers_more [] (answer ∷ answers) more others same = absurd (omega arith)
transfers_more (a ∷ list) [] more others same = absurd (omega arith)
transfers_more (a ∷ list) (answer ∷ answers) more others same =
    ap (λ l. report_transfer_by a answer ++ l) (transfers_more list answers more others (omega (arith, same)))
    ∙ sym (append_assoc (report_transfer_by a answer) (report_transfers_by list answers)
    (report_transfers_by more others))

-- transfers after others
joined : (start middle end first second : List Transfer) → middle ≡ start ++ first → end ≡ middle ++ second
    → end ≡ start ++ (first ++ second)
joined start middle end first second a b =
    b ∙ ap (λ log. log ++ second) a ∙ append_assoc start first second

-- what a target's memory logged from s to t is the transfers of these answers
record HasLogged (s : Port) (list : List Access) (answers : List Answer) (t : Port) : Type 0 where
  same : length list ≡ length answers
  log : t.target.memory.log ≡ s.target.memory.log ++ report_transfers_by list answers

nothing_logged : (s : Port) → HasLogged s [] [] s
nothing_logged s = record { same = refl; log = sym (append-nil s.target.memory.log) }

-- and those of a further list that ended whole
logged_more : (s : Port) (before : List Access) (old : List Answer) (u v : Port) → HasLogged s before old u
    → (opening : ℕ) (kind : Bursts) (tries : ℕ) (more : List Access) (told : HostReport)
    → RunFitsFrom opening kind more tries u.target.memory told u v → told.ended ≡ All
    → HasLogged s (before ++ more) (old ++ told.answers) v
logged_more s before old u v h opening kind tries more told fits all = record {
  same = (let a = length-append before more in let b = length-append old told.answers in
      let c = h.same in let count = answered_all opening kind tries more told u v fits all in
      omega (arith, a, b, c, count));
  log = joined s.target.memory.log u.target.memory.log v.target.memory.log (report_transfers_by before old)
      (report_transfers_by more told.answers) h.log (logged_call opening kind tries more told u v fits all)
      ∙ ap (λ l. s.target.memory.log ++ l) (sym (transfers_more before old more told.answers h.same));
}

record SessionLogged (s : Port) (list : List Access) (answers : List Answer) (t : Port) : Type 0 where
  rests : IsAtRest t
  logged : HasLogged s list answers t

session_logged : (s : Port) (list : List Access) (answers : List Answer) (t : Port) → IsAtRest s
    → HostSession s list answers t → SessionLogged s list answers t
session_logged s list answers t rest no_call = record { rests = rest; logged = nothing_logged s }
session_logged s list answers t rest
    (one_call {done = before} {answers = old} {t = u} {u = v} prior kind tries more told runs all) =
    let h : SessionLogged s before old u = session_logged s before old u rest prior in
    let fits = runs h.rests in
    record {
      rests = rests_whole 9 kind tries more told u v fits all;
      logged = logged_more s before old u v h.logged 9 kind tries more told fits all;
    }

-- what explains the log since then explains these transfers
explained_since : (told : List Shown) (before now more : List Transfer) → now ≡ before ++ more
    → ObservedSince before told now → ObservedLog told more
explained_since told before now more is since =
    subst (ObservedLog told) (append_cancel_left before since.more more (sym since.is ∙ is)) since.explains

explained_by : (s : Port) (list : List Access) (answers : List Answer) (t : Port) (told : List Shown)
    → HasLogged s list answers t → Accounted s.target.memory.log told t
    → ObservedLog told (report_transfers_by list answers)
explained_by s list answers t told logged accounted =
    explained_since told s.target.memory.log t.target.memory.log (report_transfers_by list answers) logged.log
    accounted.now

-- so it explains the transfers of the answers
pub report_session_explained : ReportExplainsSession
report_session_explained s list answers t told rest session accounted =
    explained_by s list answers t told (session_logged s list answers t rest session).logged accounted

-- ---- successive calls of a script

whole_last : (runs : List ScriptRun) (run : ScriptRun) → AreWholeRuns (runs ++ run ∷ [])
    → AreWholeRuns runs × (run.stops ≡ []) × (run.told.ended ≡ All)
whole_last [] run h = (tt, h.0, h.1)
whole_last (first ∷ runs) run h =
    let rest = whole_last runs run h.2 in ((h.0, h.1, rest.0), rest.1, rest.2)

accesses_last : (batches : List ScriptListed) (batch : ScriptListed)
    → report_accesses_in (batches ++ batch ∷ []) ≡ report_accesses_in batches ++ batch.accesses
accesses_last [] batch = append-nil batch.accesses
accesses_last (first ∷ batches) batch =
    ap (λ l. first.accesses ++ l) (accesses_last batches batch)
    ∙ sym (append_assoc first.accesses (report_accesses_in batches) batch.accesses)

answers_last : (runs : List ScriptRun) (run : ScriptRun)
    → report_answers_in (runs ++ run ∷ []) ≡ report_answers_in runs ++ run.told.answers
answers_last [] run = append-nil run.told.answers
answers_last (first ∷ runs) run =
    ap (λ l. first.told.answers ++ l) (answers_last runs run)
    ∙ sym (append_assoc first.told.answers (report_answers_in runs) run.told.answers)

module _ {W : Type 0} (wire : Ghosts W) (limits : Limits) (s : W)
    (rest : IsAtRest (wire.port s)) where
  -- calls that each ended `All`, none resumed, logged the transfers of their answers
  calls_logged : (batches : List ScriptListed) (runs : List ScriptRun) (t : W)
      → RunsBatches wire false (batch_bursts limits.bursts) limits s batches runs t → wire.lawful t → AreWholeRuns runs
      → HasLogged (wire.port s) (report_accesses_in batches) (report_answers_in runs) (wire.port t)
  calls_logged batches runs t no_run law whole = nothing_logged (wire.port s)
  calls_logged batches runs t (one_run {batches = before} {runs = earlier} {t = u} {u = v} {batch = batch} {run = run}
      prior all goes) law whole =
      let n : Bursts = batch_bursts limits.bursts batch in
      let (early, unstopped, ended) = whole_last earlier run whole in
      let back : wire.lawful u = law_before wire n batch.accesses limits.tries u run.stops run.told v goes.went law in
      let starts : ScriptStarts (script_is_open false earlier) (wire.port u) =
      (ends wire limits s rest before earlier u prior back).open_for all in
      let over = (alone wire n batch.accesses limits.tries u starts run.stops run.told v goes.went law unstopped).1
      in
      subst (λ list. HasLogged (wire.port s) list (report_answers_in (earlier ++ run ∷ [])) (wire.port v))
      (sym (accesses_last before batch))
      (subst (λ answers. HasLogged (wire.port s) (report_accesses_in before ++ batch.accesses) answers (wire.port v))
      (sym (answers_last earlier run))
      (logged_more (wire.port s) (report_accesses_in before) (report_answers_in earlier) (wire.port u) (wire.port v)
      (calls_logged before earlier u prior back early) (script_opening_requests (script_is_open false earlier)) n
      limits.tries batch.accesses run.told (over starts) ended))

  -- what explains the log explains the transfers that their reports state
  pub reported : (batches : List ScriptListed) (runs : List ScriptRun) (t : W) (told : List Shown)
      → RunsBatches wire false (batch_bursts limits.bursts) limits s batches runs t → wire.lawful t → AreWholeRuns runs
      → Accounted (wire.port s).target.memory.log told (wire.port t)
      → ObservedLog told (report_transfers_in batches runs)
  reported batches runs t told all law whole accounted =
      explained_by (wire.port s) (report_accesses_in batches) (report_answers_in runs) (wire.port t) told
      (calls_logged batches runs t all law whole) accounted

-- ---- where nothing is doubtful

exact_by : (t : Shown) (told : List Shown) (log : List Transfer) (how : How) → t.how ≢ May → t.how ≡ how
    → ((xs : List Transfer) → ObservedLog told xs → AreReportTransfers (report_taken_in told) xs)
    → ObservedByHow how t (λ xs. ObservedLog told xs) log
    → AreReportTransfers (if report_is_took how then t ∷ report_taken_in told else report_taken_in told) log
exact_by t told log Took sure is exact (x, xs, same, matches, rest) =
    subst (AreReportTransfers (t ∷ report_taken_in told)) (sym same) (matches, exact xs rest)
exact_by t told log May sure is exact h = absurd (sure is)
exact_by t told log Not sure is exact h = exact log h

-- those that took effect are the transfers
pub report_sure_is_exact : ReportSureIsExact
report_sure_is_exact [] [] sure h = tt
report_sure_is_exact [] (x ∷ log) sure h = absurd cc
report_sure_is_exact (t ∷ told) log sure h =
    exact_by t told log t.how sure.0 refl (λ xs explains. report_sure_is_exact told xs sure.1 explains) h

abbrev transfer : Bool → ℕ → ℕ → Transfer
transfer read at word = record { read = read; addr = at; word = word }

transfer_as : (r q : Bool) (a b v w : ℕ) → r ≡ q → a ≡ b → v ≡ w → transfer r a v ≡ transfer q b w
transfer_as r q a b v w e f g = cc

told_value : (o : Option ℕ) (n : ℕ) → IfSome o (λ a. n ≡ a) → is_some o ≡ true → unwrap_or o 0 ≡ n
told_value None n h e = absurd cc
told_value (Some a) n h e = sym h

these_known : (told : List Shown) (log : List Transfer) → AreReportTransfers told log → AreReportAccessesKnown told
    → map report_known_transfer told ≡ log
these_known [] [] these known = refl
these_known [] (x ∷ log) these known = absurd these
these_known (t ∷ told) [] these known = absurd these
these_known (t ∷ told) (x ∷ log) these known =
    ap₂ ◌∷◌ (transfer_as t.read x.read (unwrap_or t.addr 0) x.addr (unwrap_or t.word 0) x.word (sym these.0.read)
    (told_value t.addr x.addr these.0.addr known.0) (told_value t.word x.word these.0.word known.1))
    (these_known told log these.1 known.2)

-- and equal where all is known
pub report_known_is_exact : ReportKnownIsExact
report_known_is_exact told log sure known explains =
    these_known (report_taken_in told) log (report_sure_is_exact told log sure explains) known
