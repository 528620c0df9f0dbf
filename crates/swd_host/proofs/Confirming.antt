-- No write to an access port is asked while a DRW write is unconfirmed, where writes aren't performed in bursts.
use Rattle.swd_host.proofs.Words.{◌≡◌, ◌≢◌, ◌++◌, ◌∷◌, [], ℕ, Bool, true, false, refl, sym, ap, subst}
use Rattle.swd_host.proofs.Words.{arith}
use Rattle.swd_host.proofs.Words.{◌∙◌, List, Option, Some, if◌then◌else◌, Access, Engine, State, Doing}
use Rattle.swd_host.proofs.Words.{Resting}
use Rattle.swd_host.proofs.Words.{Task, Job, Ask, Data, Waited, At, Confirm, Stopped, Answered}
use Rattle.swd_host.proofs.Words.{engine_request_for, engine_word_for, engine_cue, engine_job, engine_state_after_ack}
use Rattle.swd_host.proofs.Words.{CueAsk, is_burst, is_burst_write, Bursts, task_for, EngineIsNew, Answer}
use Rattle.std.proofs.lemmas.List.{append-nil}
use Rattle.swd_port.specs.declared.call.Call.{Call}
use Rattle.swd_port.specs.declared.cue.Cue.{Cue}
use Rattle.swd_port.specs.declared.cue.Cue.TheVariants.{Lead, Take, Give, Pass}
use Rattle.swd_host.specs.declared.task.Bursts.TheVariants.{Never, Writes, Reads}
use Rattle.swd_host.specs.Calls.{EngineTurns}
use Rattle.swd_host.specs.Replies.{EngineTookReply}
use Rattle.swd_host.specs.Requests.{engine_register_for}
use Rattle.swd_host.specs.Sent.{host_awaits_drw, host_okay}
use Rattle.swd_host.specs.Stages.{EngineAwaits}
use Rattle.swd_host.specs.Steps.{EngineGoesTo, engine_after_cue}
use Rattle.swd_host.specs.Confirming.{HostConfirms, HostConfirmsEach, host_unconfirmed, host_writes_ap, host_sends_drw}
use Rattle.swd_host.specs.Confirming.{is_host_settling, HostSettled, HostSettles}
use Rattle.swd_host.proofs.Words.{engine_outcome_at}
use Rattle.swd_host.proofs.Working.{IsEngineAsking, engine_at_ask}
use Rattle.swd_host.proofs.Turning.{IsEngineTaking, engine_at_take, IsEngineGiving, engine_at_give}
use Rattle.swd_host.proofs.Turned.{engine_turn_works}
use Rattle.swd_host.proofs.SendingWords.{opening_turns_make}

-- a DRW write may be unconfirmed here: before the request that confirms it was answered, and where the engine stopped
abbrev pub engine_may_await : State → Bool
engine_may_await (Doing (At Confirm) Ask) = true
engine_may_await (Doing (At Confirm) Waited) = true
engine_may_await (Resting (Stopped end)) = true
engine_may_await x = false

-- what holds of the calls so far
pub record EngineConfirms (e : Engine) (calls : List Call) : Type 0 where
  pub each : HostConfirmsEach calls
  pub sure : engine_may_await e.state ≡ false → host_unconfirmed calls ≡ false

-- A REQUEST
-- where a write to an access port is asked, no DRW write awaits its confirmation
asks_sure : (job : Job) (task : Task) → is_burst_write task ≡ false
    → host_writes_ap (CueAsk (engine_request_for job task)) ≡ true → engine_may_await (Doing job Ask) ≡ false
asks_sure job task single writes = grind arith

-- an answer settles the write that it confirms
settles : (job : Job) (task : Task) (v : ℕ) → is_burst_write task ≡ false → engine_may_await (Doing job Ask) ≡ true
    → engine_may_await (engine_state_after_ack job v) ≡ false
    → is_host_settling (record { cue = CueAsk (engine_request_for job task); seen = v }) ≡ true
settles job task v single awaits later = grind arith

asked_sure : (job : Job) (task : Task) (v : ℕ) (calls : List Call) (awaits : Bool)
    → engine_may_await (Doing job Ask) ≡ awaits → is_burst_write task ≡ false
    → (engine_may_await (Doing job Ask) ≡ false → host_unconfirmed calls ≡ false)
    → engine_may_await (engine_state_after_ack job v) ≡ false
    → host_unconfirmed (record { cue = CueAsk (engine_request_for job task); seen = v } ∷ calls) ≡ false
asked_sure job task v calls true is single sure later =
    ap (λ b. if b then false else host_unconfirmed calls) (settles job task v single is later)
asked_sure job task v calls false is single sure later =
    either (is_host_settling (record { cue = CueAsk (engine_request_for job task); seen = v })) (sure is) where
      either : (b : Bool) → host_unconfirmed calls ≡ false → (if b then false else host_unconfirmed calls) ≡ false
      either true h = refl
      either false h = h

-- A DATA PHASE
-- the data of a DRW write is that of the transfer, whose confirmation is asked next
sent_later : (job : Job) (task : Task) (word : ℕ) (earlier : List Call) (x : State) → is_burst_write task ≡ false
    → engine_word_for job task ≡ Some word → host_awaits_drw (host_okay (engine_register_for job task) ∷ earlier) ≡ true
    → EngineGoesTo (engine_after_cue (Doing job Data) task) x → engine_may_await x ≡ true
sent_later job task word earlier x single has drw goes = grind arith

-- A TURNAROUND
waits_still : (job : Job) (task : Task) (x : State) → engine_may_await (Doing job Waited) ≡ true
    → EngineGoesTo (engine_after_cue (Doing job Waited) task) x → engine_may_await x ≡ true
waits_still job task x awaits goes = grind arith

-- ONE CALL
-- any call but a request and the data of a write leaves what is unconfirmed
unconfirmed_same : (cue : Cue) (seen : ℕ) (calls : List Call) → host_sends_drw cue calls ≡ false
    → is_host_settling (record { cue = cue; seen = seen }) ≡ false
    → host_unconfirmed (record { cue = cue; seen = seen } ∷ calls) ≡ host_unconfirmed calls
unconfirmed_same cue seen calls sends settles = grind arith

-- while a data phase is due, nothing is unconfirmed
data_sure : (job : Job) → engine_may_await (Doing job Data) ≡ false
data_sure job = grind arith

given_sure : (e f : Engine) (bits seen : ℕ) (calls : List Call) (job : Job) (word : ℕ) → e.state ≡ Doing job Data
    → engine_word_for job e.task ≡ Some word → is_burst_write e.task ≡ false → EngineAwaits e.state e.task calls
    → EngineConfirms e calls → EngineGoesTo (engine_after_cue e.state e.task) f.state → (drw : Bool)
    → host_awaits_drw calls ≡ drw → engine_may_await f.state ≡ false
    → host_unconfirmed (record { cue = Give bits; seen = seen } ∷ calls) ≡ false
given_sure e f bits seen calls job word at has single awaits h goes true drw later =
    absurd (let was = subst (λ x. EngineAwaits x e.task calls) at awaits in
    let may : engine_may_await f.state ≡ true =
    sent_later job e.task word was.0 f.state single has (sym (ap host_awaits_drw was.1) ∙ drw)
    (subst (λ x. EngineGoesTo (engine_after_cue x e.task) f.state) at goes) in
    let both : true ≡ false = sym may ∙ later in cc)
given_sure e f bits seen calls job word at has single awaits h goes false drw later =
    unconfirmed_same (Give bits) seen calls drw refl ∙ h.sure (ap engine_may_await at ∙ data_sure job)

pub confirmed_by : (e f : Engine) (cue : Cue) (seen : ℕ) (calls : List Call) → is_burst_write e.task ≡ false
    → EngineAwaits e.state e.task calls → EngineConfirms e calls → engine_cue e ≡ Some cue
    → EngineTookReply cue seen e f → EngineConfirms f (record { cue = cue; seen = seen } ∷ calls)
confirmed_by e f (CueAsk q) seen calls single awaits h asks saw =
    let a : IsEngineAsking e.state e.task q = engine_at_ask e.state e.stray e.task q asks in
    let sure : engine_may_await (Doing a.job Ask) ≡ false → host_unconfirmed calls ≡ false =
    (λ none. h.sure (ap engine_may_await a.at ∙ none)) in
    record {
      each = (
        λ writes. sure (asks_sure a.job e.task single (ap (λ r. host_writes_ap (CueAsk r)) (sym a.is) ∙ writes)),
        h.each,
      );
      sure = λ later. subst (λ r. host_unconfirmed (record { cue = CueAsk r; seen = seen } ∷ calls) ≡ false) (sym a.is)
          (asked_sure a.job e.task seen calls (engine_may_await (Doing a.job Ask)) refl single sure
          (sym (ap engine_may_await (saw.sees.state ∙ ap (λ x. engine_state_after_ack (engine_job x) seen) a.at))
          ∙ later));
    }
confirmed_by e f Take seen calls single awaits h asks took =
    let p : IsEngineTaking e.state e.task = engine_at_take e.state e.stray e.task asks in
    record {
      each = (λ writes. absurd (cc), h.each);
      sure = λ later. unconfirmed_same Take seen calls refl refl ∙ h.sure (ap engine_may_await p.at ∙ data_sure p.job);
    }
confirmed_by e f (Give bits) seen calls single awaits h asks did =
    let p : IsEngineGiving e.state e.task bits = engine_at_give e.state e.stray e.task bits asks in
    record {
      each = (λ writes. absurd (cc), h.each);
      sure = λ later. given_sure e f bits seen calls p.job p.gives p.at p.is single awaits h did.goes
          (host_awaits_drw calls) refl later;
    }
confirmed_by e f Pass seen calls single awaits h asks did = record {
  each = (λ writes. absurd (cc), h.each);
  sure = λ later. unconfirmed_same Pass seen calls refl refl
      ∙ h.sure (passed_sure e.state e.task f.state asks did.goes later (engine_may_await e.state) refl);
} where
  passed_sure : (x : State) (task : Task) (y : State) → engine_cue e ≡ Some Pass
      → EngineGoesTo (engine_after_cue e.state e.task) y → engine_may_await y ≡ false → (b : Bool)
      → engine_may_await e.state ≡ b → engine_may_await e.state ≡ false
  passed_sure x task y asks goes later false is = is
  passed_sure x task y asks goes later true is = grind arith
confirmed_by e f (Lead ones undriven switch low) seen calls single awaits h asks did = record {
  each = (λ writes. absurd (cc), h.each);
  sure = λ later. unconfirmed_same (Lead ones undriven switch low) seen calls refl refl
      ∙ h.sure (leads_sure e.state asks);
} where
  leads_sure : (x : State) → engine_cue e ≡ Some (Lead ones undriven switch low) → engine_may_await e.state ≡ false
  leads_sure x asks = grind arith

-- THE CALLS OF AN ENGINE
single_kept : (e f : Engine) → f.task ≡ e.task → is_burst_write e.task ≡ false → is_burst_write f.task ≡ false
single_kept e f same single = ap is_burst_write same ∙ single

not_burst_write : (task : Task) → is_burst task ≡ false → is_burst_write task ≡ false
not_burst_write task plain = grind arith

-- calls that an engine asked for, behind earlier ones
pub engine_turns_confirm : (e f : Engine) (past calls : List Call) → is_burst_write e.task ≡ false
    → ((early : List Call) (g : Engine) → EngineTurns e early g → EngineAwaits g.state g.task (early ++ past))
    → EngineConfirms e past → EngineTurns e calls f
    → (is_burst_write f.task ≡ false) × EngineConfirms f (calls ++ past)
engine_turns_confirm e f past [] single awaits h same = (
  subst (λ (x : Engine). is_burst_write x.task ≡ false) (sym same) single,
  subst (λ x. EngineConfirms x past) (sym same) h,
)
engine_turns_confirm e f past (call ∷ calls) single awaits h (g, turns, turned) =
    let before = engine_turns_confirm e g past calls single awaits h turns in (
      single_kept g f (engine_turn_works call g f turned).task before.0,
      confirmed_by g f call.cue call.seen (calls ++ past) before.0 (awaits calls g turns) before.1 turned.cue
          turned.replied,
    )

-- those of an opening
pub opening_turns_confirm : (list : List Access) (kind : Bursts) (again : Bool) (tries : ℕ) (e f : Engine)
    (calls : List Call) → EngineIsNew kind again tries e → EngineTurns e calls f → EngineConfirms f calls
opening_turns_confirm list kind again tries e f calls new turns = subst (EngineConfirms f) (append-nil calls)
    (engine_turns_confirm e f [] calls (not_burst_write e.task new.burst)
    (λ early g went. subst (EngineAwaits g.state g.task) (sym (append-nil early))
    (opening_turns_make list kind again tries e g early new went).awaits)
    (record { each = tt; sure = λ none. refl }) turns).1

-- BY THE KIND OF BURSTS
pub confirms_any : (kind : Bursts) (calls : List Call) → (kind ≢ Writes → HostConfirmsEach calls)
    → HostConfirms kind calls
confirms_any Writes calls h = tt
confirms_any Never calls h = h (λ e. absurd (cc))
confirms_any Reads calls h = h (λ e. absurd (cc))

-- a kind but the bursts of writes has what such calls have
pub settles_any : (kind : Bursts) (calls : List Call) → (kind ≢ Writes → HostSettled calls) → HostSettles kind calls
settles_any Writes calls h = tt
settles_any Never calls h = h (λ e. absurd (cc))
settles_any Reads calls h = h (λ e. absurd (cc))

-- and the other way round
pub settled_of : (kind : Bursts) (calls : List Call) → kind ≢ Writes → HostSettles kind calls → HostSettled calls
settled_of Writes calls other h = absurd (other refl)
settled_of Never calls other h = h
settled_of Reads calls other h = h

-- an access that is answered
pub answered_sure : (x : State) (task : Task) (answer : Answer) → engine_outcome_at x task ≡ Some (Answered answer)
    → engine_may_await x ≡ false
answered_sure x task answer is = grind arith

-- the kind of bursts stays
pub turns_bursts : (e f : Engine) (calls : List Call) → EngineTurns e calls f → f.bursts ≡ e.bursts
turns_bursts e f [] same = ap (λ (x : Engine). x.bursts) same
turns_bursts e f (call ∷ calls) (g, turns, turned) =
    (engine_turn_works call g f turned).bursts ∙ turns_bursts e g calls turns

-- the task of such a kind is no write of a burst
pub never_burst : (kind : Bursts) (a : Access) (following : Option Access) → kind ≢ Writes
    → is_burst_write (task_for kind a following) ≡ false
never_burst kind a following other = grind arith
