-- What the engine knows of the calls so far: each call keeps it.
use Rattle.swd_host.proofs.Words.{◌≡◌, ◌+◌, ◌≤◌, ◌==◌, ◌++◌, ◌∷◌, [], ℕ, Bool, true, false, refl, sym, ap, subst, inl}
use Rattle.swd_host.proofs.Words.{inr, arith, ◌∙◌, List, length, Option, Some, None, if◌then◌else◌}
use Rattle.swd_host.proofs.Words.{data_phase_word, data_phase_number, Answered, Stopped, Task, Job, Ask, Data, Waited}
use Rattle.swd_host.proofs.Words.{State, Doing, Resting, Ahead, Unsent, NextSent, NextFailed, HostStep, Flags, Lost, At}
use Rattle.swd_host.proofs.Words.{Check, Clear, LastStatus, Resend, Status, WriteTar, Behind, Confirm, Transfer}
use Rattle.swd_host.proofs.Words.{engine_word_for, engine_job_starts, engine_is_ahead_at}
use Rattle.swd_host.proofs.Words.{engine_job_is_of, host_flags_in, engine_state_after_ack, not, task_is_read}
use Rattle.swd_host.proofs.Words.{task_is_block, access_of_task, Access, Answer, Request, ◌&&◌, ◌||◌, Engine}
use Rattle.swd_host.proofs.Words.{Bursts}
use Rattle.std.proofs.Math.Bool.{and-false}
use Rattle.swd_port.specs.declared.access.Access.TheVariants.{Read, Write}
use Rattle.swd_port.specs.declared.access.Answer.TheVariants.{Written, Value, BusFault}
use Rattle.swd_port.specs.declared.call.Call.{Call}
use Rattle.swd_port.specs.Steps.{is_port_ask}
use Rattle.swd_port.specs.declared.cue.Cue.TheVariants.{Ask as CueAsk, Take, Give, Pass}
use Rattle.swd_port.specs.declared.register.Register.{Register}
use Rattle.swd_port.specs.declared.register.Register.TheVariants.{CtrlStatRead, DrwRead, DrwWrite, RdbuffRead}
use Rattle.swd_port.specs.declared.register.Register.TheVariants.{ResendRead}
use Rattle.swd_port.specs.Registers.{ctrl_stat_holds}
use Rattle.swd_host.specs.declared.engine.Phase.TheVariants.{Faulted}
use Rattle.swd_host.specs.declared.task.Task.TheVariants.{Read as TaskRead, BurstRead, Write as TaskWrite, BurstWrite}
use Rattle.swd_host.specs.declared.task.Bursts.TheVariants.{Never}
use Rattle.swd_host.specs.Requests.{engine_register_for, engine_request_for, engine_repeat_place}
use Rattle.swd_host.specs.Turns.{engine_begun_left}
use Rattle.swd_host.specs.Sent.{HostSent, HostSince, HostListHasAccess, IsHostDataPhase, HostAwaitsNone}
use Rattle.swd_host.specs.Sent.{host_asks_drw, host_asks_result, host_awaits_drw, host_register_gives_word}
use Rattle.swd_host.specs.Sent.{is_host_confirmation, host_okay, host_since_refused, other, sends, confirms, flagged}
use Rattle.swd_host.specs.Sent.{written, value, fault, Quiet, Failed as Fails}
use Rattle.swd_host.specs.Stages.{engine_stage, engine_fault_stage, engine_data_stage, EngineCallsAtData, EngineStood}
use Rattle.swd_host.specs.Stages.{EngineBetween, EngineAwaitsData, EngineAccessEnded, EngineKnowsAt, EngineKnowsCalls}
use Rattle.swd_host.specs.Stages.{engine_ahead_stage, engine_next_is_sent}
use Rattle.swd_host.specs.Steps.{engine_is_stopped, EngineGoesTo, engine_confused, engine_after_write}
use Rattle.swd_host.specs.Steps.{engine_after_fault, engine_after_read, engine_ahead_to, EngineRestsWith}
use Rattle.swd_host.specs.Steps.{engine_after_status, engine_after_clearing}
use Rattle.swd_host.proofs.SendingStages.{IsTaskInList, engine_call_not_drw, engine_okay_or_not, engine_stage_fault}
use Rattle.swd_host.proofs.SendingStages.{engine_refused_settled, engine_led_or_stopped}

module _ (list : List Access) (answers : List Answer) where
  -- one call more that is no request and no data of DRW
  plain_other : {s c : ℕ} {f : HostSince} {calls : List Call} (call : Call) → host_awaits_drw calls ≡ false
      → is_port_ask call.cue ≡ false → HostSent list answers s c f calls → HostSent list answers s c f (call ∷ calls)
  plain_other {s} {c} {f} {calls} call none plain h =
      subst (λ since. HostSent list answers s c since (call ∷ calls))
      (ap (λ asks. if asks && (call.seen == 4) then host_since_refused f else f) plain)
      (other call none (λ k. absurd (engine_call_not_drw call.cue (call.seen == 1) plain k)) h)

  stood_other : (most : ℕ) (S : ℕ → ℕ → HostSince → Type 0) (call : Call) (calls : List Call)
      → host_awaits_drw calls ≡ false → is_port_ask call.cue ≡ false → EngineStood list answers most S calls
      → EngineStood list answers most S (call ∷ calls)
  stood_other most S call calls none plain h =
      record {
        sent = h.sent;
        sure = h.sure;
        since = h.since;
        at = h.at;
        few = h.few;
        is = plain_other call none
            plain h.is;
      }

  -- the same numbers by equations
  pub sent_as : (s c n m : ℕ) (f g : HostSince) (calls : List Call) → s ≡ n → c ≡ m → f ≡ g
      → HostSent list answers s c f calls → HostSent list answers n m g calls
  sent_as s c n m f g calls i j k h =
      subst (λ z. HostSent list answers n m z calls) k
      (subst (λ z. HostSent list answers n z f calls) j (subst (λ z. HostSent list answers z c f calls) i h))

  stood_any : (most : ℕ) (S : ℕ → ℕ → HostSince → Type 0) (calls : List Call)
      → EngineStood list answers most S calls → EngineStood list answers most (λ s c f. Unit {0}) calls
  stood_any most S calls h =
      record { sent = h.sent; sure = h.sure; since = h.since; at = tt; few = h.few; is = h.is }

  stood_most : (most more : ℕ) (S : ℕ → ℕ → HostSince → Type 0) (calls : List Call) → most ≤ more
      → EngineStood list answers most S calls → EngineStood list answers more S calls
  stood_most most more S calls few h =
      record { sent = h.sent; sure = h.sure; since = h.since; at = h.at; few = omega (arith, h.few); is = h.is }

  stop_knows : (x : State) (task : Task) (b : ℕ) (ahead : Ahead) (calls : List Call) → engine_is_stopped x ≡ true
      → EngineStood list answers b (λ s c f. Unit {0}) calls
      → EngineKnowsAt list answers x task (engine_begun_left x task b) ahead calls
  stop_knows (Resting (Stopped end)) task b ahead calls h stood = stood
  stop_knows x task b ahead calls h stood = absurd (cc)

  -- the engine stopped, or it is where it is led
  goes_knows : (x y : State) (task : Task) (b : ℕ) (expected ahead : Ahead) (calls : List Call) → EngineGoesTo y x
      → EngineRestsWith expected x ahead → EngineStood list answers b (λ s c f. Unit {0}) calls
      → (EngineRestsWith expected y ahead → EngineKnowsAt list answers y task (engine_begun_left y task b) ahead calls)
      → EngineKnowsAt list answers x task (engine_begun_left x task b) ahead calls
  goes_knows x y task b expected ahead calls goes rests stood there =
      elim (engine_led_or_stopped x y goes) [
        | inl same ↦ subst (λ z. EngineKnowsAt list answers z task (engine_begun_left z task b) ahead calls) (sym same)
            (there (subst (λ z. EngineRestsWith expected z ahead) same rests))
        | inr stops ↦ stop_knows x task b ahead calls stops stood
      ]

  -- A REQUEST
  confirmed : (r : Register) (calls : List Call) → host_awaits_drw calls ≡ false
      → is_host_confirmation (host_okay r) ≡ true
      → {most : ℕ} → (h : EngineStood list answers most (λ s c f. (s ≡ 1) × (c ≡ 0) × (f ≡ Quiet)) calls)
      → HostSent list answers h.sent h.sent Quiet (host_okay r ∷ calls)
  confirmed r calls none result h = confirms (host_okay r) none result
      (sent_as h.sent h.sure h.sent 0 h.since Quiet calls refl h.at.1 h.at.2 h.is)

  asked_stood : (job : Job) (task : Task) (b : ℕ) (calls : List Call) → IsTaskInList list answers task
      → host_awaits_drw calls ≡ false → EngineStood list answers b (engine_stage job task) calls
      → EngineCallsAtData (engine_is_ahead_at job Data task) list answers b job task
      (host_okay (engine_register_for job task) ∷ calls)
  asked_stood (At Confirm) (TaskRead at) b calls here none h = record {
    sent = h.sent;
    sure = h.sent;
    since = Quiet;
    at = (h.at.0, h.at.0, refl);
    few = h.few;
    is = confirmed RdbuffRead calls none refl h;
  }
  asked_stood (At Confirm) (TaskWrite at word) b calls here none h = record {
    sent = h.sent;
    sure = h.sent;
    since = Quiet;
    at = (h.at.0, h.at.0, refl);
    few = h.few;
    is = confirmed RdbuffRead calls none refl h;
  }
  asked_stood (At Confirm) (BurstRead at) b calls here none h = record {
    sent = h.sent;
    sure = h.sent;
    since = Quiet;
    at = (h.at.0, h.at.0, refl);
    few = h.few;
    is = confirmed DrwRead calls none refl h;
  }
  asked_stood (At Confirm) (BurstWrite at word) b calls here none h = record {
    sent = 0;
    sure = 0;
    since = Quiet;
    at = refl;
    few = omega arith;
    is = written at word 0 0 here.has
        (subst (λ s. HostSent list answers s s Quiet (host_okay DrwWrite ∷ calls)) h.at.0
        (confirmed DrwWrite calls none refl h));
  }
  asked_stood (At Behind) task b calls here none h = absurd h.at
  asked_stood (At p) task b calls here none h = record {
    sent = h.sent;
    sure = h.sure;
    since = h.since;
    at = h.at;
    few = h.few;
    is = other _ none (λ k. (h.at.2, h.at.1)) h.is;
  }
  asked_stood job task b calls here none h = record {
    sent = h.sent;
    sure = h.sure;
    since = h.since;
    at = h.at;
    few = h.few;
    is = other _ none (λ k. absurd (cc)) h.is;
  }

  refused_knows : (job : Job) (task : Task) (b : ℕ) (ahead : Ahead) (calls : List Call) (two four : Bool)
      → (two ≡ true → four ≡ false) → host_awaits_drw calls ≡ false → (s c : ℕ) (f : HostSince)
      → engine_stage job task s c f → s ≤ b → HostSent list answers s c (if four then host_since_refused f else f) calls
      → EngineKnowsAt list answers (if two then Doing job Waited else if four then Doing job Faulted else
      Resting (Stopped Lost)) task b ahead calls
  refused_knows job task b ahead calls true true apart none s c f at few h =
      absurd (let both : true ≡ false = apart refl in cc)
  refused_knows job task b ahead calls true false apart none s c f at few h =
      record { none = none; stood = record { sent = s; sure = c; since = f; at = at; few = few; is = h } }
  refused_knows job task b ahead calls false true apart none s c f at few h = record {
    none = none;
    stood = record {
      sent = s;
      sure = c;
      since = host_since_refused f;
      at = engine_stage_fault job task s c f at;
      few = few;
      is = h;
    };
  }
  refused_knows job task b ahead calls false false apart none s c f at few h =
      record { sent = s; sure = c; since = f; at = tt; few = few; is = h }

  not_both : (v : ℕ) → (v == 2) ≡ true → (v == 4) ≡ false
  not_both v h = grind arith

  unconfirmed : (q : Request) (v : ℕ) → (v == 1) ≡ false
      → is_host_confirmation (record { cue = CueAsk q; seen = v }) ≡ true → ⊥
  unconfirmed q v none k =
      let both : true ≡ false = sym k ∙ (ap (λ okays. host_asks_result (CueAsk q) && okays) none ∙ and-false _) in cc

  -- a request, by what was seen of it
  pub ask_knows : (job : Job) (task : Task) (b more v : ℕ) (ahead : Ahead) (calls : List Call)
      → IsTaskInList list answers task
      → b ≤ more → engine_job_starts job task ≤ more → EngineBetween list answers b (engine_stage job task) calls
      → EngineKnowsAt list answers (engine_state_after_ack job v) task more ahead
      (record { cue = CueAsk (engine_request_for job task); seen = v } ∷ calls)
  ask_knows job task b more v ahead calls here few begun h =
      let stood : EngineStood list answers more (engine_stage job task) calls = stood_most b more _ calls few h.stood in
      elim (engine_okay_or_not v) [
        | inl one ↦ subst (λ n. EngineKnowsAt list answers (engine_state_after_ack job n) task more ahead
            (record { cue = CueAsk (engine_request_for job task); seen = n } ∷ calls)) (sym one)
            (record {
              earlier = calls;
              asked = refl;
              begun = begun;
              stood = asked_stood job task more calls here h.none stood;
            })
        | inr none ↦
            (let unasked : host_awaits_drw (record { cue = CueAsk (engine_request_for job task); seen = v } ∷ calls)
            ≡ false =
            ap (λ okays. host_asks_drw (CueAsk (engine_request_for job task)) && okays) none ∙ and-false _ in
            subst (λ okays. EngineKnowsAt list answers
            (if okays then Doing job Data else if v == 2 then Doing job Waited else
            if v == 4 then Doing job Faulted else Resting (Stopped Lost)) task more ahead
            (record { cue = CueAsk (engine_request_for job task); seen = v } ∷ calls)) (sym none)
            (refused_knows job task more ahead _ (v == 2) (v == 4)
            (not_both v) unasked stood.sent stood.sure stood.since
            stood.at stood.few
            (other _ h.none (λ k. absurd (unconfirmed (engine_request_for job task) v none k)) stood.is)))
      ]

  -- A TURNAROUND
  pub waited_knows : (job : Job) (task : Task) (b v : ℕ) (expected ahead : Ahead) (calls : List Call) (x : State)
      → EngineGoesTo (Doing job Ask) x → EngineRestsWith expected x ahead
      → EngineBetween list answers b (engine_stage job task) calls
      → EngineKnowsAt list answers x task (engine_begun_left x task b) ahead (record { cue = Pass; seen = v } ∷ calls)
  waited_knows job task b v expected ahead calls x goes rests h =
      let stood : EngineStood list answers b (engine_stage job task) (record { cue = Pass; seen = v } ∷ calls) =
      stood_other b _ _ calls h.none refl h.stood in
      goes_knows x (Doing job Ask) task b expected ahead _ goes rests (stood_any b _ _ stood)
      (λ known. record { none = refl; stood = stood })

  -- from what stood before a request that was refused to what stands at the one that follows
  again_between : (job : Job) (task : Task) (b : ℕ) (call : Call) (calls : List Call) (S : ℕ → ℕ → HostSince → Type 0)
      → ((s c : ℕ) (f : HostSince) → S s c f → engine_stage job task s c f) → host_awaits_drw (call ∷ calls) ≡ false
      → EngineStood list answers b S (call ∷ calls)
      → EngineBetween list answers b (engine_stage job task) (call ∷ calls)
  again_between job task b call calls S to none h = record {
    none = none;
    stood = record { sent = h.sent; sure = h.sure; since = h.since; at = to _ _ _ h.at; few = h.few; is = h.is };
  }

  faulted_at : (job : Job) (task : Task) (b : ℕ) (ahead : Ahead) (call : Call) (calls : List Call)
      → engine_job_is_of false job ≡ true → host_awaits_drw (call ∷ calls) ≡ false
      → EngineStood list answers b (engine_fault_stage job task) (call ∷ calls)
      → EngineKnowsAt list answers (engine_after_fault job task) task
      (engine_begun_left (engine_after_fault job task) task b) ahead (call ∷ calls)
  faulted_at (At WriteTar) task b ahead call calls on none h = again_between (Status WriteTar) task b call calls _
      (λ s c f i. i) none h
  faulted_at (At Transfer) task b ahead call calls on none h =
      again_between (Status Transfer) task b call calls _ (λ s c f i. i) none h
  faulted_at (At Confirm) task b ahead call calls on none h =
      again_between (Status Confirm) task b call calls _ (λ s c f i. i) none h
  faulted_at (At Behind) task b ahead call calls on none h = absurd h.at
  faulted_at (At p) task b ahead call calls on none h = absurd (cc)
  faulted_at (Resend Confirm) (TaskRead at) b ahead call calls on none h =
      again_between LastStatus (TaskRead at) b call calls _ (λ s c f i. tt) none h
  faulted_at (Resend Confirm) (BurstRead at) b ahead call calls on none h =
      again_between (Status Behind) (BurstRead at) b call calls _ (λ s c f i. (i.0, i.1, refl)) none h
  faulted_at (Resend Confirm) (TaskWrite at word) b ahead call calls on none h =
      again_between LastStatus (TaskWrite at word) b call calls _ (λ s c f i. tt) none h
  faulted_at (Resend Confirm) (BurstWrite at word) b ahead call calls on none h =
      again_between LastStatus (BurstWrite at word) b call calls _ (λ s c f i. tt) none h
  faulted_at job task b ahead call calls on none h =
      again_between LastStatus task b call calls _ (λ s c f i. tt) none h

  -- the turnaround after FAULT
  pub faulted_knows : (job : Job) (task : Task) (b v : ℕ) (expected ahead : Ahead) (calls : List Call) (x : State)
      → engine_job_is_of false job ≡ true → EngineGoesTo (engine_after_fault job task) x
      → EngineRestsWith expected x ahead → EngineBetween list answers b (engine_fault_stage job task) calls
      → EngineKnowsAt list answers x task (engine_begun_left x task b) ahead (record { cue = Pass; seen = v } ∷ calls)
  faulted_knows job task b v expected ahead calls x on goes rests h =
      let stood : EngineStood list answers b (engine_fault_stage job task) (record { cue = Pass; seen = v } ∷ calls) =
      stood_other b _ _ calls h.none refl h.stood in
      goes_knows x (engine_after_fault job task) task b expected ahead _ goes rests (stood_any b _ _ stood)
      (λ known. faulted_at job task b ahead _ calls on refl stood)

  -- the engine stopped, or a request comes next
  goes_job : (x : State) (job : Job) (task : Task) (b : ℕ) (ahead : Ahead) (calls : List Call)
      → EngineGoesTo (Doing job Ask) x → EngineBetween list answers b (engine_stage job task) calls
      → EngineKnowsAt list answers x task (engine_begun_left x task b) ahead calls
  goes_job x job task b ahead calls goes h =
      goes_knows x (Doing job Ask) task b ahead ahead calls goes (λ rests. refl) (stood_any b _ _ h.stood) (λ known. h)

  -- THE DATA PHASE OF A WRITE
  -- the data of the access in hand passed
  sent_here : (most : ℕ) (task : Task) (earlier : List Call) (call asked : Call) → IsTaskInList list answers task
      → 1 ≤ most → IsHostDataPhase (access_of_task task) asked call
      → EngineStood list answers most (λ s c f. (s ≤ 1) × (c ≡ 0) × HostAwaitsNone s f) (asked ∷ earlier)
      → EngineStood list answers most (λ s c f. (s ≡ 1) × (c ≡ 0) × (f ≡ Quiet)) (call ∷ asked ∷ earlier)
  sent_here most task earlier call asked here some its h = record {
    sent = 1;
    sure = 0;
    since = Quiet;
    at = (refl, refl, refl);
    few = some;
    is = sends (access_of_task task) call asked (omega (arith, h.at.0))
        (subst (λ n. HostListHasAccess list n (access_of_task task)) (omega arith) here.has) its
        (sent_as h.sent h.sure h.sent 0 h.since h.since _ refl h.at.1 refl h.is);
  }

  given_at : (job : Job) (task : Task) (b word v : ℕ) (ahead : Ahead) (earlier : List Call) (x : State)
      → IsTaskInList list answers task → engine_job_is_of false job ≡ true → engine_word_for job task ≡ Some word
      → engine_job_starts job task ≤ b
      → EngineStood list answers b (engine_data_stage job task) (host_okay (engine_register_for job task) ∷ earlier)
      → EngineGoesTo (engine_after_write job) x
      → EngineKnowsAt list answers x task (engine_begun_left x task b) ahead
      (record { cue = Give (data_phase_number word); seen = v } ∷ host_okay (engine_register_for job task) ∷ earlier)
  given_at (At WriteTar) task b word v ahead earlier x here on is begun h goes =
      goes_job x (At Transfer) task b ahead _ goes
      (again_between (At Transfer) task b _ _ _ (λ s c f i. i) refl (stood_other b _ _ _ refl refl h))
  given_at (At Transfer) (TaskWrite at w) b word v ahead earlier x here on is begun h goes =
      let same : w ≡ word = cc in
      goes_job x (At Confirm) (TaskWrite at w) b ahead _ goes
      (again_between (At Confirm) (TaskWrite at w) b _ _ _ (λ s c f i. i) refl
      (sent_here b (TaskWrite at w) earlier _ _ here begun (refl, ap (λ n. Give (data_phase_number n)) (sym same)) h))
  given_at (At Transfer) (BurstWrite at w) b word v ahead earlier x here on is begun h goes =
      let same : w ≡ word = cc in
      goes_job x (At Confirm) (BurstWrite at w) b ahead _ goes
      (again_between (At Confirm) (BurstWrite at w) b _ _ _ (λ s c f i. i) refl
      (sent_here b (BurstWrite at w) earlier _ _ here begun (refl, ap (λ n. Give (data_phase_number n)) (sym same)) h))
  given_at (Clear Confirm owed) task b word v ahead earlier x here on is begun h goes =
      goes_job x (Check Confirm owed) task b ahead _ goes
      (again_between (Check Confirm owed) task b _ _ _ (λ s c f i. i) refl (stood_other b _ _ _ refl refl h))
  given_at (Clear Behind owed) task b word v ahead earlier x here on is begun h goes =
      goes_job x (Check Behind owed) task b ahead _ goes
      (again_between (Check Behind owed) task b _ _ _ (λ s c f i. i) refl (stood_other b _ _ _ refl refl h))
  given_at (Clear p owed) task b word v ahead earlier x here on is begun h goes =
      goes_job x (Check p owed) task b ahead _ goes
      (again_between (Check p owed) task b _ _ _ (λ s c f i. i) refl (stood_other b _ _ _ refl refl h))
  given_at job task b word v ahead earlier x here on is begun h goes = absurd (cc)

  no_ahead : (job : Job) (task : Task) (word : ℕ) → engine_word_for job task ≡ Some word
      → engine_is_ahead_at job Data task ≡ false
  no_ahead (At Confirm) task word is = absurd (cc)
  no_ahead job task word is = refl

  -- the calls at a data phase, with the request that it follows first
  awaited_head : (job : Job) (task : Task) (b : ℕ) (calls : List Call) → engine_is_ahead_at job Data task ≡ false
      → (h : EngineAwaitsData list answers b job task calls)
      → EngineStood list answers b (engine_data_stage job task) (host_okay (engine_register_for job task) ∷ h.earlier)
  awaited_head job task b calls none h =
      subst (λ l. EngineStood list answers b (engine_data_stage job task) l) h.asked
      (subst (λ a. EngineCallsAtData a list answers b job task calls) none h.stood)

  -- the data phase of a write was sent
  pub given_knows : (job : Job) (task : Task) (b word v : ℕ) (ahead : Ahead) (calls : List Call) (x : State)
      → IsTaskInList list answers task → engine_job_is_of false job ≡ true → engine_word_for job task ≡ Some word
      → EngineGoesTo (engine_after_write job) x → EngineAwaitsData list answers b job task calls
      → EngineKnowsAt list answers x task (engine_begun_left x task b) ahead
      (record { cue = Give (data_phase_number word); seen = v } ∷ calls)
  given_knows job task b word v ahead calls x here on is goes h =
      subst (λ l. EngineKnowsAt list answers x task (engine_begun_left x task b) ahead
      (record { cue = Give (data_phase_number word); seen = v } ∷ l)) (sym h.asked)
      (given_at job task b word v ahead h.earlier x here on is h.begun
      (awaited_head job task b calls (no_ahead job task word is) h) goes)

  -- THE DATA PHASE OF A READ
  goes_stopped : (x : State) (task : Task) (b : ℕ) (ahead : Ahead) (S : ℕ → ℕ → HostSince → Type 0) (calls : List Call)
      → EngineGoesTo engine_confused x → EngineStood list answers b S calls
      → EngineKnowsAt list answers x task (engine_begun_left x task b) ahead calls
  goes_stopped x task b ahead S calls goes h =
      goes_knows x engine_confused task b ahead ahead calls goes (λ rests. refl) (stood_any b S calls h)
      (λ known. stood_any b S calls h)

  goes_answered : (x : State) (answer : Answer) (task : Task) (b : ℕ) (expected ahead : Ahead)
      (S : ℕ → ℕ → HostSince → Type 0) (calls : List Call) → EngineGoesTo (Resting (Answered answer)) x
      → EngineRestsWith expected x ahead
      → (engine_next_is_sent expected ≡ true → task_is_block task ≡ true) → host_awaits_drw calls ≡ false
      → EngineStood list answers b S calls
      → EngineStood list (answers ++ answer ∷ []) 1 (engine_ahead_stage expected) calls
      → EngineKnowsAt list answers x task (engine_begun_left x task b) ahead calls
  goes_answered x answer task b expected ahead S calls goes rests block none before h =
      goes_knows x (Resting (Answered answer)) task b expected ahead calls goes rests (stood_any b S calls before)
      (λ known. subst (λ a. EngineAccessEnded list (answers ++ answer ∷ []) a task calls) (sym (known refl))
      (record { none = none; goes_on = block; stood = h }))

  -- the next read of a block was sent
  block_sent : (at b v : ℕ) (earlier : List Call) → IsTaskInList list answers (BurstRead at) → 2 ≤ b
      → EngineStood list answers b (λ s c f. (s ≡ 1) × (c ≡ 1) × (f ≡ Quiet)) (host_okay DrwRead ∷ earlier)
      → EngineStood list answers b (λ s c f. (s ≡ 2) × (c ≡ 1) × (f ≡ Quiet))
      (record { cue = Take; seen = v } ∷ host_okay DrwRead ∷ earlier)
  block_sent at b v earlier here some h = record {
    sent = 2;
    sure = 1;
    since = Quiet;
    at = (refl, refl, refl);
    few = some;
    is = sends (Read ((here.next refl).0)) _ _ (omega (arith, h.at.0)) (here.next refl).1 (refl, refl)
        (sent_as h.sent h.sure h.sent 1 h.since h.since _ refl h.at.1 refl h.is);
  }

  -- a word answers the read in hand
  given_word : (at word n v : ℕ) (most : ℕ) (r : Register) (earlier : List Call) (S : ℕ → ℕ → HostSince → Type 0)
      → HostListHasAccess list (length answers) (Read at) → host_register_gives_word r ≡ true
      → data_phase_word v ≡ Some word → n ≤ 1
      → (h : EngineStood list answers most S (record { cue = Take; seen = v } ∷ host_okay r ∷ earlier)) → h.sent ≡ n + 1
      → h.sure ≡ 1
      → EngineStood list (answers ++ Value word ∷ []) 1 (λ s c f. (s ≡ n) × (c ≡ 0) × (f ≡ h.since))
      (record { cue = Take; seen = v } ∷ host_okay r ∷ earlier)
  given_word at word n v most r earlier S has gives is few h one all = record {
    sent = n;
    sure = 0;
    since = h.since;
    at = (refl, refl, refl);
    few = few;
    is = value at word n 0 r _ has gives refl is
        (sent_as h.sent h.sure (n + 1) (0 + 1) h.since h.since _ one all refl h.is);
  }

  weaker : (answers : List Answer) (most : ℕ) (S R : ℕ → ℕ → HostSince → Type 0) (calls : List Call)
      → ((s c : ℕ) (f : HostSince) → S s c f → R s c f)
      → EngineStood list answers most S calls → EngineStood list answers most R calls
  weaker answers most S R calls to h =
      record { sent = h.sent; sure = h.sure; since = h.since; at = to _ _ _ h.at; few = h.few; is = h.is }

  -- a write is answered by the OK that its confirming request got
  was_written : (at word v b : ℕ) (earlier : List Call) → HostListHasAccess list (length answers) (Write at word)
      → EngineStood list answers b (λ s c f. (s ≡ 1) × (c ≡ 1) × (f ≡ Quiet)) (host_okay RdbuffRead ∷ earlier)
      → EngineStood list (answers ++ Written ∷ []) 1 (engine_ahead_stage Unsent)
      (record { cue = Take; seen = v } ∷ host_okay RdbuffRead ∷ earlier)
  was_written at word v b earlier has h = record {
    sent = 0;
    sure = 0;
    since = h.since;
    at = (refl, refl);
    few = omega arith;
    is = written at word 0 0 has
        (sent_as h.sent h.sure 1 1 h.since h.since _ h.at.0 h.at.1 refl (plain_other _ refl refl h.is));
  }

  taken_confirm : (task : Task) (aims : Bool) (kind : Bursts) (b v : ℕ) (word : Option ℕ) (ahead : Ahead)
      (earlier : List Call) (x : State)
      → IsTaskInList list answers task → engine_is_ahead_at (At Confirm) Data task ≡ false
      → engine_job_starts (At Confirm) task ≤ b
      → data_phase_word v ≡ word → EngineStood list answers b (engine_data_stage (At Confirm) task)
      (host_okay (engine_register_for (At Confirm) task) ∷ earlier)
      → EngineGoesTo (engine_after_read (At Confirm) word task aims kind) x
      → EngineRestsWith (engine_ahead_to (At Confirm) task) x ahead
      → EngineKnowsAt list answers x task (engine_begun_left x task b) ahead
      (record { cue = Take; seen = v } ∷ host_okay (engine_register_for (At Confirm) task) ∷ earlier)
  taken_confirm (TaskWrite at w) aims kind b v None ahead earlier x here apart begun is h goes rests =
      goes_answered x Written (TaskWrite at w) b Unsent ahead _ _ goes rests (λ k. absurd (cc)) refl
      (stood_other b _ _ _ refl refl h) (was_written at w v b earlier here.has h)
  taken_confirm (TaskWrite at w) aims kind b v (Some word) ahead earlier x here apart begun is h goes rests =
      goes_answered x Written (TaskWrite at w) b Unsent ahead _ _ goes rests (λ k. absurd (cc)) refl
      (stood_other b _ _ _ refl refl h) (was_written at w v b earlier here.has h)
  taken_confirm (BurstWrite at w) aims kind b v word ahead earlier x here apart begun is h goes rests = absurd (cc)
  taken_confirm (TaskRead at) aims kind b v None ahead earlier x here apart begun is h goes rests =
      goes_job x (Resend Confirm) (TaskRead at) b ahead _ goes
      (again_between (Resend Confirm) (TaskRead at) b _ _ _ (λ s c f i. (i.0, i.1, refl, i.2)) refl
      (stood_other b _ _ _ refl refl h))
  taken_confirm (TaskRead at) aims kind b v (Some word) ahead earlier x here apart begun is h goes rests =
      let taken : EngineStood list answers b (λ s c f. (s ≡ 1) × (c ≡ 1) × (f ≡ Quiet))
      (record { cue = Take; seen = v } ∷ host_okay RdbuffRead ∷ earlier) = stood_other b _ _ _ refl refl h in
      goes_answered x (Value word) (TaskRead at) b Unsent ahead _ _ goes rests (λ k. absurd (cc)) refl taken
      (weaker _ 1 _ (engine_ahead_stage Unsent) _ (λ s c f i. (i.0, i.1))
      (given_word at word 0 v b RdbuffRead earlier _ here.has refl is (omega arith) taken taken.at.0 taken.at.1))
  taken_confirm (BurstRead at) aims kind b v None ahead earlier x here apart begun is h goes rests =
      goes_job x (Resend Confirm) (BurstRead at) b ahead _ goes
      (again_between (Resend Confirm) (BurstRead at) b _ _ _ (λ s c f i. (i.0, i.1, refl, i.2)) refl
      (block_sent at b v earlier here begun h))
  taken_confirm (BurstRead at) aims kind b v (Some word) ahead earlier x here apart begun is h goes rests =
      let taken : EngineStood list answers b (λ s c f. (s ≡ 2) × (c ≡ 1) × (f ≡ Quiet))
      (record { cue = Take; seen = v } ∷ host_okay DrwRead ∷ earlier) = block_sent at b v earlier here begun h in
      goes_answered x (Value word) (BurstRead at) b NextSent ahead _ _ goes rests (λ k. refl) refl taken
      (weaker _ 1 _ (engine_ahead_stage NextSent) _ (λ s c f i. (i.0, i.1, i.2 ∙ taken.at.2))
      (given_word at word 1 v b DrwRead earlier _ here.has refl is (omega arith) taken taken.at.0 taken.at.1))

  taken_resend : (task : Task) (aims : Bool) (kind : Bursts) (b v : ℕ) (word : Option ℕ) (ahead : Ahead)
      (earlier : List Call) (x : State)
      → IsTaskInList list answers task → data_phase_word v ≡ word
      → EngineStood list answers b (engine_stage (Resend Confirm) task) (host_okay ResendRead ∷ earlier)
      → EngineGoesTo (engine_after_read (Resend Confirm) word task aims kind) x
      → EngineRestsWith (engine_ahead_to (Resend Confirm) task) x ahead
      → EngineKnowsAt list answers x task (engine_begun_left x task b) ahead
      (record { cue = Take; seen = v } ∷ host_okay ResendRead ∷ earlier)
  taken_resend task aims kind b v None ahead earlier x here is h goes rests =
      goes_job x (Resend Confirm) task b ahead _ goes
      (again_between (Resend Confirm) task b _ _ _ (λ s c f i. i) refl (stood_other b _ _ _ refl refl h))
  taken_resend (TaskRead at) aims kind b v (Some word) ahead earlier x here is h goes rests =
      let taken : EngineStood list answers b (engine_stage (Resend Confirm) (TaskRead at))
      (record { cue = Take; seen = v } ∷ host_okay ResendRead ∷ earlier) = stood_other b _ _ _ refl refl h in
      goes_answered x (Value word) (TaskRead at) b Unsent ahead _ _ goes rests (λ k. absurd (cc)) refl taken
      (weaker _ 1 _ (engine_ahead_stage Unsent) _ (λ s c f i. (i.0, i.1))
      (given_word at word 0 v b ResendRead earlier _ here.has refl is (omega arith) taken taken.at.0 taken.at.1))
  taken_resend (BurstRead at) aims kind b v (Some word) ahead earlier x here is h goes rests =
      let taken : EngineStood list answers b (engine_stage (Resend Confirm) (BurstRead at))
      (record { cue = Take; seen = v } ∷ host_okay ResendRead ∷ earlier) = stood_other b _ _ _ refl refl h in
      goes_answered x (Value word) (BurstRead at) b NextSent ahead _ _ goes rests (λ k. refl) refl taken
      (weaker _ 1 _ (engine_ahead_stage NextSent) _ (λ s c f i. (i.0, i.1, i.2 ∙ taken.at.3))
      (given_word at word 1 v b ResendRead earlier _ here.has refl is (omega arith) taken taken.at.0 taken.at.1))
  taken_resend task aims kind b v (Some word) ahead earlier x here is h goes rests = absurd (let k = h.at.2 in cc)

  taken_behind : (task : Task) (aims : Bool) (kind : Bursts) (b v : ℕ) (word : Option ℕ) (ahead : Ahead)
      (earlier : List Call) (x : State)
      → IsTaskInList list answers task → data_phase_word v ≡ word
      → EngineStood list answers b (engine_stage (Resend Behind) task) (host_okay ResendRead ∷ earlier)
      → EngineGoesTo (engine_after_read (Resend Behind) word task aims kind) x
      → EngineRestsWith (engine_ahead_to (Resend Behind) task) x ahead
      → EngineKnowsAt list answers x task (engine_begun_left x task b) ahead
      (record { cue = Take; seen = v } ∷ host_okay ResendRead ∷ earlier)
  taken_behind task aims kind b v None ahead earlier x here is h goes rests =
      goes_job x (Resend Behind) task b ahead _ goes
      (again_between (Resend Behind) task b _ _ _ (λ s c f i. i) refl (stood_other b _ _ _ refl refl h))
  taken_behind (BurstRead at) aims kind b v (Some word) ahead earlier x here is h goes rests =
      let taken : EngineStood list answers b (engine_stage (Resend Behind) (BurstRead at))
      (record { cue = Take; seen = v } ∷ host_okay ResendRead ∷ earlier) = stood_other b _ _ _ refl refl h in
      goes_answered x (Value word) (BurstRead at) b NextFailed ahead _ _ goes rests (λ k. refl) refl taken
      (weaker _ 1 _ (engine_ahead_stage NextFailed) _ (λ s c f i. (i.0, i.1, i.2 ∙ taken.at.2))
      (given_word at word 1 v b ResendRead earlier _ here.has refl is (omega arith) taken taken.at.0 taken.at.1))
  taken_behind task aims kind b v (Some word) ahead earlier x here is h goes rests = absurd (let k = h.at.3 in cc)

  -- CTRL/STAT was read with STICKYERR
  flagged_stood : (b v word : ℕ) (S R : ℕ → ℕ → HostSince → Type 0) (earlier : List Call)
      → ctrl_stat_holds 0x20 word ≡ true
      → data_phase_word v ≡ Some word → ((s c : ℕ) (f : HostSince) → S s c f → R s c Fails)
      → EngineStood list answers b S (host_okay CtrlStatRead ∷ earlier)
      → EngineStood list answers b R (record { cue = Take; seen = v } ∷ host_okay CtrlStatRead ∷ earlier)
  flagged_stood b v word S R earlier shows is to h = record {
    sent = h.sent;
    sure = h.sure;
    since = Fails;
    at = to _ _ _ h.at;
    few = h.few;
    is = flagged _ word is shows (plain_other _ refl refl h.is);
  }

  status_behind : (task : Task) (b v word : ℕ) (error damaged : Bool) (ahead : Ahead) (earlier : List Call) (x : State)
      → ctrl_stat_holds 0x20 word ≡ error → data_phase_word v ≡ Some word
      → EngineStood list answers b (engine_stage (Status Behind) task) (host_okay CtrlStatRead ∷ earlier)
      → EngineGoesTo (engine_after_status Behind (record { error = error; damaged = damaged }) task) x
      → EngineKnowsAt list answers x task (engine_begun_left x task b) ahead
      (record { cue = Take; seen = v } ∷ host_okay CtrlStatRead ∷ earlier)
  status_behind task b v word false damaged ahead earlier x shows is h goes =
      goes_stopped x task b ahead _ _ goes (stood_other b _ _ _ refl refl h)
  status_behind task b v word true damaged ahead earlier x shows is h goes =
      goes_job x (Clear Behind (record { error = true; damaged = damaged })) task b ahead _ goes (record {
        none = refl;
        stood = flagged_stood b v word _ _ earlier shows is (λ s c f i. (i.0, i.1, refl, i.2, refl)) h;
      })

  status_confirm : (task : Task) (b v word : ℕ) (error damaged reads : Bool) (ahead : Ahead) (earlier : List Call)
      (x : State) → task_is_read task ≡ reads → ctrl_stat_holds 0x20 word ≡ error → data_phase_word v ≡ Some word
      → EngineStood list answers b (engine_stage (Status Confirm) task) (host_okay CtrlStatRead ∷ earlier)
      → EngineGoesTo (if reads && not error then engine_confused else
      Doing (Clear Confirm (record { error = error; damaged = damaged })) Ask) x
      → EngineKnowsAt list answers x task (engine_begun_left x task b) ahead
      (record { cue = Take; seen = v } ∷ host_okay CtrlStatRead ∷ earlier)
  status_confirm task b v word false damaged true ahead earlier x reads shows is h goes =
      goes_stopped x task b ahead _ _ goes (stood_other b _ _ _ refl refl h)
  status_confirm task b v word false damaged false ahead earlier x reads shows is h goes =
      goes_job x (Clear Confirm (record { error = false; damaged = damaged })) task b ahead _ goes
      (again_between (Clear Confirm (record { error = false; damaged = damaged })) task b _ _ _
      (λ s c f i. (i.0, i.1, record { refused = i.2; error = λ e. absurd (cc); write = λ e. reads })) refl
      (stood_other b _ _ _ refl refl h))
  status_confirm task b v word true damaged true ahead earlier x reads shows is h goes =
      goes_job x (Clear Confirm (record { error = true; damaged = damaged })) task b ahead _ goes (record {
        none = refl;
        stood = flagged_stood b v word _ _ earlier shows is
            (λ s c f i. (i.0, i.1, record { refused = tt; error = λ e. refl; write = λ e. absurd (cc) })) h;
      })
  status_confirm task b v word true damaged false ahead earlier x reads shows is h goes =
      goes_job x (Clear Confirm (record { error = true; damaged = damaged })) task b ahead _ goes (record {
        none = refl;
        stood = flagged_stood b v word _ _ earlier shows is
            (λ s c f i. (i.0, i.1, record { refused = tt; error = λ e. refl; write = λ e. absurd (cc) })) h;
      })

  taken_status : (p : HostStep) (task : Task) (aims : Bool) (kind : Bursts) (b v : ℕ) (word : Option ℕ) (ahead : Ahead)
      (earlier : List Call) (x : State) → engine_job_is_of false (Status p) ≡ true → data_phase_word v ≡ word
      → EngineStood list answers b (engine_stage (Status p) task) (host_okay CtrlStatRead ∷ earlier)
      → EngineGoesTo (engine_after_read (Status p) word task aims kind) x
      → EngineKnowsAt list answers x task (engine_begun_left x task b) ahead
      (record { cue = Take; seen = v } ∷ host_okay CtrlStatRead ∷ earlier)
  taken_status p task aims kind b v None ahead earlier x on is h goes =
      goes_job x (Status p) task b ahead _ goes
      (again_between (Status p) task b _ _ _ (λ s c f i. i) refl (stood_other b _ _ _ refl refl h))
  taken_status Confirm task aims kind b v (Some word) ahead earlier x on is h goes =
      status_confirm task b v word (ctrl_stat_holds 0x20 word) (ctrl_stat_holds 0x80 word)
      (task_is_read task) ahead earlier x refl refl is h goes
  taken_status Behind task aims kind b v (Some word) ahead earlier x on is h goes =
      status_behind task b v word (ctrl_stat_holds 0x20 word) (ctrl_stat_holds 0x80 word) ahead earlier x refl is h goes
  taken_status WriteTar task aims kind b v (Some word) ahead earlier x on is h goes =
      goes_job x (Clear WriteTar (host_flags_in word)) task b ahead _ goes
      (again_between (Clear WriteTar (host_flags_in word)) task b _ _ _ (λ s c f i. i)
      refl (stood_other b _ _ _ refl refl h))
  taken_status Transfer task aims kind b v (Some word) ahead earlier x on is h goes =
      goes_job x (Clear Transfer (host_flags_in word)) task b ahead _ goes
      (again_between (Clear Transfer (host_flags_in word)) task b _ _ _ (λ s c f i. i) refl
      (stood_other b _ _ _ refl refl h))
  taken_status p task aims kind b v word ahead earlier x on is h goes = absurd (cc)

  -- the DRW request of the access was sent at most once, and FAULT came for its data
  refused_once : (task : Task) (damaged : Bool) (s c : ℕ) (f : HostSince)
      → engine_stage (Check Confirm (record { error = false; damaged = damaged })) task s c f
      → (s ≤ 1) × (c ≡ 0) × HostAwaitsNone s f
  refused_once task damaged s c f i = (omega (arith, i.0), i.1, engine_refused_settled s f i.2.refused)

  -- the flags after ABORT: whether they are clear, and whether a bus error was owed
  checked_confirm : (task : Task) (aims : Bool) (kind : Bursts) (b v : ℕ) (left owes damaged : Bool) (ahead : Ahead)
      (earlier : List Call) (x : State) → IsTaskInList list answers task
      → EngineStood list answers b (engine_stage (Check Confirm (record { error = owes; damaged = damaged })) task)
      (host_okay CtrlStatRead ∷ earlier)
      → EngineGoesTo (if left then Doing (Clear Confirm (record { error = owes; damaged = true })) Ask else
      if owes then engine_after_clearing Confirm else Doing
      (At (engine_repeat_place Confirm task aims kind)) Ask) x
      → EngineRestsWith Unsent x ahead → EngineKnowsAt list answers x task (engine_begun_left x task b) ahead
      (record { cue = Take; seen = v } ∷ host_okay CtrlStatRead ∷ earlier)
  checked_confirm task aims kind b v true owes damaged ahead earlier x here h goes rests =
      goes_job x (Clear Confirm (record { error = owes; damaged = true })) task b ahead _ goes
      (again_between (Clear Confirm (record { error = owes; damaged = true })) task b _ _ _
      (λ s c f i. (i.0, i.1, record { refused = i.2.refused; error = i.2.error; write = i.2.write })) refl
      (stood_other b _ _ _ refl refl h))
  checked_confirm task aims kind b v false true damaged ahead earlier x here h goes rests =
      goes_answered x BusFault task b Unsent ahead _ _ goes rests (λ k. absurd (cc)) refl
      (stood_other b _ _ _ refl refl h)
      (record {
        sent = 0;
        sure = 0;
        since = Quiet;
        at = (refl, refl);
        few = omega arith;
        is = fault (access_of_task task) 0 here.has
            (sent_as h.sent h.sure 1 0 h.since Fails _ h.at.0 h.at.1 (h.at.2.error refl)
            (plain_other _ refl refl h.is));
      })
  checked_confirm (TaskRead at) aims kind b v false false damaged ahead earlier x here h goes rests =
      absurd (let reads : true ≡ false = h.at.2.write refl in cc)
  checked_confirm (BurstRead at) aims kind b v false false damaged ahead earlier x here h goes rests =
      absurd (let reads : true ≡ false = h.at.2.write refl in cc)
  checked_confirm task true Never b v false false damaged ahead earlier x here h goes rests =
      goes_job x (At WriteTar) task b ahead _ goes
      (again_between (At WriteTar) task b _ _ _ (refused_once task damaged) refl (stood_other b _ _ _ refl refl h))
  checked_confirm task false Never b v false false damaged ahead earlier x here h goes rests =
      goes_job x (At Transfer) task b ahead _ goes
      (again_between (At Transfer) task b _ _ _ (refused_once task damaged) refl (stood_other b _ _ _ refl refl h))
  checked_confirm task aims kind b v false false damaged ahead earlier x here h goes rests =
      goes_job x (At Transfer) task b ahead _ goes
      (again_between (At Transfer) task b _ _ _ (refused_once task damaged) refl (stood_other b _ _ _ refl refl h))

  checked_behind : (task : Task) (aims : Bool) (kind : Bursts) (b v : ℕ) (left owes damaged : Bool) (ahead : Ahead)
      (earlier : List Call) (x : State) → EngineStood list answers b
      (engine_stage (Check Behind (record { error = owes; damaged = damaged })) task) (host_okay CtrlStatRead ∷ earlier)
      → EngineGoesTo (if left then Doing (Clear Behind (record { error = owes; damaged = true })) Ask else
      if owes then engine_after_clearing Behind else Doing
      (At (engine_repeat_place Behind task aims kind)) Ask) x
      → EngineKnowsAt list answers x task (engine_begun_left x task b) ahead
      (record { cue = Take; seen = v } ∷ host_okay CtrlStatRead ∷ earlier)
  checked_behind task aims kind b v true owes damaged ahead earlier x h goes =
      goes_job x (Clear Behind (record { error = owes; damaged = true })) task b ahead _ goes
      (again_between (Clear Behind (record { error = owes; damaged = true })) task b _ _ _ (λ s c f i. i) refl
      (stood_other b _ _ _ refl refl h))
  checked_behind task aims kind b v false true damaged ahead earlier x h goes =
      goes_job x (Resend Behind) task b ahead _ goes
      (again_between (Resend Behind) task b _ _ _ (λ s c f i. (i.0, i.1, i.2, i.3)) refl
      (stood_other b _ _ _ refl refl h))
  checked_behind task aims kind b v false false damaged ahead earlier x h goes = absurd (let k = h.at.4 in cc)

  -- at the other places of an access
  checked_early : (p : HostStep) (task : Task) (aims : Bool) (b v : ℕ) (left owes : Bool) (ahead : Ahead)
      (earlier : List Call) (x : State) (y z : HostStep)
      → (stands : EngineStood list answers b (λ s c f. (s ≤ 1) × (c ≡ 0) × HostAwaitsNone s f)
      (host_okay CtrlStatRead ∷ earlier)) → ((s c : ℕ) (f : HostSince) → (s ≤ 1) × (c ≡ 0) × HostAwaitsNone s f
      → engine_stage (At y) task s c f)
      → ((s c : ℕ) (f : HostSince) → (s ≤ 1) × (c ≡ 0) × HostAwaitsNone s f → engine_stage (At z) task s c f)
      → ((s c : ℕ) (f : HostSince) → (s ≤ 1) × (c ≡ 0) × HostAwaitsNone s f
      → engine_stage (Clear p (record { error = owes; damaged = true })) task s c f)
      → EngineGoesTo (if left then Doing (Clear p (record { error = owes; damaged = true })) Ask else
      if owes then Doing (At y) Ask else Doing (At z) Ask) x
      → EngineKnowsAt list answers x task (engine_begun_left x task b) ahead
      (record { cue = Take; seen = v } ∷ host_okay CtrlStatRead ∷ earlier)
  checked_early p task aims b v true owes ahead earlier x y z h i j k goes =
      goes_job x (Clear p (record { error = owes; damaged = true })) task b ahead _ goes
      (again_between (Clear p (record { error = owes; damaged = true })) task b _ _ _ k refl
      (stood_other b _ _ _ refl refl h))
  checked_early p task aims b v false true ahead earlier x y z h i j k goes =
      goes_job x (At y) task b ahead _ goes (again_between (At y) task b _ _ _ i refl (stood_other b _ _ _ refl refl h))
  checked_early p task aims b v false false ahead earlier x y z h i j k goes =
      goes_job x (At z) task b ahead _ goes (again_between (At z) task b _ _ _ j refl (stood_other b _ _ _ refl refl h))

  taken_check : (p : HostStep) (owed : Flags) (task : Task) (aims : Bool) (kind : Bursts) (b v : ℕ) (word : Option ℕ)
      (ahead : Ahead) (earlier : List Call) (x : State) → IsTaskInList list answers task
      → engine_job_is_of false (Check p owed) ≡ true
      → EngineStood list answers b (engine_stage (Check p owed) task) (host_okay CtrlStatRead ∷ earlier)
      → EngineGoesTo (engine_after_read (Check p owed) word task aims kind) x → EngineRestsWith Unsent x ahead
      → EngineKnowsAt list answers x task (engine_begun_left x task b) ahead
      (record { cue = Take; seen = v } ∷ host_okay CtrlStatRead ∷ earlier)
  taken_check p owed task aims kind b v None ahead earlier x here on h goes rests =
      goes_job x (Check p owed) task b ahead _ goes
      (again_between (Check p owed) task b _ _ _ (λ s c f i. i) refl (stood_other b _ _ _ refl refl h))
  taken_check Confirm owed task aims kind b v (Some word) ahead earlier x here on h goes rests =
      checked_confirm task aims kind b v (ctrl_stat_holds 0x20 word || ctrl_stat_holds 0x80 word) owed.error
      owed.damaged ahead earlier x here h goes rests
  taken_check Behind owed task aims kind b v (Some word) ahead earlier x here on h goes rests =
      checked_behind task aims kind b v (ctrl_stat_holds 0x20 word || ctrl_stat_holds 0x80 word) owed.error owed.damaged
      ahead earlier x h goes
  taken_check WriteTar owed task aims kind b v (Some word) ahead earlier x here on h goes rests =
      checked_early WriteTar task aims b v (ctrl_stat_holds 0x20 word || ctrl_stat_holds 0x80 word) owed.error ahead
      earlier x WriteTar WriteTar h (λ s c f i. i) (λ s c f i. i) (λ s c f i. i) goes
  taken_check Transfer owed task true kind b v (Some word) ahead earlier x here on h goes rests =
      checked_early Transfer task true b v
      (ctrl_stat_holds 0x20 word || ctrl_stat_holds 0x80 word) owed.error ahead earlier x Transfer WriteTar h
      (λ s c f i. i) (λ s c f i. i) (λ s c f i. i) goes
  taken_check Transfer owed task false kind b v (Some word) ahead earlier x here on h goes rests =
      checked_early Transfer task false b v (ctrl_stat_holds 0x20 word || ctrl_stat_holds 0x80 word) owed.error ahead
      earlier x Transfer Transfer h (λ s c f i. i) (λ s c f i. i) (λ s c f i. i) goes
  taken_check p owed task aims kind b v word ahead earlier x here on h goes rests = absurd (cc)

  taken_at : (job : Job) (task : Task) (aims : Bool) (kind : Bursts) (b v : ℕ) (word : Option ℕ) (ahead : Ahead)
      (earlier : List Call) (x : State) → IsTaskInList list answers task → engine_job_is_of false job ≡ true
      → engine_word_for job task ≡ None
      → engine_is_ahead_at job Data task ≡ false → engine_job_starts job task ≤ b → data_phase_word v ≡ word
      → EngineStood list answers b (engine_data_stage job task) (host_okay (engine_register_for job task) ∷ earlier)
      → EngineGoesTo (engine_after_read job word task aims kind) x → EngineRestsWith (engine_ahead_to job task) x ahead
      → EngineKnowsAt list answers x task (engine_begun_left x task b) ahead
      (record { cue = Take; seen = v } ∷ host_okay (engine_register_for job task) ∷ earlier)
  taken_at (At WriteTar) task aims kind b v word ahead earlier x here on reads apart begun is h goes rests = absurd (cc)
  taken_at (At Transfer) (TaskRead at) aims kind b v None ahead earlier x here on reads apart begun is h goes rests =
      goes_job x (At Confirm) (TaskRead at) b ahead _ goes (again_between (At Confirm) (TaskRead at) b _ _ _
      (λ s c f i. i) refl (sent_here b (TaskRead at) earlier _ _ here begun (refl, refl) h))
  taken_at (At Transfer) (TaskRead at) aims kind b v (Some word) ahead earlier x here on reads apart begun is h goes
      rests =
      goes_job x (At Confirm) (TaskRead at) b ahead _ goes (again_between (At Confirm) (TaskRead at) b _ _ _
      (λ s c f i. i) refl (sent_here b (TaskRead at) earlier _ _ here begun (refl, refl) h))
  taken_at (At Transfer) (BurstRead at) aims kind b v None ahead earlier x here on reads apart begun is h goes rests =
      goes_job x (At Confirm) (BurstRead at) b ahead _ goes (again_between (At Confirm) (BurstRead at) b _ _ _
      (λ s c f i. i) refl (sent_here b (BurstRead at) earlier _ _ here begun (refl, refl) h))
  taken_at (At Transfer) (BurstRead at) aims kind b v (Some word) ahead earlier x here on reads apart begun is h goes
      rests =
      goes_job x (At Confirm) (BurstRead at) b ahead _ goes (again_between (At Confirm) (BurstRead at) b _ _ _
      (λ s c f i. i) refl (sent_here b (BurstRead at) earlier _ _ here begun (refl, refl) h))
  taken_at (At Transfer) task aims kind b v word ahead earlier x here on reads apart begun is h goes rests = absurd (cc)
  taken_at (At Confirm) task aims kind b v word ahead earlier x here on reads apart begun is h goes rests =
      taken_confirm task aims kind b v word ahead earlier x here apart begun is h goes rests
  taken_at (At Behind) task aims kind b v word ahead earlier x here on reads apart begun is h goes rests = absurd h.at
  taken_at (At p) task aims kind b v word ahead earlier x here on reads apart begun is h goes rests = absurd (cc)
  taken_at (Resend Confirm) task aims kind b v word ahead earlier x here on reads apart begun is h goes rests =
      taken_resend task aims kind b v word ahead earlier x here is h goes rests
  taken_at (Resend Behind) task aims kind b v word ahead earlier x here on reads apart begun is h goes rests =
      taken_behind task aims kind b v word ahead earlier x here is h goes rests
  taken_at (Resend WriteTar) task aims kind b v None ahead earlier x here on reads apart begun is h goes rests =
      goes_job x (Resend WriteTar) task b ahead _ goes
      (again_between (Resend WriteTar) task b _ _ _ (λ s c f i. i) refl (stood_other b _ _ _ refl refl h))
  taken_at (Resend WriteTar) task aims kind b v (Some word) ahead earlier x here on reads apart begun is h goes rests =
      goes_stopped x task b ahead _ _ goes (stood_other b _ _ _ refl refl h)
  taken_at (Resend Transfer) task aims kind b v None ahead earlier x here on reads apart begun is h goes rests =
      goes_job x (Resend Transfer) task b ahead _ goes
      (again_between (Resend Transfer) task b _ _ _ (λ s c f i. i) refl (stood_other b _ _ _ refl refl h))
  taken_at (Resend Transfer) task aims kind b v (Some word) ahead earlier x here on reads apart begun is h goes rests =
      goes_stopped x task b ahead _ _ goes (stood_other b _ _ _ refl refl h)
  taken_at (Resend p) task aims kind b v word ahead earlier x here on reads apart begun is h goes rests = absurd (cc)
  taken_at (Status p) task aims kind b v word ahead earlier x here on reads apart begun is h goes rests =
      taken_status p task aims kind b v word ahead earlier x on is h goes
  taken_at (Check p owed) task aims kind b v word ahead earlier x here on reads apart begun is h goes rests =
      taken_check p owed task aims kind b v word ahead earlier x here on h goes rests
  taken_at LastStatus task aims kind b v None ahead earlier x here on reads apart begun is h goes rests =
      goes_job x LastStatus task b ahead _ goes
      (again_between LastStatus task b _ _ _ (λ s c f i. tt) refl (stood_other b _ _ _ refl refl h))
  taken_at LastStatus task aims kind b v (Some word) ahead earlier x here on reads apart begun is h goes rests =
      goes_stopped x task b ahead _ _ goes (stood_other b _ _ _ refl refl h)
  taken_at (Clear p owed) task aims kind b v word ahead earlier x here on reads apart begun is h goes rests =
      absurd (cc)

  -- the data phase of a read was taken
  pub taken_knows : (job : Job) (task : Task) (aims : Bool) (kind : Bursts) (b v : ℕ) (ahead : Ahead)
      (calls : List Call) (x : State)
      → IsTaskInList list answers task → engine_job_is_of false job ≡ true → engine_word_for job task ≡ None
      → engine_is_ahead_at job Data task ≡ false
      → EngineGoesTo (engine_after_read job (data_phase_word v) task aims kind) x
      → EngineRestsWith (engine_ahead_to job task) x ahead → EngineAwaitsData list answers b job task calls
      → EngineKnowsAt list answers x task (engine_begun_left x task b) ahead (record { cue = Take; seen = v } ∷ calls)
  taken_knows job task aims kind b v ahead calls x here on reads apart goes rests h =
      subst (λ l. EngineKnowsAt list answers x task (engine_begun_left x task b) ahead
      (record { cue = Take; seen = v } ∷ l)) (sym h.asked)
      (taken_at job task aims kind b v (data_phase_word v) ahead h.earlier x here on reads apart h.begun refl
      (awaited_head job task b calls apart h) goes rests)

  -- ANY CALL
  pub knows_as : (f : Engine) (task : Task) (b : ℕ) (calls : List Call) → f.task ≡ task → f.begun ≡ b
      → EngineKnowsAt list answers f.state task b f.ahead calls → EngineKnowsCalls list answers f calls
  knows_as f task b calls i j h =
      subst (λ t. EngineKnowsAt list answers f.state t f.begun f.ahead calls) (sym i)
      (subst (λ n. EngineKnowsAt list answers f.state task n f.ahead calls) (sym j) h)
