-- Each call that an engine asks for is one of a host: its registers, its words, its line reset.
use Rattle.swd_host.proofs.Words.{◌≡◌, ◌==◌, ◌<◌, ◌%◌, ◌++◌, ◌∷◌, [], ℕ, Bool, true, false, refl, sym, ap, subst, inl}
use Rattle.swd_host.proofs.Words.{inr, arith, ◌∙◌, List, Some, if◌then◌else◌, Access, Answer, Engine, Ahead, Flags}
use Rattle.swd_host.proofs.Words.{State, Doing, Resting, Task, Job, Data, Waited, At, Clear, Lost, Stopped}
use Rattle.swd_host.proofs.Words.{WriteAbort, Select, Power, Configure, WriteTar, Transfer, access_of_task}
use Rattle.swd_host.proofs.Words.{host_abort_word, engine_word_for, engine_request_for, engine_cue, engine_job}
use Rattle.swd_host.proofs.Words.{engine_state_is_of, engine_job_is_of, engine_state_after_ack, CueAsk, Read}
use Rattle.swd_host.proofs.Words.{BurstRead, Write, BurstWrite, Bursts, EngineIsNew, engine_stops_at_all}
use Rattle.std.proofs.lemmas.List.{append-nil}
use Rattle.swd_port.specs.declared.call.Call.{Call}
use Rattle.swd_port.specs.declared.cue.Cue.{Cue}
use Rattle.swd_port.specs.declared.cue.Cue.TheVariants.{Lead, Take, Give, Pass}
use Rattle.swd_port.specs.PlainMemory.{plain_address}
use Rattle.swd_host.specs.declared.engine.Phase.TheVariants.{Faulted}
use Rattle.swd_host.specs.declared.engine.State.TheVariants.{Leading}
use Rattle.swd_host.specs.Engines.{engine_cue_at, engine_lead_cue}
use Rattle.swd_host.specs.Calls.{EngineTurns}
use Rattle.swd_host.specs.Progress.{engine_is_quiet}
use Rattle.swd_host.specs.Replies.{EngineTookReply}
use Rattle.swd_host.specs.Requests.{engine_register_for}
use Rattle.swd_host.specs.Sent.{HostMakes, HostMayCue, HostListHasAddress, IsHostReset, IsHostWord, host_idles}
use Rattle.swd_host.specs.Sent.{is_host_idle, is_host_register}
use Rattle.swd_host.specs.Stages.{EngineAwaits, EngineKnowsAt}
use Rattle.swd_host.proofs.SendingStages.{engine_okay_or_not}
use Rattle.swd_host.proofs.Working.{IsEngineAsking, engine_at_ask}
use Rattle.swd_host.proofs.Turning.{IsEngineGiving, engine_at_give}
use Rattle.swd_host.proofs.Turned.{engine_turn_works}

-- A CUE
job_register : (job : Job) (task : Task) → is_host_register (engine_register_for job task) ≡ true
job_register job task = grind arith

-- ABORT clears the flags that were read, and nothing else
abort_clears : (owed : Flags) → (host_abort_word owed < 32) × (host_abort_word owed % 2 ≡ 0)
abort_clears owed = grind arith

-- the access in hand is one of the list, once the opening is over
abbrev pub IsTaskListed : List Access → Bool → Task → Type 0
IsTaskListed list opens task = opens ≡ false → HostListHasAddress list (plain_address (access_of_task task))

-- the word that is written for a job is one for its register
job_word : (list : List Access) (job : Job) (task : Task) (word : ℕ) → engine_word_for job task ≡ Some word
    → IsTaskListed list (engine_job_is_of true job) task → IsHostWord list (engine_register_for job task) word
job_word list (At WriteAbort) task word is listed = let same : 0x1e ≡ word = cc in
    subst (λ n. (n < 32) × (n % 2 ≡ 0)) same (omega arith, omega arith)
job_word list (At Select) task word is listed = let same : 0 ≡ word = cc in sym same
job_word list (At Power) task word is listed = let same : 0x5000_0000 ≡ word = cc in sym same
job_word list (At Configure) task word is listed = let same : 0x2300_0012 ≡ word = cc in sym same
job_word list (At WriteTar) task word is listed =
    let same : plain_address (access_of_task task) ≡ word = cc in subst (HostListHasAddress list) same (listed refl)
job_word list (At Transfer) (Read at) word is listed = absurd (cc)
job_word list (At Transfer) (BurstRead at) word is listed = absurd (cc)
job_word list (At Transfer) (Write at w) word is listed = tt
job_word list (At Transfer) (BurstWrite at w) word is listed = tt
job_word list (Clear p owed) task word is listed =
    let same : host_abort_word owed ≡ word = cc in subst (λ n. (n < 32) × (n % 2 ≡ 0)) same (abort_clears owed)
job_word list job task word is listed = absurd (cc)

-- a line reset comes first
reset_of : (inside : Bool) (cue : Cue) → Some (engine_lead_cue inside) ≡ Some cue → IsHostReset cue
reset_of true cue is = let same : Lead 100 34 false 2 ≡ cue = cc in inr (sym same)
reset_of false cue is = let same : Lead 56 0 true 2 ≡ cue = cc in inl (sym same)

leads_alone : (x : State) (stray : Bool) (task : Task) (ones undriven : ℕ) (switch : Bool) (low : ℕ)
    → engine_cue_at x stray task ≡ Some (Lead ones undriven switch low) → x ≡ Leading
leads_alone x stray task ones undriven switch low is = grind arith

leads_first : (x : State) (stray : Bool) (task : Task) (calls : List Call) (ones undriven : ℕ) (switch : Bool)
    (low : ℕ) → EngineAwaits x task calls → engine_cue_at x stray task ≡ Some (Lead ones undriven switch low)
    → (calls ≡ []) × IsHostReset (Lead ones undriven switch low)
leads_first x stray task calls ones undriven switch low h is =
    let at : x ≡ Leading = leads_alone x stray task ones undriven switch low is in (
      subst (λ y. EngineAwaits y task calls) at h,
      reset_of stray (Lead ones undriven switch low)
          (subst (λ y. engine_cue_at y stray task ≡ Some (Lead ones undriven switch low)) at is),
    )

reset_clocks : (cue : Cue) → IsHostReset cue → is_host_idle cue ≡ false
reset_clocks cue (inl is) = ap is_host_idle is
reset_clocks cue (inr is) = ap is_host_idle is

-- AFTER A CUE
awaits_quiet : (x : State) (task : Task) (calls : List Call) → engine_is_quiet x ≡ true → EngineAwaits x task calls
awaits_quiet Leading task calls h = absurd (cc)
awaits_quiet (Doing job Data) task calls h = absurd (cc)
awaits_quiet x task calls h = tt

awaits_other : (job : Job) (task : Task) (two four : Bool) (calls : List Call)
    → EngineAwaits (if two then Doing job Waited else if four then Doing job Faulted else Resting (Stopped Lost)) task
    calls
awaits_other job task true four calls = tt
awaits_other job task false true calls = tt
awaits_other job task false false calls = tt

awaits_asked : (job : Job) (task : Task) (v : ℕ) (calls : List Call) → EngineAwaits (engine_state_after_ack job v) task
    (record { cue = CueAsk (engine_request_for job task); seen = v } ∷ calls)
awaits_asked job task v calls = elim (engine_okay_or_not v) [
  | inl one ↦ subst (λ n. EngineAwaits (engine_state_after_ack job n) task
      (record { cue = CueAsk (engine_request_for job task); seen = n } ∷ calls)) (sym one) (calls, refl)
  | inr none ↦ subst (λ okays. EngineAwaits (if okays then Doing job Data else if v == 2 then Doing job Waited else
      if v == 4 then Doing job Faulted else Resting (Stopped Lost)) task
      (record { cue = CueAsk (engine_request_for job task); seen = v } ∷ calls)) (sym none)
      (awaits_other job task (v == 2) (v == 4) _)
]

-- what the engine knows of the calls at a state of an access has it
pub engine_knows_awaits : (list : List Access) (answers : List Answer) (x : State) (task : Task) (b : ℕ) (ahead : Ahead)
    (calls : List Call) → EngineKnowsAt list answers x task b ahead calls → EngineAwaits x task calls
engine_knows_awaits list answers Leading task b ahead calls h = absurd h
engine_knows_awaits list answers (Doing job Data) task b ahead calls h = (h.earlier, h.asked)
engine_knows_awaits list answers x task b ahead calls h = tt

-- CALLS
-- the calls so far are a host's, and the engine may go on
pub record EngineMakes (list : List Access) (e : Engine) (calls : List Call) : Type 0 where
  pub awaits : EngineAwaits e.state e.task calls
  pub makes : HostMakes list calls
  pub goes_on : host_idles calls ≡ false

module _ (list : List Access) where
  after_other : (e f : Engine) (cue : Cue) (seen : ℕ) (calls : List Call) → engine_is_quiet f.state ≡ true
      → HostMayCue list calls cue → is_host_idle cue ≡ false → EngineMakes list e calls
      → EngineMakes list f (record { cue = cue; seen = seen } ∷ calls)
  after_other e f cue seen calls quiet may plain h = record {
    awaits = awaits_quiet f.state f.task _ quiet;
    makes = (may, h.makes);
    goes_on = plain;
  }

  made_by : (e f : Engine) (cue : Cue) (seen : ℕ) (calls : List Call)
      → IsTaskListed list (engine_state_is_of true e.state) e.task → EngineMakes list e calls → engine_cue e ≡ Some cue
      → EngineTookReply cue seen e f → EngineMakes list f (record { cue = cue; seen = seen } ∷ calls)
  made_by e f (CueAsk q) seen calls listed h asks saw =
      let a : IsEngineAsking e.state e.task q = engine_at_ask e.state e.stray e.task q asks in
      record {
        awaits = subst (λ r. EngineAwaits f.state f.task (record { cue = CueAsk r; seen = seen } ∷ calls)) (sym a.is)
            (subst (λ t. EngineAwaits f.state t
            (record { cue = CueAsk (engine_request_for a.job e.task); seen = seen } ∷ calls)) (sym saw.sees.task)
            (subst (λ x. EngineAwaits x e.task
            (record { cue = CueAsk (engine_request_for a.job e.task); seen = seen } ∷ calls))
            (sym (saw.sees.state ∙ ap (λ x. engine_state_after_ack (engine_job x) seen) a.at))
            (awaits_asked a.job e.task seen calls)));
        makes = (
          (
            h.goes_on,
            record {
              register = engine_register_for a.job e.task;
              known = job_register a.job e.task;
              is = a.is;
            },
          ),
          h.makes,
        );
        goes_on = refl;
      }
  made_by e f (Give bits) seen calls listed h asks did =
      let p : IsEngineGiving e.state e.task bits = engine_at_give e.state e.stray e.task bits asks in
      let was = subst (λ x. EngineAwaits x e.task calls) p.at h.awaits in
      after_other e f (Give bits) seen calls did.lands.quiet (record {
        register = engine_register_for p.job e.task;
        word = p.gives;
        earlier = was.0;
        asked = was.1;
        is = job_word list p.job e.task p.gives p.is
            (subst (λ x. IsTaskListed list (engine_state_is_of true x) e.task) p.at listed);
        sends = p.sends;
      }) refl h
  made_by e f Take seen calls listed h asks took = after_other e f Take seen calls took.lands.quiet tt refl h
  made_by e f Pass seen calls listed h asks did = after_other e f Pass seen calls did.lands.quiet tt refl h
  made_by e f (Lead ones undriven switch low) seen calls listed h asks did =
      let first = leads_first e.state e.stray e.task calls ones undriven switch low h.awaits asks in
      after_other e f (Lead ones undriven switch low) seen calls did.lands.quiet (inl first)
      (reset_clocks _ first.1) h

  still_listed : (opens later : Bool) (task : Task) → (opens ≡ true → later ≡ true) → IsTaskListed list opens task
      → IsTaskListed list later task
  still_listed true later task part listed none =
      absurd (let both : true ≡ false = sym (part refl) ∙ none in cc)
  still_listed false later task part listed none = listed refl

  -- calls that the engine asked for, behind earlier ones
  pub engine_turns_make : (e f : Engine) (past calls : List Call)
      → IsTaskListed list (engine_state_is_of true e.state) e.task
      → EngineMakes list e past → EngineTurns e calls f
      → IsTaskListed list (engine_state_is_of true f.state) f.task × EngineMakes list f (calls ++ past)
  engine_turns_make e f past [] listed h same = (
    subst (λ (x : Engine). IsTaskListed list (engine_state_is_of true x.state) x.task) (sym same) listed,
    subst (λ x. EngineMakes list x past) (sym same) h,
  )
  engine_turns_make e f past (call ∷ calls) listed h (g, turns, turned) =
      let before = engine_turns_make e g past calls listed h turns in
      let works = engine_turn_works call g f turned in (
        subst (λ t. IsTaskListed list (engine_state_is_of true f.state) t) (sym works.task)
            (still_listed (engine_state_is_of true g.state) (engine_state_is_of true f.state) g.task (works.part true)
            before.0),
        made_by g f call.cue call.seen (calls ++ past) before.0 before.1 turned.cue turned.replied,
      )

  -- the calls of an opening
  pub opening_turns_make : (kind : Bursts) (again : Bool) (tries : ℕ) (e f : Engine) (calls : List Call)
      → EngineIsNew kind again tries e → EngineTurns e calls f → EngineMakes list f calls
  opening_turns_make kind again tries e f calls new turns = subst (EngineMakes list f) (append-nil calls)
      (engine_turns_make e f [] calls (λ none. absurd (opened none)) (record {
        awaits = subst (λ x. EngineAwaits x e.task []) (sym new.leads) refl;
        makes = tt;
        goes_on = refl;
      }) turns).1 where
        opened : engine_state_is_of true e.state ≡ false → ⊥
        opened none = let both : true ≡ false = sym (ap (engine_state_is_of true) new.leads) ∙ none in cc

-- calls never lead to `All`, which the caller of an engine reports
pub engine_turns_never : (e f : Engine) (calls : List Call) → engine_stops_at_all e.state ≡ false
    → EngineTurns e calls f → engine_stops_at_all f.state ≡ false
engine_turns_never e f [] never same = ap (λ (x : Engine). engine_stops_at_all x.state) same ∙ never
engine_turns_never e f (call ∷ calls) never (g, turns, turned) =
    (engine_turn_works call g f turned).never (engine_turns_never e g calls never turns)
