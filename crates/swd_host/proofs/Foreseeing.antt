-- Engines that are alike ask for the same transactions, whatever words are read. For `Engine::coming`.
use Rattle.swd_host.proofs.Words.{◌≡◌, ◌<◌, ◌^◌, ◌∙◌, ◌∷◌, [], ℕ, Bool, true, false, List, Option, Some, None, inl}
use Rattle.swd_host.proofs.Words.{inr, ap, arith, is_some, refl, subst, sym, Engine, Access, Request, Job, Task, State}
use Rattle.swd_host.proofs.Words.{EngineSeesAck, EngineStarts, data_phase_number, engine_cue, engine_job}
use Rattle.swd_host.proofs.Words.{engine_may_start, engine_outcome, engine_is_ahead, engine_word_for, Doing, Data}
use Rattle.swd_host.proofs.Words.{◌&&◌, if◌then◌else◌, not, At, Transfer, task_for, engine_first_state}
use Rattle.swd_host.proofs.Words.{engine_ahead_failed, engine_state_after_ack, ◌++◌, ◌+◌, ◌-◌, ◌⊎◌, length}
use Rattle.swd_host.proofs.Words.{engine_is_ahead_at, ◌||◌, bit, is_burst, engine_next_failed, Unsent}
use Rattle.std.proofs.Common.{length-append}
use Rattle.std.proofs.lemmas.Bool.{false≢true}
use Rattle.std.proofs.lemmas.List.{append_assoc, append-nil}
use Rattle.std.specs.Prelude.{slice_get, unwrap_or, IfNone}
use Rattle.swd_bits.proofs.PhaseLemmas.{data_phase_gives_word}
use Rattle.swd_port.specs.PlainMemory.{plain_address}
use Rattle.swd_port.specs.declared.coming.Coming.{Coming}
use Rattle.swd_port.specs.declared.cue.Cue.TheVariants.{Ask as CueAsk, Take as CueTake, Give as CueGive}
use Rattle.swd_host.specs.Addresses.{engine_knows_address}
use Rattle.swd_host.specs.Coming.{EnginesForeseeNone, HostTakesUpNone, EngineForeseesNext, EngineAsked, EngineIsAlike}
use Rattle.swd_host.specs.Coming.{EnginesForesee, HostForesees, HostForeseesData, HostTakesUp, HostTakesUpSo}
use Rattle.swd_host.specs.Coming.{alike_doing, alike_resting}
use Rattle.swd_host.specs.Engines.{engine_data_cue, engine_cue_at}
use Rattle.swd_host.specs.Replies.{EngineSawAck, EngineSentCue, EngineTookData}
use Rattle.swd_host.specs.Steps.{engine_is_rested, engine_after_read, engine_word_decides, engine_after_cue}
use Rattle.swd_host.specs.Steps.{engine_is_at_data, engine_tar_to, engine_ahead_to}
use Rattle.swd_host.specs.declared.task.Bursts.{Bursts}

-- an engine is like itself
pub engine_alike_refl : (e : Engine) → EngineIsAlike e e
engine_alike_refl e = elim (engine_is_rested e.state) as (λ v. engine_is_rested e.state ≡ v → EngineIsAlike e e) [
  | true ↦ λ is. alike_resting is is refl refl refl
  | false ↦ λ is. alike_doing is refl refl refl
] refl

-- engines that agree in all that may decide are alike
alike_when : (e f : Engine) → f.state ≡ e.state → f.task ≡ e.task → f.bursts ≡ e.bursts → f.tar ≡ e.tar
    → f.ahead ≡ e.ahead → EngineIsAlike e f
alike_when e f state task bursts tar ahead =
    elim (engine_is_rested e.state) as (λ v. engine_is_rested e.state ≡ v → EngineIsAlike e f) [
      | true ↦ λ is. alike_resting is (ap engine_is_rested state ∙ is) tar ahead bursts
      | false ↦ λ is. alike_doing is state task bursts
    ] refl

-- an engine with a cue starts no access
cue_or_start : (e : Engine) → is_some (engine_cue e) ≡ true → engine_may_start (engine_outcome e) ≡ true → ⊥
cue_or_start e cue may = grind arith

rested_without_cue : (e : Engine) → engine_is_rested e.state ≡ true → is_some (engine_cue e) ≡ false
rested_without_cue e h = grind arith

asks_unrested : (e : Engine) (q : Request) → engine_cue e ≡ Some (CueAsk q) → engine_is_rested e.state ≡ false
asks_unrested e q h = grind arith

-- engines that are alike have a cue, or none
alike_has_cue : (e f : Engine) → EngineIsAlike e f → is_some (engine_cue f) ≡ true → is_some (engine_cue e) ≡ true
alike_has_cue e f (alike_doing is state task bursts) h = grind arith
alike_has_cue e f (alike_resting is too tar ahead bursts) h = absurd (grind (arith, rested_without_cue f too))

alike_may_start : (e f : Engine) → EngineIsAlike e f → engine_may_start (engine_outcome f) ≡ true
    → engine_may_start (engine_outcome e) ≡ true
alike_may_start e f (alike_doing is state task bursts) h = grind arith
alike_may_start e f (alike_resting is too tar ahead bursts) h = grind arith

alike_asks : (e f : Engine) (q : Request) → EngineIsAlike e f → engine_cue e ≡ Some (CueAsk q)
    → engine_cue f ≡ Some (CueAsk q)
alike_asks e f q (alike_doing is state task bursts) h = grind arith
alike_asks e f q (alike_resting is too tar ahead bursts) h = grind arith

alike_gives : (e f : Engine) (bits : ℕ) → EngineIsAlike e f → engine_cue e ≡ Some (CueGive bits)
    → engine_cue f ≡ Some (CueGive bits)
alike_gives e f bits (alike_doing is state task bursts) h = grind arith
alike_gives e f bits (alike_resting is too tar ahead bursts) h = grind arith

alike_takes : (e f : Engine) → EngineIsAlike e f → engine_cue e ≡ Some CueTake → engine_cue f ≡ Some CueTake
alike_takes e f (alike_doing is state task bursts) h = grind arith
alike_takes e f (alike_resting is too tar ahead bursts) h = grind arith

rested_not_ahead : (e : Engine) → engine_is_rested e.state ≡ true → engine_is_ahead e ≡ false
rested_not_ahead e is = grind arith

-- an engine that starts an access and doesn't rest is at the data of its DRW write
may_start_ahead : (e : Engine) → engine_is_rested e.state ≡ false → engine_may_start (engine_outcome e) ≡ true
    → engine_is_ahead e ≡ true
may_start_ahead e is may = grind arith

starts_at_data : (e g : Engine) (a : Access) (following : Option Access) → engine_is_ahead e ≡ true
    → EngineStarts a following e g → g.state ≡ Doing (At Transfer) Data
starts_at_data e g a following ahead eg = eg.state ∙ ap (λ v. engine_first_state v e.ahead g.aims) ahead

starts_for : (e g : Engine) (a : Access) (following : Option Access) → engine_is_ahead e ≡ true
    → EngineStarts a following e g → g.task ≡ task_for e.bursts a following
starts_for e g a following ahead eg = eg.task ∙ ap
    (λ v. task_for e.bursts a (if (not v && engine_ahead_failed e.ahead) then None else following)) ahead

-- engines that are alike start an access alike
alike_starts : (e f g h : Engine) (a : Access) (following : Option Access) → EngineIsAlike e f
    → engine_may_start (engine_outcome e) ≡ true → EngineStarts a following e g → EngineStarts a following f h
    → EngineIsAlike g h
alike_starts e f g h a following (alike_doing is state task bursts) may eg fh =
    let ahead = may_start_ahead e is may in
    let too : engine_is_ahead f ≡ true = grind (arith, ahead, state, task) in
    let at = starts_at_data e g a following ahead eg in
    alike_doing (ap engine_is_rested at) (starts_at_data f h a following too fh ∙ sym at)
    (starts_for f h a following too fh ∙ (ap (λ kind. task_for kind a following) bursts
    ∙ sym (starts_for e g a following ahead eg)))
    (fh.bursts ∙ (bursts ∙ sym eg.bursts))
alike_starts e f g h a following (alike_resting is too tar ahead bursts) may eg fh =
    let no : engine_is_ahead e ≡ false = rested_not_ahead e is in
    let none : engine_is_ahead f ≡ false = rested_not_ahead f too in
    let both : engine_is_ahead f ≡ engine_is_ahead e = none ∙ sym no in
    let failed : engine_next_failed f ≡ engine_next_failed e =
    ap (λ v. not v && engine_ahead_failed f.ahead) both ∙ ap (λ x. not (engine_is_ahead e) && engine_ahead_failed x)
    ahead in
    let aims : h.aims ≡ g.aims = fh.aims ∙ (ap (λ v. not (v || engine_knows_address f.tar (plain_address a))) both
    ∙ (ap (λ x. not (engine_is_ahead e || engine_knows_address x (plain_address a))) tar ∙ sym eg.aims)) in
    alike_when g h
    (fh.state ∙ (ap (λ v. engine_first_state v f.ahead h.aims) both
    ∙ (ap (λ x. engine_first_state (engine_is_ahead e) x h.aims) ahead
    ∙ (ap (engine_first_state (engine_is_ahead e) e.ahead) aims ∙ sym eg.state))))
    (fh.task ∙ (ap (λ v. task_for f.bursts a (if v then None else following)) failed
    ∙ (ap (λ kind. task_for kind a (if engine_next_failed e then None else following)) bursts ∙ sym eg.task)))
    (fh.bursts ∙ (bursts ∙ sym eg.bursts)) (fh.tar ∙ (tar ∙ sym eg.tar)) (fh.ahead ∙ sym eg.ahead)

-- an engine with a cue takes up no access
pub takes_up_none : (e : Engine) (after : List Access) → is_some (engine_cue e) ≡ true → HostTakesUp e after e after
takes_up_none e [] h = record { cue = h; same = refl; all = refl }
takes_up_none e (a ∷ more) h = inl (record { cue = h; same = refl; all = refl })

-- engines that are alike take up the same accesses
pub alike_takes_up : (after : List Access) (e f g h : Engine) (left rest : List Access) → EngineIsAlike e f
    → HostTakesUp e after g left → HostTakesUp f after h rest → EngineIsAlike g h × (rest ≡ left)
alike_takes_up [] e f g h left rest like eg fh = (
  subst (λ x. EngineIsAlike x h) (sym eg.same) (subst (EngineIsAlike e) (sym fh.same) like),
  fh.all ∙ sym eg.all,
)
alike_takes_up (a ∷ more) e f g h left rest like (inl eg) (inl fh) = (
  subst (λ x. EngineIsAlike x h) (sym eg.same) (subst (EngineIsAlike e) (sym fh.same) like),
  fh.all ∙ sym eg.all,
)
alike_takes_up (a ∷ more) e f g h left rest like (inl eg) (inr fh) =
    absurd (cue_or_start e eg.cue (alike_may_start e f like fh.1))
alike_takes_up (a ∷ more) e f g h left rest like (inr eg) (inl fh) =
    absurd (cue_or_start e (alike_has_cue e f like fh.cue) eg.1)
alike_takes_up (a ∷ more) e f g h left rest like (inr eg) (inr fh) =
    alike_takes_up more eg.0 fh.0 g h left rest (alike_starts e f eg.0 fh.0 a (slice_get more 0) like eg.1 eg.2 fh.2)
    eg.3 fh.3

alike_sym : (e f : Engine) → EngineIsAlike e f → EngineIsAlike f e
alike_sym e f (alike_doing is state task bursts) =
    alike_doing (ap engine_is_rested state ∙ is) (sym state) (sym task) (sym bursts)
alike_sym e f (alike_resting is too tar ahead bursts) = alike_resting too is (sym tar) (sym ahead) (sym bursts)

-- what starts an access, as a function
abbrev started : Access → Option Access → Engine → Engine
started a following e =
    let aims : Bool = not (engine_is_ahead e || engine_knows_address e.tar (plain_address a)) in
    record {
      state = engine_first_state (engine_is_ahead e) e.ahead aims;
      task = task_for e.bursts a (if engine_next_failed e then None else following);
      aims = aims;
      tar = e.tar;
      bursts = e.bursts;
      ahead = Unsent;
      tries = e.tries;
      events = 0;
      begun = bit (is_burst e.task && not (engine_next_failed e));
      requests = e.requests;
      stray = false;
    }

starts_so : (a : Access) (following : Option Access) (e : Engine) → EngineStarts a following e (started a following e)
starts_so a following e = record {
  task = refl;
  aims = refl;
  state = refl;
  begun = refl;
  ahead = refl;
  bursts = refl;
  events = refl;
  tar = refl;
  tries = refl;
  requests = refl;
  stray = refl;
}

-- an engine takes up accesses where one like it does
takes_up_too : (after : List Access) (e f g : Engine) (left : List Access) → EngineIsAlike e f
    → HostTakesUp e after g left → (h : Engine) × HostTakesUp f after h left
takes_up_too [] e f g left like eg =
    (f, record { cue = alike_has_cue f e (alike_sym e f like) eg.cue; same = refl; all = eg.all })
takes_up_too (a ∷ more) e f g left like (inl eg) =
    (f, inl (record { cue = alike_has_cue f e (alike_sym e f like) eg.cue; same = refl; all = eg.all }))
takes_up_too (a ∷ more) e f g left like (inr eg) =
    let h : Engine = started a (slice_get more 0) f in
    let starts : EngineStarts a (slice_get more 0) f h = starts_so a (slice_get more 0) f in
    let on = takes_up_too more eg.0 h g left (alike_starts e f eg.0 h a (slice_get more 0) like eg.1 eg.2 starts)
    eg.3 in
    (on.0, inr (h, alike_may_start f e (alike_sym e f like) eg.1, starts, on.1))

-- engines that are alike are alike after an OK
alike_sees : (e f g h : Engine) (q : Request) → EngineIsAlike e f → engine_cue e ≡ Some (CueAsk q)
    → EngineSeesAck 1 e g → EngineSeesAck 1 f h → EngineIsAlike g h
alike_sees e f g h q (alike_doing is state task bursts) asks eg fh =
    alike_doing (ap engine_is_rested eg.state)
    (fh.state ∙ (ap (λ x. engine_state_after_ack (engine_job x) 1) state ∙ sym eg.state))
    (fh.task ∙ (task ∙ sym eg.task)) (fh.bursts ∙ (bursts ∙ sym eg.bursts))
alike_sees e f g h q (alike_resting is too tar ahead bursts) asks eg fh =
    let no = asks_unrested e q asks in
    absurd (grind (arith, no, is))

gives_at_data : (e : Engine) (bits : ℕ) → engine_cue e ≡ Some (CueGive bits) → engine_is_at_data e.state ≡ true
gives_at_data e bits gives = grind arith

-- the word of a data phase that is sent
gives_word : (e : Engine) (bits : ℕ) → engine_cue e ≡ Some (CueGive bits)
    → bits ≡ data_phase_number (unwrap_or (engine_word_for (engine_job e.state) e.task) 0)
gives_word e bits gives = grind arith

unrested_after_write : (x : State) (task : Task) → engine_is_at_data x ≡ true
    → engine_is_rested (engine_after_cue x task) ≡ false
unrested_after_write x task at = grind arith

unrested_at_data : (x : State) → engine_is_at_data x ≡ true → engine_is_rested x ≡ false
unrested_at_data x at = grind arith

-- engines that are alike are alike after a data phase that was sent
alike_sends : (e f g h : Engine) (bits : ℕ) → EngineIsAlike e f → engine_cue e ≡ Some (CueGive bits)
    → EngineSentCue e g → EngineSentCue f h → EngineIsAlike g h
alike_sends e f g h bits (alike_doing is state task bursts) gives eg fh =
    let at = gives_at_data e bits gives in
    let to = eg.on at in
    let too = fh.on (ap engine_is_at_data state ∙ at) in
    let same : engine_after_cue f.state f.task ≡ engine_after_cue e.state e.task =
    ap (λ x. engine_after_cue x f.task) state ∙ ap (engine_after_cue e.state) task in
    alike_doing (ap engine_is_rested to ∙ unrested_after_write e.state e.task at) (too ∙ (same ∙ sym to))
    (fh.lands.task ∙ (task ∙ sym eg.lands.task)) (fh.lands.bursts ∙ (bursts ∙ sym eg.lands.bursts))
alike_sends e f g h bits (alike_resting is too tar ahead bursts) gives eg fh =
    let no = unrested_at_data e.state (gives_at_data e bits gives) in
    absurd (grind (arith, no, is))

takes_unrested : (e : Engine) → engine_cue e ≡ Some CueTake → engine_is_rested e.state ≡ false
takes_unrested e takes = grind arith

-- after a word that decides nothing, the engine rests whatever the word is, or it goes on whatever it is
read_goes_on : (job : Job) (v w : ℕ) (task : Task) (aims sure : Bool) (kind : Bursts) → engine_word_decides job ≡ false
    → engine_is_rested (engine_after_read job (Some v) task aims kind) ≡ false
    → engine_after_read job (Some w) task sure kind ≡ engine_after_read job (Some v) task aims kind
read_goes_on job v w task aims sure kind plain rests = grind arith

read_rests : (job : Job) (v w : ℕ) (task : Task) (aims sure : Bool) (kind : Bursts) → engine_word_decides job ≡ false
    → engine_is_rested (engine_after_read job (Some v) task aims kind) ≡ true
    → engine_is_rested (engine_after_read job (Some w) task sure kind) ≡ true
read_rests job v w task aims sure kind plain rests = grind arith

-- the state after a word that decides nothing
read_on : (e g : Engine) (word : ℕ) → word < 2 ^ 32 → engine_word_decides (engine_job e.state) ≡ false
    → EngineTookData (data_phase_number word) e g
    → g.state ≡ engine_after_read (engine_job e.state) (Some word) e.task e.aims e.bursts
read_on e g word small plain took =
    let is = data_phase_gives_word word small in
    took.on (ap is_some is) plain
    ∙ ap (λ read. engine_after_read (engine_job e.state) read e.task e.aims e.bursts) is

take_or_ask : (q : Request) → Some CueTake ≡ Some (CueAsk q) → ⊥
take_or_ask q h = cc

-- engines that are alike are alike after any word that decides nothing
alike_reads : (e f g h : Engine) (v w : ℕ) → v < 2 ^ 32 → w < 2 ^ 32 → EngineIsAlike e f → engine_cue e ≡ Some CueTake
    → engine_word_decides (engine_job e.state) ≡ false → EngineTookData (data_phase_number v) e g
    → EngineTookData (data_phase_number w) f h → EngineIsAlike g h
alike_reads e f g h v w small few (alike_doing is state task bursts) takes plain eg fh =
    let job : engine_job f.state ≡ engine_job e.state = ap engine_job state in
    let calm : engine_word_decides (engine_job f.state) ≡ false = ap engine_word_decides job ∙ plain in
    let to = read_on e g v small plain eg in
    let too : h.state ≡ engine_after_read (engine_job e.state) (Some w) e.task f.aims e.bursts =
    read_on f h w few calm fh ∙ (ap (λ j. engine_after_read j (Some w) f.task f.aims f.bursts) job
    ∙ (ap (λ t. engine_after_read (engine_job e.state) (Some w) t f.aims f.bursts) task
    ∙ ap (λ k. engine_after_read (engine_job e.state) (Some w) e.task f.aims k) bursts)) in
    let kind : h.bursts ≡ g.bursts = fh.lands.bursts ∙ (bursts ∙ sym eg.lands.bursts) in
    elim (engine_is_rested g.state) as (λ r. engine_is_rested g.state ≡ r → EngineIsAlike g h) [
      | false ↦ λ on. alike_doing on
          (too ∙ (read_goes_on (engine_job e.state) v w e.task e.aims f.aims e.bursts plain
          (ap engine_is_rested (sym to) ∙ on) ∙ sym to))
          (fh.lands.task ∙ (task ∙ sym eg.lands.task)) kind
      | true ↦ λ rests.
          let rest : engine_is_rested h.state ≡ true = ap engine_is_rested too
          ∙ read_rests (engine_job e.state) v w e.task e.aims f.aims e.bursts plain
          (ap engine_is_rested (sym to) ∙ rests) in
          alike_resting rests rest
          (fh.tar (ap is_some (data_phase_gives_word w few)) calm rest
          ∙ (ap (λ j. engine_tar_to j f.task) job ∙ (ap (engine_tar_to (engine_job e.state)) task
          ∙ sym (eg.tar (ap is_some (data_phase_gives_word v small)) plain rests))))
          (fh.rests rest ∙ (ap (λ j. engine_ahead_to j f.task) job ∙ (ap (engine_ahead_to (engine_job e.state)) task
          ∙ sym (eg.rests rests)))) kind
    ] refl
alike_reads e f g h v w small few (alike_resting is too tar ahead bursts) takes plain eg fh =
    let no = takes_unrested e takes in
    absurd (grind (arith, no, is))

-- what engines like it foresee, by what they foresee at the data phase
foresees_by : (room : ℕ) (e : Engine) (after : List Access) (q : Request) (h : Engine) (rest : List Access) (word : ℕ)
    (coming : List Coming) → EngineAsked e after q h rest
    → ((o : Engine) → EngineIsAlike h o
    → HostForeseesData word (coming ≡ []) (λ k. HostForesees (room - 1) k rest coming) o)
    → EnginesForesee room e after (record { request = q; word = word } ∷ coming)
foresees_by room e after q h rest word coming saw phase other like =
    let may = takes_up_too after e other saw.asking saw.left like saw.takes in
    record {
      engine = may.0;
      left = saw.left;
      takes = may.1;
      so = λ f left takes.
          let l = alike_takes_up after e other saw.asking f saw.left left like saw.takes takes in (
            alike_asks saw.asking f q l.0 saw.asks,
            λ g seen.
                let m = alike_sees saw.asking f saw.answered g q l.0 saw.asks saw.saw.sees seen.sees in
                let again = takes_up_too saw.left saw.answered g h rest m saw.again in
                let Then : List Access → Type 0 = HostTakesUpSo (λ o more. HostForeseesData word (coming ≡ [])
                (λ k. HostForesees (room - 1) k more coming) o) g in
                subst Then (sym l.1) (record {
                  engine = again.0;
                  left = rest;
                  takes = again.1;
                  so = λ o more took.
                      let n = alike_takes_up saw.left saw.answered g h o rest more m saw.again took in
                      let Phase : List Access → Type 0 = λ r. HostForeseesData word (coming ≡ [])
                      (λ k. HostForesees (room - 1) k r coming) o in
                      subst Phase (sym n.1) (phase o n.0);
                }),
          );
    }

-- a write is foreseen, and what is foreseen after it
pub foresees_write : (e : Engine) (after : List Access) (q : Request) (h : Engine) (rest : List Access) (k : Engine)
    (bits word : ℕ) → EngineAsked e after q h rest → engine_cue h ≡ Some (CueGive bits)
    → word ≡ unwrap_or (engine_word_for (engine_job h.state) h.task) 0 → EngineSentCue h k
    → EngineForeseesNext e after (record { request = q; word = word }) k rest
foresees_write e after q h rest k bits word saw gives is sent room coming more =
    let sends : engine_cue h ≡ Some (CueGive (data_phase_number word)) =
    gives ∙ ap (λ v. Some (CueGive v)) (gives_word h bits gives ∙ ap data_phase_number (sym is)) in
    foresees_by room e after q h rest word coming saw (λ o like. inl (
      alike_gives h o _ like sends,
      λ f did. more f (alike_sends h o k f _ like sends sent did),
    ))

-- a read whose word decides nothing is foreseen, and what is foreseen after it
pub foresees_read : (e : Engine) (after : List Access) (q : Request) (h : Engine) (rest : List Access) (k : Engine)
    → EngineAsked e after q h rest → engine_cue h ≡ Some CueTake → engine_word_decides (engine_job h.state) ≡ false
    → EngineTookData (data_phase_number 0) h k
    → EngineForeseesNext e after (record { request = q; word = 0 }) k rest
foresees_read e after q h rest k saw takes plain took room coming more =
    foresees_by room e after q h rest 0 coming saw (λ o like. inr (
      alike_takes h o like takes,
      refl,
      inr (λ read f small did. more f (alike_reads h o k f 0 read (omega arith) small like takes plain took did)),
    ))

alike_decides : (e f : Engine) → EngineIsAlike e f → engine_cue e ≡ Some CueTake
    → engine_word_decides (engine_job e.state) ≡ true → engine_word_decides (engine_job f.state) ≡ true
alike_decides e f (alike_doing is state task bursts) takes h = ap (λ x. engine_word_decides (engine_job x)) state ∙ h
alike_decides e f (alike_resting is too tar ahead bursts) takes h =
    let no = takes_unrested e takes in
    absurd (grind (arith, no, is))

-- a read whose word decides is foreseen; at its data phase nothing else is
pub foresees_last : (e : Engine) (after : List Access) (q : Request) (h : Engine) (rest : List Access)
    → EngineAsked e after q h rest → engine_cue h ≡ Some CueTake → engine_word_decides (engine_job h.state) ≡ true
    → EngineForeseesNext e after (record { request = q; word = 0 }) h rest
foresees_last e after q h rest saw takes decides room [] more =
    foresees_by room e after q h rest 0 [] saw (λ o like. inr (
      alike_takes h o like takes,
      refl,
      inl (alike_decides h o like takes decides, refl),
    ))
foresees_last e after q h rest saw takes decides room (next ∷ coming) more =
    let asks = ((more h (engine_alike_refl h)).so h rest (takes_up_none h rest (ap is_some takes))).0 in
    absurd (take_or_ask next.request (sym takes ∙ asks))

-- NOTHING COMES NEXT
-- what holds, holds where an option is `None`
pub if_none_so : {X : Type 0} (o : Option X) (P : Type 0) → P → IfNone o P
if_none_so None P p = p
if_none_so (Some x) P p = tt

cons_or_none : (a : Access) (more : List Access) → a ∷ more ≡ [] → ⊥
cons_or_none a more h = cc

-- the engine has no cue, and starts no access
pub takes_none_here : (e : Engine) (after : List Access) → is_some (engine_cue e) ≡ false
    → (engine_may_start (engine_outcome e) ≡ false) ⊎ (after ≡ []) → HostTakesUpNone e after
takes_none_here e [] none h f rest took = absurd (false≢true (sym none ∙ took.cue))
takes_none_here e (a ∷ more) none h f rest (inl took) = absurd (false≢true (sym none ∙ took.cue))
takes_none_here e (a ∷ more) none (inl stopped) f rest (inr took) = absurd (false≢true (sym stopped ∙ took.1))
takes_none_here e (a ∷ more) none (inr all) f rest (inr took) = absurd (cons_or_none a more all)

-- nor does one that starts an access, which leads nowhere
pub takes_none_on : (e g : Engine) (a : Access) (more : List Access) → is_some (engine_cue e) ≡ false
    → EngineStarts a (slice_get more 0) e g → HostTakesUpNone g more → HostTakesUpNone e (a ∷ more)
takes_none_on e g a more none starts never f rest (inl took) = absurd (false≢true (sym none ∙ took.cue))
takes_none_on e g a more none starts never f rest (inr took) =
    let like : EngineIsAlike took.0 g =
    alike_starts e e took.0 g a (slice_get more 0) (engine_alike_refl e) took.1 took.2 starts in
    let on = takes_up_too more took.0 g f rest like took.3 in
    never on.0 rest on.1

-- What f and the accesses behind it lead to is what e and its accesses lead to.
pub record TakesUpAlong (e : Engine) (after : List Access) (f : Engine) (rest : List Access) : Type 0 where
  pub takes : (g : Engine) (left : List Access) → HostTakesUp f rest g left → HostTakesUp e after g left
  pub none : HostTakesUpNone f rest → HostTakesUpNone e after

-- an access more is taken up
pub takes_up_along_on : (e f g : Engine) (after more : List Access) (a : Access)
    → TakesUpAlong e after f (a ∷ more) → is_some (engine_cue f) ≡ false
    → engine_may_start (engine_outcome f) ≡ true → EngineStarts a (slice_get more 0) f g → TakesUpAlong e after g more
takes_up_along_on e f g after more a along none may starts = record {
  takes = λ h left took. along.takes h left (inr (g, may, starts, took));
  none = λ never. along.none (takes_none_on f g a more none starts never);
}

-- nothing comes next where no access leads to a cue
pub none_without_cue : (e : Engine) (after : List Access) → HostTakesUpNone e after → EnginesForeseeNone e after
none_without_cue e after never o like q f rest saw =
    let on = takes_up_too after o e saw.asking saw.left (alike_sym e o like) saw.takes in
    never on.0 saw.left on.1

-- nor where the cue is no request
pub none_without_request : (e f : Engine) (after left : List Access) → HostTakesUp e after f left
    → ((q : Request) → engine_cue f ≡ Some (CueAsk q) → ⊥) → EnginesForeseeNone e after
none_without_request e f after left takes never o like q h rest saw =
    let l = alike_takes_up after e o f saw.asking left saw.left like takes saw.takes in
    never q (alike_asks saw.asking f q (alike_sym f saw.asking l.0) saw.asks)

-- nor where its OK leads to no cue
pub none_without_data : (e f g : Engine) (after left : List Access) (q : Request) → HostTakesUp e after f left
    → engine_cue f ≡ Some (CueAsk q) → EngineSawAck 1 f g → HostTakesUpNone g left → EnginesForeseeNone e after
none_without_data e f g after left q takes asks seen never o like p h rest saw =
    let l = alike_takes_up after e o f saw.asking left saw.left like takes saw.takes in
    let m = alike_sees f saw.asking g saw.answered q l.0 asks seen.sees saw.saw.sees in
    let again : HostTakesUp saw.answered left h rest = subst (λ x. HostTakesUp saw.answered x h rest) l.1 saw.again in
    let on = takes_up_too left saw.answered g h rest (alike_sym g saw.answered m) again in
    never on.0 rest on.1

-- after the OK a data phase comes next
data_taken_up : (after : List Access) (e f : Engine) (rest : List Access) → engine_is_at_data e.state ≡ true
    → HostTakesUp e after f rest → (engine_is_at_data f.state ≡ true) × (is_some (engine_cue f) ≡ true)
data_taken_up [] e f rest at took =
    (ap (λ x. engine_is_at_data x.state) took.same ∙ at, ap (λ x. is_some (engine_cue x)) took.same ∙ took.cue)
data_taken_up (a ∷ more) e f rest at (inl took) =
    (ap (λ x. engine_is_at_data x.state) took.same ∙ at, ap (λ x. is_some (engine_cue x)) took.same ∙ took.cue)
data_taken_up (a ∷ more) e f rest at (inr took) =
    let ahead = may_start_ahead e (unrested_at_data e.state at) took.1 in
    let to = starts_at_data e took.0 a (slice_get more 0) ahead took.2 in
    data_taken_up more took.0 f rest (ap engine_is_at_data to) took.3

-- the cue of a data phase is no other
data_cue : (ahead : Bool) (word : Option ℕ) → is_some (engine_data_cue ahead word) ≡ true
    → ((bits : ℕ) → engine_data_cue ahead word ≡ Some (CueGive bits) → ⊥)
    → (engine_data_cue ahead word ≡ Some CueTake → ⊥) → ⊥
data_cue true word some give take = false≢true some
data_cue false (Some word) some give take = give (data_phase_number word) refl
data_cue false None some give take = take refl

data_cues_at : (x : State) (stray : Bool) (task : Task) → engine_is_at_data x ≡ true
    → is_some (engine_cue_at x stray task) ≡ true
    → ((bits : ℕ) → engine_cue_at x stray task ≡ Some (CueGive bits) → ⊥)
    → (engine_cue_at x stray task ≡ Some CueTake → ⊥) → ⊥
data_cues_at (Doing job Data) stray task at some give take =
    data_cue (engine_is_ahead_at job Data task) (engine_word_for job task) some give take
data_cues_at x stray task at some give take = false≢true at

data_cues : (e : Engine) → engine_is_at_data e.state ≡ true → is_some (engine_cue e) ≡ true
    → ((bits : ℕ) → engine_cue e ≡ Some (CueGive bits) → ⊥) → (engine_cue e ≡ Some CueTake → ⊥) → ⊥
data_cues e at some give take = data_cues_at e.state e.stray e.task at some give take

-- so an engine that asked and has a cue is at a data phase
pub asked_at_data : (e : Engine) (after : List Access) (q : Request) (h : Engine) (rest : List Access)
    → EngineAsked e after q h rest → ((bits : ℕ) → engine_cue h ≡ Some (CueGive bits) → ⊥)
    → (engine_cue h ≡ Some CueTake → ⊥) → ⊥
asked_at_data e after q h rest saw give take =
    let on = data_taken_up saw.left saw.answered h rest (ap engine_is_at_data saw.saw.sees.state) saw.again in
    data_cues h on.0 on.1 give take

-- what an engine foresees, by what another one does that comes after these transactions
pub record EngineForeseesSoFar (e : Engine) (after : List Access) (found : List Coming) (room : ℕ) (f : Engine)
    (left : List Access) : Type 0
  where
    pub count : length found + room ≡ 160
    pub on : (more : List Coming) → EnginesForesee room f left more → EnginesForesee 160 e after (found ++ more)

-- one more transaction
pub foresees_more : (e f g : Engine) (after left rest : List Access) (found : List Coming) (next : Coming) (room : ℕ)
    → 0 < room → EngineForeseesNext f left next g rest → EngineForeseesSoFar e after found room f left
    → EngineForeseesSoFar e after (found ++ next ∷ []) (room - 1) g rest
foresees_more e f g after left rest found next room some step so =
    let count = so.count in
    record {
      count = simp length-append (omega arith);
      on = λ more h. subst (EnginesForesee 160 e after) (sym (append_assoc found (next ∷ []) more))
          (so.on (next ∷ more) (step room more h));
    }

-- no room for more
pub foresees_full : (e f : Engine) (after left : List Access) (found : List Coming) (room : ℕ) → room ≡ 0
    → EngineForeseesSoFar e after found room f left → HostForesees 160 e after found
foresees_full e f after left found room is so =
    subst (HostForesees 160 e after) (append-nil found) (so.on [] (λ o like. inl is) e (engine_alike_refl e))

-- nothing comes next
pub foresees_all : (e f : Engine) (after left : List Access) (found : List Coming) (room : ℕ)
    → EnginesForeseeNone f left → EngineForeseesSoFar e after found room f left → HostForesees 160 e after found
foresees_all e f after left found room none so =
    subst (HostForesees 160 e after) (append-nil found)
    (so.on [] (λ o like. inr (none o like)) e (engine_alike_refl e))
