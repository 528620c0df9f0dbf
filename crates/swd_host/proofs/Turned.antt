-- One call that an engine asked for, by what came of it: what the engine keeps, what is due then, how many calls are
-- left, and what the engine and the port at the other end keep. For `running::turn`, and for the loop of `swd_steps`.
use Rattle.swd_host.proofs.Words.{◌≡◌, ◌<◌, ◌≤◌, ℕ, Bool, true, false, refl, arith, List, ◌∷◌, [], Some, is_some}
use Rattle.swd_host.proofs.Words.{Task, Port, State, Engine, engine_cue, engine_outcome_at, engine_is_resting}
use Rattle.swd_host.proofs.Words.{engine_calls_left, EngineDueAt}
use Rattle.swd_host.proofs.Words.{EngineDueFits, engine_lands_from, EngineWorks, EngineGoesWithPort}
use Rattle.swd_port.specs.declared.call.Call.{Call}
use Rattle.swd_port.specs.declared.cue.Cue.{Cue}
use Rattle.swd_port.specs.declared.cue.Cue.TheVariants.{Lead, Ask, Take, Give, Pass}
use Rattle.swd_port.specs.declared.wire.Due.{Due}
use Rattle.swd_port.specs.declared.wire.Due.TheVariants.{Nothing}
use Rattle.swd_port.specs.Steps.{IsPortSeen, IsPortStep, port_due_once, is_port_ask}
use Rattle.swd_host.specs.Calls.{EngineTurned, EngineTurns}
use Rattle.swd_host.specs.Engines.{IsEnginePhaseCue, engine_cue_at}
use Rattle.swd_host.specs.Progress.{engine_is_quiet, engine_moves_first}
use Rattle.swd_host.specs.Replies.{EngineTookReply}
use Rattle.swd_host.specs.Sent.{HostCalls}
use Rattle.swd_host.proofs.Working.{engine_ask_works, engine_ask_due, engine_moves_works}
use Rattle.swd_host.proofs.Turning.{engine_ask_goes, engine_take_goes, engine_give_goes, engine_pass_goes}
use Rattle.swd_host.proofs.Turning.{engine_lead_goes}

cue_moves : (x : State) (stray : Bool) (task : Task) (cue : Cue) → engine_cue_at x stray task ≡ Some cue
    → is_some (engine_outcome_at x task) ≡ false
cue_moves x stray task cue h = grind arith

-- an engine that asks for a call has come to no outcome
pub engine_turn_moves : (call : Call) (e f : Engine) → EngineTurned call e f → engine_is_resting e ≡ false
engine_turn_moves call e f turned = cue_moves e.state e.stray e.task call.cue turned.cue

-- a call that is no request is a step to the next request or an outcome
pub engine_lands_by : (cue : Cue) (seen : ℕ) (e f : Engine) → is_port_ask cue ≡ false → EngineTookReply cue seen e f
    → engine_lands_from e f
engine_lands_by (Ask q) seen e f other saw = absurd (cc)
engine_lands_by Take seen e f other took = took.lands
engine_lands_by (Give bits) seen e f other did = did.lands
engine_lands_by Pass seen e f other did = did.lands
engine_lands_by (Lead ones undriven switch zeros) seen e f other did = did.lands

works_by : (cue : Cue) (seen : ℕ) (e f : Engine) → engine_is_resting e ≡ false → engine_cue e ≡ Some cue
    → EngineTookReply cue seen e f → EngineWorks e f
works_by (Ask q) seen e f on asks saw = engine_ask_works e f on q seen asks saw
works_by cue seen e f on asks replied = engine_moves_works e f on (engine_lands_by cue seen e f refl replied)

-- a call that the engine asked for keeps what the engine keeps by itself
pub engine_turn_works : (call : Call) (e f : Engine) → EngineTurned call e f → EngineWorks e f
engine_turn_works call e f turned =
    works_by call.cue call.seen e f (engine_turn_moves call e f turned) turned.cue turned.replied

-- WHAT IS DUE
-- after a call that is no request nothing is due
quiet_due : (x : State) (stray : Bool) (task : Task) (due : Due) → engine_is_quiet x ≡ true → due ≡ Nothing
    → EngineDueAt x stray task due
quiet_due x stray task due quiet none = grind arith

due_by_call : (cue : Cue) (seen : ℕ) (e f : Engine) (t : Port) → engine_cue e ≡ Some cue → EngineTookReply cue seen e f
    → t.link.due ≡ port_due_once cue seen → EngineDueFits f t
due_by_call (Ask q) seen e f t asks saw due = engine_ask_due e f t q seen asks due saw.sees
due_by_call cue seen e f t asks replied due =
    quiet_due f.state f.stray f.task t.link.due (engine_lands_by cue seen e f refl replied).quiet due

-- what is due after such a call is what the engine expects then
pub engine_turn_due : (call : Call) (e f : Engine) (t : Port) → EngineTurned call e f
    → t.link.due ≡ port_due_once call.cue call.seen → EngineDueFits f t
engine_turn_due call e f t turned due = due_by_call call.cue call.seen e f t turned.cue turned.replied due

-- HOW MANY CALLS ARE LEFT
-- at most one call comes before the next request
pub engine_moves_few : (x : State) → engine_moves_first x ≤ 1
engine_moves_few x = grind arith

quiet_moves : (x : State) → engine_is_quiet x ≡ true → engine_moves_first x ≡ 0
quiet_moves x h = grind arith

sends_moves : (x : State) (stray : Bool) (task : Task) (cue : Cue) → engine_cue_at x stray task ≡ Some cue
    → is_port_ask cue ≡ false → engine_moves_first x ≡ 1
sends_moves x stray task cue h other = grind arith

lands_fall : (e f : Engine) (cue : Cue) → engine_cue e ≡ Some cue → is_port_ask cue ≡ false → engine_lands_from e f
    → engine_calls_left f < engine_calls_left e
lands_fall e f cue asks other lands = omega (
  arith,
  lands.left,
  quiet_moves f.state lands.quiet,
  sends_moves e.state e.stray e.task cue asks other,
)

falls_by : (cue : Cue) (seen : ℕ) (e f : Engine) → engine_cue e ≡ Some cue → EngineTookReply cue seen e f
    → engine_calls_left f < engine_calls_left e
falls_by (Ask q) seen e f asks saw = omega (arith, saw.fewer, engine_moves_few f.state)
falls_by cue seen e f asks replied = lands_fall e f cue asks refl (engine_lands_by cue seen e f refl replied)

-- each such call leaves fewer
pub engine_turn_falls : (call : Call) (e f : Engine) → EngineTurned call e f → engine_calls_left f < engine_calls_left e
engine_turn_falls call e f turned = falls_by call.cue call.seen e f turned.cue turned.replied

-- WITH THE PORT
goes_by : (cue : Cue) (seen : ℕ) (e f : Engine) (s t : Port) → engine_is_resting e ≡ false → engine_cue e ≡ Some cue
    → IsPortSeen cue seen → IsEnginePhaseCue cue → IsPortStep cue seen s t → EngineTookReply cue seen e f
    → EngineGoesWithPort e s f t
goes_by (Ask q) seen e f s t on asks range phase step saw = engine_ask_goes e f on s t q seen asks step saw
goes_by Take seen e f s t on asks range phase step took = engine_take_goes e f on s t seen range asks step took
goes_by (Give bits) seen e f s t on asks range phase step did = engine_give_goes e f on s t bits phase asks step did
goes_by Pass seen e f s t on asks range phase step did = engine_pass_goes e f on s t asks step did
goes_by (Lead ones undriven switch zeros) seen e f s t on asks range phase step did =
    engine_lead_goes e f on s t ones undriven zeros switch asks step did

-- where what came of it is a step of the model
pub engine_turn_goes : (call : Call) (e f : Engine) (s t : Port) → EngineTurned call e f → IsEnginePhaseCue call.cue
    → IsPortStep call.cue call.seen s t → EngineGoesWithPort e s f t
engine_turn_goes call e f s t turned phase step =
    goes_by call.cue call.seen e f s t (engine_turn_moves call e f turned) turned.cue turned.seen phase step
    turned.replied

-- OVER A WIRE
-- what a call of a wire keeps, where the engine asked for it and took its reply
pub record EngineTurnKept {W : Type 0} (port : W → Port) (lawful : W → Type 0) (notes : List Call → W → Type 0)
    (e f : Engine) (v w : W) : Type 0 where
  pub due : EngineDueFits f (port w)
  pub works : EngineWorks e f
  pub goes : lawful w → lawful v × EngineGoesWithPort e (port v) f (port w)
  pub falls : engine_calls_left f < engine_calls_left e
  pub made : HostCalls notes (λ calls. EngineTurns e calls f) v w

-- over every wire such a call keeps this
pub engine_turn_keeps : {W : Type 0} (port : W → Port) (lawful : W → Type 0) (notes : List Call → W → Type 0)
    (call : Call) (e f : Engine) (v w : W) → EngineTurned call e f → IsEnginePhaseCue call.cue
    → (port w).link.due ≡ port_due_once call.cue call.seen
    → (lawful w → lawful v × IsPortStep call.cue call.seen (port v) (port w))
    → ((calls : List Call) → notes calls v → notes (call ∷ calls) w) → EngineTurnKept port lawful notes e f v w
engine_turn_keeps port lawful notes call e f v w turned phase due step noted = record {
  due = engine_turn_due call e f (port w) turned due;
  works = engine_turn_works call e f turned;
  goes = λ holds. let was = step holds in (was.0, engine_turn_goes call e f (port v) (port w) turned phase was.1);
  falls = engine_turn_falls call e f turned;
  made = λ calls before. (call ∷ [], noted calls before, (e, refl, turned));
}
