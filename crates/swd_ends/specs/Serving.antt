-- The simulated target of a script and a plan, for an external host.
use Rattle.std.specs.Prelude.{ℕ, ◌≡◌, List, [], ◌∷◌, Option, None, Bool, true, false}
use Rattle.swd_port.specs.declared.mark.Mark.{Mark}
use Rattle.swd_port.specs.Bus.{Bus}
use Rattle.swd_port.specs.Made.{port_made_target}
use Rattle.swd_clocked.specs.declared.marked.FaultyClocked.{FaultyClocked}
use Rattle.swd_clocked.specs.Frames.{idle_frame}
use Rattle.swd_clocked.specs.Marked.{marked_clocked_state, marked_clocked_simulation, marked_clocked_frame}
use Rattle.swd_clocked.specs.Marked.{marked_clocked_unseen, marked_clocked_plan, marked_clocked_tally}
use Rattle.swd_clocked.specs.Marked.{marked_clocked_cycles}
use Rattle.swd_clocked.specs.Giving.{has_marked_clocked_buffer, marked_clocked_given_up}
use Rattle.swd_bitbang.specs.declared.trace.Trace.{Trace}
use Rattle.swd_bitbang.specs.declared.pins.Pins.{Pins}
use Rattle.swd_script.specs.Scripts.{ScriptListed, ScriptMeaning}
use Rattle.swd_ends.specs.declared.serving.TargetFault.{TargetFault}
use Rattle.swd_ends.specs.declared.serving.TargetFault.TheVariants.{Texts, Memory, Accesses}
use Rattle.swd_run.specs.declared.script_device.ScriptDevice.{ScriptDevice}
use Rattle.swd_run.specs.ScriptDevices.{script_bus, script_device_bus}
use Rattle.swd_run.specs.Running.{AreScriptAndPlan, AreRunTextsUnread, IsRunScriptInput, IsRunPlanInput}

-- a target before its first cycle, with this bus, the marks of a plan, this IDR or none, and a write buffer or none;
-- `bus` is that of a device
pub record IsTargetEndMade {D A : Type 0} (bus : D → Bus) (memory : Bus) (marks : List Mark) (idr : Option ℕ)
    (buffers : Bool) (target : FaultyClocked D A) : Type 0 where
  pub state : marked_clocked_state bus target ≡ port_made_target 0x2ba0_1477 memory
  -- a transfer takes effect at once, or with a write buffer as late as allowed; TAR wraps at the end of a kilobyte,
  -- and a value that is unknown is 0
  pub choices : (marked_clocked_simulation bus target).quirks
      ≡ record { wrap = true; late = buffers; filler = 0; idr = idr }
  pub frame : marked_clocked_frame target ≡ idle_frame
  pub unseen : marked_clocked_unseen target ≡ 0
  pub plan : marked_clocked_plan target ≡ marks
  pub asked : (marked_clocked_tally target).asked ≡ 0
  pub cycles : marked_clocked_cycles target ≡ 0
  pub buffered : has_marked_clocked_buffer target ≡ buffers
  pub given_up : marked_clocked_given_up target ≡ 0

-- the pins before the host moved any
pub record AreTargetEndPinsAtRest {D A : Type 0} (trace : Trace A) (pins : Pins D A) : Type 0 where
  pub clock : pins.clock ≡ false
  pub level : pins.level ≡ true
  pub drives : pins.drives ≡ true
  pub seen : pins.seen ≡ None
  pub kept : pins.trace ≡ trace

-- a script without accesses and without further calls
abbrev pub IsTargetEndScript : List ScriptListed → Type 0
IsTargetEndScript [] = ⊥
IsTargetEndScript (batch ∷ []) = batch.accesses ≡ []
IsTargetEndScript (batch ∷ next ∷ batches) = ⊥

-- the inputs are a script without accesses and a plan, and the pins have their target with this IDR or none, and a
-- write buffer or none
pub record SimulatesTargetEnd {A : Type 0} (script plan : Option (List ℕ)) (idr : Option ℕ) (buffers : Bool)
    (trace : Trace A) (pins : Pins (ScriptDevice A) A) : Type 0 where
  pub meaning : ScriptMeaning
  pub marks : List Mark
  pub read : AreScriptAndPlan script plan meaning marks
  pub no_access : IsTargetEndScript meaning.batches
  pub made : IsTargetEndMade script_device_bus (script_bus meaning) marks idr buffers pins.target
  pub rests : AreTargetEndPinsAtRest trace pins

-- the script has an access or further calls
pub record TargetEndHasAccesses (script plan : Option (List ℕ)) : Type 0 where
  pub meaning : ScriptMeaning
  pub marks : List Mark
  pub read : AreScriptAndPlan script plan meaning marks
  pub access : IsTargetEndScript meaning.batches → ⊥

abbrev pub IsTargetEndFault : TargetFault → Option (List ℕ) → Option (List ℕ) → Type 0
IsTargetEndFault (Texts fault) script plan = AreRunTextsUnread fault script plan
IsTargetEndFault Memory script plan = IsRunScriptInput script × IsRunPlanInput plan
IsTargetEndFault Accesses script plan = TargetEndHasAccesses script plan
