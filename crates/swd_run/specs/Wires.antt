-- Wires whose calls are kept beside them.
use Rattle.std.specs.Prelude.{ℕ, ◌≡◌, Bool, true, false, List, [], ◌++◌}
use Rattle.swd_port.specs.declared.call.Call.{Call}
use Rattle.swd_port.specs.declared.wire.Wire.{Ghosts}
use Rattle.swd_port.specs.Laws.Calls.{port_with_asked}
use Rattle.swd_port.specs.Port.{Port}
use Rattle.swd_port.specs.Stories.{port_at, FitsStory}
use Rattle.swd_recorder.specs.declared.recorder.Recorder.{Recorder}
use Rattle.swd_recorder.specs.Recorders.{recorder_calls, recorder_wire_under}
use Rattle.swd_recorder.specs.Steps.{recorder_ask_count}

-- what has a wire in it is a wire
abbrev pub run_wire_by : {W V : Type 0} → (W → V) → Ghosts V → Ghosts W
run_wire_by by wire = record {
  port = λ seen. wire.port (by seen);
  plan = λ seen. wire.plan (by seen);
  lawful = λ seen. wire.lawful (by seen);
  notes = λ calls seen. wire.notes calls (by seen);
}

-- A wire beside the calls that were recorded of it. If the run is recorded, these are its calls, and their count of
-- requests replaces the wire's own. The wire noted them too, after those that it had noted at the start (`noted`).
abbrev pub run_wire_seen : {W : Type 0} → Bool → Ghosts W → (List Call → Type 0) → Ghosts (List Call × W)
run_wire_seen false wire noted = run_wire_by (λ seen. seen.1) wire
run_wire_seen true wire noted = record {
  port = λ seen. port_with_asked (recorder_ask_count seen.0) (wire.port seen.1);
  plan = λ seen. wire.plan seen.1;
  lawful = λ seen. wire.lawful seen.1;
  notes = λ calls seen. (seen.0 ≡ calls)
      × ((before : List Call) → noted before → wire.notes (calls ++ before) seen.1);
}

-- the same of a recorder
abbrev pub run_recorder_wire : {W A : Type 0} {g : Ghosts W} → (List Call → Type 0) → Ghosts (Recorder W A g)
run_recorder_wire {W} {A} {g} noted =
    run_wire_by (λ recorder. (recorder_calls recorder, recorder_wire_under recorder)) (run_wire_seen true g noted)

-- a list of calls with what came back, the last one first, as a wire to the outside: it is lawful if they are
-- consistent with the story, and these are the calls that it noted
abbrev pub run_story_wire : (ℕ → Port) → Ghosts (List Call)
run_story_wire story = record {
  port = port_at story;
  plan = λ calls. [];
  lawful = FitsStory story;
  notes = λ noted calls. calls ≡ noted;
}
