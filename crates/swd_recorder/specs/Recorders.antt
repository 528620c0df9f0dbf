-- What a recorder keeps, and the state of the port model behind it.
use Rattle.std.specs.Prelude.{List, ◌≡◌}
use Rattle.swd_port.specs.declared.call.Call.{Call}
use Rattle.swd_port.specs.declared.mark.Mark.{Mark}
use Rattle.swd_port.specs.declared.wire.Wire.{Ghosts}
use Rattle.swd_port.specs.Port.{Port}
use Rattle.swd_port.specs.Laws.Calls.{port_with_asked}
use Rattle.swd_recorder.specs.declared.recorder.Recorder.{Recorder}
use Rattle.swd_recorder.specs.Kept.{RecorderKept, recorder_kept_of}
use Rattle.swd_recorder.specs.Steps.{recorder_ask_count}

-- its calls so far, the last one first
abbrev pub recorder_calls : {W A : Type 0} {g : Ghosts W} → Recorder W A g → List Call
recorder_calls recorder = recorder.recording.noted.calls

abbrev pub recorder_kept : {W A : Type 0} {g : Ghosts W} → Recorder W A g → RecorderKept
recorder_kept recorder = recorder_kept_of recorder.recording.items

-- the state of the wire behind it, with the recorder's own count of requests
abbrev pub recorder_port : {W A : Type 0} {g : Ghosts W} → Recorder W A g → Port
recorder_port {W} {A} {g} recorder = port_with_asked (recorder_ask_count (recorder_calls recorder))
    (g.port recorder.wire)

abbrev pub recorder_plan : {W A : Type 0} {g : Ghosts W} → Recorder W A g → List Mark
recorder_plan {W} {A} {g} recorder = g.plan recorder.wire

-- what was seen so far is consistent with the model
abbrev pub recorder_lawful : {W A : Type 0} {g : Ghosts W} → Recorder W A g → Type 0
recorder_lawful {W} {A} {g} recorder = g.lawful recorder.wire

-- the wire under it noted these calls, and so did the recorder
abbrev pub recorder_notes : {W A : Type 0} {g : Ghosts W} → List Call → Recorder W A g → Type 0
recorder_notes {W} {A} {g} calls recorder = g.notes calls recorder.wire × (recorder_calls recorder ≡ calls)

-- the wire that the calls are forwarded to
abbrev pub recorder_wire_under : {W A : Type 0} {g : Ghosts W} → Recorder W A g → W
recorder_wire_under recorder = recorder.wire
