-- What the result of a script states that was run at a target of which nothing is proved.
use Rattle.std.specs.Prelude.{◌≡◌, ℕ, List, [], Option, Result, Ok, Err, IfSome}
use Rattle.swd_io.specs.Pieces.{IsReaderText}
use Rattle.swd_io.specs.declared.pieces.Unread.{Unread}
use Rattle.swd_io.specs.declared.pieces.Unread.TheVariants.{Reader, Consumer}
use Rattle.swd_port.specs.declared.call.Call.{Call}
use Rattle.swd_port.specs.Port.{Port}
use Rattle.swd_script.specs.Scripts.{ScriptListed, ScriptMeaning, script_of}
use Rattle.swd_script.specs.Readers.{IsScriptFault}
use Rattle.swd_script.specs.declared.fault.ScriptFault.{ScriptFault}
use Rattle.swd_run.specs.declared.engine.Finished.{Finished}
use Rattle.swd_run.specs.declared.fault.EngineFault.{EngineFault}
use Rattle.swd_run.specs.declared.limits.Limits.{Limits}
use Rattle.swd_run.specs.Engine.{BatchAnswersAt}
use Rattle.swd_run.specs.Records.{AreRunFilesLeft, RunFiles, IsRunFileLeft}
use Rattle.swd_run.specs.Wires.{run_story_wire}
use Rattle.swd_ends.specs.declared.remote.RemoteFault.{RemoteFault}
use Rattle.swd_ends.specs.declared.remote.RemoteFault.TheVariants.{Script, Read, Engine}

-- The batches of a script were run over a wire to the outside. `calls` are all its calls with what came back, the last
-- one first: those that the reports describe. The wire is lawful if they are consistent with the story. `Over` holds of
-- the connection and these calls.
pub record RanRemoteEndScript (story : ℕ → Port) (limits : Limits) (Over : List Call → Type 0)
    (batches : List ScriptListed) (answer : Result Finished EngineFault) (old new : Option (List ℕ))
    (before after : RunFiles) : Type 0 where
  pub calls : List Call
  pub answers : BatchAnswersAt (run_story_wire story) limits batches [] calls answer old new before after
  pub over : Over calls

-- the reader's script was run so
pub record RanRemoteEnd (story : ℕ → Port) (limits : Limits) (Over : List Call → Type 0)
    (answer : Result Finished EngineFault) (script old new : Option (List ℕ)) (before after : RunFiles)
    : Type 0 where
  pub text : List ℕ
  pub is_script : IsReaderText script text
  pub meaning : ScriptMeaning
  pub means : script_of text ≡ Ok meaning
  pub ran : RanRemoteEndScript story limits Over meaning.batches answer old new before after

-- What a result states about the script, if its bytes are known, and about the contents of the writers before and
-- after. `unused` says that the connection wasn't used.
abbrev pub RunsRemote : (ℕ → Port) → Limits → (List Call → Type 0) → Type 0 → Result Finished RemoteFault
    → Option (List ℕ) → Option (List ℕ) → Option (List ℕ) → RunFiles → RunFiles → Type 0
RunsRemote story limits Over unused (Ok finished) script old new before after =
    RanRemoteEnd story limits Over (Ok finished) script old new before after
RunsRemote story limits Over unused (Err (Engine fault)) script old new before after =
    RanRemoteEnd story limits Over (Err fault) script old new before after
RunsRemote story limits Over unused (Err (Script fault)) script old new before after =
    IfSome script (IsScriptFault fault) × IsRunFileLeft old new × AreRunFilesLeft before after × unused
RunsRemote story limits Over unused (Err Read) script old new before after =
    IsRunFileLeft old new × AreRunFilesLeft before after × unused

-- the error of a script that wasn't read
abbrev pub remote_end_script_fault : Unread ScriptFault → RemoteFault
remote_end_script_fault Reader = Read
remote_end_script_fault (Consumer fault) = Script fault

-- the result of a script that was read and run
abbrev pub remote_end_answer : Result Finished EngineFault → Result Finished RemoteFault
remote_end_answer (Ok finished) = Ok finished
remote_end_answer (Err fault) = Err (Engine fault)
