-- Runs over a wire to the outside that had no call before.
use Rattle.std.proofs.Common.{◌≡◌, ℕ, List, [], Option, Result, Ok, Err, subst, sym}
use Rattle.swd_port.specs.declared.call.Call.{Call}
use Rattle.swd_port.specs.Port.{Port}
use Rattle.swd_script.specs.Scripts.{ScriptListed}
use Rattle.swd_run.specs.declared.engine.Finished.{Finished}
use Rattle.swd_run.specs.declared.fault.EngineFault.{EngineFault}
use Rattle.swd_run.specs.declared.limits.Limits.{Limits}
use Rattle.swd_run.specs.Engine.{BatchAnswersAt}
use Rattle.swd_run.specs.Wires.{run_story_wire, run_wire_by}
use Rattle.swd_run.specs.Records.{RunFiles}
use Rattle.swd_run.proofs.EngineLemmas.{batch_answers_at_by}
use Rattle.swd_ends.specs.declared.remote.RemoteFault.{RemoteFault}
use Rattle.swd_ends.specs.RemoteRuns.{RanRemoteEnd, RunsRemote, remote_end_answer}

-- what came of a script's batches, which are these, over a wire to the outside, by the calls that are noted there
pub remote_end_came : {W : Type 0} (calls_in : W → List Call) (story : ℕ → Port) (limits : Limits)
    (batches read : List ScriptListed) → read ≡ batches → (s t : W) → calls_in s ≡ []
    → (answer : Result Finished EngineFault) (old new : Option (List ℕ)) (before after : RunFiles)
    → BatchAnswersAt (run_wire_by calls_in (run_story_wire story)) limits read s t answer old new before after
    → BatchAnswersAt (run_story_wire story) limits batches [] (calls_in t) answer old new before after
remote_end_came calls_in story limits batches read same s t begins answer old new before after answers =
    subst (λ (l : List ScriptListed). BatchAnswersAt (run_story_wire story) limits l [] (calls_in t) answer old new
    before after) same (batch_answers_at_by calls_in (run_story_wire story) limits read s t [] begins answer old new
    before after answers)

-- the result of a run of a script that was read
pub remote_end_answered : {story : ℕ → Port} {limits : Limits} {Over : List Call → Type 0}
    {script old new : Option (List ℕ)} {before after : RunFiles} (unused : Type 0)
    (answer : Result Finished EngineFault) (told : Result Finished RemoteFault) → told ≡ remote_end_answer answer
    → RanRemoteEnd story limits Over answer script old new before after
    → RunsRemote story limits Over unused told script old new before after
remote_end_answered {story} {limits} {Over} {script} {old} {new} {before} {after} unused (Ok finished) told is ran =
    subst (λ told. RunsRemote story limits Over unused told script old new before after) (sym is) ran
remote_end_answered {story} {limits} {Over} {script} {old} {new} {before} {after} unused (Err fault) told is ran =
    subst (λ told. RunsRemote story limits Over unused told script old new before after) (sym is) ran
