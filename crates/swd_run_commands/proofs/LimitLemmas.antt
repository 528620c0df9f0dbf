-- A run by limits that were computed is one by those of its arguments.
use Rattle.std.proofs.Common.{◌≡◌, ℕ, Bool, List, [], Option, Result, subst}
use Rattle.swd_port.specs.Port.{Port}
use Rattle.swd_port.specs.declared.call.Call.{Call}
use Rattle.swd_script.specs.Scripts.{ScriptListed}
use Rattle.swd_run.specs.declared.engine.Finished.{Finished}
use Rattle.swd_run.specs.declared.fault.EngineFault.{EngineFault}
use Rattle.swd_run.specs.declared.limits.Limits.{Limits}
use Rattle.swd_run.specs.Engine.{BatchAnswersAt}
use Rattle.swd_run.specs.Records.{RunFiles}
use Rattle.swd_run.specs.Wires.{run_story_wire}
use Rattle.swd_remote.specs.declared.kept.RemoteStreams.{RemoteStreams}
use Rattle.swd_remote.specs.declared.line.Way.{Way}
use Rattle.swd_check.specs.declared.checked.Checked.{Checked}
use Rattle.swd_conform.specs.Sessions.{GoesOverChecked}
use Rattle.swd_ends.specs.RemoteRuns.{RanRemoteEndScript}

-- what a job states of its calls, and what went over its line
pub ran_as_asked : {R W : Type 0} {batches : List ScriptListed} {answer : Result Finished EngineFault}
    {old new : Option (List ℕ)} {before after : RunFiles} (story : ℕ → Port) (check : Bool)
    (remaining : R → Option (List ℕ)) (contents : W → Option (List ℕ)) (sent left : Option (List ℕ))
    (line : RemoteStreams R W) (calls : List Call) (verdict : Option Checked) (x y : Limits) → x ≡ y
    → (way : Way) → BatchAnswersAt (run_story_wire story) x batches [] calls answer old new before after
    → ∥ GoesOverChecked check way remaining contents sent left line calls verdict ∥₁
    → RanRemoteEndScript story y
    (λ calls. ∥ GoesOverChecked check way remaining contents sent left line calls verdict ∥₁) batches answer old new
    before after
ran_as_asked {batches = batches} {answer} {old} {new} {before} {after} story check remaining contents sent left line
    calls verdict x y same way answers over = record {
      calls = calls;
      answers = subst (λ limits. BatchAnswersAt (run_story_wire story) limits batches [] calls answer old new before
          after) same answers;
      over = over;
    }
