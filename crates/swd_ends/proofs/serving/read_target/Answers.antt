use Rattle.std.proofs.Common.{◌≡◌, Bool, true, false, map, sym, subst}
use Rattle.swd_port.specs.Bus.{Bus}
use Rattle.swd_run.specs.ScriptDevices.{script_device_bus}
use Rattle.swd_script.specs.Readers.{script_batch_listed, read_script_meaning}
use Rattle.swd_script.proofs.TextLaws.{script_is_runnable, plan_file_is_plan}
use Rattle.swd_ends.specs.Serving.{IsTargetEndScript, IsTargetEndMade}
use Rattle.swd_ends.proofs.serving.read_target.Goals as goal

pub device_of-requires : goal.device_of-requires
device_of-requires g c = let read = c.in-Ok.ensures.read in script_is_runnable read.script_text
    (read_script_meaning c.in-Ok.texts.script) read.means

pub target_pins-requires : goal.target_pins-requires
target_pins-requires g c = let read = c.in-Ok.ensures.read in plan_file_is_plan read.plan_text c.in-Ok.texts.plan.items
    read.plans

apart : (b : Bool) → b ≡ true → b ≡ false → ⊥
apart b e f = absurd cc

pub returns-then-not-is_bare-clause-fault : goal.returns-then-not-is_bare-clause-fault
returns-then-not-is_bare-clause-fault g c =
    let script = c.in-Ok.texts.script in
    record {
      meaning = read_script_meaning script;
      marks = c.in-Ok.texts.plan.items;
      read = c.in-Ok.ensures.read;
      access = λ bare. apart c.is_bare.result
          (c.is_bare.ensures.1 (subst (λ batches. IsTargetEndScript (map script_batch_listed batches))
          (sym c.as_slice.ensures.value) bare)) c.if-not-is_bare.true;
    }

pub returns-clause-made : goal.returns-clause-made
returns-clause-made g c =
    let script = c.in-Ok.texts.script in
    let marks = c.in-Ok.texts.plan.items in
    let pins = c.target_pins.ensures in
    record {
      meaning = read_script_meaning script;
      marks = marks;
      read = c.in-Ok.ensures.read;
      no_access = subst (λ batches. IsTargetEndScript (map script_batch_listed batches)) c.as_slice.ensures.value
          (c.is_bare.ensures.0 c.if-not-is_bare.false);
      made = subst (λ (m : Bus). IsTargetEndMade script_device_bus m marks c.args.idr c.args.buffers
          c.target_pins.result.target)
          c.in-Some.ensures
          pins.made;
      rests = pins.rests;
    }
