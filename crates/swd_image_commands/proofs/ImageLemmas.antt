-- The bytes of a dump, as a list.
use Rattle.std.proofs.Common.{◌≡◌, ◌+◌, ◌≤◌, ◌%◌, ◌∙◌, ℕ, List, [], Option, None, Some, Result, Ok, Err, ap, inl, inr}
use Rattle.std.proofs.Common.{length, refl, subst, sym}
use Rattle.std.specs.Prelude.{◌^◌, IfOk, is_some}
use Rattle.swd_port.specs.declared.call.Call.{Call}
use Rattle.swd_port.specs.declared.wire.Wire.{Ghosts}
use Rattle.swd_port.specs.Port.{Port}
use Rattle.swd_remote.specs.declared.kept.RemoteStreams.{RemoteStreams}
use Rattle.swd_remote.specs.declared.remote.Fault.{Fault}
use Rattle.swd_run.specs.declared.limits.Limits.{Limits}
use Rattle.swd_image.specs.declared.fault.ImageFault.{ImageFault}
use Rattle.swd_image.specs.Dumps.{Dumps}
use Rattle.swd_image.proofs.DumpLemmas.{dump_bytes_length}
use Rattle.swd_image_ends.specs.Came.{DumpCame}
use Rattle.swd_command_line.specs.declared.command.ImageLine.{ImageLine}
use Rattle.swd_check.specs.declared.checked.Checked.{Checked}
use Rattle.swd_conform.specs.Sessions.{GoesOverChecked}
use Rattle.swd_console.specs.Connections.{command_way}
use Rattle.swd_console.specs.Verdicts.{command_status_of_session}
use Rattle.swd_image_files.specs.declared.format.Format.{Format}
use Rattle.swd_image_commands.specs.Images.{IsCommandDumped, IsCommandDumpedTo, PerformsDump, command_bytes_of}
use Rattle.swd_image_commands.specs.Images.{command_limits, command_result_reached}
use Rattle.swd_run.specs.Wires.{run_story_wire}

-- what a dump states of a result, it states of the result with its bytes as a list
pub dump_command_came_list : {V W : Type 0} (list : V → List ℕ) (wire : Ghosts W) (limits : Limits) (addr count : ℕ)
    (answer : Result V ImageFault) (s t : W) (a b : Option (Option (List ℕ)))
    → DumpCame wire limits addr count answer list s t a b
    → DumpCame wire limits addr count (command_bytes_of list answer) (λ bytes. bytes) s t a b
dump_command_came_list list wire limits addr count (Ok value) s t a b came =
    record { dumps = came.dumps; fault = tt; report = came.report }
dump_command_came_list list wire limits addr count (Err fault) s t a b came =
    record { dumps = tt; fault = came.fault; report = came.report }

-- the bytes of a result that was reached lie below 2^32
pub dump_command_fits : {V W : Type 0} (list : V → List ℕ) (wire : Ghosts W) (limits : Limits) (addr count : ℕ)
    (gone : Option Fault) (answer : Result V ImageFault) (s t : W)
    → IfOk answer (λ bytes. Dumps wire limits addr count (list bytes) s t)
    → IfOk (command_result_reached gone answer) (λ value. addr + length (list value) ≤ 2 ^ 32)
dump_command_fits list wire limits addr count (Some gone) (Ok v) s t dumps = tt
dump_command_fits list wire limits addr count None (Ok v) s t d =
    let len : length (list v) ≡ count = ap length d.are ∙ dump_bytes_length d.words (addr % 4) count in
    subst (λ n. addr + n ≤ 2 ^ 32) (sym len) d.fits
dump_command_fits list wire limits addr count _ (Err fault) s t dumps = tt

-- they are the same, whether they are a list before the other end is looked at or after that
pub dump_command_reached : {V : Type 0} (list : V → List ℕ) (gone : Option Fault) (answer : Result V ImageFault)
    → command_result_reached gone (command_bytes_of list answer)
    ≡ command_bytes_of list (command_result_reached gone answer)
dump_command_reached list (Some gone) (Ok v) = refl
dump_command_reached list None (Ok v) = refl
dump_command_reached list (Some gone) (Err fault) = refl
dump_command_reached list None (Err fault) = refl

-- what was written to a file, was written to some file
pub dump_command_somewhere : (old new : Option (List ℕ)) (format : Format) (addr : ℕ) (answer : Result (List ℕ) ℕ)
    (status : ℕ) → IsCommandDumpedTo old new format addr answer status → IsCommandDumped format addr answer status
dump_command_somewhere old new format addr (Ok bytes) status (inl failed) = inl failed
dump_command_somewhere old new format addr (Ok bytes) status (inr written) = inr (old, new, written)
dump_command_somewhere old new format addr (Err error) status is = is.0

-- a dump over a line, and what became of its file
pub dump_command_performed : {V R W : Type 0} (list : V → List ℕ) (story : ℕ → Port) (image : ImageLine)
    (limits : Limits) (count : ℕ) (answer : Result V ImageFault) (before after : Option (Option (List ℕ)))
    (calls : List Call) → limits ≡ command_limits image → is_some before ≡ is_some image.report
    → DumpCame (run_story_wire story) limits image.addr count answer list [] calls before after
    → (remaining : R → Option (List ℕ)) (contents : W → Option (List ℕ)) (sent left : Option (List ℕ))
    (line : RemoteStreams R W) (verdict : Option Checked)
    → ∥ GoesOverChecked image.check (command_way image.probe) remaining contents sent left line calls verdict ∥₁
    → (unchecked status : ℕ) → status ≡ command_status_of_session verdict unchecked
    → IsCommandDumped image.format image.addr (command_bytes_of list (command_result_reached line.fault answer))
    unchecked
    → PerformsDump story image status remaining contents sent left line count
dump_command_performed list story image limits count answer before after calls same named came remaining contents sent
    left line verdict over unchecked status reached dumped = inr (
      command_bytes_of list answer,
      before,
      after,
      named,
      calls,
      verdict,
      subst (λ own. DumpCame (run_story_wire story) own image.addr count (command_bytes_of list answer)
          (λ bytes. bytes) [] calls before after) same
          (dump_command_came_list list (run_story_wire story) limits image.addr count answer [] calls before after
          came),
      over,
      unchecked,
      subst (λ bytes. IsCommandDumped image.format image.addr bytes unchecked)
          (sym (dump_command_reached list line.fault answer)) dumped,
      reached,
    )
