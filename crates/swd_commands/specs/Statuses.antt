-- What a command does, and its status.
use Rattle.std.specs.Prelude.{ℕ, List, Option, is_some}
use Rattle.swd_command_line.specs.declared.command.CommandLine.{CommandLine}
use Rattle.swd_command_line.specs.declared.command.CommandLine.TheVariants.{One, Decode, Draw, Check, Encode, Run}
use Rattle.swd_command_line.specs.declared.command.CommandLine.TheVariants.{Target}
use Rattle.swd_command_line.specs.declared.command.CommandLine.TheVariants.{Image, Info, Core, Conform, Probes}
use Rattle.swd_console.specs.Statuses.{CommandNotOpened}
use Rattle.swd_run_commands.specs.Runs.{PerformsRunCommandWhere}
use Rattle.swd_commands.specs.declared.conversion.Conversion.TheVariants.{One as OneTx, Encode as Bits}
use Rattle.swd_commands.specs.Conversions.{ChecksCommandInput, ConvertsCommandInput}
use Rattle.swd_commands.specs.Conversions.{decode_command_conversion, draw_command_conversion}

-- A command reads an input and writes an output as its engine's contract says. Its status is that of the engine's
-- result.
abbrev pub PerformsCommand : CommandLine → ℕ → Option (List ℕ) → Option (List ℕ) → Option (List ℕ) → Option (List ℕ)
    → Type 0
PerformsCommand (One file) status text left old new = ConvertsCommandInput OneTx status text left old new
PerformsCommand (Decode decode) status text left old new =
    ConvertsCommandInput (decode_command_conversion decode) status text left old new
PerformsCommand (Draw draw) status text left old new =
    ConvertsCommandInput (draw_command_conversion draw) status text left old new
PerformsCommand (Check check) status text left old new = ChecksCommandInput check status text left old new
PerformsCommand (Encode file) status text left old new = ConvertsCommandInput Bits status text left old new
PerformsCommand (Run run) status text left old new = PerformsRunCommandWhere (is_some run.remote) run status text old
    new
-- the script or the memory of a target can't be standard input, which comes from the debugger
PerformsCommand (Target target) status text left old new = CommandNotOpened status old new
-- an info reads no file
PerformsCommand (Info info) status text left old new = CommandNotOpened status old new
-- nor does what is done at a core
PerformsCommand (Core core) status text left old new = CommandNotOpened status old new
-- nor does a conformance run
PerformsCommand (Conform conform) status text left old new = CommandNotOpened status old new
-- nor does a list of probes
PerformsCommand Probes status text left old new = CommandNotOpened status old new
-- nor can the file of an image be, since standard input is the target's
PerformsCommand (Image image) status text left old new = CommandNotOpened status old new
