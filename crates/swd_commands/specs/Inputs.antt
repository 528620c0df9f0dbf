-- What a command reads.
use Rattle.std.specs.Prelude.{ℕ, ◌≡◌, ◌≢◌, ◌⊎◌, List, [], Option, Some, None, IsSomeAnd, codes}
use Rattle.std.specs.Option.{option_map}
use Rattle.std.specs.String.{string_bytes}
use Rattle.swd_command_line.specs.declared.command.CommandLine.{CommandLine}
use Rattle.swd_command_line.specs.declared.command.ServedMemory.{ServedMemory}
use Rattle.swd_command_line.specs.declared.command.ServedMemory.TheVariants.{Script, File}
use Rattle.swd_command_line.specs.declared.command.CommandLine.TheVariants.{One, Decode, Draw, Check, Encode, Run}
use Rattle.swd_command_line.specs.declared.command.CommandLine.TheVariants.{Target}
use Rattle.swd_command_line.specs.declared.command.CommandLine.TheVariants.{Image, Info, Core, Conform, Probes}

-- the file of a served memory: its script, or its bytes
abbrev pub command_served_file : ServedMemory → List ℕ
command_served_file (Script texts) = string_bytes texts.script
command_served_file (File memory) = string_bytes memory.file

-- the file that the arguments name
abbrev pub command_named_file : CommandLine → Option (List ℕ)
command_named_file (One file) = option_map string_bytes file
command_named_file (Decode decode) = option_map string_bytes decode.file
command_named_file (Draw draw) = option_map string_bytes draw.file
command_named_file (Check check) = option_map string_bytes check.file
command_named_file (Encode file) = option_map string_bytes file
command_named_file (Run run) = Some (string_bytes run.script)
command_named_file (Target target) = Some (command_served_file target.memory)
command_named_file (Image image) = Some (string_bytes image.file)
-- an info reads no file: no file has this name, and standard input hasn't either
command_named_file (Info info) = Some []
-- nor does what is done at a core
command_named_file (Core core) = Some []
-- nor does a conformance run
command_named_file (Conform conform) = Some []
-- nor does a list of probes
command_named_file Probes = Some []

-- standard input is read: no file is named, or `-` is
abbrev pub IsStandardInput : Option (List ℕ) → Type 0
IsStandardInput name = (name ≡ None) ⊎ (name ≡ Some (codes "-"))

abbrev pub CommandReadsStdin : CommandLine → Type 0
CommandReadsStdin line = IsStandardInput (command_named_file line)

-- what leads to the target, if that is remote; that of a conformance run, which writes its verdict, isn't counted here
abbrev pub command_remote : CommandLine → Option (List ℕ)
command_remote (Run run) = option_map string_bytes run.remote
command_remote (Image image) = option_map string_bytes image.remote
command_remote (Info info) = Some (string_bytes info.remote)
command_remote (Core core) = option_map string_bytes core.run.remote
command_remote _ = None

-- files lead to it, not the standard streams, and the command reads no other file from standard input
abbrev pub CommandHasLine : CommandLine → Type 0
CommandHasLine line = IsSomeAnd (command_remote line) (λ files. files ≢ codes "-") × (CommandReadsStdin line → ⊥)
