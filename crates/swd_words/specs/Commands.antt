-- The program's command line, as the parser reads it, and the meaning of its arguments.
use Rattle.std.specs.Prelude.{ℕ, ◌≡◌, ◌≢◌, ◌≤◌, ◌%◌, ◌↔◌, ◌⊎◌, List, [], ◌∷◌, Option, Some, None, IsSomeAnd, true}
use Rattle.std.specs.Prelude.{◌+◌, ◌++◌, ◌<◌, ◌*◌, ◌^◌, Bool, false, codes, pos, unwrap_or, if◌then◌else◌}
use Rattle.std.specs.Option.{option_and_then, option_map}
use Rattle.std.specs.String.{string_bytes}
use Rattle.std.specs.Str.{bytes_eq}
use Rattle.std.specs.Str.Parse.{signed_digits_value}
use Rattle.clap.specs.Words.{App, HasKind, Kinds, kind_of, Row, all_of, first_of, Rule, Text, new_app, with_rule}
use Rattle.clap.specs.Words.{with_subcommand}
use Rattle.swd_command_line.specs.declared.command.CommandLine.{CommandLine}
use Rattle.swd_command_line.specs.declared.command.CommandLine.TheVariants.{One, Decode, Draw, Check, Encode, Run}
use Rattle.swd_command_line.specs.declared.command.CommandLine.TheVariants.{Target, Info, Core, Image, Conform, Probes}
use Rattle.swd_command_line.specs.declared.command.DecodeLine.{DecodeLine}
use Rattle.swd_command_line.specs.declared.command.DrawLine.{DrawLine}
use Rattle.swd_command_line.specs.declared.command.CheckLine.{CheckLine}
use Rattle.swd_command_line.specs.declared.command.ConformLine.{ConformLine}
use Rattle.swd_command_line.specs.declared.command.CoreLine.{CoreLine}
use Rattle.swd_command_line.specs.declared.command.PlainWords.{PlainWords}
use Rattle.swd_command_line.specs.declared.command.ProbeLine.{ProbeLine}
use Rattle.swd_command_line.specs.declared.command.ImageAction.{ImageAction}
use Rattle.swd_command_line.specs.declared.command.ImageAction.TheVariants.{Load, Verify, Dump}
use Rattle.swd_command_line.specs.declared.command.ImageLine.{ImageLine}
use Rattle.swd_command_line.specs.declared.command.InfoLine.{InfoLine}
use Rattle.swd_command_line.specs.declared.command.MemoryLine.{MemoryLine}
use Rattle.swd_command_line.specs.declared.command.RunLine.{RunLine}
use Rattle.swd_command_line.specs.declared.command.ScriptLine.{ScriptLine}
use Rattle.swd_command_line.specs.declared.command.ServedMemory.{ServedMemory}
use Rattle.swd_command_line.specs.declared.command.ServedMemory.TheVariants.{Script, File}
use Rattle.swd_command_line.specs.declared.command.TargetLine.{TargetLine}
use Rattle.swd_core.specs.declared.action.CoreAction.{CoreAction}
use Rattle.swd_core.specs.declared.action.CoreAction.TheVariants.{Id, Halt, Resume, Step, Reset, Regs, Set}
use Rattle.swd_words.specs.Rules.{flag_rule, number_rule, optional_rule, place_rule, places_rule, repeated_rule}
use Rattle.swd_words.specs.Rules.{value_rule}
use Rattle.swd_words.specs.declared.fault.LineFault.{LineFault}
use Rattle.swd_words.specs.declared.fault.LineFault.TheVariants.{Clap, Memory}
use Rattle.swd_image_files.specs.declared.elf.ElfChoice.{ElfChoice}
use Rattle.swd_image_files.specs.declared.elf.ElfChoice.TheVariants.{Auto, Always, Never}
use Rattle.swd_image_files.specs.declared.format.Format.{Format}
use Rattle.swd_image_files.specs.Formats.{image_format_of_name, image_format_of_word}
use Rattle.swd_script.specs.Numerals.{is_script_hex_prefix, script_decimal_number, script_hex_number}
use Rattle.clap.specs.declared.error.kind.ErrorKind.{ErrorKind}

-- a command with arguments of these rules
abbrev pub rules_app : App → List Rule → App
rules_app app [] = app
rules_app app (rule ∷ rules) = rules_app (with_rule app rule) rules

-- a program with these commands, each with the rules of its arguments
abbrev pub commands_app : App → List (Text × List Rule) → App
commands_app app [] = app
commands_app app (command ∷ more) =
    commands_app (with_subcommand app (rules_app (new_app command.0) command.1).top) more

-- --tries, how often an access is tried: 0 to 1,000, and 8 without it; --resume, how often a call is resumed: 0 to
-- 1,000, and 0 without it; --remote, what leads to a remote target: at most one value
abbrev pub tries_rule : Rule
tries_rule = number_rule (codes "tries") 0 (codes "8")

abbrev pub resume_rule : Rule
resume_rule = number_rule (codes "resume") 0 (codes "0")

abbrev pub remote_rule : Rule
remote_rule = optional_rule (codes "remote")

-- with --probe, what leads to a probe in its place, the frequency of SWCLK, and whether packets have their length
-- before them
abbrev pub lead_rules : List Rule
lead_rules = remote_rule ∷ value_rule (codes "probe") ∷ value_rule (codes "speed") ∷ flag_rule (codes "framed") ∷ []

-- --plain: words of plain memory, each use with an address and a number of words
abbrev pub plain_rule : Rule
plain_rule = repeated_rule (codes "plain") (codes "BASE" ∷ codes "WORDS" ∷ [])

-- the optional file of `one` and `encode`, which begins the arguments of `decode`, `draw` and `check` too
abbrev pub file_rules : List Rule
file_rules = place_rule (codes "FILE") false ∷ []

abbrev pub decode_rules : List Rule
decode_rules = file_rules ++ flag_rule (codes "places") ∷ flag_rule (codes "names") ∷ flag_rule (codes "count")
    ∷ flag_rule (codes "accesses") ∷ flag_rule (codes "made") ∷ flag_rule (codes "rest") ∷ flag_rule (codes "resync")
    ∷ flag_rule (codes "overrun") ∷ []

-- with the most items of a drawing: 1 to 1,000, and 200 without the option
abbrev pub draw_rules : List Rule
draw_rules = file_rules ++ number_rule (codes "items") 1 (codes "200") ∷ flag_rule (codes "names")
    ∷ flag_rule (codes "resync") ∷ flag_rule (codes "overrun") ∷ []

abbrev pub check_rules : List Rule
check_rules = file_rules ++ flag_rule (codes "made") ∷ flag_rule (codes "rest") ∷ flag_rule (codes "clean")
    ∷ plain_rule ∷ flag_rule (codes "exact-registers") ∷ flag_rule (codes "resync") ∷ flag_rule (codes "overrun") ∷ []

abbrev pub run_rules : List Rule
run_rules = place_rule (codes "SCRIPT") true ∷ value_rule (codes "plan") ∷ tries_rule ∷ resume_rule
    ∷ value_rule (codes "trace") ∷ value_rule (codes "accesses") ∷ flag_rule (codes "strict") ∷ lead_rules
    ++ value_rule (codes "report") ∷ flag_rule (codes "progress") ∷ flag_rule (codes "check")
    ∷ flag_rule (codes "bursts") ∷ []

-- with the script of a target, in place of which there may be --memory
abbrev pub target_rules : List Rule
target_rules = place_rule (codes "SCRIPT") false ∷ value_rule (codes "memory") ∷ value_rule (codes "base")
    ∷ value_rule (codes "plan") ∷ value_rule (codes "log") ∷ value_rule (codes "trace") ∷ value_rule (codes "idr")
    ∷ flag_rule (codes "buffer") ∷ []

-- the same, and the most bytes of a packet
abbrev pub probe_rules : List Rule
probe_rules = target_rules ++ value_rule (codes "size") ∷ []

abbrev pub core_rules : List Rule
core_rules = place_rule (codes "ACTION") true ∷ places_rule (codes "NAME") ∷ flag_rule (codes "halt")
    ∷ flag_rule (codes "script") ∷ tries_rule ∷ resume_rule ∷ value_rule (codes "trace") ∷ lead_rules

abbrev pub conform_rules : List Rule
conform_rules = lead_rules ++ plain_rule ∷ value_rule (codes "hole") ∷ value_rule (codes "steps")
    ∷ flag_rule (codes "clean") ∷ []

-- the options of each command over an image, after its places: the format, the limits, the report, the progress, and
-- the target, which is remote, or simulated
abbrev pub image_rules : List Rule
image_rules = value_rule (codes "format") ∷ tries_rule ∷ resume_rule ∷ value_rule (codes "report")
    ∷ flag_rule (codes "progress") ∷ lead_rules ++ flag_rule (codes "check") ∷ value_rule (codes "memory")
    ∷ value_rule (codes "base") ∷ value_rule (codes "plan") ∷ []

abbrev pub read_rules : List Rule
read_rules = place_rule (codes "ADDR") true ∷ place_rule (codes "FILE") true ∷ image_rules

abbrev pub load_rules : List Rule
load_rules = read_rules ++ flag_rule (codes "bursts") ∷ []

abbrev pub dump_rules : List Rule
dump_rules = place_rule (codes "ADDR") true ∷ place_rule (codes "BYTES") true ∷ place_rule (codes "FILE") true
    ∷ image_rules

-- the program without its commands, one of which is required
abbrev pub bare_args_app : App
bare_args_app =
    let named = new_app (codes "swd") in
    record named { top = record named.top { subcommand_required = true; has_version = true } }

-- the whole command
abbrev pub swd_app : App
swd_app = commands_app bare_args_app ((codes "one", file_rules) ∷ (codes "decode", decode_rules)
    ∷ (codes "encode", file_rules) ∷ (codes "run", run_rules) ∷ (codes "target", target_rules)
    ∷ (codes "probe", probe_rules) ∷ (codes "draw", draw_rules) ∷ (codes "check", check_rules)
    ∷ (codes "info", lead_rules ++ tries_rule ∷ []) ∷ (codes "core", core_rules) ∷ (codes "conform", conform_rules)
    ∷ (codes "load", load_rules)
    ∷ (codes "verify", read_rules) ∷ (codes "dump", dump_rules) ∷ (codes "probes", []) ∷ [])

-- --remote alone is read as --remote=-, so that the argument after it isn't its value
abbrev pub remote_spelled_out : Text → Text
remote_spelled_out word = if bytes_eq word (codes "--remote") then codes "--remote=-" else word

-- the arguments as the parser gets them: each is spelled out, up to --, after which there are no options
abbrev pub arguments_spelled_out : List Text → List Text
arguments_spelled_out [] = []
arguments_spelled_out (word ∷ more) = if bytes_eq word (codes "--") then word ∷ more
    else remote_spelled_out word ∷ arguments_spelled_out more

-- the arguments have this command, and this file or no file
abbrev pub HasFileArgument : Text → Option Text → Option (Text × List Row) → Type 0
HasFileArgument name file rows = IsSomeAnd rows (λ p. (p.0 ≡ name) × (file ≡ first_of (codes "FILE") p.1))

-- the file that the arguments name, if any, and their flags
pub record AreDecodeArguments (decode : DecodeLine) (rows : List Row) : Type 0 where
  pub file : option_map string_bytes decode.file ≡ first_of (codes "FILE") rows
  pub places : (decode.places ≡ true) ↔ (first_of (codes "places") rows ≡ Some (codes "true"))
  pub names : (decode.names ≡ true) ↔ (first_of (codes "names") rows ≡ Some (codes "true"))
  pub count : (decode.count ≡ true) ↔ (first_of (codes "count") rows ≡ Some (codes "true"))
  pub accesses : (decode.accesses ≡ true) ↔ (first_of (codes "accesses") rows ≡ Some (codes "true"))
  pub made : (decode.made ≡ true) ↔ (first_of (codes "made") rows ≡ Some (codes "true"))
  pub rest : (decode.rest ≡ true) ↔ (first_of (codes "rest") rows ≡ Some (codes "true"))
  pub resync : (decode.resync ≡ true) ↔ (first_of (codes "resync") rows ≡ Some (codes "true"))
  pub overrun : (decode.overrun ≡ true) ↔ (first_of (codes "overrun") rows ≡ Some (codes "true"))
  pub one_start : decode.made ≡ true → decode.rest ≡ false

-- the number of an option is that of its argument, at most 1,000, and this default without an argument
abbrev pub IsNumberArgument : ℕ → ℕ → Option Text → Type 0
IsNumberArgument default number None = number ≡ default
IsNumberArgument default number (Some text) = (number ≤ 1000) × (pos number ≡ signed_digits_value 10 text)

-- the file that the arguments of `draw` name, if any, the most items, and the flags
pub record AreDrawArguments (draw : DrawLine) (rows : List Row) : Type 0 where
  pub file : option_map string_bytes draw.file ≡ first_of (codes "FILE") rows
  pub items : IsNumberArgument 200 draw.items (first_of (codes "items") rows)
  pub names : (draw.names ≡ true) ↔ (first_of (codes "names") rows ≡ Some (codes "true"))
  pub resync : (draw.resync ≡ true) ↔ (first_of (codes "resync") rows ≡ Some (codes "true"))
  pub overrun : (draw.overrun ≡ true) ↔ (first_of (codes "overrun") rows ≡ Some (codes "true"))

-- words of plain memory: an address of 1 to 8 hexadecimal digits after an optional 0x, a multiple of 4, and a number of
-- words of 1 to 10 decimal digits, at least 1; none is past ffffffff
pub record IsPlainArgument (plain : PlainWords) (address count : Text) : Type 0 where
  pub base : Some plain.base ≡ script_hex_number address
  pub words : Some plain.words ≡ script_decimal_number count
  pub aligned : plain.base % 4 ≡ 0
  pub nonempty : 1 ≤ plain.words
  pub within : plain.base + 4 * plain.words ≤ 2 ^ 32

-- the values of --plain, two for each use
abbrev pub ArePlainArguments : List PlainWords → List Text → Type 0
ArePlainArguments [] [] = Unit {0}
ArePlainArguments (plain ∷ more) (address ∷ count ∷ rest) =
    IsPlainArgument plain address count × ArePlainArguments more rest
ArePlainArguments plain texts = ⊥

-- the file that the arguments of `check` name, if any, the words of plain memory, and the flags
pub record AreCheckArguments (check : CheckLine) (rows : List Row) : Type 0 where
  pub file : option_map string_bytes check.file ≡ first_of (codes "FILE") rows
  pub made : (check.made ≡ true) ↔ (first_of (codes "made") rows ≡ Some (codes "true"))
  pub rest : (check.rest ≡ true) ↔ (first_of (codes "rest") rows ≡ Some (codes "true"))
  pub clean : (check.clean ≡ true) ↔ (first_of (codes "clean") rows ≡ Some (codes "true"))
  pub plain : ArePlainArguments check.plain.items (unwrap_or (all_of (codes "plain") rows) [])
  pub exact_registers : (check.exact_registers ≡ true)
      ↔ (first_of (codes "exact-registers") rows ≡ Some (codes "true"))
  pub resync : (check.resync ≡ true) ↔ (first_of (codes "resync") rows ≡ Some (codes "true"))
  pub overrun : (check.overrun ≡ true) ↔ (first_of (codes "overrun") rows ≡ Some (codes "true"))
  pub one_start : check.made ≡ true → check.rest ≡ false

-- the frequency of SWCLK is that of the argument, 1 to 10 decimal digits, and not 0; 1,000,000 without an argument
abbrev pub IsSpeedArgument : ℕ → Option Text → Type 0
IsSpeedArgument speed None = speed ≡ 1000000
IsSpeedArgument speed (Some text) = (Some speed ≡ script_decimal_number text) × (0 < speed)

-- What leads to a remote target is what --remote names. With --probe, which excludes it, it is what that names, and a
-- probe is there, with this frequency, and with packets that have their length before them or not.
abbrev pub AreLeadArguments : Option Text → Option ProbeLine → List Row → Type 0
AreLeadArguments files None rows = (files ≡ first_of (codes "remote") rows) × (first_of (codes "probe") rows ≡ None)
AreLeadArguments files (Some probe) rows = (files ≡ first_of (codes "probe") rows)
    × (first_of (codes "probe") rows ≢ None) × (first_of (codes "remote") rows ≡ None)
    × IsSpeedArgument probe.speed (first_of (codes "speed") rows)
    × ((probe.framed ≡ true) ↔ (first_of (codes "framed") rows ≡ Some (codes "true")))

-- the script, the plan, the two numbers, the trace, the accesses, what leads to a remote target, and the report that
-- the arguments name, and whether the run is strict, says how far it is, checks its session, and sends bursts
pub record AreRunArguments (run : RunLine) (rows : List Row) : Type 0 where
  pub script : Some (string_bytes run.script) ≡ first_of (codes "SCRIPT") rows
  pub plan : option_map string_bytes run.plan ≡ first_of (codes "plan") rows
  pub tries : IsNumberArgument 8 run.tries (first_of (codes "tries") rows)
  pub resumes : IsNumberArgument 0 run.resumes (first_of (codes "resume") rows)
  pub trace : option_map string_bytes run.trace ≡ first_of (codes "trace") rows
  pub accesses : option_map string_bytes run.accesses ≡ first_of (codes "accesses") rows
  pub strict : (run.strict ≡ true) ↔ (first_of (codes "strict") rows ≡ Some (codes "true"))
  pub remote : AreLeadArguments (option_map string_bytes run.remote) run.probe rows
  pub report : option_map string_bytes run.report ≡ first_of (codes "report") rows
  pub progress : (run.progress ≡ true) ↔ (first_of (codes "progress") rows ≡ Some (codes "true"))
  pub check : (run.check ≡ true) ↔ (first_of (codes "check") rows ≡ Some (codes "true"))
  pub bursts : (run.bursts ≡ true) ↔ (first_of (codes "bursts") rows ≡ Some (codes "true"))

-- a number of bytes in units of this size: 1 to 10 decimal digits are the number of units
abbrev pub AreBytesInUnits : ℕ → ℕ → Text → Type 0
AreBytesInUnits count size digits =
    (units : ℕ) × (Some units ≡ script_decimal_number digits) × (count ≡ units * size) × (count < 2 ^ 32)

-- a number of bytes: 1 to 10 decimal digits, or 1 to 8 hexadecimal digits after 0x or 0X, or decimal digits and k
-- (107), for 1,024 bytes each, or M (77), for 1,048,576
abbrev pub IsBytesArgument : ℕ → Text → Type 0
IsBytesArgument count text =
    (Some count ≡ script_decimal_number text)
    ⊎ ((first second : ℕ) × (digits : Text) × (text ≡ first ∷ second ∷ digits)
    × (is_script_hex_prefix first second ≡ true) × (Some count ≡ script_hex_number text))
    ⊎ ((digits : Text) × (text ≡ digits ++ 107 ∷ []) × AreBytesInUnits count 1024 digits)
    ⊎ ((digits : Text) × (text ≡ digits ++ 77 ∷ []) × AreBytesInUnits count 1048576 digits)

-- what leads to the remote target, and the number of tries
pub record AreInfoArguments (info : InfoLine) (rows : List Row) : Type 0 where
  pub remote : AreLeadArguments (Some (string_bytes info.remote)) info.probe rows
  pub tries : IsNumberArgument 8 info.tries (first_of (codes "tries") rows)

-- what is done with an image, by the command's name, and a dump's number of bytes
abbrev pub IsActionArgument : ImageAction → Text → List Row → Type 0
IsActionArgument Load name rows = name ≡ codes "load"
IsActionArgument Verify name rows = name ≡ codes "verify"
IsActionArgument (Dump count) name rows =
    (name ≡ codes "dump") × IsSomeAnd (first_of (codes "BYTES") rows) (IsBytesArgument count)

-- an image's file is ELF by its content, but after --format by the word there
abbrev pub elf_choice_of_word : Option Text → ElfChoice
elf_choice_of_word None = Auto
elf_choice_of_word (Some word) = if bytes_eq word (codes "elf") then Always else Never

-- the format of an image's file that isn't ELF is that of the word after --format, and without it, or with elf, that of
-- the file's name
abbrev pub IsFormatArgument : Format → Text → Option Text → Type 0
IsFormatArgument format file None = format ≡ image_format_of_name file
IsFormatArgument format file (Some word) =
    Some format ≡ (if bytes_eq word (codes "elf") then Some (image_format_of_name file) else image_format_of_word word)

-- whether an image's file is read, not written
abbrev pub is_image_read : ImageAction → Bool
is_image_read Load = true
is_image_read Verify = true
is_image_read (Dump count) = false

-- the format, and whether the file is ELF. A dump isn't written as ELF.
pub record AreFormatArguments (action : ImageAction) (named : Format) (choice : ElfChoice) (file : Text)
    (word : Option Text) : Type 0 where
  pub format : IsFormatArgument named file word
  pub elf : choice ≡ elf_choice_of_word word
  pub read : choice ≡ Always → is_image_read action ≡ true

-- the address of a simulated memory is that of the argument, a multiple of 4; 20000000 without an argument
abbrev pub IsBaseArgument : ℕ → Option Text → Type 0
IsBaseArgument base None = base ≡ 0x2000_0000
IsBaseArgument base (Some text) = (Some base ≡ script_hex_number text) × (base % 4 ≡ 0)

-- the file, the address and the plan that the arguments name
pub record AreMemoryArguments (memory : MemoryLine) (rows : List Row) : Type 0 where
  pub file : Some (string_bytes memory.file) ≡ first_of (codes "memory") rows
  pub base : IsBaseArgument memory.base (first_of (codes "base") rows)
  pub plan : option_map string_bytes memory.plan ≡ first_of (codes "plan") rows

-- the script and the plan that the arguments name
pub record AreScriptArguments (script : ScriptLine) (rows : List Row) : Type 0 where
  pub file : Some (string_bytes script.script) ≡ first_of (codes "SCRIPT") rows
  pub plan : option_map string_bytes script.plan ≡ first_of (codes "plan") rows

-- Exactly one of SCRIPT and --memory is given. Only with --memory there may be --base.
abbrev pub AreServedArguments : ServedMemory → List Row → Type 0
AreServedArguments (Script script) rows =
    AreScriptArguments script rows × (first_of (codes "memory") rows ≡ None) × (first_of (codes "base") rows ≡ None)
AreServedArguments (File memory) rows = (first_of (codes "SCRIPT") rows ≡ None) × AreMemoryArguments memory rows

-- the IDR is that of the argument, and without an argument there is none
abbrev pub IsIdrArgument : Option ℕ → Option Text → Type 0
IsIdrArgument None text = text ≡ None
IsIdrArgument (Some idr) text = Some idr ≡ option_and_then (λ text. script_hex_number text) text

-- the memory, the log, the trace and the IDR that the arguments name, and whether the port has a write buffer
pub record AreTargetArguments (target : TargetLine) (rows : List Row) : Type 0 where
  pub memory : AreServedArguments target.memory rows
  pub log : option_map string_bytes target.log ≡ first_of (codes "log") rows
  pub trace : option_map string_bytes target.trace ≡ first_of (codes "trace") rows
  pub idr : IsIdrArgument target.idr (first_of (codes "idr") rows)
  pub buffers : (target.buffers ≡ true) ↔ (first_of (codes "buffer") rows ≡ Some (codes "true"))

-- the most bytes of a packet: 64 to 512, and 64 without the option
abbrev pub IsSizeArgument : ℕ → Option Text → Type 0
IsSizeArgument size None = size ≡ 64
IsSizeArgument size (Some text) = (Some size ≡ script_decimal_number text) × (64 ≤ size) × (size ≤ 512)

-- a target that is served by packets of this size, and what the other arguments name
pub record AreProbeArguments (target : TargetLine) (rows : List Row) : Type 0 where
  pub arguments : AreTargetArguments target rows
  pub size : ℕ
  pub packet_size : target.packet_size ≡ Some size
  pub sized : IsSizeArgument size (first_of (codes "size") rows)

-- a target that is served by characters, or one by packets
abbrev pub IsServedLine : TargetLine → Text → List Row → Type 0
IsServedLine target name rows =
    ((name ≡ codes "target") × AreTargetArguments target rows × (target.packet_size ≡ None))
    ⊎ ((name ≡ codes "probe") × AreProbeArguments target rows)

-- the word that names what is done at a core
abbrev pub core_action_word : CoreAction → Text
core_action_word Id = codes "id"
core_action_word Halt = codes "halt"
core_action_word Resume = codes "resume"
core_action_word Step = codes "step"
core_action_word Reset = codes "reset"
core_action_word (Regs registers) = codes "regs"
core_action_word (Set writes) = codes "set"

-- What is done, and the run of its script: at the target, with the numbers and the trace that the arguments name. It is
-- strict, so that a bus error fails it. A script that is printed has no target. Only tests show which registers are
-- named.
pub record AreCoreArguments (core : CoreLine) (rows : List Row) : Type 0 where
  pub action : first_of (codes "ACTION") rows ≡ Some (core_action_word core.action)
  pub halts : (core.halts ≡ true) ↔ (first_of (codes "halt") rows ≡ Some (codes "true"))
  pub script : (core.script ≡ true) ↔ (first_of (codes "script") rows ≡ Some (codes "true"))
  pub tries : IsNumberArgument 8 core.run.tries (first_of (codes "tries") rows)
  pub resumes : IsNumberArgument 0 core.run.resumes (first_of (codes "resume") rows)
  pub trace : option_map string_bytes core.run.trace ≡ first_of (codes "trace") rows
  pub remote : AreLeadArguments (option_map string_bytes core.run.remote) core.run.probe rows
  pub printed : core.script ≡ true → (first_of (codes "remote") rows ≡ None) × (first_of (codes "probe") rows ≡ None)
  pub strict : core.run.strict ≡ true
  pub alone : core.run.accesses ≡ None
  pub unchecked : core.run.check ≡ false

-- what leads to the remote target, the one memory, the address without memory, the file of the steps, and the flag
pub record AreConformArguments (conform : ConformLine) (rows : List Row) : Type 0 where
  pub remote : AreLeadArguments (Some (string_bytes conform.remote)) conform.probe rows
  pub plain : ArePlainArguments (conform.plain ∷ []) (unwrap_or (all_of (codes "plain") rows) [])
  pub hole : IsIdrArgument conform.hole (first_of (codes "hole") rows)
  pub steps : option_map string_bytes conform.steps ≡ first_of (codes "steps") rows
  pub clean : (conform.clean ≡ true) ↔ (first_of (codes "clean") rows ≡ Some (codes "true"))

-- One of --remote and --probe, or --memory is given: the target is remote, or has this memory. Only with --memory there
-- may be --base and --plan.
abbrev pub IsTargetArgument : Option MemoryLine → List Row → Type 0
IsTargetArgument None rows = (first_of (codes "remote") rows ≡ None → first_of (codes "probe") rows ≢ None)
    × (first_of (codes "memory") rows ≡ None) × (first_of (codes "base") rows ≡ None)
    × (first_of (codes "plan") rows ≡ None)
IsTargetArgument (Some memory) rows = (first_of (codes "remote") rows ≡ None) × (first_of (codes "probe") rows ≡ None)
    × AreMemoryArguments memory rows

-- the action, the address of 1 to 8 hexadecimal digits after an optional 0x, the file with its format, the two numbers,
-- the report, what leads to a remote target, and the target that the arguments name, and whether the command says how
-- far it is, checks its session, and sends bursts
pub record AreImageArguments (image : ImageLine) (name : Text) (rows : List Row) : Type 0 where
  pub action : IsActionArgument image.action name rows
  pub addr : Some image.addr ≡ option_and_then (λ text. script_hex_number text) (first_of (codes "ADDR") rows)
  pub file : Some (string_bytes image.file) ≡ first_of (codes "FILE") rows
  pub tries : IsNumberArgument 8 image.tries (first_of (codes "tries") rows)
  pub resumes : IsNumberArgument 0 image.resumes (first_of (codes "resume") rows)
  pub report : option_map string_bytes image.report ≡ first_of (codes "report") rows
  pub progress : (image.progress ≡ true) ↔ (first_of (codes "progress") rows ≡ Some (codes "true"))
  pub check : (image.check ≡ true) ↔ (first_of (codes "check") rows ≡ Some (codes "true"))
  pub bursts : (image.bursts ≡ true) ↔ (first_of (codes "bursts") rows ≡ Some (codes "true"))
  pub remote : AreLeadArguments (option_map string_bytes image.remote) image.probe rows
  pub target : IsTargetArgument image.memory rows
  pub format : AreFormatArguments image.action image.format image.elf (string_bytes image.file)
      (first_of (codes "format") rows)

-- an error of this kind, or out of memory
abbrev pub IsArgumentsErrorKind : ErrorKind → LineFault → Type 0
IsArgumentsErrorKind kind Memory = Unit {0}
IsArgumentsErrorKind kind (Clap error) = kind_of error ≡ kind

-- Arguments are rejected with an error of one of these kinds if they have one, or when out of memory.
abbrev pub IsArgumentsRefusal : Kinds → LineFault → Type 0
IsArgumentsRefusal kinds Memory = Unit {0}
IsArgumentsRefusal kinds (Clap error) = HasKind kinds error ⊎ (kinds ≡ [])

-- the line is the command that the arguments have
abbrev pub IsLineOfArguments : CommandLine → Option (Text × List Row) → Type 0
IsLineOfArguments (One file) rows = HasFileArgument (codes "one") (option_map string_bytes file) rows
IsLineOfArguments (Decode decode) rows = IsSomeAnd rows (λ p. (p.0 ≡ codes "decode") × AreDecodeArguments decode p.1)
IsLineOfArguments (Draw draw) rows = IsSomeAnd rows (λ p. (p.0 ≡ codes "draw") × AreDrawArguments draw p.1)
IsLineOfArguments (Check check) rows = IsSomeAnd rows (λ p. (p.0 ≡ codes "check") × AreCheckArguments check p.1)
IsLineOfArguments (Encode file) rows = HasFileArgument (codes "encode") (option_map string_bytes file) rows
IsLineOfArguments (Run run) rows = IsSomeAnd rows (λ p. (p.0 ≡ codes "run") × AreRunArguments run p.1)
IsLineOfArguments (Target target) rows = IsSomeAnd rows (λ p. IsServedLine target p.0 p.1)
IsLineOfArguments (Info info) rows = IsSomeAnd rows (λ p. (p.0 ≡ codes "info") × AreInfoArguments info p.1)
IsLineOfArguments (Core core) rows = IsSomeAnd rows (λ p. (p.0 ≡ codes "core") × AreCoreArguments core p.1)
IsLineOfArguments (Conform conform) rows =
    IsSomeAnd rows (λ p. (p.0 ≡ codes "conform") × AreConformArguments conform p.1)
IsLineOfArguments Probes rows = IsSomeAnd rows (λ p. p.0 ≡ codes "probes")
IsLineOfArguments (Image image) rows = IsSomeAnd rows (λ p. AreImageArguments image p.0 p.1)
