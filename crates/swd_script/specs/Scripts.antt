-- What a script means, or its first error.
use Rattle.std.specs.Prelude.{ℕ, Bool, true, false, ◌+◌, ◌*◌, ◌%◌, ◌^◌, ◌==◌, nat_le, ◌&&◌, ◌||◌, bit_and, is_some}
use Rattle.std.specs.Prelude.{is_none, unwrap_or, List, [], ◌∷◌, ◌++◌, length, codes, Option, Some, None, Result, Ok}
use Rattle.std.specs.Prelude.{Err, if◌then◌else◌}
use Rattle.std.specs.Str.{bytes_eq}
use Rattle.swd_port.specs.declared.access.Access.{Access}
use Rattle.swd_port.specs.declared.access.Access.TheVariants.{Read as ReadAccess, Write as WriteAccess}
use Rattle.swd_port.specs.PlainAnswers.{plain_reads}
use Rattle.swd_script.specs.declared.command.Command.{Command}
use Rattle.swd_script.specs.declared.batch.Expected.{Expected}
use Rattle.swd_script.specs.declared.batch.Until.{Until}
use Rattle.swd_script.specs.declared.command.Command.TheVariants.{Memory, Room, Core, Read, Write, ReadMany, Block}
use Rattle.swd_script.specs.declared.command.Command.TheVariants.{Next, Until as UntilLine, Verify}
use Rattle.swd_script.specs.declared.draft.Extent.{Extent}
use Rattle.swd_script.specs.declared.fault.LineFault.{LineFault}
use Rattle.swd_script.specs.declared.fault.LineFault.TheVariants.{Word, Number, Range, NoMemoryLine}
use Rattle.swd_script.specs.declared.fault.ScriptFault.{ScriptFault}
use Rattle.swd_script.specs.declared.fault.ScriptFault.TheVariants.{NoMemoryLine as NoMemoryLineAt}
use Rattle.swd_script.specs.Faults.{script_after_lines}
use Rattle.swd_script.specs.Lines.{script_lines}
use Rattle.swd_script.specs.Numerals.{script_hex_number, script_decimal_number}

-- the accesses of a call; if they are one block, its address; the reads to verify; and if the call is that of an
-- `until`, what it waits for
pub record ScriptListed : Type 0 where
  pub accesses : List Access
  pub block : Option ℕ
  pub expected : List Expected
  pub until : Option Until

-- the memory, the room of its log, the address of the vector table if there is a core, and the calls
pub record ScriptMeaning : Type 0 where
  pub base : ℕ
  pub words : ℕ
  pub room : ℕ
  pub core : Option ℕ
  pub batches : List ScriptListed

-- what the lines so far say: the complete calls, and the current one
pub record ScriptSayings : Type 0 where
  pub memory : Option Extent
  pub room : Option ℕ
  pub core : Option ℕ
  pub earlier : List ScriptListed
  pub batch : ScriptListed

abbrev pub script_nothing_listed : ScriptListed
script_nothing_listed = record { accesses = []; block = None; expected = []; until = None }

abbrev pub script_nothing_said : ScriptSayings
script_nothing_said = record {
  memory = None;
  room = None;
  core = None;
  earlier = [];
  batch = script_nothing_listed;
}

-- a command without arguments
abbrev pub script_bare_command : List ℕ → Option Command
script_bare_command name = if bytes_eq name (codes "next") then Some Next else None

-- a command with one argument
abbrev pub script_short_command : List ℕ → List ℕ → Option Command
script_short_command name first =
    if bytes_eq name (codes "room") then Some (Room (script_decimal_number first)) else
    (if bytes_eq name (codes "r") then Some (Read (script_hex_number first)) else
    (if bytes_eq name (codes "core") then Some (Core (script_hex_number first)) else None))

-- a command with two arguments
abbrev pub script_long_command : List ℕ → List ℕ → List ℕ → Option Command
script_long_command name first second =
    if bytes_eq name (codes "memory") then Some (Memory (script_hex_number first) (script_decimal_number second)) else
    (if bytes_eq name (codes "w") then Some (Write (script_hex_number first) (script_hex_number second)) else
    (if bytes_eq name (codes "rn") then Some (ReadMany (script_hex_number first) (script_decimal_number second)) else
    (if bytes_eq name (codes "block") then Some (Block (script_hex_number first) (script_decimal_number second)) else
    (if bytes_eq name (codes "verify") then Some (Verify (script_hex_number first) (script_hex_number second)) else
    None))))

-- the command with four arguments
abbrev pub script_until_command : (name addr mask value most : List ℕ) → Option Command
script_until_command name addr mask value most =
    if bytes_eq name (codes "until")
    then Some (UntilLine (script_hex_number addr) (script_hex_number mask) (script_hex_number value)
    (script_decimal_number most)) else None

-- the command of a line's words, if it is known and has the right number of arguments
abbrev pub script_command_of : List (List ℕ) → Option Command
script_command_of [] = None
script_command_of (name ∷ []) = script_bare_command name
script_command_of (name ∷ first ∷ []) = script_short_command name first
script_command_of (name ∷ first ∷ second ∷ []) = script_long_command name first second
script_command_of (name ∷ first ∷ second ∷ third ∷ []) = None
script_command_of (name ∷ first ∷ second ∷ third ∷ fourth ∷ []) = script_until_command name first second third fourth
script_command_of (name ∷ first ∷ second ∷ third ∷ fourth ∷ fifth ∷ more) = None

abbrev pub is_some_script_list : {X : Type 0} → List X → Bool
is_some_script_list [] = false
is_some_script_list (x ∷ xs) = true

-- the start of a further call
abbrev pub script_with_next : ScriptSayings → ScriptSayings
script_with_next said = record said { earlier = said.earlier ++ said.batch ∷ []; batch = script_nothing_listed }

-- the call of an `until` is that one read: a later access is in a further call
abbrev pub script_further : ScriptSayings → ScriptSayings
script_further said = if is_some said.batch.until then script_with_next said else said

-- there was an access, or a further call
abbrev pub script_has_calls : ScriptSayings → Bool
script_has_calls said = is_some_script_list said.earlier || is_some_script_list said.batch.accesses

-- a line other than `memory` has to come after it
abbrev pub script_without_memory : ScriptSayings → Option LineFault
script_without_memory said = if is_none said.memory then Some NoMemoryLine else None

-- in the call of a block there is no other access
abbrev pub script_beside_block : ScriptSayings → Option LineFault
script_beside_block said = if is_some said.batch.block then Some Word else script_without_memory said

-- why a command isn't allowed here: a second `memory`, a second `room` or `core` or one after an access or `next`,
-- another access in the call of a block, or no `memory` before it
abbrev pub misplaced_script_command : ScriptSayings → Command → Option LineFault
misplaced_script_command said (Memory base words) = if is_some said.memory then Some Word else None
misplaced_script_command said (Room count) =
    if is_some said.room || script_has_calls said then Some Word else script_without_memory said
misplaced_script_command said (Core table) =
    if is_some said.core || script_has_calls said then Some Word else script_without_memory said
misplaced_script_command said (Read addr) = script_beside_block said
misplaced_script_command said (Write addr value) = script_beside_block said
misplaced_script_command said (ReadMany addr count) = script_beside_block said
misplaced_script_command said (Block addr count) =
    if is_some_script_list (script_further said).batch.accesses then Some Word else script_without_memory said
misplaced_script_command said (Verify addr value) = script_beside_block said
misplaced_script_command said (UntilLine addr mask value most) = script_without_memory said
misplaced_script_command said Next = script_without_memory said

-- what follows from an argument, which has to be a number
abbrev pub script_with_number : Option ℕ → (ℕ → Result ScriptSayings LineFault) → Result ScriptSayings LineFault
script_with_number None next = Err Number
script_with_number (Some number) next = next number

-- `count` words from an address on: at least one, at multiples of 4, within 32 bits
abbrev pub are_script_words : ℕ → ℕ → Bool
are_script_words addr count = (addr % 4 == 0) && nat_le 1 count && nat_le (addr + 4 * count) (2 ^ 32)

abbrev pub script_with_memory : ScriptSayings → ℕ → ℕ → Result ScriptSayings LineFault
script_with_memory said base words =
    if are_script_words base words && nat_le words 65536
    then Ok (record said { memory = Some (record { base = base; words = words }) }) else Err Range

abbrev pub script_with_room : ScriptSayings → ℕ → Result ScriptSayings LineFault
script_with_room said count = if nat_le count 65536 then Ok (record said { room = Some count }) else Err Range

-- a core, whose vector table has this address
abbrev pub script_with_core : ScriptSayings → ℕ → Result ScriptSayings LineFault
script_with_core said table = if table % 4 == 0 then Ok (record said { core = Some table }) else Err Range

-- `count` more accesses, from an address on; a call has at most 65,536
abbrev pub script_with_accesses : ScriptSayings → ℕ → ℕ → List Access → Result ScriptSayings LineFault
script_with_accesses said addr count accesses =
    if are_script_words addr count && nat_le (length said.batch.accesses + count) 65536
    then Ok (record said { batch = record said.batch { accesses = said.batch.accesses ++ accesses } }) else Err Range

-- the accesses are one block, from this address on
abbrev pub script_as_block : ℕ → Result ScriptSayings LineFault → Result ScriptSayings LineFault
script_as_block addr (Ok said) = Ok (record said { batch = record said.batch { block = Some addr } })
script_as_block addr (Err fault) = Err fault

-- a read to verify
abbrev pub script_as_expected : Expected → Result ScriptSayings LineFault → Result ScriptSayings LineFault
script_as_expected read (Ok said) = Ok
    (record said { batch = record said.batch { expected = said.batch.expected ++ read ∷ [] } })
script_as_expected read (Err fault) = Err fault

-- a read with the word that the line with this number expects
abbrev pub script_with_verified : ℕ → ScriptSayings → ℕ → ℕ → Result ScriptSayings LineFault
script_with_verified line said addr word =
    script_as_expected (record { line = line; place = length said.batch.accesses; addr = addr; word = word })
    (script_with_accesses said addr 1 (ReadAccess addr ∷ []))

-- the word can come: the value has no bit outside the mask. There are 1 to 1,000,000 reads.
abbrev pub script_until_can_match : Until → Bool
script_until_can_match until =
    (bit_and until.value until.mask == until.value) && nat_le 1 until.most && nat_le until.most 1000000

-- the call of an `until`
abbrev pub script_until_listed : Until → ScriptListed
script_until_listed until =
    record { accesses = ReadAccess until.addr ∷ []; block = None; expected = []; until = Some until }

-- an `until` ends the call before it, if that has accesses
abbrev pub script_call_ended : ScriptSayings → ScriptSayings
script_call_ended said = if is_some_script_list said.batch.accesses then script_with_next said else said

abbrev pub script_with_until : ScriptSayings → Until → Result ScriptSayings LineFault
script_with_until said until =
    if are_script_words until.addr 1 && script_until_can_match until
    then Ok (record (script_call_ended said) { batch = script_until_listed until }) else Err Range

-- what a command that is allowed here adds, on the line with this number
abbrev pub script_command_added : ℕ → ScriptSayings → Command → Result ScriptSayings LineFault
script_command_added line said (Memory base words) =
    script_with_number base (λ base. script_with_number words (λ words. script_with_memory said base words))
script_command_added line said (Room count) = script_with_number count (λ count. script_with_room said count)
script_command_added line said (Core table) = script_with_number table (λ table. script_with_core said table)
script_command_added line said (Read addr) =
    script_with_number addr (λ addr. script_with_accesses (script_further said) addr 1 (ReadAccess addr ∷ []))
script_command_added line said (Write addr value) =
    script_with_number addr (λ addr. script_with_number value (λ value.
    script_with_accesses (script_further said) addr 1 (WriteAccess addr value ∷ [])))
script_command_added line said (ReadMany addr count) =
    script_with_number addr (λ addr. script_with_number count
    (λ count. script_with_accesses (script_further said) addr count (plain_reads addr count)))
script_command_added line said (Block addr count) =
    script_with_number addr (λ addr. script_with_number count (λ count.
    script_as_block addr (script_with_accesses (script_further said) addr count (plain_reads addr count))))
script_command_added line said (Verify addr value) =
    script_with_number addr (λ addr. script_with_number value
    (λ value. script_with_verified line (script_further said) addr value))
script_command_added line said (UntilLine addr mask value most) =
    script_with_number addr (λ addr. script_with_number mask
    (λ mask. script_with_number value (λ value. script_with_number most
    (λ most. script_with_until said (record { addr = addr; mask = mask; value = value; most = most })))))
script_command_added line said Next = Ok (script_with_next said)

abbrev pub script_fault_before : Option LineFault → Result ScriptSayings LineFault → Result ScriptSayings LineFault
script_fault_before (Some fault) result = Err fault
script_fault_before None result = result

abbrev pub script_after_command : ℕ → ScriptSayings → Option Command → Result ScriptSayings LineFault
script_after_command line said None = Err Word
script_after_command line said (Some command) =
    script_fault_before (misplaced_script_command said command) (script_command_added line said command)

-- what the line with this number adds, by its words; a line without words adds nothing
abbrev pub script_line : ℕ → ScriptSayings → Option (List (List ℕ)) → Result ScriptSayings LineFault
script_line line said None = Err Word
script_line line said (Some []) = Ok said
script_line line said (Some (name ∷ arguments)) = script_after_command line said (script_command_of (name ∷ arguments))

-- what a whole script says, once its last line was read: it needs `memory`; without `room` there is room for
-- 65,536 transfers
abbrev pub script_meaning : Option Extent → ScriptSayings → Result ScriptMeaning ScriptFault
script_meaning None said = Err (NoMemoryLineAt 1)
script_meaning (Some extent) said =
    Ok (record {
      base = extent.base;
      words = extent.words;
      room = unwrap_or said.room 65536;
      core = said.core;
      batches = said.earlier ++ said.batch ∷ [];
    })

abbrev pub whole_script : Result ScriptSayings ScriptFault → Result ScriptMeaning ScriptFault
whole_script (Err fault) = Err fault
whole_script (Ok said) = script_meaning said.memory said

-- what a script means, or the error of its first invalid line
abbrev pub script_of : List ℕ → Result ScriptMeaning ScriptFault
script_of text = whole_script (script_after_lines script_line script_nothing_said 0 (script_lines text))
