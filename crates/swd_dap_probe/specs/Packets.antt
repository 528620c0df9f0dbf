-- What a probe does with a packet.
use Rattle.std.specs.Prelude.{ℕ, zero, suc, ◌≡◌, ◌≤◌, Bool, true, false, List, [], ◌∷◌, ◌++◌, length, drop}
use Rattle.std.specs.Prelude.{slice_index, if◌then◌else◌, nat_le, map, Some, ◌⊎◌}
use Rattle.swd_sequences.specs.Going.{SequenceClock, SequenceClocksGoBy}
use Rattle.swd_dap_probe.specs.declared.command.Command.{Command}
use Rattle.swd_dap_probe.specs.declared.command.Command.TheVariants.{Transfer, TransferBlock, WriteAbort, Pins}
use Rattle.swd_dap_probe.specs.declared.command.Command.TheVariants.{DriveSequence, WireSequence, Execute}
use Rattle.swd_dap_probe.specs.declared.processor.Processor.{Processor}
use Rattle.swd_dap_probe.specs.Commands.{dap_command_of}
use Rattle.swd_dap_probe.specs.Shapes.{dap_drive_clocks, dap_command_shape, IsDapTaken, IsDapRefused}
use Rattle.swd_dap_probe.specs.Sequences.{dap_bits, dap_sequences, DapSequencesGo}
use Rattle.swd_dap_probe.specs.Plain.{dap_plain_reply, dap_settings_after, dap_settings_before, dap_word}
use Rattle.swd_dap_probe.specs.Transactions.{DapTransaction, dap_abort}
use Rattle.swd_dap_probe.specs.Transfers.{DapTransfers, DapBlock}
use Rattle.swd_dap_probe.specs.declared.transaction.Answer.{Answer}

-- the most bytes of a packet
abbrev pub processor_size : {L : Type 0} → Processor L → ℕ
processor_size probe = probe.size.bytes

abbrev pub processor_line : {L : Type 0} → Processor L → L
processor_line probe = probe.line

-- Bytes are appended to a reply, at most so many, of which this holds.
pub record DapAppends (Holds : List ℕ → Type 0) (most : ℕ) (before after : List ℕ) : Type 0 where
  pub told : List ℕ
  pub is : after ≡ before ++ told
  pub short : length told ≤ most
  pub holds : Holds told

-- COMMANDS

-- DAP_SWJ_Sequence: its bits are driven, and nothing is told
pub record DapDrives {L : Type 0} (clock : SequenceClock L) (bytes told : List ℕ) (s t : Processor L) : Type 0 where
  pub levels : List Bool
  pub clocks : SequenceClocksGoBy clock
      (map Some (dap_bits (drop 2 bytes) 0 (dap_drive_clocks (slice_index bytes 1)))) levels s.line t.line
  pub after : t ≡ record s { line = t.line }
  pub is : told ≡ 0x12 ∷ 0 ∷ []

-- DAP_SWD_Sequence: its sequences go by, and their levels are told
pub record DapSequencesMade {L : Type 0} (clock : SequenceClock L) (bytes told : List ℕ) (s t : Processor L) :
    Type 0 where
  pub levels : List ℕ
  pub go : DapSequencesGo clock (dap_sequences (slice_index bytes 1) (drop 2 bytes)) levels s.line t.line
  pub after : t ≡ record s { line = t.line }
  pub is : told ≡ 0x1d ∷ 0 ∷ levels

-- DAP_Transfer: its requests are made, and nothing else
pub record DapTransfersMade {L : Type 0} (clock : SequenceClock L) (bytes told : List ℕ) (s t : Processor L) :
    Type 0 where
  pub transfers : DapTransfers clock s.settings bytes told s.mask t.mask s.line t.line
  pub after : t ≡ record s { line = t.line; mask = t.mask }

-- DAP_TransferBlock: so are those of its block
pub record DapBlockMade {L : Type 0} (clock : SequenceClock L) (bytes told : List ℕ) (s t : Processor L) :
    Type 0 where
  pub block : DapBlock clock s.settings bytes told s.line t.line
  pub after : t ≡ record s { line = t.line }

-- DAP_WriteABORT: one transaction, a write of the word behind the first two bytes
pub record DapAborts {L : Type 0} (clock : SequenceClock L) (bytes told : List ℕ) (s t : Processor L) : Type 0 where
  pub answer : Answer
  pub makes : DapTransaction clock s.settings dap_abort (dap_word bytes 2) answer s.line t.line
  pub after : t ≡ record s { line = t.line }
  pub is : told ≡ 0x08 ∷ 0 ∷ []

-- nRESET is set, if a bit selects it
abbrev pub DapResets : {L : Type 0} → (Bool → L → L → Type 0) → Bool → Bool → Processor L → Processor L → Type 0
DapResets resets true level s t = resets level s.line t.line × (t ≡ record s { line = t.line; reset = level })
DapResets resets false level s t = t ≡ s

-- DAP_SWJ_Pins
pub record DapSetsPins {L : Type 0} (resets : Bool → L → L → Type 0) (bytes told : List ℕ) (s t : Processor L) :
    Type 0 where
  pub sets : DapResets resets (nat_le 128 (slice_index bytes 2)) (nat_le 128 (slice_index bytes 1)) s t
  pub is : told ≡ 0x10 ∷ (if t.reset then 0x83 else 0x03) ∷ []

-- any other command: no clock, and nRESET stays
pub record DapSets {L : Type 0} (command : Command) (bytes told : List ℕ) (s t : Processor L) : Type 0 where
  pub after : t ≡ record s { settings = dap_settings_after command bytes s.settings }
  pub is : told ≡ dap_plain_reply command s.size.bytes bytes

abbrev pub ProbeDoes : {L : Type 0} → SequenceClock L → (Bool → L → L → Type 0) → Command → List ℕ → List ℕ
    → Processor L → Processor L → Type 0
ProbeDoes clock resets DriveSequence bytes told s t = DapDrives clock bytes told s t
ProbeDoes clock resets WireSequence bytes told s t = DapSequencesMade clock bytes told s t
ProbeDoes clock resets Transfer bytes told s t = DapTransfersMade clock bytes told s t
ProbeDoes clock resets TransferBlock bytes told s t = DapBlockMade clock bytes told s t
ProbeDoes clock resets WriteAbort bytes told s t = DapAborts clock bytes told s t
ProbeDoes clock resets Pins bytes told s t = DapSetsPins resets bytes told s t
ProbeDoes clock resets command bytes told s t = DapSets command bytes told s t

-- the command at the head of some bytes
abbrev pub DapCommandGoes : {L : Type 0} → SequenceClock L → (Bool → L → L → Type 0) → List ℕ → List ℕ
    → Processor L → Processor L → Type 0
DapCommandGoes clock resets bytes told s t =
    ProbeDoes clock resets (dap_command_of (slice_index bytes 0)) bytes told s t

-- so many commands, one after the other, and their replies
abbrev pub DapCommandsGo : {L : Type 0} → SequenceClock L → (Bool → L → L → Type 0) → ℕ → List ℕ → List ℕ
    → Processor L → Processor L → Type 0
DapCommandsGo clock resets zero bytes told s t = (told ≡ []) × (t ≡ s)
DapCommandsGo {L} clock resets (suc n) bytes told s t = (m : Processor L) × (first : List ℕ) × (rest : List ℕ)
    × DapCommandGoes clock resets bytes first s m
    × DapCommandsGo clock resets n (drop (dap_command_shape bytes).request bytes) rest m t
    × (told ≡ first ++ rest)

-- PACKETS

-- a packet that is performed
abbrev pub DapPacketGoes : {L : Type 0} → SequenceClock L → (Bool → L → L → Type 0) → Command → List ℕ → List ℕ
    → Processor L → Processor L → Type 0
DapPacketGoes clock resets Execute bytes told s t = (replies : List ℕ)
    × DapCommandsGo clock resets (slice_index bytes 1) (drop 2 bytes) replies s t
    × (told ≡ 0x7f ∷ slice_index bytes 1 ∷ replies)
DapPacketGoes clock resets command bytes told s t = ProbeDoes clock resets command bytes told s t

-- what a packet is answered that isn't performed: its command, if it has one, and ff
abbrev pub dap_refusal : List ℕ → List ℕ
dap_refusal [] = 255 ∷ []
dap_refusal (command ∷ rest) = command ∷ 255 ∷ []

-- A packet is performed and answered, or refused, and then nothing changes.
pub data DapTakes {L : Type 0} (clock : SequenceClock L) (resets : Bool → L → L → Type 0) (bytes told : List ℕ)
    (s t : Processor L) : Type 0 where
  performs : IsDapTaken s.size.bytes bytes
      → DapPacketGoes clock resets (dap_command_of (slice_index bytes 0)) bytes told s t
      → DapTakes clock resets bytes told s t
  refuses : IsDapRefused s.size.bytes bytes → t ≡ s → told ≡ dap_refusal bytes → DapTakes clock resets bytes told s t

-- the first byte of a reply is the command or ff; no reply is that to DAP_TransferAbort
pub record IsDapReplyTo (command : ℕ) (told : List ℕ) : Type 0 where
  pub none : told ≡ [] → command ≡ 7
  pub first : (byte : ℕ) (rest : List ℕ) → told ≡ byte ∷ rest → (byte ≡ command) ⊎ (byte ≡ 255)

-- a probe before its first packet
pub record IsDapBegun {L : Type 0} (line : L) (size : ℕ) (probe : Processor L) : Type 0 where
  pub over : probe.line ≡ line
  pub sized : probe.size.bytes ≡ size
  pub settings : probe.settings ≡ dap_settings_before
  pub mask : probe.mask ≡ 0
  pub reset : probe.reset ≡ true
