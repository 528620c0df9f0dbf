-- How long a command is, and how long its reply may be, as its own bytes tell: the description of CMSIS-DAP. Where the
-- bytes end before the command does, those that are missing stand here as zeros.
use Rattle.std.specs.Prelude.{ℕ, zero, suc, ◌+◌, ◌*◌, ◌/◌, ◌%◌, ◌<◌, ◌≤◌, ◌==◌, Bool, not, ◌&&◌}
use Rattle.std.specs.Prelude.{List, length, drop, slice_index, if◌then◌else◌, ◌⊎◌}
use Rattle.swd_dap_probe.specs.declared.command.Command.{Command}
use Rattle.swd_dap_probe.specs.declared.command.Command.TheVariants.{Info, HostStatus, Connect, Disconnect}
use Rattle.swd_dap_probe.specs.declared.command.Command.TheVariants.{TransferConfigure, Transfer, TransferBlock}
use Rattle.swd_dap_probe.specs.declared.command.Command.TheVariants.{TransferAbort, WriteAbort, Delay, ResetTarget}
use Rattle.swd_dap_probe.specs.declared.command.Command.TheVariants.{Pins, Clock, DriveSequence, WireConfigure}
use Rattle.swd_dap_probe.specs.declared.command.Command.TheVariants.{WireSequence, Execute}
use Rattle.swd_dap_probe.specs.declared.shape.Items.{Items}
use Rattle.swd_dap_probe.specs.declared.shape.Items.TheVariants.{Sequences, Transfers}
use Rattle.swd_dap_probe.specs.declared.shape.Shape.{Shape}
use Rattle.swd_dap_probe.specs.Commands.{dap_command_of}

abbrev pub dap_shape : ℕ → ℕ → Shape
dap_shape request reply = record { request = request; reply = reply }

-- ITEMS, ONE AFTER THE OTHER

-- the bytes of so many items
abbrev pub dap_long : (List ℕ → Shape) → ℕ → List ℕ → ℕ
dap_long one zero bytes = 0
dap_long one (suc n) bytes = (one bytes).request + dap_long one n (drop (one bytes).request bytes)

-- the most bytes of their replies
abbrev pub dap_most : (List ℕ → Shape) → ℕ → List ℕ → ℕ
dap_most one zero bytes = 0
dap_most one (suc n) bytes = (one bytes).reply + dap_most one n (drop (one bytes).request bytes)

-- so many items behind so many bytes, and a reply of so many bytes before theirs
abbrev pub dap_items_shape : (List ℕ → Shape) → ℕ → ℕ → ℕ → List ℕ → Shape
dap_items_shape one before told count bytes =
    dap_shape (before + dap_long one count (drop before bytes)) (told + dap_most one count (drop before bytes))

-- SEQUENCES OF CLOCKS

-- the clocks of a sequence of DAP_SWD_Sequence, by its first byte: bits 5:0, of which 0 stands for 64
abbrev pub dap_clocks : ℕ → ℕ
dap_clocks info = if info % 64 == 0 then 64 else info % 64

-- the clocks of DAP_SWJ_Sequence: 0 stands for 256
abbrev pub dap_drive_clocks : ℕ → ℕ
dap_drive_clocks count = if count == 0 then 256 else count

-- whether a sequence samples: bit 7
abbrev pub dap_samples : ℕ → Bool
dap_samples info = info / 128 % 2 == 1

-- whole bytes for so many bits
abbrev pub dap_bytes_for : ℕ → ℕ
dap_bytes_for bits = (bits + 7) / 8

abbrev pub dap_sequence_shape_at : ℕ → Shape
dap_sequence_shape_at info =
    if dap_samples info then dap_shape 1 (dap_bytes_for (dap_clocks info))
    else dap_shape (1 + dap_bytes_for (dap_clocks info)) 0

-- TRANSFERS

-- RnW, and whether a read waits for a word that matches
abbrev pub dap_reads : ℕ → Bool
dap_reads code = code / 2 % 2 == 1

abbrev pub dap_matches : ℕ → Bool
dap_matches code = code / 16 % 2 == 1

-- a read without a word to match returns a word; anything else has one
abbrev pub dap_transfer_shape_at : ℕ → Shape
dap_transfer_shape_at code = if dap_reads code && not (dap_matches code) then dap_shape 1 4 else dap_shape 5 0

-- how many words DAP_TransferBlock moves
abbrev pub dap_block_count : List ℕ → ℕ
dap_block_count bytes = slice_index bytes 2 + 256 * slice_index bytes 3

abbrev pub dap_block_shape : List ℕ → Shape
dap_block_shape bytes =
    if dap_reads (slice_index bytes 4) then dap_shape 5 (4 + 4 * dap_block_count bytes)
    else dap_shape (5 + 4 * dap_block_count bytes) 4

-- COMMANDS

abbrev pub dap_item_shape : Items → List ℕ → Shape
dap_item_shape Sequences bytes = dap_sequence_shape_at (slice_index bytes 0)
dap_item_shape Transfers bytes = dap_transfer_shape_at (slice_index bytes 0)

-- a command that has no items
abbrev pub dap_fixed_shape : Command → List ℕ → Shape
dap_fixed_shape Info bytes = dap_shape 2 8
dap_fixed_shape HostStatus bytes = dap_shape 3 2
dap_fixed_shape Connect bytes = dap_shape 2 2
dap_fixed_shape Disconnect bytes = dap_shape 1 2
dap_fixed_shape TransferConfigure bytes = dap_shape 6 2
dap_fixed_shape TransferBlock bytes = dap_block_shape bytes
dap_fixed_shape TransferAbort bytes = dap_shape 1 0
dap_fixed_shape WriteAbort bytes = dap_shape 6 2
dap_fixed_shape Delay bytes = dap_shape 3 2
dap_fixed_shape ResetTarget bytes = dap_shape 1 3
dap_fixed_shape Pins bytes = dap_shape 7 2
dap_fixed_shape Clock bytes = dap_shape 5 2
dap_fixed_shape DriveSequence bytes = dap_shape (2 + dap_bytes_for (dap_drive_clocks (slice_index bytes 1))) 2
dap_fixed_shape WireConfigure bytes = dap_shape 2 2
dap_fixed_shape command bytes = dap_shape 1 1

-- any command but DAP_ExecuteCommands, which is unknown among its own commands
abbrev pub dap_shape_by : Command → List ℕ → Shape
dap_shape_by Transfer bytes = dap_items_shape (dap_item_shape Transfers) 3 3 (slice_index bytes 2) bytes
dap_shape_by WireSequence bytes = dap_items_shape (dap_item_shape Sequences) 2 2 (slice_index bytes 1) bytes
dap_shape_by command bytes = dap_fixed_shape command bytes

-- the command at the head of some bytes
abbrev pub dap_command_shape : List ℕ → Shape
dap_command_shape bytes = dap_shape_by (dap_command_of (slice_index bytes 0)) bytes

-- PACKETS

abbrev pub dap_packet_shape_by : Command → List ℕ → Shape
dap_packet_shape_by Execute bytes = dap_items_shape dap_command_shape 2 2 (slice_index bytes 1) bytes
dap_packet_shape_by command bytes = dap_shape_by command bytes

abbrev pub dap_packet_shape : List ℕ → Shape
dap_packet_shape bytes = dap_packet_shape_by (dap_command_of (slice_index bytes 0)) bytes

-- A packet that a probe performs: it is whole, and its reply fits so many bytes.
pub record IsDapTaken (size : ℕ) (bytes : List ℕ) : Type 0 where
  pub whole : (dap_packet_shape bytes).request ≤ length bytes
  pub fits : (dap_packet_shape bytes).reply ≤ size

-- one that is malformed, or whose reply might be longer
abbrev pub IsDapRefused : ℕ → List ℕ → Type 0
IsDapRefused size bytes = (length bytes < (dap_packet_shape bytes).request) ⊎ (size < (dap_packet_shape bytes).reply)
