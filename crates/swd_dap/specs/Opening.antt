-- The commands that stand before the first clock: the description of CMSIS-DAP, "DAP_Info", "DAP_Connect",
-- "DAP_SWJ_Clock", "DAP_TransferConfigure", "DAP_SWD_Configure".
use Rattle.std.specs.Prelude.{ℕ, ◌≡◌, ◌≤◌, List, [], ◌∷◌, slice_index}
use Rattle.std.specs.Int.{w16, w32, to_le_bytes, from_le_bytes}
use Rattle.swd_dap.specs.Packets.{DapExchange, DapSends, DapReplies, DapDoes, dap_answered}

-- a reply that tells the size of packets
pub record IsDapSize (size : ℕ) (reply : List ℕ) : Type 0 where
  pub command : slice_index reply 0 ≡ 0
  pub length_told : slice_index reply 1 ≡ 2
  pub told : size ≡ from_le_bytes w16 (slice_index reply 2 ∷ slice_index reply 3 ∷ [])
  pub least : 64 ≤ size
  pub most : size ≤ 512

-- DAP_Info ff
pub record DapTellsSize {P : Type 0} (Exchanged : List DapExchange → P → Type 0) (size : ℕ) (s t : P) : Type 0 where
  pub reply : List ℕ
  pub is : IsDapSize size reply
  pub sends : DapSends Exchanged (dap_answered (0 ∷ 255 ∷ []) reply ∷ []) s t

-- DAP_Connect 1: serial wire
pub record DapConnects {P : Type 0} (Exchanged : List DapExchange → P → Type 0) (s t : P) : Type 0 where
  pub reply : List ℕ
  pub replies : DapReplies Exchanged (2 ∷ 1 ∷ []) 2 reply s t
  pub connected : slice_index reply 1 ≡ 1

-- These commands, in order: the size is told, serial wire is driven at this rate, eight idle cycles stand behind a
-- transfer that is OK, none is repeated, and a turnaround has one clock.
pub record DapOpens {P : Type 0} (Exchanged : List DapExchange → P → Type 0) (speed size : ℕ) (s t : P) : Type 0 where
  pub told : P
  pub tells : DapTellsSize Exchanged size s told
  pub connected : P
  pub connects : DapConnects Exchanged told connected
  pub clocked : P
  pub clock : List ℕ
  pub clocks : DapDoes Exchanged (0x11 ∷ to_le_bytes w32 speed) 2 clock connected clocked
  pub configured : P
  pub configuration : List ℕ
  pub configures : DapDoes Exchanged (4 ∷ 8 ∷ 0 ∷ 0 ∷ 0 ∷ 0 ∷ []) 2 configuration clocked configured
  pub turnaround : List ℕ
  pub turns : DapDoes Exchanged (0x13 ∷ 0 ∷ []) 2 turnaround configured t
