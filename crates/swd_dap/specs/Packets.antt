-- Packets, and what came back.
use Rattle.std.specs.Prelude.{ℕ, ◌≡◌, ◌≤◌, List, [], ◌∷◌, ◌++◌, length, take, slice_index, Option, Some, None}
use Rattle.std.specs.Prelude.{Result, Ok, Err, ◌/◌, ◌%◌, ◌^◌}
use Rattle.std.specs.Int.{w64, from_le_bytes}
use Rattle.swd_dap.specs.declared.packets.DapFault.{DapFault}

-- a packet, and the reply to it, if one came
pub record DapExchange : Type 0 where
  pub request : List ℕ
  pub reply : Option (List ℕ)

abbrev pub dap_answered : List ℕ → List ℕ → DapExchange
dap_answered request reply = record { request = request; reply = Some reply }

-- the exchange of a packet by a call with this result, which left this in the buffer
abbrev pub dap_exchange : List ℕ → Result ℕ DapFault → List ℕ → DapExchange
dap_exchange request (Ok n) buffer = dap_answered request (take n buffer)
dap_exchange request (Err fault) buffer = record { request = request; reply = None }

-- a reply to a command, with at least so many bytes
pub record IsDapReply (expected least : ℕ) (reply : List ℕ) : Type 0 where
  pub some : 1 ≤ length reply
  pub long : least ≤ length reply
  pub command : slice_index reply 0 ≡ expected

-- what a way does between two states of it: these packets are exchanged
abbrev pub DapSends : {P : Type 0} → (List DapExchange → P → Type 0) → List DapExchange → P → P → Type 0
DapSends Exchanged more s t = (met : List DapExchange) → Exchanged met s → Exchanged (met ++ more) t

-- one packet, and a reply to it of at least so many bytes
pub record DapReplies {P : Type 0} (Exchanged : List DapExchange → P → Type 0) (request : List ℕ) (least : ℕ)
    (reply : List ℕ) (s t : P) : Type 0 where
  pub is : IsDapReply (slice_index request 0) least reply
  pub sends : DapSends Exchanged (dap_answered request reply ∷ []) s t

-- the same where the reply says that it was done
pub record DapDoes {P : Type 0} (Exchanged : List DapExchange → P → Type 0) (request : List ℕ) (least : ℕ)
    (reply : List ℕ) (s t : P) : Type 0 where
  pub replies : DapReplies Exchanged request least reply s t
  pub done : slice_index reply 1 ≡ 0

-- the three bits of an acknowledgement, behind the turnaround
abbrev pub dap_seen_in : List ℕ → ℕ
dap_seen_in reply = slice_index reply 2 / 2 % 8

-- the 33 bits of a data phase
abbrev pub dap_bits_in : List ℕ → ℕ
dap_bits_in reply = from_le_bytes w64 (slice_index reply 2 ∷ slice_index reply 3 ∷ slice_index reply 4
    ∷ slice_index reply 5 ∷ slice_index reply 6 ∷ 0 ∷ 0 ∷ 0 ∷ []) % 2 ^ 33
