-- What the calls of a clocked target leave in the caller's memory. The caller makes its transfers. So each statement
-- about a call is for every bus that gives the results that the caller gave. A bus stands behind a target as a device
-- of its own.
use Rattle.std.specs.Prelude.{ℕ, ◌≡◌, ◌≢◌, ◌==◌, not, Bool, true, false, Option, Some, None, [], if◌then◌else◌}
use Rattle.swd_port.specs.PlainMemory.{PlainMemory}
use Rattle.swd_port.specs.Bus.{Bus, bus_answer, bus_succeeds}
use Rattle.swd_port.specs.PlainBus.{bus_of}
use Rattle.swd_port.specs.Made.{port_made_target}
use Rattle.swd_port.specs.declared.access.Access.{Access}
use Rattle.swd_port.specs.declared.access.Access.TheVariants.{Read, Write}
use Rattle.swd_port.specs.declared.access.Answer.{Answer}
use Rattle.swd_port.specs.declared.access.Answer.TheVariants.{Value, Written, BusFault}
use Rattle.swd_target.specs.declared.fields.PendingFields.{PendingFields}
use Rattle.swd_target.specs.declared.quirks.Quirks.{Quirks}
use Rattle.swd_target.specs.Elsewhere.{bus_itself}
use Rattle.swd_target.specs.MemoryWords.{target_window}
use Rattle.swd_target.specs.Simulations.{simulation_made_with}
use Rattle.swd_clocked.specs.declared.clocked.Clocked.{Clocked}
use Rattle.swd_clocked.specs.declared.fields.ClockedFields.{ClockedFields}
use Rattle.swd_clocked.specs.Clocks.{ClocksOneCycle, ClockedHoldsWait, ClockedSettles, clocked_cycles, clocked_frame}
use Rattle.swd_clocked.specs.Clocks.{is_clocked_wait_held, clocked_device, clocked_quirks, clocked_simulation}
use Rattle.swd_clocked.specs.Clocks.{clocked_state}
use Rattle.swd_clocked.specs.Fields.{clocked_fields}
use Rattle.swd_clocked.specs.Frames.{cycles_counted, idle_frame}
use Rattle.swd_c.specs.declared.target.SwdTransfer.{SwdTransfer}

-- a target has these fields, its transfers take effect late, and it has no IDR
pub record CApiNumbers {D : Type 0} (fields : ClockedFields) (c : Clocked D) : Type 0 where
  pub has : clocked_fields c ≡ fields
  pub late : (clocked_quirks c).late ≡ true
  pub unidentified : (clocked_quirks c).idr ≡ None

-- a target with these fields over a device, as a bus, of which this holds
abbrev pub CApiHasTarget : {D : Type 0} → D → ClockedFields → (Clocked D → Type 0) → Type 0
CApiHasTarget {D} d fields P = (c : Clocked D) × CApiNumbers fields c × (clocked_device c ≡ d) × P c

-- no target has these fields
abbrev pub CApiHasNoTarget : ClockedFields → Type 0
CApiHasNoTarget fields = (c : Clocked Bus) → CApiNumbers fields c → ⊥

-- a flag: every number but 0 sets it
abbrev pub c_api_flag : ℕ → Bool
c_api_flag n = not (n == 0)

-- the quirks of a new target, whose transfers take effect late, and which has no IDR
abbrev pub c_api_target_quirks : Bool → ℕ → Quirks
c_api_target_quirks wraps filler = record { wrap = wraps; late = true; filler = filler; idr = None }

pub record CApiTargetIsMade (wraps : Bool) (filler : ℕ) (b : Bus) (c : Clocked Bus) : Type 0 where
  pub state : clocked_state bus_itself c ≡ port_made_target 0x2ba0_1477 b
  pub exact : clocked_simulation bus_itself c ≡ simulation_made_with (c_api_target_quirks wraps filler) b
  pub frame : clocked_frame c ≡ idle_frame
  pub held : is_clocked_wait_held c ≡ false
  pub cycles : clocked_cycles c ≡ 0

-- the target was made busy, or not, and nothing else changed
pub record CApiTargetHeld (wait : Bool) (c d : Clocked Bus) : Type 0 where
  pub holds : ClockedHoldsWait wait c d
  pub cycles : clocked_cycles d ≡ clocked_cycles c

-- the pending transfer took effect, and nothing else changed
pub record CApiTargetSettled (c d : Clocked Bus) : Type 0 where
  pub settles : ClockedSettles bus_itself c d
  pub cycles : clocked_cycles d ≡ clocked_cycles c

-- one cycle passed
pub record CApiTargetCycled (drive : Option Bool) (line : Bool) (c d : Clocked Bus) : Type 0 where
  pub clocks : ClocksOneCycle bus_itself drive line c d
  pub cycles : clocked_cycles d ≡ cycles_counted 1 (clocked_cycles c)

-- the pending transfer at an address, from its integers
abbrev pub c_api_pending_access : PendingFields → ℕ → Option Access
c_api_pending_access pending addr =
    if pending.kind == 1 then Some (Read addr)
    else if pending.kind == 2 then Some (Write addr pending.word)
    else None

-- the pending transfer of a target
abbrev pub c_api_wanted_access : ClockedFields → Option Access
c_api_wanted_access fields = c_api_pending_access fields.target.pending fields.target.tar.word

abbrev pub c_api_transfer : Option Access → SwdTransfer
c_api_transfer None = record { addr = 0; word = 0; kind = 0 }
c_api_transfer (Some (Read addr)) = record { addr = addr; word = 0; kind = 1 }
c_api_transfer (Some (Write addr word)) = record { addr = addr; word = word; kind = 2 }

-- the result of a transfer, by the kinds of outcomes
abbrev pub c_api_answer : ℕ → ℕ → Option Answer
c_api_answer kind word =
    if kind == 2 then Some (Value word)
    else if kind == 3 then Some Written
    else if kind == 4 then Some BusFault
    else None

-- this is the result of the pending transfer at an address, over a bus
pub record CApiTransferAnswer (pending : PendingFields) (addr kind word : ℕ) (a : Access) (b : Bus) : Type 0 where
  pub access : c_api_pending_access pending addr ≡ Some a
  pub answer : c_api_answer kind word ≡ Some (bus_answer a b)

-- the same for the fields of a target
abbrev pub CApiTargetAnswered : ClockedFields → ℕ → ℕ → Access → Bus → Type 0
CApiTargetAnswered fields kind word a b = CApiTransferAnswer fields.target.pending fields.target.tar.word kind word a b

-- the pending transfer would succeed
abbrev pub CApiCallerIsReady : ClockedFields → Bus → Type 0
CApiCallerIsReady fields b = (a : Access) → c_api_wanted_access fields ≡ Some a → bus_succeeds a b ≡ true

-- the bit that the host drives, if any
abbrev pub c_api_drive : ℕ → Option Bool
c_api_drive n = if n == 2 then None else Some (n == 1)

-- a memory with a word at TAR, so that the pending transfer would succeed
abbrev pub c_api_ready_memory : ClockedFields → PlainMemory
c_api_ready_memory fields = target_window fields.target.tar.word (Some 0)

-- in this cycle the target makes a transfer
abbrev pub CApiTargetTransfers : Option Bool → Clocked PlainMemory → Type 0
CApiTargetTransfers drive c = (d : Clocked PlainMemory) × (line : Bool) × ClocksOneCycle bus_of drive line c d
    × ((clocked_device d).log ≢ [])
