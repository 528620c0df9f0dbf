-- Successive cycles, and the transaction that they spell: IHI 0031, B4, "Serial Wire Debug protocol operation".
use Rattle.std.specs.Prelude.{ℕ, ◌≡◌, ◌≤◌, ◌⊎◌, Bool, true, false, List, [], ◌∷◌, ◌++◌, Option, Some, None, map, length}
use Rattle.std.specs.Prelude.{replicate, unwrap_or}
use Rattle.swd_bits.specs.Wire.{bits_of_request}
use Rattle.swd_bits.specs.Transactions.{SpellsTx}
use Rattle.swd_bits.specs.declared.request.Request.{Request}
use Rattle.swd_bits.specs.declared.tx.TxEnd.{TxEnd}
use Rattle.swd_bits.specs.declared.tx.TxEnd.TheVariants.{Moved, Wait, Fault, NoAck}
use Rattle.swd_port.specs.Bus.{Bus}
use Rattle.swd_port.specs.declared.state.Reply.{Reply}
use Rattle.swd_port.specs.declared.state.Reply.TheVariants.{Okay, Waits, Faults, Silent}
use Rattle.swd_port.specs.declared.state.Reset.TheVariants.{Fresh}
use Rattle.swd_port.specs.declared.state.AfterAck.{AfterAck}
use Rattle.swd_target.specs.Requests.{TargetAnswers}
use Rattle.swd_clocked.specs.declared.frame.Frame.{Frame}
use Rattle.swd_clocked.specs.declared.frame.Frame.TheVariants.{Lost, High}
use Rattle.swd_clocked.specs.declared.clocked.Clocked.{Clocked}
use Rattle.swd_clocked.specs.Frames.{idle_frame}
use Rattle.swd_clocked.specs.Clocks.{ClocksOneCycle, clocked_state}

-- what the host drives in each cycle, what is on the line, and the target before and after
abbrev pub RunsCycles : {D : Type 0} → (D → Bus) → List (Option Bool) → List Bool → Clocked D → Clocked D → Type 0
RunsCycles bus [] [] s t = t ≡ s
RunsCycles bus [] (bit ∷ line) s t = ⊥
RunsCycles bus (drive ∷ drives) [] s t = ⊥
RunsCycles {D} bus (drive ∷ drives) (bit ∷ line) s t = (m : Clocked D) × ClocksOneCycle bus drive bit s m
    × RunsCycles bus drives line m t

-- the host releases the line for `count` cycles
abbrev pub released_cycles : ℕ → List (Option Bool)
released_cycles count = replicate count None

-- What a host drives after a request: nothing up to the end of the transaction, except the data of a write after its
-- turnarounds.
abbrev pub cycles_driven_behind : Reply → Bool → List Bool → List (Option Bool)
cycles_driven_behind Okay true phase = released_cycles 38
cycles_driven_behind Okay false phase = released_cycles 5 ++ map Some phase
cycles_driven_behind Waits read phase = released_cycles 5
cycles_driven_behind Faults read phase = released_cycles 5
cycles_driven_behind Silent read phase = released_cycles 4

-- the end of a transaction with this reply; an undriven line reads 1 (this project's choice)
abbrev pub ClockedEndsAs : Reply → TxEnd → Type 0
ClockedEndsAs Okay end = (word : ℕ) × (ok : Bool) × (end ≡ Moved word ok)
ClockedEndsAs Waits end = end ≡ Wait
ClockedEndsAs Faults end = end ≡ Fault
ClockedEndsAs Silent end = end ≡ NoAck 7

-- the frame after it: between transactions, or, after silence, fifty ones, of which five came
abbrev pub frame_behind : Reply → Frame
frame_behind Silent = Lost 5
frame_behind reply = idle_frame

-- the line spells one transaction with this request, which ends with this reply
pub record CyclesSpellOne {D : Type 0} (q : Request) (reply : Reply) (line : List Bool) (t : Clocked D) : Type 0 where
  pub end : TxEnd
  pub ends : ClockedEndsAs reply end
  pub spells : SpellsTx (record { request = q; result = end }) line
  pub frame : t.frame ≡ frame_behind reply

-- The bits of a request that is sent between transactions are on the line, and the target replies as the port model
-- does. With what follows on the line they spell one transaction.
pub record CyclesSpellRequest {D : Type 0} (bus : D → Bus) (q : Request) (phase sent : List Bool)
    (s m : Clocked D) : Type 0 where
  pub sends : sent ≡ bits_of_request q
  pub reply : Reply
  pub follows : AfterAck
  pub answers : TargetAnswers bus s.waits q s.target reply follows m.target
  pub one : (line : List Bool) (t : Clocked D) → RunsCycles bus (cycles_driven_behind reply q.read phase) line m t
      → CyclesSpellOne q reply (sent ++ line) t

-- the same for every request, every reply, and every 33 bits of data
abbrev pub RequestsSpell : {D : Type 0} → (D → Bus) → Type 0
RequestsSpell {D} bus = (q : Request) (phase sent : List Bool) (s m : Clocked D) → s.frame ≡ idle_frame → length phase ≡
    33
    → RunsCycles bus (map Some (bits_of_request q)) sent s m → CyclesSpellRequest bus q phase sent s m

-- each cycle reads 1 unless the target drives
abbrev pub AreOnesCycles : List (Option Bool) → Type 0
AreOnesCycles [] = Unit {0}
AreOnesCycles (drive ∷ drives) = (unwrap_or drive true ≡ true) × AreOnesCycles drives

-- the target had a line reset, and nothing else of it changed
pub record ClockedWasReset {D : Type 0} (bus : D → Bus) (s t : Clocked D) : Type 0 where
  pub frame : t.frame ≡ High
  pub state : clocked_state bus t ≡ record (clocked_state bus s) { reset = Fresh }

-- fifty ones are a line reset, between transactions and where the target awaits a line reset
abbrev pub OnesReset : {D : Type 0} → (D → Bus) → Type 0
OnesReset {D} bus = (drives : List (Option Bool)) (line : List Bool) (s t : Clocked D)
    → (s.frame ≡ idle_frame) ⊎ ((ones : ℕ) × (s.frame ≡ Lost ones)) → 50 ≤ length drives → AreOnesCycles drives
    → RunsCycles bus drives line s t → ClockedWasReset bus s t
