-- At which address the next transfer of a run would be, as the calls of the run show it: this project's choice. The
-- registers are those of IHI 0031, B2 and C2, where SELECT names bank 0 of both ports.
use Rattle.std.specs.Prelude.{ℕ, ◌≡◌, ◌≤◌, ◌+◌, ◌-◌, ◌*◌, ◌%◌, ◌^◌, ◌/◌, ◌==◌, ◌&&◌, ◌||◌, not, Bool, true, false}
use Rattle.std.specs.Prelude.{Option, Some, List, [], ◌∷◌, ◌⊎◌}
use Rattle.swd_bits.specs.declared.ack.Ack.TheVariants.{Ok as OkayAck}
use Rattle.swd_bits.specs.declared.request.Request.{Request}
use Rattle.swd_bits.specs.declared.request.Reg4.{Reg4}
use Rattle.swd_bits.specs.declared.request.Reg4.TheVariants.{R0, R4, R8, RC}
use Rattle.swd_bits.specs.Phases.{data_phase_word}
use Rattle.swd_port.specs.declared.call.Call.{Call}
use Rattle.swd_port.specs.declared.cue.Cue.{Cue}
use Rattle.swd_port.specs.declared.cue.Cue.TheVariants.{Ask, Give}
use Rattle.swd_recorder.specs.declared.in_hand.InHand.{InHand}
use Rattle.swd_recorder.specs.Items.{recorded_in_hand_by}
use Rattle.swd_conform.specs.declared.aim.Aim.{Aim}
use Rattle.swd_conform.specs.declared.aim.Aim.TheVariants.{Unpowered, Unknown, Hole, Behind, Words}
use Rattle.swd_conform.specs.declared.aim.Bounds.{Bounds}

abbrev conform_is_r0 : Reg4 → Bool
conform_is_r0 R0 = true
conform_is_r0 addr = false

abbrev conform_is_r4 : Reg4 → Bool
conform_is_r4 R4 = true
conform_is_r4 addr = false

abbrev conform_is_r8 : Reg4 → Bool
conform_is_r8 R8 = true
conform_is_r8 addr = false

abbrev conform_is_rc : Reg4 → Bool
conform_is_rc RC = true
conform_is_rc addr = false

-- a request that asks for a transfer: DRW, in the bank of the memory access port
abbrev pub is_conform_transfer : Request → Bool
is_conform_transfer q = q.ap && conform_is_rc q.addr

-- a write of TAR, of CTRL/STAT; and of ABORT or SELECT
abbrev pub is_conform_address : Request → Bool
is_conform_address q = q.ap && (not q.read && conform_is_r4 q.addr)

abbrev pub is_conform_control : Request → Bool
is_conform_control q = not q.ap && (not q.read && conform_is_r4 q.addr)

abbrev pub is_conform_unsettling : Request → Bool
is_conform_unsettling q = not q.ap && (not q.read && (conform_is_r0 q.addr || conform_is_r8 q.addr))

-- WAIT or FAULT: the request did nothing
abbrev pub is_conform_refusal : ℕ → Bool
is_conform_refusal seen = (seen == 2) || (seen == 4)

-- A call that leaves TAR, whatever the target did. After a write of TAR was damaged, one of ABORT lets requests through
-- again, and after one of SELECT, TAR may be another register.
abbrev pub conform_leaves_address : Cue → ℕ → Bool
conform_leaves_address (Ask q) seen = not (is_conform_unsettling q)
    && (is_conform_refusal seen || not (is_conform_address q || is_conform_transfer q))
conform_leaves_address cue seen = true

-- After these calls, the last one first, the next transfer is at `low`, or at most `more` words behind it: TAR was
-- written with `low`, and since then so many transfers were accepted, or their acknowledgement was lost.
pub data ConformAims (low : ℕ) : ℕ → List Call → Type 0 where
  given : {calls : List Call} (q : Request) (bits seen : ℕ)
      → recorded_in_hand_by calls ≡ Some (record { request = q; ack = OkayAck }) → is_conform_address q ≡ true
      → data_phase_word bits ≡ Some low
      → ConformAims low 0 (record { cue = Give bits; seen = seen } ∷ calls)
  moved : {more : ℕ} {calls : List Call} (q : Request) (seen : ℕ) → is_conform_transfer q ≡ true
      → ConformAims low more calls → ConformAims low (more + 1) (record { cue = Ask q; seen = seen } ∷ calls)
  left : {more : ℕ} {calls : List Call} (cue : Cue) (seen : ℕ) → conform_leaves_address cue seen ≡ true
      → ConformAims low more calls → ConformAims low more (record { cue = cue; seen = seen } ∷ calls)

-- a call that gives a word of CTRL/STAT, unless it is 0
abbrev pub conform_powers : Cue → Option InHand → Bool
conform_powers (Give bits) (Some held) = is_conform_control held.request && not (bits % 2 ^ 32 == 0)
conform_powers cue held = false

-- no word of CTRL/STAT but 0 was given: a port that was in its reset state has no power, and refuses each transfer
abbrev pub IsConformUnpowered : List Call → Type 0
IsConformUnpowered [] = Unit {0}
IsConformUnpowered (call ∷ calls) =
    (conform_powers call.cue (recorded_in_hand_by calls) ≡ false) × IsConformUnpowered calls

-- a request that got FAULT
abbrev pub conform_faults : Cue → ℕ → Bool
conform_faults (Ask q) seen = seen == 4
conform_faults cue seen = false

-- a write of ABORT or SELECT
abbrev pub conform_unsettles : Cue → Bool
conform_unsettles (Ask q) = is_conform_unsettling q
conform_unsettles cue = false

-- FAULT was seen, and since then neither ABORT nor SELECT was written, nor a word of CTRL/STAT but 0. Behind a write of
-- TAR that was answered OK, a sticky flag is set then, or the power was taken away: each transfer is refused.
abbrev pub IsConformFaulted : List Call → Type 0
IsConformFaulted [] = ⊥
IsConformFaulted (call ∷ calls) =
    (conform_faults call.cue call.seen ≡ true)
    ⊎ ((conform_unsettles call.cue ≡ false) × (conform_powers call.cue (recorded_in_hand_by calls) ≡ false)
    × IsConformFaulted calls)

-- A transfer at this address got OK, and since then no call could move TAR, clear a flag or give power.
pub data ConformTook (at : ℕ) : List Call → Type 0 where
  took : {calls : List Call} (q : Request) → is_conform_transfer q ≡ true → ConformAims at 0 calls
      → ConformTook at (record { cue = Ask q; seen = 1 } ∷ calls)
  kept : {calls : List Call} (cue : Cue) (seen : ℕ) → conform_leaves_address cue seen ≡ true
      → conform_powers cue (recorded_in_hand_by calls) ≡ false
      → ConformTook at calls → ConformTook at (record { cue = cue; seen = seen } ∷ calls)

-- a read of the access port or of RDBUFF, which gets no OK once a transfer was a bus error
abbrev pub is_conform_answer : Request → Bool
is_conform_answer q = q.read && (q.ap || conform_is_rc q.addr)

-- Behind a transfer at the address without memory that got OK, such a read did, too: the transfer was no bus error.
pub data ConformUnrefused (bounds : Bounds) : List Call → Type 0 where
  here : {calls : List Call} (q : Request) (at : ℕ) → bounds.hole ≡ Some at → is_conform_answer q ≡ true
      → ConformTook at calls → ConformUnrefused bounds (record { cue = Ask q; seen = 1 } ∷ calls)
  earlier : {calls : List Call} (call : Call) → ConformUnrefused bounds calls → ConformUnrefused bounds (call ∷ calls)

-- The next transfer, if there is one, is at one of the words, all in one kilobyte, or at the address without memory.
-- Once one was accepted there, a further one is refused: FAULT was seen.
pub data ConformMayTransfer (bounds : Bounds) (calls : List Call) : Type 0 where
  unpowered : IsConformUnpowered calls → ConformMayTransfer bounds calls
  outside : (at : ℕ) → bounds.hole ≡ Some at → ConformAims at 0 calls → ConformMayTransfer bounds calls
  faulted : (at more : ℕ) → bounds.hole ≡ Some at → ConformAims at more calls → IsConformFaulted calls
      → ConformMayTransfer bounds calls
  inside : (low more : ℕ) → ConformAims low more calls → low % 4 ≡ 0 → bounds.first ≤ low
      → low + 4 * more ≤ bounds.last → low / 1024 ≡ (low + 4 * more) / 1024 → ConformMayTransfer bounds calls

-- a call asks for no transfer, or for one that may be asked for
abbrev pub ConformMayMake : Bounds → Cue → List Call → Type 0
ConformMayMake bounds (Ask q) calls = is_conform_transfer q ≡ true → ConformMayTransfer bounds calls
ConformMayMake bounds cue calls = Unit {0}

-- each of these calls does, the last one first
abbrev pub ConformStays : Bounds → List Call → Type 0
ConformStays bounds [] = Unit {0}
ConformStays bounds (call ∷ calls) = ConformMayMake bounds call.cue calls × ConformStays bounds calls

-- what is known of the next transfer is so after these calls
abbrev pub IsConformAim : Bounds → Aim → List Call → Type 0
IsConformAim bounds Unpowered calls = IsConformUnpowered calls
IsConformAim bounds Unknown calls = Unit {0}
IsConformAim bounds Hole calls = (at : ℕ) × (bounds.hole ≡ Some at) × ConformAims at 0 calls
IsConformAim bounds (Behind used refused) calls = (at : ℕ) × (more : ℕ) × (bounds.hole ≡ Some at)
    × ConformAims at more calls × (refused ≡ true → IsConformFaulted calls) × (used ≡ true → ConformTook at calls)
IsConformAim bounds (Words low high) calls = (more : ℕ) × (high ≡ low + 4 * more) × ConformAims low more calls

-- the memory that a plan is made for
abbrev pub conform_bounds : ℕ → ℕ → Option ℕ → Bounds
conform_bounds base words hole = record { first = base; last = base + 4 * (words - 1); hole = hole }
