-- The parts from a place on, by the stage there.
use Rattle.std.specs.Prelude.{◌≡◌, ℕ, zero, suc, ◌+◌, ◌-◌, ◌*◌, ◌<◌, ◌≤◌, Bool, true, false, List, [], ◌∷◌, ◌++◌}
use Rattle.std.specs.Prelude.{length, drop, Option, Some, None, if◌then◌else◌}
use Rattle.swd_bits.specs.declared.tx.Tx.{Tx as Transaction}
use Rattle.swd_trace.specs.declared.item.Item.TheVariants.{Reset, Idle, Tx}
use Rattle.swd_trace.specs.declared.mode.Mode.TheVariants.{Synced, AfterReset, AfterSwitch}
use Rattle.swd_trace.specs.Reading.{trace_ones, trace_zeros, switch_item, trace_begins_with}
use Rattle.swd_bits.specs.Bits.{low_bits}
use Rattle.swd_bits.specs.BitLists.{tx_bits_of}
use Rattle.swd_bits.specs.declared.tx_bits.TxBits.{TxBits}
use Rattle.swd_resync.specs.declared.part.Part.{Part}
use Rattle.swd_resync.specs.declared.part.Part.TheVariants.{Item as Told, Skip}
use Rattle.swd_resync.specs.declared.overrun.Overrun.{Overrun}
use Rattle.swd_resync.specs.declared.stage.RemovalStage.{RemovalStage}
use Rattle.swd_resync.specs.declared.stage.RemovalStage.TheVariants.{Start, Stretch, Reset as InReset}
use Rattle.swd_resync.specs.declared.stage.RemovalStage.TheVariants.{AfterReset as BehindReset}
use Rattle.swd_resync.specs.declared.stage.RemovalStage.TheVariants.{AfterSwitch as BehindSwitch, AfterPhase}
use Rattle.swd_resync.specs.declared.stage.RemovalStage.TheVariants.{Between as Skipping}
use Rattle.swd_resync.specs.declared.stage.Move.{Move}
use Rattle.swd_resync.specs.Parts.{stretch_at_start, stretch_gap, InStretch, Between, resync_parts, synced_step}
use Rattle.swd_resync.specs.Parts.{skip_before_step, other_tx_len, overrun_turned, overrun_after_tx, resync_told}
use Rattle.swd_resync.specs.declared.judge.TxFate.{TxFate}
use Rattle.swd_resync.specs.declared.judge.TxFate.TheVariants.{Reported, OtherLength, Withdrawn}
use Rattle.swd_bits.specs.declared.tx.TxEnd.{TxEnd}
use Rattle.swd_bits.specs.declared.tx.TxEnd.TheVariants.{Moved, Wait, Fault, NoAck}
use Rattle.swd_resync.specs.Holding.{IsResyncNear}
use Rattle.swd_resync.specs.Sights.{SightMore}

-- after `n` idle cycles of a stretch
abbrev pub stretch_idle : Overrun → ℕ → List Bool → List Part
stretch_idle over zero bits = resync_parts over (InStretch Synced) bits
stretch_idle over (suc n) bits =
    Told (Idle (suc n + trace_zeros bits)) ∷ resync_parts over (InStretch Synced) (drop (trace_zeros bits) bits)

-- after `n` ones of a line reset
abbrev pub stretch_reset : Overrun → ℕ → List Bool → List Part
stretch_reset over n bits = Told (Reset (n + trace_ones bits))
    ∷ resync_parts over (InStretch AfterReset) (drop (trace_ones bits) bits)

-- after `n` skipped bits
abbrev pub skip_rest : Overrun → ℕ → List Bool → List Part
skip_rest over zero bits = resync_parts over Between bits
skip_rest over (suc n) bits = Skip (suc n + stretch_gap over.phases bits)
    ∷ resync_parts over Between (drop (stretch_gap over.phases bits) bits)

-- after the 33 skipped bits of a data phase that wasn't foreseen
abbrev pub stretch_after_phase : Overrun → List Bool → List Part
stretch_after_phase over bits =
    let s = skip_before_step over 33 (synced_step over bits).part (synced_step over bits) in
    s.part ∷ resync_parts s.over s.after (drop (s.taken - 33) bits)

abbrev pub parts_at_stage : Overrun → RemovalStage → List Bool → List Part
parts_at_stage over (Start n) bits = if stretch_at_start over.phases bits then stretch_idle over n bits else skip_rest
    over n
    bits
parts_at_stage over (Stretch n) bits = stretch_idle over n bits
parts_at_stage over (InReset n) bits = stretch_reset over n bits
parts_at_stage over BehindReset bits = resync_parts over (InStretch AfterReset) bits
parts_at_stage over BehindSwitch bits = resync_parts over (InStretch AfterSwitch) bits
parts_at_stage over AfterPhase bits = stretch_after_phase over bits
parts_at_stage over (Skipping n) bits = skip_rest over n bits

-- how many bits a stage counts
abbrev pub resync_stage_counted : RemovalStage → ℕ
resync_stage_counted (Start n) = n
resync_stage_counted (Stretch n) = n
resync_stage_counted (InReset n) = n
resync_stage_counted BehindReset = 0
resync_stage_counted BehindSwitch = 0
resync_stage_counted AfterPhase = 33
resync_stage_counted (Skipping n) = n

-- an upper bound on the number of further steps that remove no bits
abbrev pub resync_stage_rank : RemovalStage → ℕ
resync_stage_rank (Start n) = 5
resync_stage_rank (Stretch zero) = 0
resync_stage_rank (Stretch (suc n)) = 1
resync_stage_rank (InReset n) = 2
resync_stage_rank BehindReset = 1
resync_stage_rank BehindSwitch = 4
resync_stage_rank AfterPhase = 1
resync_stage_rank (Skipping zero) = 2
resync_stage_rank (Skipping (suc n)) = 3

-- a part before others, if there is one
abbrev pub resync_with_part : Option Part → List Part → List Part
resync_with_part (Some part) others = part ∷ others
resync_with_part None others = others

-- the step is what the bits decide, whatever may follow
pub record ResyncMove (over : Overrun) (ended : Bool) (stage : RemovalStage) (bits : List Bool) (m : Move) : Type 0
  where
    pub fits : m.count ≤ length bits
    pub short : m.count ≤ 50
    pub count : resync_stage_counted m.stage ≤ resync_stage_counted stage + m.count
    pub fewer : resync_stage_rank m.stage < resync_stage_rank stage + 8 * m.count
    pub law : (more : List Bool) → SightMore ended more → parts_at_stage over stage (bits ++ more)
        ≡ resync_with_part m.part (parts_at_stage m.over m.stage (drop m.count bits ++ more))

-- few bits are held if more may follow, and nothing is left at the end
pub record ResyncStill (over : Overrun) (ended : Bool) (stage : RemovalStage) (bits : List Bool) : Type 0 where
  pub near : ended ≡ false → IsResyncNear 92 bits
  pub none : ended ≡ true → parts_at_stage over stage bits ≡ []

abbrev pub ResyncMoves : Overrun → Bool → RemovalStage → List Bool → Option Move → Type 0
ResyncMoves over ended stage bits (Some m) = ResyncMove over ended stage bits m
ResyncMoves over ended stage bits None = ResyncStill over ended stage bits

-- whether the bits that begin with these begin with the switch; more may follow if all of them match it so
-- far
abbrev pub ResyncSeesSwitch : Bool → TxBits → Option Bool → Type 0
ResyncSeesSwitch ended window (Some true) = (16 ≤ window.len) × (low_bits 16 window.bits ≡ switch_item)
ResyncSeesSwitch ended window (Some false) =
    (rest : List Bool) → (window.len < 16 → SightMore ended rest)
    → trace_begins_with switch_item (tx_bits_of window ++ rest) ≡ false
ResyncSeesSwitch ended window None = (ended ≡ false) × (window.len < 16)

-- WAIT or FAULT is reported, and its other length removed: with a data phase that wasn't foreseen, or without one
abbrev pub stretch_other_length_move : Overrun → Transaction → Move
stretch_other_length_move over tx = record {
  count = other_tx_len over.phases;
  over = overrun_turned over;
  stage = if over.phases then Stretch 0 else AfterPhase;
  part = Some (Told (Tx tx));
}

-- the stage after a reported transaction
abbrev pub stretch_stage_behind : TxEnd → RemovalStage
stretch_stage_behind (Moved word ok) = Stretch 0
stretch_stage_behind Wait = Stretch 0
stretch_stage_behind Fault = Stretch 0
stretch_stage_behind (NoAck seen) = Skipping 0

-- the step of a transaction of `len` bits in a stretch, by what becomes of it
abbrev pub stretch_fate_move : Overrun → Transaction → ℕ → TxFate → Move
stretch_fate_move over tx len Reported = record {
  count = len;
  over = overrun_after_tx over tx.request tx.result;
  stage = stretch_stage_behind tx.result;
  part = Some (resync_told over.phases (Tx tx));
}
stretch_fate_move over tx len OtherLength = stretch_other_length_move over tx
stretch_fate_move over tx len (Withdrawn n) =
    record { count = n; over = over; stage = Skipping 0; part = Some (Skip n) }

-- the step after a data phase that wasn't foreseen, by what becomes of the transaction there
abbrev pub stretch_phase_move : Overrun → TxFate → Move
stretch_phase_move over Reported = record { count = 0; over = over; stage = Stretch 0; part = Some (Skip 33) }
stretch_phase_move over OtherLength = record { count = 0; over = over; stage = Stretch 0; part = Some (Skip 33) }
stretch_phase_move over (Withdrawn n) =
    record { count = n; over = over; stage = Skipping 0; part = Some (Skip (33 + n)) }
