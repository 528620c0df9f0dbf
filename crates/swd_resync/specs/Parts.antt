-- The reading of a capture: stretches, each of which decodes as a trace does, and skips, the bits between
-- them. The division is this project's choice; the transactions are the standard's.
use Rattle.std.specs.Prelude.{ℕ, zero, suc, ◌+◌, ◌-◌, ◌%◌, ◌==◌, nat_le, min, Bool, true, false, not, ◌&&◌, ◌||◌}
use Rattle.std.specs.Prelude.{List, [], ◌∷◌, length, drop, if◌then◌else◌}
use Rattle.swd_bits.specs.declared.request.Request.{Request}
use Rattle.swd_bits.specs.declared.request.Reg4.{Reg4}
use Rattle.swd_bits.specs.declared.request.Reg4.TheVariants.{R0, R4, R8, RC}
use Rattle.swd_bits.specs.declared.tx.TxEnd.{TxEnd}
use Rattle.swd_bits.specs.declared.tx.TxEnd.TheVariants.{Moved, Wait, Fault, NoAck}
use Rattle.swd_trace.specs.declared.item.Item.{Item}
use Rattle.swd_trace.specs.declared.item.Item.TheVariants.{Reset, Switch, Idle, Tx, Junk, Cut}
use Rattle.swd_trace.specs.declared.mode.Mode.{Mode}
use Rattle.swd_trace.specs.declared.mode.Mode.TheVariants.{Synced, AfterReset, AfterSwitch, Lost}
use Rattle.swd_trace.specs.Reading.{trace_ones, FirstItem, cut_first_item, first_item}
use Rattle.swd_resync.specs.declared.overrun.Overrun.{Overrun}
use Rattle.swd_resync.specs.declared.part.Part.{Part}
use Rattle.swd_resync.specs.declared.part.Part.TheVariants.{Item as Told, Phased, Skip}

-- ---- with overrun detection

-- WAIT or FAULT was seen
abbrev pub resync_is_refusal : TxEnd → Bool
resync_is_refusal (Moved word ok) = false
resync_is_refusal Wait = true
resync_is_refusal Fault = true
resync_is_refusal (NoAck seen) = false

abbrev pub resync_is_refused : Item → Bool
resync_is_refused (Tx tx) = resync_is_refusal tx.result
resync_is_refused (Reset n) = false
resync_is_refused Switch = false
resync_is_refused (Idle n) = false
resync_is_refused (Junk b) = false
resync_is_refused (Cut bits) = false

-- a data phase of any 33 bits follows WAIT and FAULT too: the transaction has 46 bits, or is cut off
abbrev pub resync_with_phase : Bool → FirstItem → List Bool → FirstItem
resync_with_phase over f bits =
    if over && resync_is_refused f.item then
    (if nat_le 46 (length bits) then record f { taken = 46 } else cut_first_item bits) else f

-- the first item in a mode, with overrun detection or without
abbrev pub resync_first : Bool → Mode → List Bool → FirstItem
resync_first over mode [] = cut_first_item []
resync_first over mode (b ∷ bits) = resync_with_phase over (first_item mode b bits) (b ∷ bits)

-- ---- whether a data phase follows WAIT and FAULT

-- where a capture begins
abbrev pub overrun_at_start : Bool → Overrun
overrun_at_start over = record { phases = over; bank_zero = true }

-- after a write of the debug port: of ORUNDETECT in CTRL/STAT, while DPBANKSEL is 0, or of SELECT (IHI 0031, B2.2)
abbrev pub overrun_after_write : Overrun → Reg4 → ℕ → Overrun
overrun_after_write over R0 word = over
overrun_after_write over R4 word = if over.bank_zero then record over { phases = word % 2 == 1 } else over
overrun_after_write over R8 word = record over { bank_zero = word % 16 == 0 }
overrun_after_write over RC word = over

-- after a transaction; a word of wrong parity shows nothing
abbrev pub overrun_after_tx : Overrun → Request → TxEnd → Overrun
overrun_after_tx over q (Moved word true) = if q.ap then over else if q.read then over else
    overrun_after_write over q.addr word
overrun_after_tx over q (Moved word false) = over
overrun_after_tx over q Wait = over
overrun_after_tx over q Fault = over
overrun_after_tx over q (NoAck seen) = over

abbrev pub overrun_after_item : Overrun → Item → Overrun
overrun_after_item over (Tx tx) = overrun_after_tx over tx.request tx.result
overrun_after_item over (Reset n) = over
overrun_after_item over Switch = over
overrun_after_item over (Idle n) = over
overrun_after_item over (Junk b) = over
overrun_after_item over (Cut bits) = over

abbrev pub overrun_turned : Overrun → Overrun
overrun_turned over = record over { phases = not over.phases }

-- ---- where a stretch begins

-- the bits after the zeros at the front
abbrev pub past_zeros : List Bool → List Bool
past_zeros [] = []
past_zeros (false ∷ bits) = past_zeros bits
past_zeros (true ∷ bits) = true ∷ bits

-- WAIT, FAULT, or OK with a word of right parity
abbrev pub resync_is_sound : TxEnd → Bool
resync_is_sound (Moved word ok) = ok
resync_is_sound Wait = true
resync_is_sound Fault = true
resync_is_sound (NoAck seen) = false

-- the number of bits of an item that is a sound transaction, 0 for any other item
abbrev pub resync_sound_bits : Item → ℕ → ℕ
resync_sound_bits (Tx tx) taken = if resync_is_sound tx.result then taken else 0
resync_sound_bits (Reset n) taken = 0
resync_sound_bits Switch taken = 0
resync_sound_bits (Idle n) taken = 0
resync_sound_bits (Junk b) taken = 0
resync_sound_bits (Cut bits) taken = 0

abbrev pub resync_sound : Bool → List Bool → ℕ
resync_sound over bits = resync_sound_bits (resync_first over Synced bits).item (resync_first over Synced bits).taken

-- a sound transaction comes after any zeros; of WAIT and FAULT the first 13 bits are enough
abbrev pub resync_sound_next : List Bool → Bool
resync_sound_next bits = nat_le 1 (resync_sound false (past_zeros bits))

-- two sound transactions are here, with at most zeros between them
abbrev pub pair : Bool → List Bool → Bool
pair over bits = nat_le 1 (resync_sound over bits) && resync_sound_next (drop (resync_sound over bits) bits)

-- fifty ones are here, or a pair
abbrev pub begins_stretch : Bool → List Bool → Bool
begins_stretch over bits = nat_le 50 (trace_ones bits) || pair over bits

-- how many bits come before the next place where a stretch begins: all of them if there is no such place
abbrev pub stretch_gap : Bool → List Bool → ℕ
stretch_gap over [] = 0
stretch_gap over (b ∷ bits) = if begins_stretch over (b ∷ bits) then 0 else suc (stretch_gap over bits)

-- how many of the first n bits come before a pair: n if no pair begins among them
abbrev pub before_pair : Bool → ℕ → List Bool → ℕ
before_pair over zero bits = 0
before_pair over (suc n) bits = if pair over bits then 0 else suc (before_pair over n (drop 1 bits))

-- ---- where a stretch ends

abbrev pub resync_is_junk : Item → Bool
resync_is_junk (Junk b) = true
resync_is_junk (Reset n) = false
resync_is_junk Switch = false
resync_is_junk (Idle n) = false
resync_is_junk (Tx tx) = false
resync_is_junk (Cut bits) = false

-- the bits after any zeros don't begin with a junk bit
abbrev pub stretch_continues : List Bool → Bool
stretch_continues bits = not (resync_is_junk (resync_first false Synced (past_zeros bits)).item)

-- no bits, or fifty ones
abbrev pub stretch_ended_or_reset : List Bool → Bool
stretch_ended_or_reset [] = true
stretch_ended_or_reset (b ∷ bits) = nat_le 50 (trace_ones (b ∷ bits))

-- a stretch continues after a transaction; after one without acknowledgement only at the end and at fifty
-- ones
abbrev pub stretch_after_tx : TxEnd → List Bool → Bool
stretch_after_tx (Moved word ok) bits = stretch_continues bits
stretch_after_tx Wait bits = stretch_continues bits
stretch_after_tx Fault bits = stretch_continues bits
stretch_after_tx (NoAck seen) bits = stretch_ended_or_reset bits

-- a stretch continues after its first item; a junk bit is never part of a stretch
abbrev pub stretch_after_item : Item → List Bool → Bool
stretch_after_item (Tx tx) bits = stretch_after_tx tx.result bits
stretch_after_item (Junk b) bits = false
stretch_after_item (Reset n) bits = true
stretch_after_item Switch bits = true
stretch_after_item (Idle n) bits = true
stretch_after_item (Cut cut) bits = true

-- ---- the other length

-- neither a junk bit nor a transaction that isn't sound
abbrev pub resync_is_sound_item : Item → Bool
resync_is_sound_item (Tx tx) = resync_is_sound tx.result
resync_is_sound_item (Junk b) = false
resync_is_sound_item (Reset n) = true
resync_is_sound_item Switch = true
resync_is_sound_item (Idle n) = true
resync_is_sound_item (Cut cut) = true

-- after any zeros a sound transaction comes, fifty ones, or the end, which may cut a transaction off
abbrev pub stretch_resumes : List Bool → Bool
stretch_resumes bits = resync_is_sound_item (resync_first false Synced (past_zeros bits)).item

-- how many bits WAIT and FAULT have, if it is the other way round whether a data phase follows them
abbrev pub other_tx_len : Bool → ℕ
other_tx_len phases = if phases then 13 else 46

-- WAIT or FAULT, and with its other length the stretch would continue soundly
abbrev pub has_other_length : Bool → Item → List Bool → Bool
has_other_length phases item bits = resync_is_refused item
    && (nat_le (other_tx_len phases) (length bits) && stretch_resumes (drop (other_tx_len phases) bits))

-- a stretch begins with the capture if the reading isn't lost after any zeros and a transaction, or the transaction has
-- its other length
abbrev pub stretch_at_start : Bool → List Bool → Bool
stretch_at_start phases bits =
    let f = resync_first phases Synced (past_zeros bits) in
    stretch_after_item f.item (drop f.taken (past_zeros bits)) || has_other_length phases f.item (past_zeros bits)

-- ---- the parts

-- where a decoder of captures is: in a stretch, in a mode; in one where a data phase that wasn't foreseen begins; or
-- between two stretches
pub data ResyncPlace : Type 0 where
  InStretch : Mode → ResyncPlace
  AtPhase : ResyncPlace
  Between : ResyncPlace

abbrev pub resync_place_after : Mode → ResyncPlace
resync_place_after Synced = InStretch Synced
resync_place_after AfterReset = InStretch AfterReset
resync_place_after AfterSwitch = InStretch AfterSwitch
resync_place_after Lost = Between

-- a part, the place after it, what is known of overrun detection there, and its number of bits
pub record ResyncStep : Type 0 where
  pub part : Part
  pub after : ResyncPlace
  pub over : Overrun
  pub taken : ℕ

-- WAIT or FAULT with its data phase, or any other item
abbrev pub resync_told : Bool → Item → Part
resync_told phases (Tx tx) = if phases && resync_is_refusal tx.result then Phased tx else Told (Tx tx)
resync_told phases (Reset n) = Told (Reset n)
resync_told phases Switch = Told Switch
resync_told phases (Idle n) = Told (Idle n)
resync_told phases (Junk b) = Told (Junk b)
resync_told phases (Cut bits) = Told (Cut bits)

-- the first item is reported
abbrev pub stretch_item : Overrun → FirstItem → ResyncStep
stretch_item over f = record {
  part = resync_told over.phases f.item;
  after = resync_place_after f.after;
  over = overrun_after_item over f.item;
  taken = f.taken;
}

-- WAIT or FAULT is reported without a data phase: with the other length none follows, or one that wasn't foreseen
abbrev pub other_length_step : Overrun → Item → ResyncStep
other_length_step over item = record {
  part = Told item;
  after = if over.phases then InStretch Synced else AtPhase;
  over = overrun_turned over;
  taken = 13;
}

-- `n` bits are skipped, up to the next stretch
abbrev pub skip_bits : Overrun → ℕ → ResyncStep
skip_bits over n = record { part = Skip n; after = Between; over = over; taken = n }

-- between stretches: the next one begins here, or the bits before it are skipped
abbrev pub stretch_or_skip : Overrun → List Bool → ResyncStep
stretch_or_skip over bits =
    if begins_stretch over.phases bits then stretch_item over (resync_first over.phases Synced bits)
    else skip_bits over (stretch_gap over.phases bits)

-- A transaction after which the stretch doesn't continue is reported if no pair begins inside it. Otherwise
-- that pair begins the next stretch, and the bits before it are skipped.
abbrev pub item_or_withdrawn : Overrun → FirstItem → List Bool → ResyncStep
item_or_withdrawn over f bits = let inside = f.taken - 1 in
    let before = before_pair over.phases inside (drop 1 bits) in
    if before == inside then stretch_item over f else skip_bits over (suc before)

-- in a stretch: the first item, or the end of the stretch
abbrev pub in_stretch : Overrun → FirstItem → List Bool → ResyncStep
in_stretch over f bits =
    if resync_is_junk f.item then stretch_or_skip over bits
    else if stretch_after_item f.item (drop f.taken bits) then stretch_item over f
    else if has_other_length over.phases f.item bits then other_length_step over f.item
    else item_or_withdrawn over f bits

-- `n` bits of a stretch are skipped, and in one part with them what the step after them skips
abbrev pub skip_before_step : Overrun → ℕ → Part → ResyncStep → ResyncStep
skip_before_step over n (Skip m) s = record { part = Skip (n + m); after = s.after; over = s.over; taken = n + s.taken }
skip_before_step over n (Told item) s = record { part = Skip n; after = InStretch Synced; over = over; taken = n }
skip_before_step over n (Phased tx) s = record { part = Skip n; after = InStretch Synced; over = over; taken = n }

-- the first item in mode synced, or the end of the stretch
abbrev pub synced_step : Overrun → List Bool → ResyncStep
synced_step over bits = in_stretch over (resync_first over.phases Synced bits) bits

-- a data phase that wasn't foreseen: its 33 bits are skipped
abbrev pub skip_phase : Overrun → List Bool → ResyncStep
skip_phase over bits = let n = min 33 (length bits) in
    let s = synced_step over (drop n bits) in
    skip_before_step over n s.part s

abbrev pub resync_step : Overrun → ResyncPlace → List Bool → ResyncStep
resync_step over (InStretch mode) bits = in_stretch over (resync_first over.phases mode bits) bits
resync_step over AtPhase bits = skip_phase over bits
resync_step over Between bits = stretch_or_skip over bits

-- the parts, where the first `passed` bits still belong to the part before
unfoldable pub parts_after : Overrun → ℕ → ResyncPlace → List Bool → List Part
parts_after over passed place [] = []
parts_after over (suc passed) place (b ∷ bits) = parts_after over passed place bits
parts_after over zero place (b ∷ bits) =
    (resync_step over place (b ∷ bits)).part ∷ parts_after (resync_step over place (b ∷ bits)).over
    ((resync_step over place (b ∷ bits)).taken - 1) (resync_step over place (b ∷ bits)).after bits

abbrev pub resync_parts : Overrun → ResyncPlace → List Bool → List Part
resync_parts over place bits = parts_after over 0 place bits

-- the parts of a whole capture; `phases` says whether a data phase follows WAIT and FAULT at its beginning
abbrev pub resync_parts_of : Bool → List Bool → List Part
resync_parts_of phases bits =
    resync_parts (overrun_at_start phases) (if stretch_at_start phases bits then InStretch Synced else Between) bits
