-- Where the reading of a trace is never lost, the parts are its items.
use Rattle.std.proofs.Common.{◌≡◌, ℕ, zero, suc, ◌-◌, ◌≤◌, Bool, true, false, not, List, [], ◌∷◌, map, length, drop}
use Rattle.std.proofs.Common.{nat_le, refl, sym, ap, ◌∙◌, subst, arith}
use Rattle.std.specs.Prelude.{if◌then◌else◌, ◌||◌}
use Rattle.swd_bits.specs.declared.tx.TxEnd.{TxEnd}
use Rattle.swd_bits.specs.declared.tx.TxEnd.TheVariants.{Moved, Wait, Fault, NoAck}
use Rattle.swd_bits.specs.declared.tx.Tx.{Tx as Transaction}
use Rattle.swd_trace.specs.declared.item.Item.{Item}
use Rattle.swd_trace.specs.declared.item.Item.TheVariants.{Reset, Switch, Idle, Tx, Junk, Cut}
use Rattle.swd_trace.specs.declared.mode.Mode.{Mode}
use Rattle.swd_trace.specs.declared.mode.Mode.TheVariants.{Synced, AfterReset, AfterSwitch, Lost}
use Rattle.swd_trace.specs.Stands.{Stand, Whole, Begun, Broken, stands}
use Rattle.swd_trace.specs.Reading.{trace_ones, trace_zeros, trace_all_ones, trace_begins_with, switch_item, FirstItem}
use Rattle.swd_trace.specs.Reading.{cut_first_item, junk_first_item, decoder_mode_after_tx, cut_or_junk_item}
use Rattle.swd_trace.specs.Reading.{first_item_by_stand, first_item_synced, first_item_by_mode, first_item, reading}
use Rattle.swd_trace.specs.Reading.{reading_of}
use Rattle.swd_trace.proofs.StandLemmas.{stand_by_test}
use Rattle.swd_trace.proofs.ReadingLemmas.{reading_first_item, reading_no_item}
use Rattle.swd_resync.specs.declared.overrun.Overrun.{Overrun}
use Rattle.swd_resync.specs.declared.part.Part.TheVariants.{Item as Told}
use Rattle.swd_resync.specs.Parts.{resync_first, past_zeros, resync_is_junk, pair, stretch_gap, stretch_continues}
use Rattle.swd_resync.specs.Parts.{stretch_ended_or_reset, stretch_after_item, stretch_after_tx, stretch_at_start}
use Rattle.swd_resync.specs.Parts.{InStretch, Between, resync_place_after, stretch_item, skip_bits, resync_told}
use Rattle.swd_resync.specs.Parts.{has_other_length, overrun_at_start, overrun_after_item, resync_step, resync_parts}
use Rattle.swd_resync.specs.Parts.{resync_parts_of}
use Rattle.swd_resync.specs.Divisions.{ResyncNeverLost, LeavesOverrunOff}
use Rattle.swd_resync.proofs.FirstLemmas.{ResyncTakes, resync_first_takes_in_mode}
use Rattle.swd_resync.proofs.PartLemmas.{resync_parts_none, parts_from_step, resync_fewer_left, resync_drop_one_less}
use Rattle.swd_resync.proofs.StageLemmas.{stretch_told}

-- the first item and the others
never_lost : (item : Item) (items : List Item) → ResyncNeverLost (item ∷ items)
    → (resync_is_junk item ≡ false) × ResyncNeverLost items
never_lost (Reset n) items h = (refl, h)
never_lost Switch items h = (refl, h)
never_lost (Idle n) items h = (refl, h)
never_lost (Tx tx) items h = (refl, h)
never_lost (Junk b) items h = absurd h
never_lost (Cut off) items h = (refl, h)

-- what is read first, and what is read behind it
head_and_rest : (mode : Mode) (b : Bool) (bits : List Bool) → ResyncNeverLost (reading mode (b ∷ bits))
    → (resync_is_junk (first_item mode b bits).item ≡ false)
    × ResyncNeverLost (reading (first_item mode b bits).after (drop (first_item mode b bits).taken (b ∷ bits)))
head_and_rest mode b bits h =
    let f = first_item mode b bits in
    let t : ResyncTakes false (b ∷ bits) f = resync_first_takes_in_mode mode b bits in
    let r = never_lost f.item (reading f.after (drop (f.taken - 1) bits))
    (subst ResyncNeverLost (reading_first_item mode b bits) h) in
    (r.0, subst (λ x. ResyncNeverLost (reading f.after x)) (resync_drop_one_less f.taken b bits t.some) r.1)

-- ---- the mode behind a transaction

abbrev Leads : FirstItem → Type 0
Leads f = (tx : Transaction) → f.item ≡ Tx tx → f.after ≡ decoder_mode_after_tx tx.result

abbrev result_of : Item → TxEnd
result_of (Tx tx) = tx.result
result_of (Reset n) = Wait
result_of Switch = Wait
result_of (Idle n) = Wait
result_of (Junk b) = Wait
result_of (Cut off) = Wait

leads_by_ones : (b : Bool) (bits : List Bool) → Leads (cut_or_junk_item b bits)
leads_by_ones b bits = stand_by_test (trace_all_ones (b ∷ bits)) (cut_first_item (b ∷ bits)) (junk_first_item b) Leads
    (λ e tx g. absurd cc) (λ e tx g. absurd cc)

leads_by_stand : (s : Stand) (bits : List Bool) → Leads (first_item_by_stand s true bits)
leads_by_stand (Whole t n) bits tx g = ap (λ i. decoder_mode_after_tx (result_of i)) g
leads_by_stand Begun bits tx g = absurd cc
leads_by_stand Broken bits tx g = leads_by_ones true bits tx g

leads_synced : (b : Bool) (bits : List Bool) → Leads (first_item_synced b bits)
leads_synced false bits tx g = absurd cc
leads_synced true bits tx g = leads_by_stand (stands (true ∷ bits)) bits tx g

leads_short : (mode : Mode) (b : Bool) (bits : List Bool) → Leads (first_item_by_mode mode b bits)
leads_short Synced b bits = leads_synced b bits
leads_short AfterReset b bits =
    stand_by_test (trace_begins_with switch_item (b ∷ bits)) (record { item = Switch; after = AfterSwitch; taken = 16 })
    (first_item_synced b bits) Leads (λ e tx g. absurd cc) (λ e. leads_synced b bits)
leads_short AfterSwitch b bits = leads_by_ones b bits
leads_short Lost b bits = λ tx g. absurd cc

leads : (mode : Mode) (b : Bool) (bits : List Bool) → Leads (first_item mode b bits)
leads mode b bits = stand_by_test (nat_le 50 (trace_ones (b ∷ bits))) _ (first_item_by_mode mode b bits) Leads
    (λ e tx g. absurd cc) (λ e. leads_short mode b bits)

-- ---- a stretch goes on

past_drop : (bits : List Bool) → drop (trace_zeros bits) bits ≡ past_zeros bits
past_drop [] = refl
past_drop (true ∷ bits) = refl
past_drop (false ∷ bits) = past_drop bits

past_idle : (bits : List Bool) → ResyncNeverLost (reading Synced bits)
    → ResyncNeverLost (reading Synced (past_zeros bits))
past_idle [] h = h
past_idle (true ∷ bits) h = h
past_idle (false ∷ bits) h = subst (λ x. ResyncNeverLost (reading Synced x)) (past_drop bits)
    (head_and_rest Synced false bits h).1

no_junk : (bits : List Bool) → ResyncNeverLost (reading Synced bits)
    → resync_is_junk (resync_first false Synced bits).item ≡ false
no_junk [] h = refl
no_junk (b ∷ bits) h = (head_and_rest Synced b bits h).0

never_lost_goes_on : (bits : List Bool) → ResyncNeverLost (reading Synced bits) → stretch_continues bits ≡ true
never_lost_goes_on bits h = ap not (no_junk (past_zeros bits) (past_idle bits h))

-- between stretches only fifty ones are read
fifty_between : (b : Bool) (bits : List Bool) → resync_is_junk (first_item Lost b bits).item ≡ false
    → nat_le 50 (trace_ones (b ∷ bits)) ≡ true
fifty_between b bits = stand_by_test (nat_le 50 (trace_ones (b ∷ bits))) _ (junk_first_item b)
    (λ f. resync_is_junk f.item ≡ false → nat_le 50 (trace_ones (b ∷ bits)) ≡ true) (λ e j. e) (λ e j. absurd cc)

never_lost_ends : (bits : List Bool) → ResyncNeverLost (reading Lost bits) → stretch_ended_or_reset bits ≡ true
never_lost_ends [] h = refl
never_lost_ends (b ∷ bits) h = fifty_between b bits (head_and_rest Lost b bits h).0

followed_end : (end : TxEnd) (bits : List Bool) → ResyncNeverLost (reading (decoder_mode_after_tx end) bits)
    → stretch_after_tx end bits ≡ true
followed_end (Moved word ok) bits h = never_lost_goes_on bits h
followed_end Wait bits h = never_lost_goes_on bits h
followed_end Fault bits h = never_lost_goes_on bits h
followed_end (NoAck seen) bits h = never_lost_ends bits h

followed_item : (item : Item) (after : Mode) (bits : List Bool) → resync_is_junk item ≡ false
    → ((tx : Transaction) → item ≡ Tx tx → after ≡ decoder_mode_after_tx tx.result)
    → ResyncNeverLost (reading after bits) → stretch_after_item item bits ≡ true
followed_item (Tx tx) after bits j l h =
    followed_end tx.result bits (subst (λ m. ResyncNeverLost (reading m bits)) (l tx refl) h)
followed_item (Junk b) after bits j l h = absurd cc
followed_item (Reset n) after bits j l h = refl
followed_item Switch after bits j l h = refl
followed_item (Idle n) after bits j l h = refl
followed_item (Cut off) after bits j l h = refl

follows : (mode : Mode) (b : Bool) (bits : List Bool) → ResyncNeverLost (reading mode (b ∷ bits))
    → stretch_after_item (first_item mode b bits).item (drop (first_item mode b bits).taken (b ∷ bits)) ≡ true
follows mode b bits h = let r = head_and_rest mode b bits h in
    followed_item (first_item mode b bits).item (first_item mode b bits).after
    (drop (first_item mode b bits).taken (b ∷ bits)) r.0 (leads mode b bits) r.1

-- ---- each step tells what is read first

-- without overrun detection
abbrev Off : Bool → Overrun
Off bank = record { phases = false; bank_zero = bank }

tells_stretch : (bank : Bool) (mode : Mode) (b : Bool) (bits : List Bool) → ResyncNeverLost (reading mode (b ∷ bits))
    → resync_step (Off bank) (InStretch mode) (b ∷ bits) ≡ stretch_item (Off bank) (first_item mode b bits)
tells_stretch bank mode b bits h =
    stretch_told (Off bank) (first_item mode b bits) (b ∷ bits) (head_and_rest mode b bits h).0 (follows mode b bits h)

tells_between : (bank : Bool) (b : Bool) (bits : List Bool) → ResyncNeverLost (reading Lost (b ∷ bits))
    → resync_step (Off bank) Between (b ∷ bits) ≡ stretch_item (Off bank) (first_item Lost b bits)
tells_between bank b bits h =
    let e : nat_le 50 (trace_ones (b ∷ bits)) ≡ true = fifty_between b bits (head_and_rest Lost b bits h).0 in
    ap (λ t. if t || pair false (b ∷ bits) then stretch_item (Off bank) (resync_first false Synced (b ∷ bits))
    else skip_bits (Off bank) (stretch_gap false (b ∷ bits))) e
    ∙ ap (stretch_item (Off bank)) (reset Synced e ∙ sym (reset Lost e))
  where
    reset : (mode : Mode) → nat_le 50 (trace_ones (b ∷ bits)) ≡ true → first_item mode b bits ≡
        record { item = Reset (trace_ones (b ∷ bits)); after = AfterReset; taken = trace_ones (b ∷ bits) }
    reset mode e = ap (λ t. if t then record
        { item = Reset (trace_ones (b ∷ bits)); after = AfterReset; taken = trace_ones (b ∷ bits) } else
        first_item_by_mode mode b bits) e

tells : (bank : Bool) (mode : Mode) (b : Bool) (bits : List Bool) → ResyncNeverLost (reading mode (b ∷ bits))
    → resync_step (Off bank) (resync_place_after mode) (b ∷ bits) ≡ stretch_item (Off bank) (first_item mode b bits)
tells bank Synced b bits h = tells_stretch bank Synced b bits h
tells bank AfterReset b bits h = tells_stretch bank AfterReset b bits h
tells bank AfterSwitch b bits h = tells_stretch bank AfterSwitch b bits h
tells bank Lost b bits h = tells_between bank b bits h

-- without data phases each item is reported alone
told_alone : (item : Item) → resync_told false item ≡ Told item
told_alone (Tx tx) = refl
told_alone (Reset n) = refl
told_alone Switch = refl
told_alone (Idle n) = refl
told_alone (Junk b) = refl
told_alone (Cut off) = refl

stays_off : (over : Overrun) → over.phases ≡ false → over ≡ Off over.bank_zero
stays_off over e = ap (λ t. record { phases = t; bank_zero = over.bank_zero }) e

same_items : (n : ℕ) (bank : Bool) (mode : Mode) (bits : List Bool) → length bits ≤ n
    → ResyncNeverLost (reading mode bits) → LeavesOverrunOff (Off bank) (reading mode bits)
    → resync_parts (Off bank) (resync_place_after mode) bits ≡ map Told (reading mode bits)
same_items n bank mode [] l h o = resync_parts_none (Off bank) (resync_place_after mode) ∙ sym
    (ap (map Told) (reading_no_item mode))
same_items zero bank mode (b ∷ bits) l h o = absurd (omega arith)
same_items (suc n) bank mode (b ∷ bits) l h o =
    let f = first_item mode b bits in
    let t : ResyncTakes false (b ∷ bits) f = resync_first_takes_in_mode mode b bits in
    let r = head_and_rest mode b bits h in
    let next = overrun_after_item (Off bank) f.item in
    let split : reading mode (b ∷ bits) ≡ f.item ∷ reading f.after (drop f.taken (b ∷ bits)) =
    reading_first_item mode b bits
    ∙ ap (λ x. f.item ∷ reading f.after x) (resync_drop_one_less f.taken b bits t.some) in
    let left = subst (LeavesOverrunOff (Off bank)) split o in
    let off : next ≡ Off next.bank_zero = stays_off next left.0 in
    parts_from_step (Off bank) (resync_place_after mode) b bits (stretch_item (Off bank) f) (tells bank mode b bits h)
    ∙ ap (λ p. p ∷ resync_parts next (resync_place_after f.after) (drop f.taken (b ∷ bits))) (told_alone f.item)
    ∙ ap (λ v. Told f.item ∷ resync_parts v (resync_place_after f.after) (drop f.taken (b ∷ bits))) off
    ∙ ap (λ x. Told f.item ∷ x)
    (same_items n next.bank_zero f.after (drop f.taken (b ∷ bits)) (resync_fewer_left n f.taken b bits l t.some) r.1
    (subst (λ v. LeavesOverrunOff v (reading f.after (drop f.taken (b ∷ bits)))) off left.1))
    ∙ sym (ap (map Told) split)

starts : (bits : List Bool) → ResyncNeverLost (reading_of bits) → stretch_at_start false bits ≡ true
starts bits h = ap (λ t. t || has_other_length false (resync_first false Synced (past_zeros bits)).item
    (past_zeros bits)) (by (past_zeros bits) (past_idle bits h))
  where
    by : (bits : List Bool) → ResyncNeverLost (reading Synced bits)
        → stretch_after_item (resync_first false Synced bits).item
        (drop (resync_first false Synced bits).taken bits) ≡ true
    by [] h = refl
    by (b ∷ bits) h = follows Synced b bits h

-- where a trace's reading is never lost, and no write of CTRL/STAT sets overrun detection, the items of that reading
-- are its parts
pub resync_parts_are_items : (bits : List Bool) → ResyncNeverLost (reading_of bits)
    → LeavesOverrunOff (overrun_at_start false) (reading_of bits)
    → resync_parts_of false bits ≡ map Told (reading_of bits)
resync_parts_are_items bits h o =
    ap (λ t. resync_parts (overrun_at_start false) (if t then InStretch Synced else Between) bits) (starts bits h)
    ∙ same_items (length bits) true Synced bits (omega arith) h o
