-- Laws of what is read from a place on.
use Rattle.std.proofs.Common.{◌≡◌, ◌≢◌, ℕ, zero, suc, ◌+◌, ◌<◌, ◌≤◌, Bool, true, false, not, List, [], ◌∷◌, ◌++◌}
use Rattle.std.proofs.Common.{length, drop, replicate, nat_le, arith, refl, sym, ap, ◌∙◌, inl, inr}
use Rattle.std.specs.Prelude.{◌&&◌, ◌||◌, if◌then◌else◌}
use Rattle.std.proofs.lemmas.List.{drop_all}
use Rattle.std.proofs.lemmas.Bool.{leb-true, or_cases, and_parts}
use Rattle.swd_bits.specs.Bits.{bits_number}
use Rattle.swd_bits.specs.declared.tx.TxEnd.{TxEnd}
use Rattle.swd_bits.specs.declared.tx.TxEnd.TheVariants.{Moved, Wait, Fault, NoAck}
use Rattle.swd_bits.specs.declared.tx.Tx.{Tx as Transaction}
use Rattle.swd_trace.specs.declared.item.Item.{Item}
use Rattle.swd_trace.specs.declared.item.Item.TheVariants.{Reset, Switch, Idle, Tx, Junk, Cut}
use Rattle.swd_trace.specs.declared.mode.Mode.{Mode}
use Rattle.swd_trace.specs.declared.mode.Mode.TheVariants.{Synced, AfterReset}
use Rattle.swd_trace.specs.Reading.{trace_ones, trace_zeros, FirstItem, cut_first_item, junk_first_item, whole_tx_item}
use Rattle.swd_trace.proofs.StandLemmas.{stand_by_test}
use Rattle.swd_resync.specs.declared.overrun.Overrun.{Overrun}
use Rattle.swd_resync.specs.declared.part.Part.TheVariants.{Item as Told, Skip}
use Rattle.swd_resync.specs.Parts.{resync_first, past_zeros, resync_sound, resync_sound_bits, resync_sound_next}
use Rattle.swd_resync.specs.Parts.{resync_is_sound, pair, begins_stretch, stretch_gap, stretch_continues}
use Rattle.swd_resync.specs.Parts.{stretch_after_item, stretch_after_tx, stretch_at_start, ResyncPlace, InStretch}
use Rattle.swd_resync.specs.Parts.{Between, ResyncStep, stretch_item, skip_bits, stretch_or_skip, item_or_withdrawn}
use Rattle.swd_resync.specs.Parts.{in_stretch, resync_step, resync_parts, resync_is_junk, has_other_length}
use Rattle.swd_resync.specs.Parts.{other_length_step}
use Rattle.swd_resync.specs.Stages.{stretch_idle, stretch_reset, skip_rest, parts_at_stage}
use Rattle.swd_resync.proofs.StepLemmas.{resync_sound_not_junk, stretch_gap_none, stretch_gap_here, resync_reset_first}
use Rattle.swd_resync.proofs.StepLemmas.{stretch_begin_not_junk}
use Rattle.swd_trace.proofs.ReadingLemmas.{trace_bit_cases}
use Rattle.swd_resync.specs.declared.stage.RemovalStage.TheVariants.{Start}
use Rattle.swd_resync.proofs.PartLemmas.{resync_parts_none, parts_from_step}
use Rattle.swd_resync.proofs.JudgeLemmas.{sight_not_fifty, judged_reset}

-- the parts of some bits, from what a step computes to
pub parts_from_bits : (over : Overrun) (place : ResyncPlace) (bits : List Bool) (s : ResyncStep) → bits ≢ []
    → resync_step over place bits ≡ s
    → resync_parts over place bits ≡ s.part ∷ resync_parts s.over s.after (drop s.taken bits)
parts_from_bits over place [] s n e = absurd (n refl)
parts_from_bits over place (b ∷ bits) s n e = parts_from_step over place b bits s e

-- ---- idle cycles

-- an idle cycle is read first
idle_read : (phases : Bool) (bits : List Bool) → resync_first phases Synced (false ∷ bits)
    ≡ record { item = Idle (suc (trace_zeros bits)); after = Synced; taken = suc (trace_zeros bits) }
idle_read false bits = refl
idle_read true bits = refl

pub stretch_idle_zero : (over : Overrun) (n : ℕ) (bits : List Bool)
    → stretch_idle over n (false ∷ bits) ≡ stretch_idle over (n + 1) bits
stretch_idle_zero over zero bits =
    let e : suc (trace_zeros bits) ≡ 1 + trace_zeros bits = omega arith in
    parts_from_step over (InStretch Synced) false bits _
    (ap (λ f. in_stretch over f (false ∷ bits)) (idle_read over.phases bits))
    ∙ ap (λ m. Told (Idle m) ∷ resync_parts over (InStretch Synced) (drop (trace_zeros bits) bits)) e
stretch_idle_zero over (suc n) bits =
    let more : suc n + 1 ≡ suc (suc n) = omega arith in
    let same : suc n + suc (trace_zeros bits) ≡ suc (suc n) + trace_zeros bits = omega arith in
    ap (λ m. Told (Idle m) ∷ resync_parts over (InStretch Synced) (drop (trace_zeros bits) bits)) same
    ∙ ap (λ m. stretch_idle over m bits) (sym more)

-- in a stretch, after n idle cycles, k zeros are k more of them
pub stretch_idle_zeros : (over : Overrun) (n k : ℕ) (bits : List Bool)
    → stretch_idle over n (replicate k false ++ bits) ≡ stretch_idle over (n + k) bits
stretch_idle_zeros over n zero bits = ap (λ m. stretch_idle over m bits) (omega arith)
stretch_idle_zeros over n (suc k) bits =
    let e : n + 1 + k ≡ n + suc k = omega arith in
    stretch_idle_zero over n (replicate k false ++ bits) ∙ stretch_idle_zeros over (n + 1) k bits ∙ ap
    (λ m. stretch_idle over m bits) e

-- ---- ones of a reset

ones_before : (n : ℕ) (bits : List Bool) → trace_ones (replicate n true ++ bits) ≡ n + trace_ones bits
ones_before zero bits = let e : trace_ones bits ≡ 0 + trace_ones bits = omega arith in e
ones_before (suc n) bits = let h = ones_before n bits in
    let e : suc (n + trace_ones bits) ≡ suc n + trace_ones bits = omega arith in
    ap suc h ∙ e

drop_before : (n m : ℕ) (bits : List Bool) → drop (n + m) (replicate n true ++ bits) ≡ drop m bits
drop_before zero m bits = ap (λ k. drop k bits) (omega arith)
drop_before (suc n) m bits =
    let e : suc n + m ≡ suc (n + m) = omega arith in
    ap (λ k. drop k (true ∷ (replicate n true ++ bits))) e ∙ drop_before n m bits

-- after n ones of a line reset, k ones are k more of them
pub stretch_reset_ones : (over : Overrun) (n k : ℕ) (bits : List Bool)
    → stretch_reset over n (replicate k true ++ bits) ≡ stretch_reset over (n + k) bits
stretch_reset_ones over n k bits =
    let all : trace_ones (replicate k true ++ bits) ≡ k + trace_ones bits = ones_before k bits in
    let same : n + (k + trace_ones bits) ≡ n + k + trace_ones bits = omega arith in
    ap (λ m. Told (Reset (n + m)) ∷ resync_parts over (InStretch AfterReset) (drop m (replicate k true ++ bits))) all
    ∙ ap (λ m. Told (Reset m) ∷ resync_parts over (InStretch AfterReset)
    (drop (k + trace_ones bits) (replicate k true ++ bits))) same
    ∙ ap (λ x. Told (Reset (n + k + trace_ones bits)) ∷ resync_parts over (InStretch AfterReset) x)
    (drop_before k (trace_ones bits) bits)

-- fifty ones begin a reset, in any mode
pub stretch_fifty_ones_reset : (over : Overrun) (mode : Mode) (back : List Bool)
    → resync_parts over (InStretch mode) (replicate 50 true ++ back) ≡ stretch_reset over 50 back
stretch_fifty_ones_reset over mode back =
    let bits : List Bool = replicate 49 true ++ back in
    let n : trace_ones (true ∷ bits) ≡ 50 + trace_ones back = ones_before 50 back in
    let f : resync_first over.phases mode (true ∷ bits) ≡
    record { item = Reset (50 + trace_ones back); after = AfterReset; taken = 50 + trace_ones back } =
    resync_reset_first over.phases mode true bits (omega arith) ∙ ap
    (λ m. record { item = Reset m; after = AfterReset; taken = m }) n in
    parts_from_step over (InStretch mode) true bits _ (ap (λ g. in_stretch over g (true ∷ bits)) f)
    ∙ ap (λ x. Told (Reset (50 + trace_ones back)) ∷ resync_parts over (InStretch AfterReset) x)
    (drop_before 50 (trace_ones back) back)

-- ---- bits that are skipped

-- after n skipped bits, a bit at which no stretch begins is one more of them
pub skip_one_more : (over : Overrun) (n : ℕ) (b : Bool) (bits : List Bool)
    → begins_stretch over.phases (b ∷ bits) ≡ false
    → skip_rest over n (b ∷ bits) ≡ skip_rest over (n + 1) bits
skip_one_more over zero b bits e =
    let g : stretch_gap over.phases (b ∷ bits) ≡ 1 + stretch_gap over.phases bits = stretch_gap_none over.phases b bits
    e ∙ omega arith in
    let s : resync_step over Between (b ∷ bits) ≡ skip_bits over (1 + stretch_gap over.phases bits) =
    ap (λ t. if t then stretch_item over (resync_first over.phases Synced (b ∷ bits)) else skip_bits over
    (stretch_gap over.phases (b ∷ bits)))
    e ∙ ap (skip_bits over) g in
    let one : 1 + stretch_gap over.phases bits ≡ suc (stretch_gap over.phases bits) = omega arith in
    parts_from_step over Between b bits _ s
    ∙ ap (λ m. Skip (1 + stretch_gap over.phases bits) ∷ resync_parts over Between (drop m (b ∷ bits))) one
skip_one_more over (suc n) b bits e =
    let more : suc n + 1 ≡ suc (suc n) = omega arith in
    let same : suc n + suc (stretch_gap over.phases bits) ≡ suc (suc n) + stretch_gap over.phases bits = omega arith in
    ap (λ m. Skip (suc n + m) ∷ resync_parts over Between (drop m (b ∷ bits))) (stretch_gap_none over.phases b bits e)
    ∙ ap (λ m. Skip m ∷ resync_parts over Between (drop (stretch_gap over.phases bits) bits)) same ∙ ap
    (λ m. skip_rest over m bits) (sym more)

-- bits before the next stretch
pub skip_many_more : (over : Overrun) (n k : ℕ) (bits : List Bool) → k ≤ stretch_gap over.phases bits
    → skip_rest over n bits ≡ skip_rest over (n + k) (drop k bits)
skip_many_more over n zero bits h = ap (λ m. skip_rest over m bits) (omega arith)
skip_many_more over n (suc k) [] h = absurd (omega arith)
skip_many_more over n (suc k) (b ∷ bits) h = elim (trace_bit_cases (begins_stretch over.phases (b ∷ bits))) [
  | inl here ↦ (let none = stretch_gap_here over.phases (b ∷ bits) here in absurd (omega arith))
  | inr other ↦
      let more = stretch_gap_none over.phases b bits other in
      let e : n + 1 + k ≡ n + suc k = omega arith in
      skip_one_more over n b bits other ∙ skip_many_more over (n + 1) k bits (omega arith)
      ∙ ap (λ m. skip_rest over m (drop k bits)) e
]

-- after some skipped bits, where the next stretch begins here or no bits are left, those bits are one part
pub skip_ends_as_part : (over : Overrun) (n : ℕ) (bits : List Bool) → 0 < n → stretch_gap over.phases bits ≡ 0
    → skip_rest over n bits ≡ Skip n ∷ skip_rest over 0 bits
skip_ends_as_part over zero bits h e = absurd (omega arith)
skip_ends_as_part over (suc n) bits h e =
    let none : suc n + 0 ≡ suc n = omega arith in
    ap (λ m. Skip (suc n + m) ∷ resync_parts over Between (drop m bits)) e ∙ ap
    (λ m. Skip m ∷ resync_parts over Between bits) none

-- ---- a stretch begins

acknowledged : (end : TxEnd) (bits : List Bool) → resync_is_sound end ≡ true
    → stretch_after_tx end bits ≡ stretch_continues bits
acknowledged (Moved word ok) bits e = refl
acknowledged Wait bits e = refl
acknowledged Fault bits e = refl
acknowledged (NoAck seen) bits e = absurd cc

-- behind a sound transaction that another follows, the stretch goes on
sound_followed : (item : Item) (n : ℕ) (bits : List Bool) → nat_le 1 (resync_sound_bits item n) ≡ true
    → resync_sound_next (drop (resync_sound_bits item n) bits) ≡ true
    → stretch_after_item item (drop n bits) ≡ true
sound_followed (Tx tx) n bits e f =
    stand_by_test (resync_is_sound tx.result) n 0 (λ m. nat_le 1 m ≡ true → resync_sound_next (drop m bits) ≡ true
    → stretch_after_tx tx.result (drop n bits) ≡ true) (λ s e f. acknowledged tx.result (drop n bits) s
    ∙ ap not (resync_sound_not_junk (resync_first false Synced (past_zeros (drop n bits))).item
    (resync_first false Synced (past_zeros (drop n bits))).taken f))
    (λ s e f. absurd cc) e f
sound_followed (Reset m) n bits e f = refl
sound_followed Switch n bits e f = refl
sound_followed (Idle m) n bits e f = refl
sound_followed (Junk b) n bits e f = absurd cc
sound_followed (Cut off) n bits e f = refl

follows_begin : (phases : Bool) (bits : List Bool) → begins_stretch phases bits ≡ true
    → stretch_after_item (resync_first phases Synced bits).item (drop (resync_first phases Synced bits).taken bits)
    ≡ true
follows_begin phases [] e = refl
follows_begin phases (b ∷ bits) e =
    elim (or_cases (nat_le 50 (trace_ones (b ∷ bits))) (pair phases (b ∷ bits)) e) [
      | inl many ↦ ap (λ f. stretch_after_item f.item (drop f.taken (b ∷ bits)))
          (resync_reset_first phases Synced b bits (leb-true 50 (trace_ones (b ∷ bits)) many))
      | inr both ↦
          let p = and_parts (nat_le 1 (resync_sound phases (b ∷ bits)))
          (resync_sound_next (drop (resync_sound phases (b ∷ bits)) (b ∷ bits))) both in
          sound_followed (resync_first phases Synced (b ∷ bits)).item (resync_first phases Synced (b ∷ bits)).taken
          (b ∷ bits) p.0 p.1
    ]

-- in a stretch, an item that isn't junk, and after which the stretch continues, is reported
pub stretch_told : (over : Overrun) (f : FirstItem) (bits : List Bool) → resync_is_junk f.item ≡ false
    → stretch_after_item f.item (drop f.taken bits) ≡ true → in_stretch over f bits ≡ stretch_item over f
stretch_told over f bits j e =
    ap (λ t. if t then stretch_or_skip over bits else if stretch_after_item f.item (drop f.taken bits)
    then stretch_item over f else if has_other_length over.phases f.item bits then other_length_step over f.item
    else item_or_withdrawn over f bits) j
    ∙ ap (λ t. if t then stretch_item over f else if has_other_length over.phases f.item bits
    then other_length_step over f.item else item_or_withdrawn over f bits) e

-- where a stretch begins, the parts between stretches are those in a stretch in mode synced
pub stretch_from : (over : Overrun) (bits : List Bool) → begins_stretch over.phases bits ≡ true
    → resync_parts over Between bits ≡ resync_parts over (InStretch Synced) bits
stretch_from over [] e = resync_parts_none over Between ∙ sym (resync_parts_none over (InStretch Synced))
stretch_from over (b ∷ bits) e =
    let f = resync_first over.phases Synced (b ∷ bits) in
    let s : resync_step over Between (b ∷ bits) ≡ stretch_item over f =
    ap (λ t. if t then stretch_item over f else skip_bits over (stretch_gap over.phases (b ∷ bits))) e in
    let r : resync_step over (InStretch Synced) (b ∷ bits) ≡ stretch_item over f =
    stretch_told over f (b ∷ bits) (stretch_begin_not_junk over.phases (b ∷ bits) e)
    (follows_begin over.phases (b ∷ bits) e) in
    parts_from_step over Between b bits (stretch_item over f) s ∙ sym
    (parts_from_step over (InStretch Synced) b bits (stretch_item over f) r)

-- ---- a stretch ends

-- where a stretch comes to a junk bit, its parts from there on are those between stretches
pub stretch_lost_to_between : (over : Overrun) (mode : Mode) (b c : Bool) (bits : List Bool)
    → resync_first over.phases mode (b ∷ bits) ≡ junk_first_item c
    → resync_parts over (InStretch mode) (b ∷ bits) ≡ resync_parts over Between (b ∷ bits)
stretch_lost_to_between over mode b c bits e =
    parts_from_step over (InStretch mode) b bits (stretch_or_skip over (b ∷ bits))
    (ap (λ f. in_stretch over f (b ∷ bits)) e) ∙ sym
    (parts_from_step over Between b bits (stretch_or_skip over (b ∷ bits)) refl)

-- where a junk bit is read first, no stretch begins
pub junk_begins : (phases : Bool) (bits : List Bool) → resync_first phases Synced bits ≡ junk_first_item true
    → begins_stretch phases bits ≡ false
junk_begins phases bits e =
    ap (λ t. t || pair phases bits) (sight_not_fifty phases bits (ap (λ f. judged_reset f.item) e))
    ∙ ap (λ n. nat_le 1 n && resync_sound_next (drop n bits)) (ap (λ f. resync_sound_bits f.item f.taken) e)

-- in a stretch, a one that is junk is the first skipped bit
pub stretch_junk_skipped : (over : Overrun) (b : Bool) (bits : List Bool)
    → resync_first over.phases Synced (b ∷ bits) ≡ junk_first_item true
    → stretch_idle over 0 (b ∷ bits) ≡ skip_rest over 1 bits
stretch_junk_skipped over b bits e = stretch_lost_to_between over Synced b true bits e ∙ skip_one_more over 0 b bits
    (junk_begins over.phases (b ∷ bits) e)

-- in a stretch, where all the bits are cut, that item is the only part
pub stretch_cut_last : (over : Overrun) (mode : Mode) (bits : List Bool) → bits ≢ []
    → resync_first over.phases mode bits ≡ cut_first_item bits
    → resync_parts over (InStretch mode) bits ≡ Told (Cut (record { len = length bits; bits = bits_number bits })) ∷ []
stretch_cut_last over mode bits n e =
    parts_from_bits over (InStretch mode) bits (stretch_item over (cut_first_item bits)) n
    (ap (λ f. in_stretch over f bits) e) ∙ ap
    (λ x. Told (Cut (record { len = length bits; bits = bits_number bits })) ∷ x)
    (ap (resync_parts over (InStretch Synced)) (drop_all (length bits) bits (omega arith)) ∙ resync_parts_none over
    (InStretch Synced))

-- ---- a transaction in a stretch

-- in a stretch, where a transaction is read first, the parts are that of its step and those after it
pub stretch_tx_first_parts : (over : Overrun) (tx : Transaction) (len : ℕ) (s : ResyncStep) (bits : List Bool)
    → bits ≢ []
    → resync_first over.phases Synced bits ≡ whole_tx_item tx len → in_stretch over (whole_tx_item tx len) bits ≡ s
    → stretch_idle over 0 bits ≡ s.part ∷ resync_parts s.over s.after (drop s.taken bits)
stretch_tx_first_parts over tx len s bits n e f =
    parts_from_bits over (InStretch Synced) bits s n (ap (λ g. in_stretch over g bits) e ∙ f)

-- ---- the front of the capture

pub zero_begins_no_stretch : (phases : Bool) (bits : List Bool) → begins_stretch phases (false ∷ bits) ≡ false
zero_begins_no_stretch false bits = refl
zero_begins_no_stretch true bits = refl

pub resync_start_zero : (over : Overrun) (n : ℕ) (bits : List Bool) →
    (if stretch_at_start over.phases (false ∷ bits) then stretch_idle over n (false ∷ bits) else skip_rest over n
    (false ∷ bits))
    ≡ (if stretch_at_start over.phases bits then stretch_idle over (n + 1) bits else skip_rest over (n + 1) bits)
resync_start_zero over n bits =
    ap (λ x. if stretch_at_start over.phases bits then x else skip_rest over n (false ∷ bits))
    (stretch_idle_zero over n bits)
    ∙ ap (λ x. if stretch_at_start over.phases bits then stretch_idle over (n + 1) bits else x)
    (skip_one_more over n false bits (zero_begins_no_stretch over.phases bits))

-- at the front of a capture, after n zeros, k zeros are counted with them
pub resync_start_zeros : (over : Overrun) (n k : ℕ) (bits : List Bool) →
    parts_at_stage over (Start n) (replicate k false ++ bits) ≡ parts_at_stage over (Start (n + k)) bits
resync_start_zeros over n zero bits = ap (λ m. parts_at_stage over (Start m) bits) (omega arith)
resync_start_zeros over n (suc k) bits =
    let e : n + 1 + k ≡ n + suc k = omega arith in
    resync_start_zero over n (replicate k false ++ bits) ∙ resync_start_zeros over (n + 1) k bits
    ∙ ap (λ m. parts_at_stage over (Start m) bits) e

-- where no zero is at its front, a capture begins with a stretch where the stretch continues after what is read first,
-- or that has its other length
pub resync_start_no_zero : (phases : Bool) (bits : List Bool) (f : FirstItem) → past_zeros bits ≡ bits
    → resync_first phases Synced bits ≡ f → stretch_at_start phases bits
    ≡ (stretch_after_item f.item (drop f.taken bits) || has_other_length phases f.item bits)
resync_start_no_zero phases bits f p e =
    ap (λ x. stretch_after_item (resync_first phases Synced x).item (drop (resync_first phases Synced x).taken x)
    || has_other_length phases (resync_first phases Synced x).item x) p
    ∙ ap (λ g. stretch_after_item g.item (drop g.taken bits) || has_other_length phases g.item bits) e
