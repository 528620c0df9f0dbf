-- Laws of the steps of a reader of captures.
use Rattle.std.proofs.Common.{◌≡◌, ◌≢◌, ℕ, zero, suc, ◌+◌, ◌*◌, ◌<◌, ◌≤◌, Bool, true, false, List, [], ◌∷◌, ◌++◌}
use Rattle.std.proofs.Common.{length, drop, replicate, arith, refl, sym, ap, ◌∙◌, subst}
use Rattle.std.specs.Prelude.{◌-◌, ◌||◌, min, if◌then◌else◌, Some, None}
use Rattle.std.proofs.lemmas.List.{append_assoc, append-nil, length-append, drop_at, drop_all, drop-append-le}
use Rattle.std.proofs.lemmas.List.{length-replicate, length-drop, drop-drop}
use Rattle.swd_bits.specs.Bits.{bits_number}
use Rattle.swd_bits.specs.BitLists.{tx_bits_of, IsWellFormedTxBits}
use Rattle.swd_bits.specs.declared.tx_bits.TxBits.{TxBits}
use Rattle.swd_bits.specs.declared.tx.Tx.{Tx as Transaction}
use Rattle.swd_bits.proofs.BitsLemmas.{length-low_bits, number-low_bits}
use Rattle.swd_trace.specs.declared.item.Item.{Item}
use Rattle.swd_trace.specs.declared.item.Item.TheVariants.{Reset, Switch, Idle, Tx, Junk, Cut}
use Rattle.swd_trace.specs.declared.mode.Mode.{Mode}
use Rattle.swd_trace.specs.declared.mode.Mode.TheVariants.{Synced, AfterReset, AfterSwitch}
use Rattle.swd_trace.specs.Reading.{trace_ones, trace_all_ones, FirstItem, cut_first_item, junk_first_item}
use Rattle.swd_trace.specs.Reading.{whole_tx_item, first_item, switch_item, trace_begins_with, decoder_mode_after_tx}
use Rattle.swd_trace.proofs.ReadingLemmas.{trace_ones_end_at_zero, junk_item_after_switch, cut_item_ones_after_switch}
use Rattle.swd_resync.specs.declared.overrun.Overrun.{Overrun}
use Rattle.swd_resync.specs.declared.part.Part.{Part}
use Rattle.swd_resync.specs.declared.part.Part.TheVariants.{Item as Told, Phased, Skip}
use Rattle.swd_resync.specs.declared.stage.RemovalStage.{RemovalStage}
use Rattle.swd_resync.specs.declared.stage.RemovalStage.TheVariants.{Start, Stretch, Reset as InReset}
use Rattle.swd_resync.specs.declared.stage.RemovalStage.TheVariants.{AfterReset as BehindReset}
use Rattle.swd_resync.specs.declared.stage.RemovalStage.TheVariants.{AfterSwitch as BehindSwitch, AfterPhase}
use Rattle.swd_resync.specs.declared.stage.RemovalStage.TheVariants.{Between as Skipping}
use Rattle.swd_resync.specs.declared.stage.Move.{Move}
use Rattle.swd_resync.specs.Parts.{resync_first, resync_with_phase, past_zeros, begins_stretch, stretch_gap}
use Rattle.swd_resync.specs.Parts.{stretch_at_start, stretch_after_item, in_stretch, InStretch, Between, stretch_item}
use Rattle.swd_resync.specs.Parts.{skip_bits, resync_step, resync_parts, resync_place_after, resync_told, AtPhase}
use Rattle.swd_resync.specs.Parts.{ResyncStep, resync_is_junk, has_other_length, other_tx_len, other_length_step}
use Rattle.swd_resync.specs.Parts.{overrun_after_tx, overrun_turned, synced_step, skip_phase, skip_before_step}
use Rattle.swd_resync.specs.Sights.{SightMore, IsTxSight}
use Rattle.swd_resync.specs.Stages.{stretch_idle, stretch_reset, skip_rest, parts_at_stage, resync_stage_counted}
use Rattle.swd_resync.specs.Stages.{resync_stage_rank, stretch_after_phase, ResyncMove, ResyncStill}
use Rattle.swd_resync.specs.Stages.{stretch_other_length_move, stretch_stage_behind, stretch_fate_move}
use Rattle.swd_resync.specs.Stages.{stretch_phase_move}
use Rattle.swd_resync.specs.Judged.{stretch_tx_step, IsTxFate}
use Rattle.swd_resync.specs.declared.judge.TxFate.{TxFate}
use Rattle.swd_resync.specs.declared.judge.TxFate.TheVariants.{Reported, OtherLength, Withdrawn}
use Rattle.swd_bits.specs.declared.tx.TxEnd.{TxEnd}
use Rattle.swd_bits.specs.declared.tx.TxEnd.TheVariants.{Moved, Wait, Fault, NoAck}
use Rattle.swd_resync.proofs.PartLemmas.{resync_parts_none, parts_from_step}
use Rattle.swd_resync.proofs.StepLemmas.{stretch_gap_here, resync_is_skip, resync_told_no_skip}
use Rattle.swd_resync.proofs.JudgeLemmas.{judged_near_of_few, judged_near_widened, judged_no_more}
use Rattle.swd_resync.proofs.StageLemmas.{stretch_idle_zeros, stretch_reset_ones, stretch_fifty_ones_reset}
use Rattle.swd_resync.proofs.StageLemmas.{skip_one_more, skip_many_more, skip_ends_as_part, stretch_from}
use Rattle.swd_resync.proofs.StageLemmas.{stretch_lost_to_between, stretch_junk_skipped, stretch_cut_last}
use Rattle.swd_resync.proofs.StageLemmas.{stretch_tx_first_parts, resync_start_zeros, resync_start_no_zero}
use Rattle.swd_resync.proofs.StageLemmas.{stretch_told, parts_from_bits, junk_begins}

-- ---- no step

-- a decoder of captures may wait where it holds fewer than fifty bits and more may follow
pub stretch_waits_few : (over : Overrun) (ended : Bool) (stage : RemovalStage) (bits : List Bool) → ended ≡ false
    → length bits < 50
    → ResyncStill over ended stage bits
stretch_waits_few over ended stage bits e h = record {
  near = λ f. judged_near_widened 0 92 bits (omega arith) (judged_near_of_few bits h);
  none = λ f. absurd cc;
}

-- a decoder of captures that holds no bits has no step to make at a stage whose reading of no bits is empty
pub stretch_waits_empty : (over : Overrun) (ended : Bool) (stage : RemovalStage) (bits : List Bool) → bits ≡ []
    → parts_at_stage over stage [] ≡ [] → ResyncStill over ended stage bits
stretch_waits_empty over ended stage bits e h =
    let l : length bits ≡ 0 = ap length e in
    record {
      near = λ f. judged_near_widened 0 92 bits (omega arith) (judged_near_of_few bits (omega arith));
      none = λ f. ap (parts_at_stage over stage) e ∙ h;
    }

-- ---- at the front of the capture

rank_stretch : (n : ℕ) → resync_stage_rank (Stretch n) < 5
rank_stretch zero = omega arith
rank_stretch (suc n) = omega arith

rank_skip : (n : ℕ) → resync_stage_rank (Skipping n) < 5
rank_skip zero = omega arith
rank_skip (suc n) = omega arith

-- a run of equal bits, in stages that count them
run_passes : (over : Overrun) (ended : Bool) (old new : RemovalStage) (k : ℕ) (bit : Bool) (bits back : List Bool)
    → bits ≡ replicate k bit ++ back → 0 < k → k ≤ 50 → resync_stage_counted new ≤ resync_stage_counted old + k
    → resync_stage_rank new ≤ resync_stage_rank old + 5
    → ((x : List Bool) → parts_at_stage over old (replicate k bit ++ x) ≡ parts_at_stage over new x)
    → ResyncMove over ended old bits (record { count = k; over = over; stage = new; part = None })
run_passes over ended old new k bit bits back e some short c r s =
    let l : length bits ≡ length (replicate k bit) + length back = ap length e ∙ length-append (replicate k bit) back in
    let n : length (replicate k bit) ≡ k = length-replicate k bit in
    let behind : drop k bits ≡ back = ap (drop k) e ∙ drop_at (replicate k bit) back k n in
    record {
      fits = omega arith;
      short = short;
      count = c;
      fewer = omega arith;
      law = λ more may. ap (λ x. parts_at_stage over old (x ++ more)) e
          ∙ ap (parts_at_stage over old) (append_assoc (replicate k bit) back more) ∙ s (back ++ more)
          ∙ ap (λ x. parts_at_stage over new (x ++ more)) (sym behind);
    }

-- at the front of a capture, a step may remove up to fifty zeros and count them
pub resync_start_counts_zeros : (over : Overrun) (ended : Bool) (n k : ℕ) (bits back : List Bool)
    → bits ≡ replicate k false ++ back
    → 0 < k → k ≤ 50 → ResyncMove over ended (Start n) bits
    (record { count = k; over = over; stage = Start (n + k); part = None })
resync_start_counts_zeros over ended n k bits back e some short =
    run_passes over ended (Start n) (Start (n + k)) k false bits back e some short (omega arith) (omega arith)
    (resync_start_zeros over n k)

-- at the front of a capture, where a stretch begins with it, the zeros so far become idle cycles
pub resync_start_to_stretch : (over : Overrun) (ended : Bool) (n : ℕ) (bits : List Bool) (m : Move)
    → m ≡ record { count = 0; over = over; stage = Stretch n; part = None }
    → ((more : List Bool) → SightMore ended more → stretch_at_start over.phases (bits ++ more) ≡ true)
    → ResyncMove over ended (Start n) bits m
resync_start_to_stretch over ended n bits m e t =
    let r = rank_stretch n in
    subst (ResyncMove over ended (Start n) bits) (sym e) (record {
      fits = omega arith;
      short = omega arith;
      count = omega arith;
      fewer = omega arith;
      law = λ more may. ap (λ t. if t then stretch_idle over n (bits ++ more) else skip_rest over n (bits ++ more))
          (t more may);
    })

-- at the front of a capture, where no stretch begins with it, the zeros so far become skipped bits
pub resync_start_to_skip : (over : Overrun) (ended : Bool) (n : ℕ) (bits : List Bool) (m : Move)
    → m ≡ record { count = 0; over = over; stage = Skipping n; part = None }
    → ((more : List Bool) → SightMore ended more → stretch_at_start over.phases (bits ++ more) ≡ false)
    → ResyncMove over ended (Start n) bits m
resync_start_to_skip over ended n bits m e t =
    let r = rank_skip n in
    subst (ResyncMove over ended (Start n) bits) (sym e) (record {
      fits = omega arith;
      short = omega arith;
      count = omega arith;
      fewer = omega arith;
      law = λ more may. ap (λ t. if t then stretch_idle over n (bits ++ more) else skip_rest over n (bits ++ more))
          (t more may);
    })

-- whether an item is idle cycles
abbrev pub resync_is_idle : Item → Bool
resync_is_idle (Idle n) = true
resync_is_idle (Reset n) = false
resync_is_idle Switch = false
resync_is_idle (Tx tx) = false
resync_is_idle (Junk b) = false
resync_is_idle (Cut bits) = false

-- where what is read first in mode synced isn't idle cycles, no zero is at the front
pub resync_not_idle_no_zero : (over : Bool) (bits : List Bool)
    → resync_is_idle (resync_first over Synced bits).item ≡ false → past_zeros bits ≡ bits
resync_not_idle_no_zero over [] e = refl
resync_not_idle_no_zero over (true ∷ bits) e = refl
resync_not_idle_no_zero false (false ∷ bits) e = absurd cc
resync_not_idle_no_zero true (false ∷ bits) e = absurd cc

-- whether the capture begins with a stretch, from what is read first
pub resync_start_by_first : (over : Bool) (bits : List Bool) (f : FirstItem) → resync_first over Synced bits ≡ f
    → resync_is_idle f.item ≡ false → stretch_at_start over bits
    ≡ (stretch_after_item f.item (drop f.taken bits) || has_other_length over f.item bits)
resync_start_by_first over bits f e i = resync_start_no_zero over bits f
    (resync_not_idle_no_zero over bits (ap (λ g. resync_is_idle g.item) e ∙ i)) e

-- ---- in a stretch

-- in a stretch, a step may remove up to fifty zeros and count them as idle cycles
pub stretch_counts_idle : (over : Overrun) (ended : Bool) (n k : ℕ) (bits back : List Bool)
    → bits ≡ replicate k false ++ back
    → 0 < k
    → k ≤ 50 → ResyncMove over ended (Stretch n) bits
    (record { count = k; over = over; stage = Stretch (n + k); part = None })
stretch_counts_idle over ended n k bits back e some short =
    let r = rank_stretch (n + k) in
    run_passes over ended (Stretch n) (Stretch (n + k)) k false bits back e some short (omega arith) (omega arith)
    (stretch_idle_zeros over n k)

-- ones of a reset
pub stretch_counts_reset_ones : (over : Overrun) (ended : Bool) (n k : ℕ) (bits back : List Bool)
    → bits ≡ replicate k true ++ back
    → 0 < k
    → k ≤ 50 → ResyncMove over ended (InReset n) bits
    (record { count = k; over = over; stage = InReset (n + k); part = None })
stretch_counts_reset_ones over ended n k bits back e some short =
    run_passes over ended (InReset n) (InReset (n + k)) k true bits back e some short (omega arith) (omega arith)
    (stretch_reset_ones over n k)

-- fifty ones, in the stages that a mode stands for
pub stretch_enters_reset : (over : Overrun) (ended : Bool) (stage : RemovalStage) (mode : Mode) (bits back : List Bool)
    → bits ≡ replicate 50 true ++ back
    → ((x : List Bool) → parts_at_stage over stage x ≡ resync_parts over (InStretch mode) x)
    → ResyncMove over ended stage bits (record { count = 50; over = over; stage = InReset 50; part = None })
stretch_enters_reset over ended stage mode bits back e s =
    let l : length bits ≡ 50 + length back = ap length e ∙ length-append (replicate 50 true) back in
    let behind : drop 50 bits ≡ back = ap (drop 50) e ∙ drop_at (replicate 50 true) back 50 refl in
    record {
      fits = omega arith;
      short = omega arith;
      count = omega arith;
      fewer = omega arith;
      law = λ more may. s (bits ++ more)
          ∙ ap (resync_parts over (InStretch mode)) (ap (λ x. x ++ more) e ∙ append_assoc (replicate 50 true) back more)
          ∙ stretch_fifty_ones_reset over mode (back ++ more) ∙ ap (λ x. stretch_reset over 50 (x ++ more))
          (sym behind);
    }

-- in a stretch, without idle cycles to report, a junk bit ends it and is the first skipped bit
pub stretch_ends_at_junk : (over : Overrun) (ended : Bool) (bits : List Bool) → bits ≢ []
    → ((more : List Bool) → resync_first over.phases Synced (bits ++ more) ≡ junk_first_item true)
    → ResyncMove over ended (Stretch 0) bits (record { count = 1; over = over; stage = Skipping 1; part = None })
stretch_ends_at_junk over ended [] n e = absurd (n refl)
stretch_ends_at_junk over ended (b ∷ bits) n e = record {
  fits = omega arith;
  short = omega arith;
  count = omega arith;
  fewer = omega arith;
  law = λ more may. stretch_junk_skipped over b (bits ++ more) (e more);
}

same_cut : (off : TxBits) (bits : List Bool) → bits ≡ tx_bits_of off → IsWellFormedTxBits off
    → record { len = length bits; bits = bits_number bits } ≡ off
same_cut off bits e s =
    ap (λ x. record { len = length x; bits = bits_number x }) e
    ∙ ap (λ n. record { len = n; bits = bits_number (tx_bits_of off) }) (length-low_bits off.len off.bits)
    ∙ ap (λ v. record { len = off.len; bits = v }) (number-low_bits off.len off.bits s)

some_length : (bits : List Bool) → 0 < length bits → bits ≢ []
some_length [] h = absurd (omega arith)
some_length (b ∷ bits) h = λ e. cc

-- the end is cut off, in the stages that a mode stands for
pub stretch_cut_move : (over : Overrun) (stage : RemovalStage) (mode : Mode) (off : TxBits) (bits : List Bool)
    (ended : Bool) → ended ≡ true
    → bits ≡ tx_bits_of off → IsWellFormedTxBits off → 0 < length bits → length bits < 50
    → resync_first over.phases mode bits ≡ cut_first_item bits
    → ((x : List Bool) → parts_at_stage over stage x ≡ resync_parts over (InStretch mode) x)
    → ResyncMove over ended stage bits (record {
      count = off.len;
      over = over;
      stage = Stretch 0;
      part = Some
          (Told (Cut off));
    })
stretch_cut_move over stage mode off bits ended at_end e spelled some few f s =
    let l : length bits ≡ off.len = ap length e ∙ length-low_bits off.len off.bits in
    let r = resync_stage_rank stage in
    record {
      fits = omega arith;
      short = omega arith;
      count = omega arith;
      fewer = omega arith;
      law = λ more may.
          let none : more ≡ [] = may at_end in
          let all : drop off.len bits ≡ [] = drop_all off.len bits (omega arith) in
          s (bits ++ more) ∙ ap (resync_parts over (InStretch mode)) (judged_no_more bits more none)
          ∙ stretch_cut_last over mode bits (some_length bits some) f
          ∙ ap (λ c. Told (Cut c) ∷ []) (same_cut off bits e spelled)
          ∙ ap (λ x. Told (Cut off) ∷ x) (sym (ap (λ x. stretch_idle over 0 (x ++ more)) all
          ∙ ap (stretch_idle over 0) none ∙ resync_parts_none over (InStretch Synced)));
    }

-- ---- a transaction

-- the stage after a transaction is its mode's place
stage_behind : (o : Overrun) (end : TxEnd) (x : List Bool) → parts_at_stage o (stretch_stage_behind end) x
    ≡ resync_parts o (resync_place_after (decoder_mode_after_tx end)) x
stage_behind o (Moved word ok) x = refl
stage_behind o Wait x = refl
stage_behind o Fault x = refl
stage_behind o (NoAck seen) x = refl

counted_behind : (end : TxEnd) → resync_stage_counted (stretch_stage_behind end) ≡ 0
counted_behind (Moved word ok) = refl
counted_behind Wait = refl
counted_behind Fault = refl
counted_behind (NoAck seen) = refl

rank_behind : (end : TxEnd) → resync_stage_rank (stretch_stage_behind end) ≤ 2
rank_behind (Moved word ok) = omega arith
rank_behind Wait = omega arith
rank_behind Fault = omega arith
rank_behind (NoAck seen) = omega arith

-- in a stretch, without idle cycles to report, a transaction that is reported is removed whole, and the next stage
-- is that of its result
stretch_tx_reported : (over : Overrun) (ended : Bool) (tx : Transaction) (len : ℕ) (bits : List Bool)
    → IsTxSight over.phases tx len bits
    → ((more : List Bool) → SightMore ended more
    → in_stretch over (whole_tx_item tx len) (bits ++ more) ≡ stretch_item over (whole_tx_item tx len))
    → ResyncMove over ended (Stretch 0) bits (stretch_fate_move over tx len Reported)
stretch_tx_reported over ended tx len bits seen t =
    let some : 12 ≤ len = seen.some in
    let most : len ≤ 46 = seen.most in
    let fits : len ≤ length bits = seen.fits in
    let counted = counted_behind tx.result in
    let rank = rank_behind tx.result in
    record {
      fits = fits;
      short = omega arith;
      count = omega arith;
      fewer = omega arith;
      law = λ more may.
          let l : length (bits ++ more) ≡ length bits + length more = length-append bits more in
          let next = overrun_after_tx over tx.request tx.result in
          stretch_tx_first_parts over tx len (stretch_item over (whole_tx_item tx len)) (bits ++ more)
          (some_length (bits ++ more) (omega arith)) (seen.first more) (t more may)
          ∙ ap (λ x. resync_told over.phases (Tx tx) ∷ x)
          (sym (stage_behind next tx.result (drop len (bits ++ more)))
          ∙ ap (parts_at_stage next (stretch_stage_behind tx.result)) (drop-append-le len bits more fits));
    }

-- in a stretch, without idle cycles to report, the bits that are skipped of a transaction that is withdrawn are
-- removed as one part
stretch_tx_withdrawn : (over : Overrun) (ended : Bool) (tx : Transaction) (len count : ℕ) (bits : List Bool)
    → IsTxSight over.phases tx len bits → 0 < count → count ≤ len
    → ((more : List Bool) → SightMore ended more
    → in_stretch over (whole_tx_item tx len) (bits ++ more) ≡ skip_bits over count)
    → ResyncMove over ended (Stretch 0) bits (record
    { count = count; over = over; stage = Skipping 0; part = Some (Skip count) })
stretch_tx_withdrawn over ended tx len count bits seen h k t =
    let some : 12 ≤ len = seen.some in
    let most : len ≤ 46 = seen.most in
    let fits : len ≤ length bits = seen.fits in
    record {
      fits = omega arith;
      short = omega arith;
      count = omega arith;
      fewer = omega arith;
      law = λ more may.
          let l : length (bits ++ more) ≡ length bits + length more = length-append bits more in
          stretch_tx_first_parts over tx len (skip_bits over count) (bits ++ more)
          (some_length (bits ++ more) (omega arith))
          (seen.first more) (t more may)
          ∙ ap (λ x. Skip count ∷ resync_parts over Between x) (drop-append-le count bits more (omega arith));
    }

-- ---- the other length

min_few : (n m : ℕ) → n ≤ m → min n m ≡ n
min_few n m h = omega arith

by_phase : (over : Overrun) (n : ℕ) (bits : List Bool) (part : Part) (s : ResyncStep) → n ≡ 33
    → (skip_before_step over n part s).part
    ∷ resync_parts (skip_before_step over n part s).over (skip_before_step over n part s).after
    (drop (skip_before_step over n part s).taken bits)
    ≡ (skip_before_step over 33 part s).part
    ∷ resync_parts (skip_before_step over 33 part s).over (skip_before_step over 33 part s).after
    (drop ((skip_before_step over 33 part s).taken - 33) (drop 33 bits))
by_phase over n bits part s e =
    ap (λ m. (skip_before_step over m part s).part
    ∷ resync_parts (skip_before_step over m part s).over (skip_before_step over m part s).after
    (drop (skip_before_step over m part s).taken bits)) e ∙ behind part
  where
    behind : (part : Part) → (skip_before_step over 33 part s).part
        ∷ resync_parts (skip_before_step over 33 part s).over (skip_before_step over 33 part s).after
        (drop (skip_before_step over 33 part s).taken bits)
        ≡ (skip_before_step over 33 part s).part
        ∷ resync_parts (skip_before_step over 33 part s).over (skip_before_step over 33 part s).after
        (drop ((skip_before_step over 33 part s).taken - 33) (drop 33 bits))
    behind (Told item) = refl
    behind (Phased tx) = refl
    behind (Skip m) =
        let one : 33 + s.taken - 33 ≡ s.taken = omega arith in
        ap (λ x. Skip (33 + m) ∷ resync_parts s.over s.after x)
        (sym (drop-drop s.taken 33 bits) ∙ ap (λ k. drop k (drop 33 bits)) (sym one))

-- where a data phase that wasn't foreseen has all its bits, the parts are those behind it
pub stretch_at_phase : (over : Overrun) (bits : List Bool) → 33 ≤ length bits
    → resync_parts over AtPhase bits ≡ stretch_after_phase over (drop 33 bits)
stretch_at_phase over bits h =
    let n : min 33 (length bits) ≡ 33 = min_few 33 (length bits) h in
    parts_from_bits over AtPhase bits (skip_phase over bits) (some_length bits (omega arith)) refl
    ∙ by_phase over (min 33 (length bits)) bits (synced_step over (drop (min 33 (length bits)) bits)).part
    (synced_step over (drop (min 33 (length bits)) bits)) n
    ∙ ap (λ k. (skip_before_step over 33 (synced_step over (drop k bits)).part (synced_step over (drop k bits))).part
    ∷ resync_parts (skip_before_step over 33 (synced_step over (drop k bits)).part
    (synced_step over (drop k bits))).over
    (skip_before_step over 33 (synced_step over (drop k bits)).part (synced_step over (drop k bits))).after
    (drop ((skip_before_step over 33 (synced_step over (drop k bits)).part (synced_step over (drop k bits))).taken - 33)
    (drop 33 bits))) n

turned_parts : (over turned : Overrun) (tx : Transaction) (bits : List Bool) → other_tx_len over.phases ≤ length bits
    → Told (Tx tx) ∷ resync_parts turned (if over.phases then InStretch Synced else AtPhase) (drop 13 bits)
    ≡ Told (Tx tx) ∷ parts_at_stage turned (if over.phases then Stretch 0 else AfterPhase)
    (drop (other_tx_len over.phases) bits)
turned_parts over turned tx bits h = ap (λ x. Told (Tx tx) ∷ x) (by over.phases h)
  where
    by : (phases : Bool) → other_tx_len phases ≤ length bits
        → resync_parts turned (if phases then InStretch Synced else AtPhase) (drop 13 bits)
        ≡ parts_at_stage turned (if phases then Stretch 0 else AfterPhase) (drop (other_tx_len phases) bits)
    by true h = refl
    by false h =
        let l : length (drop 13 bits) ≡ length bits - 13 = length-drop 13 bits in
        stretch_at_phase turned (drop 13 bits) (omega arith) ∙ ap (stretch_after_phase turned) (drop-drop 33 13 bits)

turned_counted : (phases : Bool) (n : ℕ)
    → resync_stage_counted (if phases then Stretch 0 else AfterPhase) ≤ n + other_tx_len phases
turned_counted true n = omega arith
turned_counted false n = omega arith

turned_rank : (phases : Bool)
    → resync_stage_rank (if phases then Stretch 0 else AfterPhase) < 0 + 8 * other_tx_len phases
turned_rank true = omega arith
turned_rank false = omega arith

turned_short : (phases : Bool) → other_tx_len phases ≤ 50
turned_short true = omega arith
turned_short false = omega arith

-- in a stretch, without idle cycles to report, a transaction that has its other length is removed with the data phase
-- that wasn't foreseen
stretch_tx_turned : (over : Overrun) (ended : Bool) (tx : Transaction) (len : ℕ) (bits : List Bool)
    → IsTxSight over.phases tx len bits → other_tx_len over.phases ≤ length bits
    → ((more : List Bool) → SightMore ended more
    → in_stretch over (whole_tx_item tx len) (bits ++ more) ≡ other_length_step over (Tx tx))
    → ResyncMove over ended (Stretch 0) bits (stretch_other_length_move over tx)
stretch_tx_turned over ended tx len bits seen fits t =
    let some : 12 ≤ len = seen.some in
    let held : len ≤ length bits = seen.fits in
    record {
      fits = fits;
      short = turned_short over.phases;
      count = turned_counted over.phases 0;
      fewer = turned_rank over.phases;
      law = λ more may.
          let l : length (bits ++ more) ≡ length bits + length more = length-append bits more in
          stretch_tx_first_parts over tx len (other_length_step over (Tx tx)) (bits ++ more)
          (some_length (bits ++ more) (omega arith)) (seen.first more) (t more may)
          ∙ turned_parts over (overrun_turned over) tx (bits ++ more) (omega arith)
          ∙ ap (λ x. Told (Tx tx) ∷ parts_at_stage (overrun_turned over)
          (if over.phases then Stretch 0 else AfterPhase) x) (drop-append-le (other_tx_len over.phases) bits more fits);
    }

-- in a stretch, without idle cycles to report, a transaction is reported or withdrawn as is decided of it
pub stretch_tx_moves : (over : Overrun) (ended : Bool) (tx : Transaction) (len : ℕ) (fate : TxFate) (bits : List Bool)
    → IsTxSight over.phases tx len bits → IsTxFate over.phases tx len bits fate
    → ((more : List Bool) → SightMore ended more
    → in_stretch over (whole_tx_item tx len) (bits ++ more) ≡ stretch_tx_step over tx len fate)
    → ResyncMove over ended (Stretch 0) bits (stretch_fate_move over tx len fate)
stretch_tx_moves over ended tx len Reported bits seen fits t = stretch_tx_reported over ended tx len bits seen t
stretch_tx_moves over ended tx len OtherLength bits seen fits t = stretch_tx_turned over ended tx len bits seen fits t
stretch_tx_moves over ended tx len (Withdrawn n) bits seen fits t =
    stretch_tx_withdrawn over ended tx len n bits seen fits.0 fits.1 t

-- from what the step behind a data phase that wasn't foreseen computes to
phase_by_step : (over : Overrun) (bits : List Bool) (s : ResyncStep) → synced_step over bits ≡ s
    → stretch_after_phase over bits ≡ (skip_before_step over 33 s.part s).part
    ∷ resync_parts (skip_before_step over 33 s.part s).over (skip_before_step over 33 s.part s).after
    (drop ((skip_before_step over 33 s.part s).taken - 33) bits)
phase_by_step over bits s e = ap (λ s. (skip_before_step over 33 s.part s).part
    ∷ resync_parts (skip_before_step over 33 s.part s).over (skip_before_step over 33 s.part s).after
    (drop ((skip_before_step over 33 s.part s).taken - 33) bits)) e

-- after a data phase that wasn't foreseen, where no skip follows, its bits are one
phase_alone : (over : Overrun) (bits : List Bool) → resync_is_skip (synced_step over bits).part ≡ false
    → stretch_after_phase over bits ≡ Skip 33 ∷ resync_parts over (InStretch Synced) bits
phase_alone over bits e = by (synced_step over bits).part e
  where
    by : (part : Part) → resync_is_skip part ≡ false
        → (skip_before_step over 33 part (synced_step over bits)).part
        ∷ resync_parts (skip_before_step over 33 part (synced_step over bits)).over
        (skip_before_step over 33 part (synced_step over bits)).after
        (drop ((skip_before_step over 33 part (synced_step over bits)).taken - 33) bits)
        ≡ Skip 33 ∷ resync_parts over (InStretch Synced) bits
    by (Told item) e = refl
    by (Phased tx) e = refl
    by (Skip n) e = absurd cc

-- after a data phase that wasn't foreseen, where a part that isn't a skip follows, its bits are reported
pub stretch_phase_skipped : (over : Overrun) (ended : Bool) (bits : List Bool) (m : Move)
    → m ≡ record { count = 0; over = over; stage = Stretch 0; part = Some (Skip 33) }
    → ((more : List Bool) → SightMore ended more → resync_is_skip (synced_step over (bits ++ more)).part ≡ false)
    → ResyncMove over ended AfterPhase bits m
stretch_phase_skipped over ended bits m e t = subst (ResyncMove over ended AfterPhase bits) (sym e) (record {
  fits = omega arith;
  short = omega arith;
  count = omega arith;
  fewer = omega arith;
  law = λ more may. phase_alone over (bits ++ more) (t more may);
})

-- after a data phase that wasn't foreseen, what is read first in mode synced is reported, unless it is junk or a
-- transaction
pub stretch_phase_before : (over : Overrun) (bits : List Bool) (f : FirstItem)
    → resync_first over.phases Synced bits ≡ f → resync_is_junk f.item ≡ false
    → stretch_after_item f.item (drop f.taken bits) ≡ true → resync_is_skip (synced_step over bits).part ≡ false
stretch_phase_before over bits f e j g =
    ap (λ g. resync_is_skip (in_stretch over g bits).part) e
    ∙ ap (λ s. resync_is_skip s.part) (stretch_told over f bits j g)
    ∙ resync_told_no_skip over.phases f.item

-- after a data phase that wasn't foreseen, the bits of a transaction that is withdrawn are skipped with it
stretch_phase_withdrawn : (over : Overrun) (ended : Bool) (tx : Transaction) (len count : ℕ) (bits : List Bool)
    → IsTxSight over.phases tx len bits → 0 < count → count ≤ len
    → ((more : List Bool) → SightMore ended more
    → in_stretch over (whole_tx_item tx len) (bits ++ more) ≡ skip_bits over count)
    → ResyncMove over ended AfterPhase bits
    (record { count = count; over = over; stage = Skipping 0; part = Some (Skip (33 + count)) })
stretch_phase_withdrawn over ended tx len count bits seen h k t =
    let most : len ≤ 46 = seen.most in
    let fits : len ≤ length bits = seen.fits in
    record {
      fits = omega arith;
      short = omega arith;
      count = omega arith;
      fewer = omega arith;
      law = λ more may.
          let s : synced_step over (bits ++ more) ≡ skip_bits over count =
          ap (λ f. in_stretch over f (bits ++ more)) (seen.first more) ∙ t more may in
          let one : 33 + count - 33 ≡ count = omega arith in
          phase_by_step over (bits ++ more) (skip_bits over count) s
          ∙ ap (λ n. Skip (33 + count) ∷ resync_parts over Between (drop n (bits ++ more))) one
          ∙ ap (λ x. Skip (33 + count) ∷ resync_parts over Between x) (drop-append-le count bits more (omega arith));
    }

-- after a data phase that wasn't foreseen, it is reported, with what is skipped of a transaction behind it
pub stretch_phase_moves : (over : Overrun) (ended : Bool) (tx : Transaction) (len : ℕ) (fate : TxFate)
    (bits : List Bool) → IsTxSight over.phases tx len bits → IsTxFate over.phases tx len bits fate
    → ((more : List Bool) → SightMore ended more
    → in_stretch over (whole_tx_item tx len) (bits ++ more) ≡ stretch_tx_step over tx len fate)
    → ResyncMove over ended AfterPhase bits (stretch_phase_move over fate)
stretch_phase_moves over ended tx len Reported bits seen fits t =
    stretch_phase_skipped over ended bits (stretch_phase_move over Reported) refl (λ more may.
    ap (λ f. resync_is_skip (in_stretch over f (bits ++ more)).part) (seen.first more)
    ∙ ap (λ s. resync_is_skip s.part) (t more may) ∙ resync_told_no_skip over.phases (Tx tx))
stretch_phase_moves over ended tx len OtherLength bits seen fits t =
    stretch_phase_skipped over ended bits (stretch_phase_move over OtherLength) refl (λ more may.
    ap (λ f. resync_is_skip (in_stretch over f (bits ++ more)).part) (seen.first more)
    ∙ ap (λ s. resync_is_skip s.part) (t more may))
stretch_phase_moves over ended tx len (Withdrawn n) bits seen fits t =
    stretch_phase_withdrawn over ended tx len n bits seen fits.0 fits.1 t

-- after a data phase that wasn't foreseen, a one that is junk is one more skipped bit
pub stretch_phase_ends_at_junk : (over : Overrun) (ended : Bool) (bits : List Bool) → bits ≢ []
    → ((more : List Bool) → resync_first over.phases Synced (bits ++ more) ≡ junk_first_item true)
    → ResyncMove over ended AfterPhase bits (record { count = 1; over = over; stage = Skipping 34; part = None })
stretch_phase_ends_at_junk over ended [] n e = absurd (n refl)
stretch_phase_ends_at_junk over ended (b ∷ bits) n e = record {
  fits = omega arith;
  short = omega arith;
  count = omega arith;
  fewer = omega arith;
  law = λ more may.
      let none = junk_begins over.phases (b ∷ (bits ++ more)) (e more) in
      let one : 33 + stretch_gap over.phases (b ∷ (bits ++ more)) - 33 ≡ stretch_gap over.phases (b ∷ (bits ++ more)) =
      omega arith in
      let s : synced_step over (b ∷ (bits ++ more)) ≡ skip_bits over (stretch_gap over.phases (b ∷ (bits ++ more))) =
      ap (λ f. in_stretch over f (b ∷ (bits ++ more))) (e more)
      ∙ ap (λ t. if t then stretch_item over (resync_first over.phases Synced (b ∷ (bits ++ more)))
      else skip_bits over (stretch_gap over.phases (b ∷ (bits ++ more)))) none in
      phase_by_step over (b ∷ (bits ++ more)) _ s
      ∙ ap (λ n. Skip (33 + stretch_gap over.phases (b ∷ (bits ++ more))) ∷ resync_parts over Between
      (drop n (b ∷ (bits ++ more)))) one
      ∙ skip_one_more over 33 b (bits ++ more) none;
}

-- ---- behind a reset

switch_read : (phases : Bool) (bits : List Bool) → resync_first phases AfterReset (switch_item ++ bits)
    ≡ record { item = Switch; after = AfterSwitch; taken = 16 }
switch_read false bits = refl
switch_read true bits = refl

-- directly after a reset, a switch is removed and reported
pub stretch_switch_reported : (over : Overrun) (ended : Bool) (bits back : List Bool) → bits ≡ switch_item ++ back
    → ResyncMove over ended BehindReset bits (record
    { count = 16; over = over; stage = BehindSwitch; part = Some (Told Switch) })
stretch_switch_reported over ended bits back e =
    let l : length bits ≡ 16 + length back = ap length e ∙ length-append switch_item back in
    record {
      fits = omega arith;
      short = omega arith;
      count = omega arith;
      fewer = omega arith;
      law = λ more may. ap (λ x. resync_parts over (InStretch AfterReset) (x ++ more)) e
          ∙ parts_from_step over (InStretch AfterReset) false (drop 1 switch_item ++ (back ++ more)) _
          (ap (λ f. in_stretch over f (switch_item ++ (back ++ more))) (switch_read over.phases (back ++ more))) ∙ ap
          (λ x. Told Switch ∷ resync_parts over (InStretch AfterSwitch) (drop 16 x ++ more)) (sym e);
    }

no_switch_parts : (over : Overrun) (bits : List Bool) → trace_begins_with switch_item bits ≡ false
    → resync_parts over (InStretch AfterReset) bits ≡ resync_parts over (InStretch Synced) bits
no_switch_parts over [] e = resync_parts_none over (InStretch AfterReset) ∙ sym
    (resync_parts_none over (InStretch Synced))
no_switch_parts over (b ∷ bits) e =
    let f : first_item AfterReset b bits ≡ first_item Synced b bits = rw e refl in
    parts_from_step over (InStretch AfterReset) b bits (resync_step over (InStretch Synced) (b ∷ bits))
    (ap (λ g. in_stretch over (resync_with_phase over.phases g (b ∷ bits)) (b ∷ bits)) f)
    ∙ sym (parts_from_step over (InStretch Synced) b bits _ refl)

-- directly after a reset, where no switch comes, the stretch continues in mode synced with no bit removed
pub stretch_no_switch_move : (over : Overrun) (ended : Bool) (bits : List Bool) (m : Move)
    → m ≡ record { count = 0; over = over; stage = Stretch 0; part = None }
    → ((more : List Bool) → SightMore ended more → trace_begins_with switch_item (bits ++ more) ≡ false)
    → ResyncMove over ended BehindReset bits m
stretch_no_switch_move over ended bits m e t = subst (ResyncMove over ended BehindReset bits) (sym e) (record {
  fits = omega arith;
  short = omega arith;
  count = omega arith;
  fewer = omega arith;
  law = λ more may. no_switch_parts over (bits ++ more) (t more may);
})

-- ---- behind a switch

lost_behind : (over : Overrun) (bits : List Bool) → trace_all_ones bits ≡ false → trace_ones bits < 50
    → resync_parts over (InStretch AfterSwitch) bits ≡ resync_parts over Between bits
lost_behind over [] a h = absurd cc
lost_behind over (b ∷ bits) a h =
    stretch_lost_to_between over AfterSwitch b b bits (by over.phases (junk_item_after_switch b bits a h))
  where
    by : (phases : Bool) → first_item AfterSwitch b bits ≡ junk_first_item b
        → resync_first phases AfterSwitch (b ∷ bits) ≡ junk_first_item b
    by false f = f
    by true f = ap (λ g. resync_with_phase true g (b ∷ bits)) f

-- directly after a switch, where a zero is among the first fifty bits, the stretch ends with no bit removed
pub stretch_ends_after_switch : (over : Overrun) (ended : Bool) (front back bits : List Bool) (m : Move)
    → m ≡ record { count = 0; over = over; stage = Skipping 0; part = None } → bits ≡ front ++ back
    → trace_all_ones front ≡ false
    → length front ≤ 50 → ResyncMove over ended BehindSwitch bits m
stretch_ends_after_switch over ended front back bits m e f a h =
    subst (ResyncMove over ended BehindSwitch bits) (sym e) (record {
      fits = omega arith;
      short = omega arith;
      count = omega arith;
      fewer = omega arith;
      law = λ more may.
          let joined : bits ++ more ≡ front ++ (back ++ more) = ap (λ x. x ++ more) f ∙ append_assoc front back more in
          let o = trace_ones_end_at_zero front (back ++ more) a in
          let same : trace_ones (front ++ (back ++ more)) ≡ trace_ones front = o.0 in
          let few : trace_ones front < length front = o.1.1 in
          let here : trace_ones (bits ++ more) ≡ trace_ones (front ++ (back ++ more)) = ap trace_ones joined in
          lost_behind over (bits ++ more) (ap trace_all_ones joined ∙ o.1.0) (omega arith);
    })

-- directly after a switch, ones alone, fewer than fifty, are cut, with overrun detection or without
pub stretch_switch_ones_cut : (over : Bool) (n : ℕ) → 0 < n → n < 50
    → resync_first over AfterSwitch (replicate n true) ≡ cut_first_item (replicate n true)
stretch_switch_ones_cut over zero h k = absurd (omega arith)
stretch_switch_ones_cut false (suc n) h k = cut_item_ones_after_switch n k
stretch_switch_ones_cut true (suc n) h k =
    ap (λ g. resync_with_phase true g (true ∷ replicate n true)) (cut_item_ones_after_switch n k)

-- ---- between two stretches

-- between stretches, where the next one begins, the bits counted so far are reported as skipped
pub skip_reported : (over : Overrun) (ended : Bool) (n : ℕ) (bits : List Bool) (m : Move)
    → m ≡ record { count = 0; over = over; stage = Skipping 0; part = Some (Skip n) } → 0 < n
    → ((more : List Bool) → SightMore ended more → begins_stretch over.phases (bits ++ more) ≡ true)
    → ResyncMove over ended (Skipping n) bits m
skip_reported over ended zero bits m e h t = absurd (omega arith)
skip_reported over ended (suc n) bits m e h t = subst (ResyncMove over ended (Skipping (suc n)) bits) (sym e) (record {
  fits = omega arith;
  short = omega arith;
  count = omega arith;
  fewer = omega arith;
  law = λ more may. skip_ends_as_part over (suc n) (bits ++ more) h
      (stretch_gap_here over.phases (bits ++ more) (t more may));
})

-- between stretches, where the next one begins and no bits are counted, the stretch is entered with no bit removed
pub stretch_entered : (over : Overrun) (ended : Bool) (n : ℕ) (bits : List Bool) (m : Move)
    → m ≡ record { count = 0; over = over; stage = Stretch 0; part = None } → n ≡ 0
    → ((more : List Bool) → SightMore ended more → begins_stretch over.phases (bits ++ more) ≡ true)
    → ResyncMove over ended (Skipping n) bits m
stretch_entered over ended (suc n) bits m e h t = absurd (omega arith)
stretch_entered over ended zero bits m e h t = subst (ResyncMove over ended (Skipping zero) bits) (sym e) (record {
  fits = omega arith;
  short = omega arith;
  count = omega arith;
  fewer = omega arith;
  law = λ more may. stretch_from over (bits ++ more) (t more may);
})

-- bits before the next stretch, whatever follows
pub skip_counts_before_stretch : (over : Overrun) (ended : Bool) (n k : ℕ) (front back bits : List Bool)
    → bits ≡ front ++ back
    → 0 < k → k ≤ length front → k ≤ 50 → ((x : List Bool) → k ≤ stretch_gap over.phases (front ++ x))
    → ResyncMove over ended (Skipping n) bits (record { count = k; over = over; stage = Skipping (n + k); part = None })
skip_counts_before_stretch over ended n k front back bits e some fits short far =
    let r = rank_skip (n + k) in
    let l : length bits ≡ length front + length back = ap length e ∙ length-append front back in
    record {
      fits = omega arith;
      short = short;
      count = omega arith;
      fewer = omega arith;
      law = λ more may.
          let joined : bits ++ more ≡ front ++ (back ++ more) = ap (λ x. x ++ more) e ∙ append_assoc front back more in
          skip_many_more over n k (bits ++ more) (subst (λ x. k ≤ stretch_gap over.phases x) (sym joined)
          (far (back ++ more)))
          ∙ ap (skip_rest over (n + k)) (drop-append-le k bits more (omega arith));
    }

-- between stretches, a bit at which no stretch begins is removed and counted
pub skip_counts_bit : (over : Overrun) (ended : Bool) (n : ℕ) (b : Bool) (back bits : List Bool) → bits ≡ b ∷ back
    → ((more : List Bool) → SightMore ended more → begins_stretch over.phases (bits ++ more) ≡ false)
    → ResyncMove over ended (Skipping n) bits (record { count = 1; over = over; stage = Skipping (n + 1); part = None })
skip_counts_bit over ended n b back bits e t =
    let l : length bits ≡ suc (length back) = ap length e in
    record {
      fits = omega arith;
      short = omega arith;
      count = omega arith;
      fewer = more_left n;
      law = λ more may. ap (λ x. skip_rest over n (x ++ more)) e
          ∙ skip_one_more over n b (back ++ more) (sym (ap (λ x. begins_stretch over.phases (x ++ more)) e) ∙ t more
          may)
          ∙ ap (λ x. skip_rest over (n + 1) (drop 1 x ++ more)) (sym e);
    }
  where
    more_left : (n : ℕ) → resync_stage_rank (Skipping (n + 1)) < resync_stage_rank (Skipping n) + 8 * 1
    more_left n = let r = rank_skip (n + 1) in omega arith

-- ---- as the functions ask

-- bits that are a window with nothing behind it are as many as the window has
pub resync_window_length : (bits : List Bool) (w : TxBits) (back : List Bool) → bits ≡ tx_bits_of w ++ back → back ≡ []
    → length bits ≡ w.len
resync_window_length bits w back e n =
    ap length (e ∙ ap (λ x. tx_bits_of w ++ x) n ∙ append-nil (tx_bits_of w)) ∙ length-low_bits w.len w.bits

-- a decoder of captures that holds no bits may wait where more may follow
pub stretch_waits_no_bits : (over : Overrun) (ended : Bool) (stage : RemovalStage) (bits : List Bool) → bits ≡ []
    → ended ≡ false
    → ResyncStill over ended stage bits
stretch_waits_no_bits over ended stage bits e f = let l : length bits ≡ 0 = ap length e in
    stretch_waits_few over ended stage bits f (omega arith)
