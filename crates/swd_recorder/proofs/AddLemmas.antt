-- What calls add to the items, for the proofs of `Items` and `Recording`.
use Rattle.std.proofs.Common.{◌≡◌, Bool, true, false, List, [], ◌∷◌, refl, sym, ap, ◌∙◌}
use Rattle.std.proofs.Math.Logic.{∥∥₁_map}
use Rattle.swd_trace.specs.declared.item.Item.{Item}
use Rattle.swd_port.specs.declared.call.Call.{Call}
use Rattle.swd_recorder.specs.Items.{recorded_with_items, recorded_items_of, recorded_in_hand_by, recorded_items_by}
use Rattle.swd_recorder.specs.Items.{RecordingCutOff}
use Rattle.swd_recorder.specs.Kept.{RecorderKept, RecorderAdds}

clash : false ≡ true → ⊥
clash e = cc

-- all of it
pub recorder_adds_whole : (more : List Item) (old new : RecorderKept) → old.is_cut ≡ false → new.is_cut ≡ false
    → new.items ≡ recorded_with_items old.items more → RecorderAdds more old new
recorder_adds_whole more old new e f items = record {
  whole = λ _. (e, items);
  cut = λ g. absurd (clash (sym f ∙ g));
}

-- what was cut off stays as it is
pub truncated_recording_stays : (more : List Item) (old new : RecorderKept) → RecorderAdds more old new
    → old.is_cut ≡ true → new ≡ old
truncated_recording_stays more old new adds e = by new.is_cut refl
  where
    by : (b : Bool) → new.is_cut ≡ b → new ≡ old
    by true f =
        let kept : List Item → Bool → RecorderKept = λ items cut. record { items = items; is_cut = cut } in
        ap (λ items. kept items new.is_cut) (adds.cut f).0 ∙ ap (kept old.items) (f ∙ sym e)
    by false f = absurd (clash (sym (adds.whole f).0 ∙ e))

-- ---- the items of the calls

-- while nothing is cut off, the items are those of one call more
pub recording_stays_whole : (call : Call) (calls : List Call) (old new : RecorderKept)
    → (old.is_cut ≡ false → old.items ≡ recorded_items_by calls)
    → RecorderAdds (recorded_items_of (recorded_in_hand_by calls) call.cue call.seen) old new →
    new.is_cut ≡ false → new.items ≡ recorded_items_by (call ∷ calls)
recording_stays_whole call calls old new whole adds uncut =
    let (o, items) = adds.whole uncut in
    items ∙ ap (λ l. recorded_with_items l (recorded_items_of (recorded_in_hand_by calls) call.cue call.seen)) (whole o)

-- cut off at this call, or at the one at which they were
pub recording_truncated_by_call : (call : Call) (calls : List Call) (old new : RecorderKept)
    → (old.is_cut ≡ false → old.items ≡ recorded_items_by calls)
    → (old.is_cut ≡ true → ∥ RecordingCutOff old.items calls ∥₁)
    → RecorderAdds (recorded_items_of (recorded_in_hand_by calls) call.cue call.seen) old new →
    new.is_cut ≡ true → ∥ RecordingCutOff new.items (call ∷ calls) ∥₁
recording_truncated_by_call call calls old new whole cut adds e = by old.is_cut refl
  where
    by : (b : Bool) → old.is_cut ≡ b → ∥ RecordingCutOff new.items (call ∷ calls) ∥₁
    by true b = ∥∥₁_map (cut b) (λ h. record {
      after = call ∷ h.after;
      call = h.call;
      before = h.before;
      parts = ap (λ l. call ∷ l) h.parts;
      whole = (adds.cut e).0 ∙ h.whole;
      more = h.more;
    })
    by false b = ∣ record {
      after = [];
      call = call;
      before = calls;
      parts = refl;
      whole = (adds.cut e).0 ∙ whole b;
      more = (adds.cut e).1 b;
    } ∣₁
