use Rattle.std.proofs.Common.{◌≡◌, ◌≤◌, ◌+◌, true, false, List, ◌∷◌, Option, sym, subst, ap, ◌∙◌}
use Rattle.swd_port.specs.declared.call.Call.{Call}
use Rattle.swd_port.specs.Steps.{port_due_once}
use Rattle.swd_port.specs.Stories.{port_due_by}
use Rattle.swd_recorder.specs.declared.in_hand.InHand.{InHand}
use Rattle.swd_recorder.specs.Items.{recorded_items_of, recorded_in_hand_by, recorded_items_by, RecordingCutOff}
use Rattle.swd_recorder.specs.Kept.{RecorderAdds, recorder_kept_of}
use Rattle.swd_recorder.specs.Steps.{recorded_due_count, recorded_in_hand_count, recorded_transactions}
use Rattle.swd_recorder.specs.Steps.{IsRecordedPlaced, recorder_ask_count}
use Rattle.swd_recorder.proofs.AddLemmas.{recording_stays_whole, recording_truncated_by_call, truncated_recording_stays}
use Rattle.swd_recorder.proofs.StepLemmas.{recorded_in_hand_when_due, recorded_step_placed, recorded_step_counted}
use Rattle.swd_recorder.proofs.StepLemmas.{recorded_step_at_most}
use Rattle.swd_recorder.proofs.recording.Recording.record.Goals as goal

pub invariant_of-self : goal.invariant_of-self
invariant_of-self g c =
    let self = c.args.self.now in
    let calls = self.noted.calls in
    let cue = c.args.cue in
    let seen = c.args.seen in
    let old = recorder_kept_of self.items in
    let new = recorder_kept_of c.add.new.self in
    let call : Call = record { cue = cue; seen = seen } in
    let noted : call ∷ calls ≡ c.and-self.result.calls = sym c.and-self.ensures in
    let adds : RecorderAdds (recorded_items_of (recorded_in_hand_by calls) cue seen) old new =
    subst (λ (in_hand : Option InHand). RecorderAdds (recorded_items_of in_hand cue seen) old new) self.held
    c.add.ensures.adds in
    let due = port_due_by calls in
    let rest : recorded_due_count due ≡ recorded_in_hand_count self.in_hand =
    recorded_in_hand_when_due calls ∙ ap recorded_in_hand_count (sym self.held) in
    let counted : new.is_cut ≡ false → recorded_transactions new.items + recorded_due_count (port_due_once cue seen)
    ≡ recorder_ask_count (call ∷ calls) =
    recorded_step_counted due self.in_hand cue seen old new (recorder_ask_count calls) c.requires.may rest
    c.add.ensures.adds c.add.ensures.inside self.counted in
    record {
      held = c.in_hand_once-self.ensures ∙ ap recorded_in_hand_by noted;
      whole = subst (λ (l : List Call). new.is_cut ≡ false → new.items ≡ recorded_items_by l) noted
          (recording_stays_whole call calls old new self.whole adds);
      cut = subst (λ (l : List Call). new.is_cut ≡ true → ∥ RecordingCutOff new.items l ∥₁) noted
          (recording_truncated_by_call call calls old new self.whole self.cut adds);
      placed = subst (λ (l : List Call). IsRecordedPlaced (port_due_by l) new) noted
          (recorded_step_placed due self.in_hand cue seen old new c.requires.may rest c.add.ensures.adds
          c.add.ensures.inside self.placed);
      most = subst (λ (l : List Call). recorded_transactions new.items ≤ recorder_ask_count l) noted
          (recorded_step_at_most (port_due_once cue seen) cue (recorded_items_of self.in_hand cue seen) old new
          (recorder_ask_count calls) c.add.ensures.adds self.most counted);
      counted = subst (λ (l : List Call). new.is_cut ≡ false
          → recorded_transactions new.items + recorded_due_count (port_due_by l) ≡ recorder_ask_count l)
          noted counted;
    }

pub returns-clause-stays : goal.returns-clause-stays
returns-clause-stays g c = truncated_recording_stays _ (recorder_kept_of c.args.self.now.items)
    (recorder_kept_of c.add.new.self) c.add.ensures.adds

pub returns-clause-adds : goal.returns-clause-adds
returns-clause-adds g c =
    let self = c.args.self.now in
    subst (λ (in_hand : Option InHand). RecorderAdds (recorded_items_of in_hand c.args.cue c.args.seen)
    (recorder_kept_of self.items) (recorder_kept_of c.add.new.self)) self.held c.add.ensures.adds
