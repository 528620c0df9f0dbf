use Rattle.std.proofs.Common.{Option, List, ◌∙◌, sym, ap, subst, arith}
use Rattle.std.proofs.Math.Logic.{∥∥₁_map, ∥∥₁_map₂}
use Rattle.swd_port.specs.declared.call.Call.{Call}
use Rattle.swd_check.specs.Watched.{CheckTakes}
use Rattle.swd_recorder.specs.declared.in_hand.InHand.{InHand}
use Rattle.swd_recorder.specs.Items.{recorded_in_hand_by}
use Rattle.swd_recorder.specs.Calls.{recorded_call_items}
use Rattle.swd_conform.specs.Aims.{ConformStays, ConformUnrefused, IsConformAim}
use Rattle.swd_conform.proofs.RunLemmas.{conform_counts, conform_saw_more, conform_unrefused_more}
use Rattle.swd_conform.proofs.run.ConformRun.record.Goals as goal

pub invariant_of-self : goal.invariant_of-self
invariant_of-self g c =
    let self = c.args.self.now in
    record {
      held = c.in_hand_once-self.ensures ∙ ap recorded_in_hand_by (sym c.and-self.ensures);
      bounded = omega (arith, c.requests_of.ensures, c.requires.room);
      counted = conform_counts c.args.cue c.args.seen self.requests _ self.noted.calls _ c.and-self.ensures
          c.requests_of.ensures self.counted;
      heard = conform_saw_more 1 c.args.cue c.args.seen _ _ self.noted.calls _ c.and-self.ensures c.sees.ensures
          self.heard;
      slowed = conform_saw_more 2 c.args.cue c.args.seen _ _ self.noted.calls _ c.and-self.ensures c.sees-2.ensures
          self.slowed;
      denied = λ is. subst (λ (calls : List Call). ∥ ConformUnrefused self.bounds calls ∥₁) (sym c.and-self.ensures)
          (conform_unrefused_more self.bounds _ self.noted.calls _ self.unrefused
          (λ yes. ∥∥₁_map self.aimed (λ h. c.denies.ensures self.bounds self.noted.calls yes h)) self.denied is);
      aimed = ∥∥₁_map self.aimed (λ h.
          subst (λ (calls : List Call). IsConformAim self.bounds c.after-self.result calls) (sym c.and-self.ensures)
          (c.after-self.ensures self.noted.calls self.held h));
      stays = subst (λ (calls : List Call). ∥ ConformStays self.bounds calls ∥₁) (sym c.and-self.ensures)
          (∥∥₁_map₂ c.requires.stays self.stays (λ may stays. (may, stays)));
    }

pub returns-clause-takes : goal.returns-clause-takes
returns-clause-takes g c =
    let self = c.args.self.now in
    subst (λ (in_hand : Option InHand). CheckTakes (recorded_call_items in_hand c.args.cue c.args.seen) self.items.check
    c.take.new.self.check) self.held c.take.ensures
