use Rattle.std.proofs.Common.{◌≡◌, ◌∙◌, List, false, sym, subst}
use Rattle.swd_trace.specs.declared.item.Item.{Item}
use Rattle.swd_recorder.specs.Chains.{RecordedMayJoin, recorded_lone_idle, recorded_place_of}
use Rattle.swd_recorder.specs.Items.{recorded_items_of}
use Rattle.swd_recorder.specs.Kept.{recorder_kept_of}
use Rattle.swd_recorder.specs.Steps.{is_recorded_inside}
use Rattle.swd_recorder.proofs.JoinLemmas.{recorded_call_joins, recorded_items_outside}
use Rattle.swd_recorder.proofs.items.Items.add.Goals as goal

pub join-requires : goal.join-requires
join-requires g c = λ uncut.
    let self = c.args.self.now in
    let outside : is_recorded_inside c.args.in_hand c.args.cue ≡ false =
    sym c.is_inside.ensures ∙ c.if-is_inside.false in
    let is : c.as_slice.result.now ≡ recorded_items_of c.args.in_hand c.args.cue c.args.seen =
    c.as_slice.ensures.value ∙ c.call_items-items.ensures.items
    ∙ recorded_items_outside c.args.in_hand c.args.cue c.args.seen outside in
    subst (λ (l : List Item). RecordedMayJoin (recorded_place_of self.list.items) l (recorded_lone_idle l)) (sym is)
    (recorded_call_joins c.args.in_hand c.args.cue c.args.seen (recorder_kept_of self) c.requires.may
    c.call_items-items.ensures.range c.requires.seen outside uncut)
