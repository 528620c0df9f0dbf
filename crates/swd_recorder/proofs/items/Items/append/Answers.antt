use Rattle.std.proofs.Common.{◌≡◌, true, List, sym, subst, ◌∙◌}
use Rattle.swd_trace.specs.declared.item.Item.{Item}
use Rattle.swd_recorder.specs.Chains.{Clear, is_recorded_chain}
use Rattle.swd_recorder.specs.Kept.{recorder_kept_of}
use Rattle.swd_recorder.proofs.AddLemmas.{recorder_adds_whole}
use Rattle.swd_recorder.proofs.ChainLemmas.{recorded_items_appended, recorded_chain_append}
use Rattle.swd_recorder.proofs.items.Items.append.Goals as goal

pub invariant_of-self : goal.invariant_of-self
invariant_of-self g c = record {
  chained = subst (λ (items : List Item). is_recorded_chain Clear items ≡ true) (sym c.in-Ok.ensures.items)
      (recorded_chain_append Clear c.args.self.now.list.items c.args.more.now c.args.self.now.chained
      (c.requires.chained c.if-self.false));
}

pub returns-in-Ok : goal.returns-in-Ok
returns-in-Ok g c =
    recorder_adds_whole c.args.more.now (recorder_kept_of c.args.self.now) _ c.if-self.false c.if-self.false
    (c.in-Ok.ensures.items ∙ sym (recorded_items_appended c.args.self.now.list.items c.args.more.now
    (c.requires.chained c.if-self.false)))
