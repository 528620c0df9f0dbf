use Rattle.std.proofs.Common.{◌∙◌, List, subst}
use Rattle.swd_trace.specs.declared.item.Item.{Item}
use Rattle.swd_check.specs.Watched.{CheckTakes}
use Rattle.swd_check.proofs.items.CheckedItems.take.Goals as goal

pub returns : goal.returns
returns g c =
    subst (λ (items : List Item). CheckTakes items c.args.self.now.check c.take_all.new.self.check)
    (c.as_slice.ensures.value ∙ c.call_items-items.ensures.items) c.take_all.ensures
