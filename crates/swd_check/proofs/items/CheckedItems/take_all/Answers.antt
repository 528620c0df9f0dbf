use Rattle.std.proofs.Common.{◌≤◌, List, arith, length, take, sym, subst}
use Rattle.std.proofs.lemmas.List.{take_all, take_more}
use Rattle.swd_text.specs.Sinks.{sink_leads_join}
use Rattle.swd_trace.specs.declared.item.Item.{Item}
use Rattle.swd_check.specs.Watched.{CheckHolds, CheckTakes}
use Rattle.swd_check.proofs.items.CheckedItems.take_all.Goals as goal

pub loop-item-preserved : goal.loop-item-preserved
loop-item-preserved g c =
    let items = c.args.items.now in
    let i = c.loop-item.item-index in
    subst (λ (l : List Item). CheckTakes l c.args.self.now.check c.take_item.new.self.check)
    (sym (take_more items i _ c.loop-item-test.true))
    (sink_leads_join CheckHolds _ _ _ (take i items) _ c.loop-item.invariant c.take_item.ensures)

pub returns : goal.returns
returns g c =
    let items = c.args.items.now in
    let i = c.loop-item.item-index in
    let all : length items ≤ i = omega (arith, c.loop-item-test.false) in
    subst (λ (l : List Item). CheckTakes l c.args.self.now.check c.loop-item.self.check) (take_all i items all)
    c.loop-item.invariant
