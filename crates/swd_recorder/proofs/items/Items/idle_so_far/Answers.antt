use Rattle.std.proofs.Common.{sym, ◌∙◌, ap, ◌-◌, length, List}
use Rattle.std.specs.Prelude.{slice_get}
use Rattle.swd_trace.specs.declared.item.Item.{Item}
use Rattle.swd_recorder.proofs.ChainLemmas.{recorded_last_item_idle}
use Rattle.swd_recorder.proofs.items.Items.idle_so_far.Goals as goal

pub returns-in-Some : goal.returns-in-Some
returns-in-Some g c =
    c.idle_cycles.ensures
    ∙ sym (recorded_last_item_idle c.args.self.now.list.items c.in-Some.last.now
    (ap (λ (items : List Item). slice_get items (length items - 1)) (sym c.deref.ensures.value)
    ∙ sym c.in-Some.ensures.value))
