use Rattle.std.proofs.Common.{◌+◌, ◌-◌, ◌^◌, length, min, sym, ap, ◌∙◌}
use Rattle.swd_trace.specs.Texts.{bits_of_items}
use Rattle.swd_resync.specs.AsItems.{resync_part_items}
use Rattle.swd_resync.proofs.ItemLemmas.{resync_skip_items_length}
use Rattle.swd_capture.proofs.teller.place_behind_part.Goals as goal

pub returns-in-Skip : goal.returns-in-Skip
returns-in-Skip c =
    c.saturating_add-in-Skip.ensures
    ∙ ap (λ n. min (c.args.place + n) (2 ^ 64 - 1)) (sym (resync_skip_items_length c.in-Skip.count))
    ∙ ap (λ p. min (c.args.place + length (bits_of_items (resync_part_items p))) (2 ^ 64 - 1))
    (sym c.in-Skip.is)
