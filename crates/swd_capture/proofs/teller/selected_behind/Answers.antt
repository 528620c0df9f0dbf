use Rattle.std.proofs.Common.{◌<◌, sym, ap, ◌∙◌, arith}
use Rattle.swd_resync.specs.AsItems.{resync_part_items}
use Rattle.swd_capture.specs.Names.{capture_select_from}
use Rattle.swd_capture.proofs.TellerLemmas.{capture_select_at_skip}
use Rattle.swd_capture.proofs.teller.selected_behind.Goals as goal

pub returns-else-count-eq0 : goal.returns-else-count-eq0
returns-else-count-eq0 c =
    let some : 0 < c.in-Skip.count = omega (arith, c.if-count-eq0.false) in
    sym (capture_select_at_skip c.in-Skip.count c.args.select some)
    ∙ ap (λ p. capture_select_from c.args.select (resync_part_items p)) (sym c.in-Skip.is)
