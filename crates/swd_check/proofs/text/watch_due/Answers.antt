use Rattle.std.proofs.Common.{sym, subst}
use Rattle.swd_resync.specs.AsItems.{resync_part_items}
use Rattle.swd_text.specs.Sinks.{sink_leads_join}
use Rattle.swd_capture.specs.Gaps.{capture_held_items, capture_items_with}
use Rattle.swd_check.specs.Watched.{CheckHolds, CheckTakes}
use Rattle.swd_check.proofs.text.watch_due.Goals as goal

pub returns-in-Some : goal.returns-in-Some
returns-in-Some g c =
    let held = capture_held_items c.args.due.now.held c.args.due.now.idle in
    subst (λ p. CheckTakes (capture_items_with held p) c.args.check.now c.watch_part.new.check) (sym c.in-Some.is)
    (sink_leads_join CheckHolds c.args.check.now c.watch_held.new.check c.watch_part.new.check held
    (resync_part_items c.in-Some.part) c.watch_held.ensures c.watch_part.ensures)
