use Rattle.std.proofs.Common.{sym, subst}
use Rattle.swd_trace.specs.Held.{idle_items}
use Rattle.swd_resync.specs.AsItems.{resync_part_items}
use Rattle.swd_text.specs.Sinks.{sink_leads_join}
use Rattle.swd_capture.specs.Gaps.{capture_held_items}
use Rattle.swd_check.specs.Watched.{CheckHolds, CheckTakes}
use Rattle.swd_check.proofs.text.watch_held.Goals as goal

pub returns-in-Some : goal.returns-in-Some
returns-in-Some g c =
    subst (λ p. CheckTakes (capture_held_items p c.args.idle) c.args.check.now c.watch_idle.new.check)
    (sym c.in-Some.is)
    (sink_leads_join CheckHolds c.args.check.now c.watch_part.new.check c.watch_idle.new.check
    (resync_part_items c.in-Some.part) (idle_items c.args.idle) c.watch_part.ensures c.watch_idle.ensures)
