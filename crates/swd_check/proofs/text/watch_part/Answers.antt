use Rattle.std.proofs.Common.{[], ◌∷◌, sym, subst}
use Rattle.swd_trace.specs.declared.item.Item.TheVariants.{Tx, Idle}
use Rattle.swd_text.specs.Sinks.{sink_leads_join}
use Rattle.swd_resync.specs.AsItems.{resync_part_items}
use Rattle.swd_check.specs.Watched.{CheckHolds, CheckTakes}
use Rattle.swd_check.proofs.text.watch_part.Goals as goal

pub returns-in-Item : goal.returns-in-Item
returns-in-Item g c = subst (λ part. CheckTakes (resync_part_items part) c.args.check.now c.watch.new.self)
    (sym c.in-Item.is) c.watch.ensures

pub returns-in-Phased : goal.returns-in-Phased
returns-in-Phased g c = subst (λ part. CheckTakes (resync_part_items part) c.args.check.now c.pass.new.self)
    (sym c.in-Phased.is)
    (sink_leads_join CheckHolds c.args.check.now c.watch-in-Phased.new.self c.pass.new.self (Tx c.in-Phased.tx ∷ [])
    (Idle 33 ∷ []) c.watch-in-Phased.ensures
    (subst (λ n. CheckTakes (Idle n ∷ []) c.watch-in-Phased.new.self c.pass.new.self) c.from.ensures c.pass.ensures))

pub returns-in-Skip : goal.returns-in-Skip
returns-in-Skip g c = subst (λ part. CheckTakes (resync_part_items part) c.args.check.now c.skip.new.self)
    (sym c.in-Skip.is) c.skip.ensures
