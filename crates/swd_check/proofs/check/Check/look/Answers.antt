use Rattle.std.proofs.Common.{◌≡◌, ◌∙◌, refl, sym, ap}
use Rattle.swd_observer.specs.declared.trace.TraceObserver.{TraceObserver}
use Rattle.swd_trace.specs.declared.item.Item.TheVariants.{Tx}
use Rattle.swd_check.specs.declared.rules.Stand.TheVariants.{Inside, Leaves, Outside}
use Rattle.swd_check.proofs.WatchLemmas.{check_unbroken, check_is_broken, check_goes_on, check_judged, check_same}
use Rattle.swd_check.proofs.WatchLemmas.{check_stays_broken}
use Rattle.swd_check.proofs.check.Check.look.Goals as goal

pub returns-then-is_some : goal.returns-then-is_some
returns-then-is_some g c = check_stays_broken c.args.self.now _ (Tx c.args.tx.now)
    (check_is_broken c.args.self.now.broken c.is_some.result c.is_some.ensures c.if-is_some.true) refl
    (ap (λ (o : TraceObserver). o.place) c.watch-shown.ensures.observer)

pub returns-in-Inside : goal.returns-in-Inside
returns-in-Inside g c = check_judged c.args.self.now _ c.judge_all.new.self c.args.tx.now c.is_decided-is_first.result
    (check_unbroken c.args.self.now.broken c.is_some.result c.is_some.ensures c.if-is_some.false) refl
    (ap (λ (o : TraceObserver). o.place) c.watch-shown.ensures.observer)
    (λ e. record {
      inside = c.is_decided-is_first.ensures.inside e;
      uncrowded = c.is_decided-is_first.ensures.uncrowded e;
    }) c.transact.ensures.takes c.judge_all.ensures

pub returns-in-Leaves : goal.returns-in-Leaves
returns-in-Leaves g c =
    let mid = record c.args.self.now { rules = c.transact.new.self; observer = c.watch-shown.new.self } in
    λ i seen h. check_same i mid c.leave.new.self _ c.leave.ensures.rules c.leave.ensures.broken c.leave.ensures.place
    (check_goes_on c.args.self.now mid (Tx c.args.tx.now)
    (check_unbroken c.args.self.now.broken c.is_some.result c.is_some.ensures c.if-is_some.false) refl
    c.transact.ensures.takes (c.transact.ensures.broken
    (λ e. absurd (let f : Leaves ≡ Inside = sym c.in-Leaves.is ∙ e in cc)))
    (ap (λ (o : TraceObserver). o.place) c.watch-shown.ensures.observer) i seen h)

pub returns-in-Outside : goal.returns-in-Outside
returns-in-Outside g c = check_goes_on c.args.self.now _ (Tx c.args.tx.now)
    (check_unbroken c.args.self.now.broken c.is_some.result c.is_some.ensures c.if-is_some.false) refl
    c.transact.ensures.takes (c.transact.ensures.broken
    (λ e. absurd (let f : Outside ≡ Inside = sym c.in-Outside.is ∙ e in cc)))
    (ap (λ (o : TraceObserver). o.place) c.watch-shown.ensures.observer)
