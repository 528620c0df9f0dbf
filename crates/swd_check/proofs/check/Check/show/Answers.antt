use Rattle.std.proofs.Common.{refl, ap}
use Rattle.swd_observer.specs.declared.trace.TraceObserver.{TraceObserver}
use Rattle.swd_check.proofs.WatchLemmas.{check_unbroken, check_is_broken, check_goes_on, check_stays_broken}
use Rattle.swd_check.proofs.check.Check.show.Goals as goal

pub returns-then-is_some : goal.returns-then-is_some
returns-then-is_some g c = λ other. check_stays_broken c.args.self.now _ c.args.item.now
    (check_is_broken c.args.self.now.broken c.is_some.result c.is_some.ensures c.if-is_some.true) refl
    (ap (λ (o : TraceObserver). o.place) c.watch-shown.ensures.observer)

pub returns : goal.returns
returns g c = λ other. check_goes_on c.args.self.now _ c.args.item.now
    (check_unbroken c.args.self.now.broken c.is_some.result c.is_some.ensures c.if-is_some.false) refl
    c.show.ensures.takes (c.show.ensures.broken other)
    (ap (λ (o : TraceObserver). o.place) c.watch-shown.ensures.observer)
