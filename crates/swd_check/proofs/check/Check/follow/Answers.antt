use Rattle.std.proofs.Common.{refl, arith}
use Rattle.swd_trace.specs.declared.item.Item.TheVariants.{Tx}
use Rattle.swd_check.proofs.WatchLemmas.{check_unbroken, check_is_broken, check_goes_on, check_judged}
use Rattle.swd_check.proofs.WatchLemmas.{check_stays_broken}
use Rattle.swd_check.proofs.check.Check.follow.Goals as goal

pub returns-then-is_some : goal.returns-then-is_some
returns-then-is_some g c = check_stays_broken c.args.self.now _ (Tx c.args.tx.now)
    (check_is_broken c.args.self.now.broken c.is_some.result c.is_some.ensures c.if-is_some.true) refl
    (omega (arith, c.saturating_add-self.ensures, c.bits_in.ensures))

pub returns-in-Inside : goal.returns-in-Inside
returns-in-Inside g c = check_judged c.args.self.now _ c.judge.new.self c.args.tx.now c.is_decided-is_first.result
    (check_unbroken c.args.self.now.broken c.is_some.result c.is_some.ensures c.if-is_some.false) refl
    (omega (arith, c.saturating_add-self.ensures, c.bits_in.ensures))
    (λ e. record {
      inside = c.is_decided-is_first.ensures.inside e;
      uncrowded = c.is_decided-is_first.ensures.uncrowded e;
    }) c.transact.ensures.takes c.judge.ensures

pub returns-in_default : goal.returns-in_default
returns-in_default g c = check_goes_on c.args.self.now _ (Tx c.args.tx.now)
    (check_unbroken c.args.self.now.broken c.is_some.result c.is_some.ensures c.if-is_some.false) refl
    c.transact.ensures.takes (c.transact.ensures.broken c.in_default.not-Inside)
    (omega (arith, c.saturating_add-self.ensures, c.bits_in.ensures))
