use Rattle.std.proofs.Common.{◌≡◌, true, false, sym, subst, inr}
use Rattle.swd_checker.specs.Standing.{CheckerHolds}
use Rattle.swd_check.proofs.WatchLemmas.{check_rules_first}
use Rattle.swd_check.proofs.rules.Rules.new.Goals as goal

pub returns-clause-holds : goal.returns-clause-holds
returns-clause-holds c = record {
  holds = λ s t starts run. subst (CheckerHolds c.of.result) (sym run) (c.of.ensures.starts.holds s starts);
  wire = c.of.ensures.starts.wire;
  gap = inr c.of.ensures.starts.gapless;
  outside = λ e. absurd (let f : false ≡ true = e in cc);
  left = λ e. absurd (let f : false ≡ true = e in cc);
  answered = λ e. absurd (let f : false ≡ true = e in cc);
  fits = λ inside whole. check_rules_first c.args.options.start c.of.result c.of.ensures.starts.gapless
      c.of.ensures.first c.of.ensures.known c.of.ensures.unbegun;
}

pub returns-clause-unbroken : goal.returns-clause-unbroken
returns-clause-unbroken c = c.of.ensures.starts.unbroken
