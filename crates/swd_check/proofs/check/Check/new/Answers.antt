use Rattle.std.proofs.Common.{◌∙◌, sym}
use Rattle.swd_check.proofs.WatchLemmas.{check_place_none}
use Rattle.swd_check.proofs.check.Check.new.Goals as goal

pub returns : goal.returns
returns g c = record {
  rules = λ e. c.new.ensures.holds;
  unbroken = λ e. c.new.ensures.unbroken;
  broke = tt;
  place = c.observer_of.ensures ∙ sym check_place_none;
}
