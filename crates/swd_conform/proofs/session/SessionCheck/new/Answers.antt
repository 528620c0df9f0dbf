use Rattle.std.proofs.Common.{[], refl, subst, sym}
use Rattle.swd_check.specs.declared.check.Check.{Check}
use Rattle.swd_check.specs.Watched.{CheckHolds, checked_rest}
use Rattle.swd_conform.proofs.session.SessionCheck.new.Goals as goal

pub returns : goal.returns
returns g c = record {
  in_hand = refl;
  holds = subst (λ (check : Check g.row.A.Denot). CheckHolds checked_rest check []) (sym c.new.ensures)
      (c.with_untold.ensures checked_rest [] c.of_session.ensures);
}
