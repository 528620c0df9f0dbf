use Rattle.std.proofs.Common.{[], ◌∷◌, sym, subst}
use Rattle.swd_check.specs.Watched.{CheckTakes}
use Rattle.swd_check.proofs.check.Check.watch.Goals as goal

pub returns-in-Tx : goal.returns-in-Tx
returns-in-Tx g c = subst (λ item. CheckTakes (item ∷ []) c.args.self.now c.transact.new.self) (sym c.in-Tx.is)
    c.transact.ensures

pub returns-in_default : goal.returns-in_default
returns-in_default g c = c.show.ensures c.in_default.not-Tx
