-- Laws of the requests that are made.
use Rattle.std.proofs.Common.{List, [], ◌∷◌, ◌++◌, subst}
use Rattle.swd_sequences.specs.Going.{SequenceClock}
use Rattle.swd_dap_probe.specs.declared.settings.Settings.{Settings}
use Rattle.swd_dap_probe.specs.Transactions.{DapMade, DapMadeGo}

-- some, and others behind them
pub made_append : {L : Type 0} (clock : SequenceClock L) (settings : Settings) (a b : List DapMade) (s m t : L)
    → DapMadeGo clock settings a s m → DapMadeGo clock settings b m t → DapMadeGo clock settings (a ++ b) s t
made_append clock settings [] b s m t e h = subst (λ x. DapMadeGo clock settings b x t) e h
made_append clock settings (made ∷ a) b s m t e h = (e.0, e.1, made_append clock settings a b e.0 m t e.2 h)
