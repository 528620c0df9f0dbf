use Rattle.swd_checker.proofs.worlds.Worlds.open_moved.Goals as goal

pub returns-then-parity_ok-clause-opens : goal.returns-then-parity_ok-clause-opens
returns-then-parity_ok-clause-opens c = λ e. c.open_reading.ensures.opens e c.args.parity_ok c.if-parity_ok.true
