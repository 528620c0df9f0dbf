use Rattle.std.proofs.Common.{sym, ◌∙◌}
use Rattle.swd_checker.proofs.OpenLemmas.{worlds_open_at_status}
use Rattle.swd_checker.proofs.worlds.Worlds.open_reading.Goals as goal

pub returns-then-reads_status-clause-opens : goal.returns-then-reads_status-clause-opens
returns-then-reads_status-clause-opens c = λ e ok right. worlds_open_at_status c.open_at_status.new.self
    c.args.request c.args.word ok right (sym c.reads_status.ensures ∙ c.if-reads_status.true)
    c.open_at_status.ensures.crowded c.open_at_status.ensures.opens
