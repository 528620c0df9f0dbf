use Rattle.std.proofs.Common.{◌∙◌, sym, ap}
use Rattle.std.specs.Prelude.{unwrap_or}
use Rattle.swd_check.proofs.WatchLemmas.{check_fits, no_some}
use Rattle.swd_check.proofs.check.Check.checked.Goals as goal

pub returns-in-None-None-true-clause-says : goal.returns-in-None-None-true-clause-says
returns-in-None-None-true-clause-says g c = λ i seen h. check_fits i c.args.self.now seen
    (unwrap_or c.place_after_first.result 0)
    (no_some c.args.self.now.broken c.in_default.not-Some) (sym c.outside.ensures ∙ c.in-None-None-true.is-0)
    (λ whole. c.crowded.ensures.crowded c.in-None-None-true.is-1 whole)
    (c.crowded.ensures.began c.in-None-None-true.is-1)
    (c.place_after_first.ensures ∙ ap (λ b. unwrap_or b 0) c.began.ensures)
    (sym c.is_answered.ensures ∙ c.in-None-None-true.if-this-true) h

pub returns-in-Some-clause-count : goal.returns-in-Some-clause-count
returns-in-Some-clause-count g c = c.broken_at.ensures.count c.args.items
