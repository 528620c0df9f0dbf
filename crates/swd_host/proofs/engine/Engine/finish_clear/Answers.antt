use Rattle.swd_host.proofs.Words.{ap, engine_place_is_behind}
use Rattle.swd_host.proofs.StepLemmas.{engine_own_error_cleared}
use Rattle.swd_host.proofs.engine.Engine.finish_clear.Goals as goal

pub returns-in-Confirm-clause-tracks : goal.returns-in-Confirm-clause-tracks
returns-in-Confirm-clause-tracks c base m t task h =
    c.answer.ensures.tracks base m t task (engine_own_error_cleared c.args.place _ _ _ t
    (ap engine_place_is_behind c.in-Confirm.is) h)
