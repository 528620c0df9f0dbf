use Rattle.std.proofs.Common.{ap}
use Rattle.swd_capture.proofs.AccessLemmas.{observer_text_after_skip}
use Rattle.swd_capture.proofs.laws.skips_are_forgotten.Goals as goal

pub returns : goal.returns
returns c = λ n t some. ap (λ o. o.observer) (observer_text_after_skip n t some)
