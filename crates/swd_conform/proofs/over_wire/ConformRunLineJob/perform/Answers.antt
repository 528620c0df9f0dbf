use Rattle.std.proofs.Common.{◌≡◌, refl}
use Rattle.swd_port.specs.Outside.{wire_calls}
use Rattle.swd_conform.proofs.RunLemmas.{conform_came, conform_goes_none, conform_goes_trans}
use Rattle.swd_conform.proofs.over_wire.ConformRunLineJob.perform.Goals as goal

pub steps-init : goal.steps-init
steps-init g c = conform_goes_none (λ calls w. wire_calls w ≡ calls) _ _ _ refl refl refl

pub steps-preserved : goal.steps-preserved
steps-preserved g c =
    conform_goes_trans (λ calls w. wire_calls w ≡ calls) _ _ _ _ _ _ c.steps.invariant c.turn_unless_gone.ensures.goes

pub returns-then-not-turn_unless_gone : goal.returns-then-not-turn_unless_gone
returns-then-not-turn_unless_gone g c =
    conform_came (λ w. wire_calls w) _ _ _ _ _ c.requires
    (conform_goes_trans (λ calls w. wire_calls w ≡ calls) _ _ _ _ _ _ c.steps.invariant
    c.turn_unless_gone.ensures.goes) c.conformed.ensures
