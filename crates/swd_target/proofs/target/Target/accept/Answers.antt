use Rattle.std.proofs.Common.{inr}
use Rattle.swd_port.specs.declared.register.Register.TheVariants.{DrwRead}
use Rattle.swd_target.specs.Targets.{target_choice_for}
use Rattle.swd_target.proofs.TargetLemmas.{target_choice_is_choice}
use Rattle.swd_target.proofs.target.Target.accept.Goals as goal

pub returns-then-not-self-clause-effect : goal.returns-then-not-self-clause-effect
returns-then-not-self-clause-effect g c =
    let t = c.args.self.now in
    inr (target_choice_for DrwRead t, target_choice_is_choice DrwRead t, c.complete.ensures.state)
