use Rattle.std.proofs.Common.{◌≡◌, inr, refl, sym, subst, ◌∙◌, Bool, if◌then◌else◌}
use Rattle.swd_port.specs.declared.register.Register.TheVariants.{DrwRead}
use Rattle.swd_target.specs.Simulations.{simulation_transferred}
use Rattle.swd_target.specs.Targets.{target_state, target_simulation, target_choice_for, target_answer_at}
use Rattle.swd_target.specs.Targets.{target_settled_when}
use Rattle.swd_target.proofs.TargetLemmas.{target_choice_is_choice, target_settling_owed, target_settled_unless}
use Rattle.swd_target.proofs.TargetLemmas.{target_settled_after}
use Rattle.swd_target.proofs.ElsewhereLemmas.{target_stays_if_unlogged}
use Rattle.swd_target.proofs.target.Target.settle.Goals as goal

pub returns-then-settles_before-clause-settles : goal.returns-then-settles_before-clause-settles
returns-then-settles_before-clause-settles g c =
    let t = c.args.self.now in
    inr (target_choice_for DrwRead t, target_choice_is_choice DrwRead t, c.complete.ensures.state)

pub returns-then-settles_before-clause-settled : goal.returns-then-settles_before-clause-settled
returns-then-settles_before-clause-settled g c =
    let t = c.args.self.now in
    target_settled_after g.D.Device.bus c.args.register _ (target_choice_for DrwRead t) (target_state g.D.Device.bus t)
    c.complete.new.self
    c.complete.ensures.state

pub returns-else-settles_before-clause-settled : goal.returns-else-settles_before-clause-settled
returns-else-settles_before-clause-settled g c =
    let t = c.args.self.now in
    target_settled_unless c.args.waits c.args.register (target_answer_at c.args.register c.args.ap
    (target_state g.D.Device.bus t)) _
    t.pending (sym c.settles_before.ensures ∙ c.if-settles_before.false)

pub returns-then-settles_before-clause-exact : goal.returns-then-settles_before-clause-exact
returns-then-settles_before-clause-exact g c =
    let t = c.args.self.now in
    let Q = λ (b : Bool). (if b then simulation_transferred (target_simulation g.D.Device.bus t) else target_simulation
    g.D.Device.bus t)
    ≡ target_settled_when c.args.waits c.args.register c.args.ap (target_simulation g.D.Device.bus t) in
    c.complete.ensures.exact
    ∙ subst Q (target_settling_owed g.D.Device.bus c.args.waits c.args.register c.args.ap t
    ∙ sym c.settles_before.ensures ∙
    c.if-settles_before.true) refl

pub returns-else-settles_before-clause-exact : goal.returns-else-settles_before-clause-exact
returns-else-settles_before-clause-exact g c =
    let t = c.args.self.now in
    let Q = λ (b : Bool). (if b then simulation_transferred (target_simulation g.D.Device.bus t) else target_simulation
    g.D.Device.bus t)
    ≡ target_settled_when c.args.waits c.args.register c.args.ap (target_simulation g.D.Device.bus t) in
    subst Q (target_settling_owed g.D.Device.bus c.args.waits c.args.register c.args.ap t
    ∙ sym c.settles_before.ensures ∙
    c.if-settles_before.false) refl

pub returns-then-settles_before-clause-untouched : goal.returns-then-settles_before-clause-untouched
returns-then-settles_before-clause-untouched g c =
    λ ready same. target_stays_if_unlogged g.D.Device.bus c.args.self.now c.complete.new.self c.complete.ensures ready
    same
