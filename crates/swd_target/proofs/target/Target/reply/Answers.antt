use Rattle.std.proofs.Common.{◌≡◌, true, false, inl, refl, sym, ap, subst, ◌∙◌}
use Rattle.std.specs.Prelude.{is_some}
use Rattle.swd_port.specs.Asking.{IsPendingSettled}
use Rattle.swd_target.specs.declared.target.Target.{Target}
use Rattle.swd_target.specs.Targets.{target_state, target_simulation, target_answer_at, target_reply_when}
use Rattle.swd_target.specs.Targets.{target_settled_when}
use Rattle.swd_target.specs.Requests.{TargetTransfers}
use Rattle.swd_target.proofs.TargetLemmas.{target_none_pending_test, target_settled_if_none, simulation_settled_at_rest}
use Rattle.swd_target.proofs.target.Target.reply.Goals as goal
use Rattle.swd_target.proofs.target.Target.reply.Goals.{then-is_some, else-is_some}

pub returns-clause-settles : goal.returns-clause-settles
returns-clause-settles g c =
    let t = c.args.self.now in
    let P = λ (u : Target _). TargetTransfers (target_state g.D.Device.bus t) (target_state g.D.Device.bus u) in
    elim c.if-is_some.branch [
      | then-is_some w ↦ subst P (sym w.self-is) w.settle.ensures.settles
      | else-is_some w ↦ subst P (sym w.self-is) (inl refl)
    ]

pub returns-clause-settled : goal.returns-clause-settled
returns-clause-settled g c =
    let t = c.args.self.now in
    let r = c.args.register in
    let P = λ (u : Target _). IsPendingSettled
    (target_reply_when c.args.waits r (target_answer_at r c.args.ap (target_state g.D.Device.bus u))) r u.pending in
    let is : P c.if-is_some.self = elim c.if-is_some.branch [
      | then-is_some w ↦ subst P (sym w.self-is) w.settle.ensures.settled
      | else-is_some w ↦
          let none = target_none_pending_test t.pending (sym c.is_some.ensures ∙ w.if-is_some.false) in
          subst P (sym w.self-is) (subst
          (λ p. IsPendingSettled (target_reply_when c.args.waits r
          (target_answer_at r c.args.ap (target_state g.D.Device.bus t))) r p)
          (sym none) (target_settled_if_none r _))
    ] in
    subst (λ x. IsPendingSettled x r c.if-is_some.self.pending) (sym c.reply_now.ensures) is

pub returns-clause-exact : goal.returns-clause-exact
returns-clause-exact g c =
    let t = c.args.self.now in
    let P = λ (u : Target _). target_simulation g.D.Device.bus u
    ≡ target_settled_when c.args.waits c.args.register c.args.ap (target_simulation g.D.Device.bus t) in
    elim c.if-is_some.branch [
      | then-is_some w ↦ subst P (sym w.self-is) w.settle.ensures.exact
      | else-is_some w ↦
          subst P (sym w.self-is) (simulation_settled_at_rest g.D.Device.bus c.args.waits c.args.register c.args.ap t
          (target_none_pending_test t.pending (sym c.is_some.ensures ∙ w.if-is_some.false)))
    ]

pub returns-clause-rest : goal.returns-clause-rest
returns-clause-rest g c = λ none.
    let t = c.args.self.now in
    let P = λ (u : Target _). u ≡ t in
    elim c.if-is_some.branch [
      | then-is_some w ↦
          let no : false ≡ true = sym (ap is_some none) ∙ (sym c.is_some.ensures ∙ w.if-is_some.true) in
          cc
      | else-is_some w ↦ subst P (sym w.self-is) refl
    ]
