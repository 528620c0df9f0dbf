use Rattle.std.proofs.Common.{◌≡◌, sym, ap, subst, ◌∙◌}
use Rattle.swd_port.specs.declared.select.Select.{Select}
use Rattle.swd_port.specs.Port.{port_register}
use Rattle.swd_target.specs.declared.target.Target.{Target}
use Rattle.swd_target.specs.Elsewhere.{bus_itself, target_over_device}
use Rattle.swd_target.specs.Flips.{target_line_under}
use Rattle.swd_target.specs.Requests.{TargetAnswersUnder}
use Rattle.swd_target.proofs.AskLemmas.{simulated_answers_under}
use Rattle.swd_target.proofs.ElsewhereLemmas.{target_answers_elsewhere, late_quirk_kept, target_log_before_reply}
use Rattle.swd_target.proofs.ElsewhereLemmas.{quirks_kept_by_request}
use Rattle.swd_target.proofs.target.Target.request.Goals as goal

pub returns-clause-answers : goal.returns-clause-answers
returns-clause-answers g c =
    let q = c.args.request in
    let r = c.named-register.result in
    let before = c.reply-reply.ensures in
    let after = c.apply.ensures in
    let same : port_register c.reply-reply.new.self.select q ≡ r = ap (λ (s : Select). port_register s q) before.select
    ∙ sym c.named-register.ensures in
    record {
      under = λ mark legal deaf wait. simulated_answers_under g.D.Device.bus mark c.args.waits q c.args.self.now
          c.reply-reply.new.self
          c.apply.new.self c.accept_after.new.self r c.reply-reply.result c.phase-phase.result
          legal deaf wait (sym c.named-register.ensures) same before.settles before.exact before.reply
          before.settled c.phase-phase.ensures.word c.phase-phase.ensures.phase c.phase-phase.ensures.exact
          after.state after.exact c.accept_after.ensures.effect c.accept_after.ensures.exact;
      elsewhere = λ m untouched ready mark legal deaf wait.
          let s = c.args.self.now in
          let late = late_quirk_kept g.D.Device.bus c.args.waits c.reply-reply.result r q s c.reply-reply.new.self
          c.apply.new.self
          untouched.late before.exact after.exact in
          let last : c.accept_after.new.self ≡ c.apply.new.self = c.accept_after.ensures.late late in
          let log = target_log_before_reply g.D.Device.bus c.args.waits c.reply-reply.result r q s
          c.reply-reply.new.self
          c.apply.new.self c.accept_after.new.self after.state last untouched.log in
          subst (λ (t : Target _). TargetAnswersUnder bus_itself mark q (target_over_device m s) c.reply-reply.result
          (target_line_under mark c.phase-phase.result) (target_over_device m t)) (sym last)
          (target_answers_elsewhere g.D.Device.bus m mark c.args.waits q s c.reply-reply.new.self c.apply.new.self r
          c.reply-reply.result c.phase-phase.result
          legal deaf wait (sym c.named-register.ensures) same (before.untouched untouched.ready log) ready
          untouched.late before.reply before.settled
          c.phase-phase.ensures.word c.phase-phase.ensures.phase c.phase-phase.ensures.exact after.state after.exact);
    }

pub returns-clause-quirks : goal.returns-clause-quirks
returns-clause-quirks g c =
    quirks_kept_by_request g.D.Device.bus c.args.waits c.reply-reply.result c.named-register.result
    c.args.request
    c.args.self.now c.reply-reply.new.self c.apply.new.self c.accept_after.new.self
    c.reply-reply.ensures.exact c.apply.ensures.exact c.accept_after.ensures.exact

pub returns-clause-quiet : goal.returns-clause-quiet
returns-clause-quiet g c = λ late none.
    let s = c.args.self.now in
    let a = c.reply-reply.new.self in
    let after = c.apply.new.self in
    let r = c.named-register.result in
    let q = c.args.request in
    let exact = c.reply-reply.ensures.exact in
    let last = c.accept_after.ensures.late
    (late_quirk_kept g.D.Device.bus c.args.waits c.reply-reply.result r q s a after late exact
    c.apply.ensures.exact) in
    ap (λ (x : Target _). x.device) last
    ∙ (c.apply.ensures.device ∙ ap (λ (x : Target _). x.device) (c.reply-reply.ensures.rest none))
