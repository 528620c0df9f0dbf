use Rattle.std.proofs.Common.{sym, subst}
use Rattle.swd_port.specs.declared.mark.Mark.{Mark}
use Rattle.swd_port.specs.declared.state.AfterAck.TheVariants.{Idle}
use Rattle.swd_port.specs.declared.state.Reply.TheVariants.{Silent}
use Rattle.swd_target.specs.Requests.{TargetAnswersUnder}
use Rattle.swd_target.proofs.AskLemmas.{simulated_answers_deaf}
use Rattle.swd_target.proofs.target.Target.request_under.Goals as goal

pub returns-in-Deaf-clause-answers : goal.returns-in-Deaf-clause-answers
returns-in-Deaf-clause-answers g c =
    subst (λ (mark : Mark). TargetAnswersUnder g.D.Device.bus mark c.args.request c.args.self.now Silent Idle
    c.args.self.now)
    (sym c.in-Deaf.is) (simulated_answers_deaf g.D.Device.bus c.args.request c.args.self.now)
