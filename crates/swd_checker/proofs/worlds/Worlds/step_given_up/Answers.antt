use Rattle.std.proofs.Common.{subst, sym}
use Rattle.swd_checker.specs.Checked.{CheckedTransactsKept, IsCheckedOkay}
use Rattle.swd_checker.specs.Reached.{WorldsMove, WorldsLoseOkay}
use Rattle.swd_checker.proofs.MovedLemmas.{moves_reached}
use Rattle.swd_checker.proofs.LostLemmas.{link_lost_okay}
use Rattle.swd_checker.proofs.worlds.Worlds.step_given_up.Goals as goal

pub returns-in-Moved-clause-steps : goal.returns-in-Moved-clause-steps
returns-in-Moved-clause-steps c = λ s t exempt h okay d.
    c.moves.ensures.moves s t (record { register = c.register.ensures })
    (subst (λ e. CheckedTransactsKept c.args.clean e c.args.tx.now.request s t) c.in-Moved.is h) d

pub returns-in-Moved-clause-reaches : goal.returns-in-Moved-clause-reaches
returns-in-Moved-clause-reaches c = λ link old steps leads. c.moves.ensures.reaches link old (record {
  register =
      c.register.ensures;
})
    (subst (λ r. WorldsMove link c.args.world c.args.tx.now.request r c.args.clean c.in-Moved.word c.in-Moved.parity_ok)
    (sym c.register.ensures)
    (moves_reached link c.args.world c.args.clean c.args.tx.now c.in-Moved.word c.in-Moved.parity_ok steps leads
    c.in-Moved.is))

pub returns-in-NoAck-clause-steps : goal.returns-in-NoAck-clause-steps
returns-in-NoAck-clause-steps c = λ s t exempt h okay d.
    let k = subst (λ e. (k : CheckedTransactsKept c.args.clean e c.args.tx.now.request s t)
    × IsCheckedOkay c.args.clean e c.args.tx.now.request s t k) c.in-NoAck.is (h, okay) in
    c.lose_okay.ensures.loses c.in-NoAck.field-0 s t (record { register = c.register.ensures }) k.0 k.1 d

pub returns-in-NoAck-clause-reaches : goal.returns-in-NoAck-clause-reaches
returns-in-NoAck-clause-reaches c = λ link old steps leads. c.lose_okay.ensures.reaches link old (record {
  register =
      c.register.ensures;
}) (λ may. subst (λ r. WorldsLoseOkay link c.args.world c.args.tx.now.request r) (sym c.register.ensures)
    (link_lost_okay link c.args.world c.args.clean c.args.tx.now c.in-NoAck.field-0 steps leads c.in-NoAck.is may))
