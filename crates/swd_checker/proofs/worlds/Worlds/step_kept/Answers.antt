use Rattle.std.proofs.Common.{subst, sym}
use Rattle.swd_checker.specs.declared.step.Asked.{Asked}
use Rattle.swd_checker.specs.Checked.{CheckedTransactsKept}
use Rattle.swd_checker.proofs.TransactLemmas.{step_faults, step_waits}
use Rattle.swd_checker.specs.Reached.{WorldsRefuse, WorldsDefer, WorldsMove, WorldsLoseSeen}
use Rattle.swd_checker.proofs.LinkLemmas.{link_refuses, link_defers, link_moves, link_loses}
use Rattle.swd_checker.proofs.worlds.Worlds.step_kept.Goals as goal

pub returns-in-Fault-clause-steps : goal.returns-in-Fault-clause-steps
returns-in-Fault-clause-steps c = λ s t h d.
    let asked : Asked = record {
      world = c.args.world;
      request = c.args.tx.now.request;
      register = c.register.result;
      faults = c.args.faults;
      clean = c.args.clean;
    } in
    step_faults asked c.refuse.new.self (record { register = c.register.ensures }) c.refuse.ensures.refuses s t
    (subst (λ e. CheckedTransactsKept c.args.clean e c.args.tx.now.request s t) c.in-Fault.is h) d

pub returns-in-Wait-clause-steps : goal.returns-in-Wait-clause-steps
returns-in-Wait-clause-steps c = λ s t h d.
    let asked : Asked = record {
      world = c.args.world;
      request = c.args.tx.now.request;
      register = c.register.result;
      faults = c.args.faults;
      clean = c.args.clean;
    } in
    step_waits asked c.defer.new.self (record { register = c.register.ensures }) c.defer.ensures.defers s t
    (subst (λ e. CheckedTransactsKept c.args.clean e c.args.tx.now.request s t) c.in-Wait.is h) d

pub returns-in-Moved-clause-steps : goal.returns-in-Moved-clause-steps
returns-in-Moved-clause-steps c = λ s t h d. c.moves.ensures.moves s t (record { register = c.register.ensures })
    (subst (λ e. CheckedTransactsKept c.args.clean e c.args.tx.now.request s t) c.in-Moved.is h) d

pub returns-in-NoAck-clause-steps : goal.returns-in-NoAck-clause-steps
returns-in-NoAck-clause-steps c = λ s t h d. c.lose.ensures.loses s t (record { register = c.register.ensures })
    (subst (λ e. CheckedTransactsKept c.args.clean e c.args.tx.now.request s t) c.in-NoAck.is h) d

pub returns-in-Fault-clause-reaches : goal.returns-in-Fault-clause-reaches
returns-in-Fault-clause-reaches c = λ link old steps has. c.refuse.ensures.reaches link old (record {
  register =
      c.register.ensures;
})
    (subst (λ r. WorldsRefuse link c.args.world c.args.tx.now.request r) (sym c.register.ensures)
    (link_refuses link c.args.world c.args.clean c.args.tx.now steps has c.in-Fault.is))

pub returns-in-Wait-clause-reaches : goal.returns-in-Wait-clause-reaches
returns-in-Wait-clause-reaches c = λ link old steps has. c.defer.ensures.reaches link old (record {
  register =
      c.register.ensures;
})
    (subst (λ r. WorldsDefer link c.args.world c.args.tx.now.request r) (sym c.register.ensures)
    (link_defers link c.args.world c.args.clean c.args.tx.now steps has c.in-Wait.is))

pub returns-in-Moved-clause-reaches : goal.returns-in-Moved-clause-reaches
returns-in-Moved-clause-reaches c = λ link old steps has. c.moves.ensures.reaches link old (record {
  register =
      c.register.ensures;
})
    (subst (λ r. WorldsMove link c.args.world c.args.tx.now.request r c.args.clean c.in-Moved.word c.in-Moved.parity_ok)
    (sym c.register.ensures)
    (link_moves link c.args.world c.args.clean c.args.tx.now c.in-Moved.word c.in-Moved.parity_ok steps has
    c.in-Moved.is))

pub returns-in-NoAck-clause-reaches : goal.returns-in-NoAck-clause-reaches
returns-in-NoAck-clause-reaches c = λ link old steps has. c.lose.ensures.reaches link old (record {
  register =
      c.register.ensures;
})
    (subst (λ r. WorldsLoseSeen link c.args.world c.args.tx.now.request r c.args.clean c.in-NoAck.seen) (sym
    c.register.ensures)
    (link_loses link c.args.world c.args.clean c.args.tx.now c.in-NoAck.seen steps has c.in-NoAck.is))
