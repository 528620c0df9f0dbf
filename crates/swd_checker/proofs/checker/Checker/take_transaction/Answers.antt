use Rattle.std.proofs.Common.{refl}
use Rattle.swd_trace.specs.declared.item.Item.TheVariants.{Tx}
use Rattle.swd_checker.proofs.FittingLemmas.{follows_in_a_gap}
use Rattle.swd_checker.proofs.StandingLemmas.{watches_in_a_gap}
use Rattle.swd_checker.proofs.BeginsLemmas.{begins_same}
use Rattle.swd_checker.proofs.KnowingLemmas.{checker_notes_nothing, knows_tx, knows_tx_in_gap}
use Rattle.swd_checker.proofs.checker.Checker.take_transaction.Goals as goal

pub returns-then-not-self-clause-watches : goal.returns-then-not-self-clause-watches
returns-then-not-self-clause-watches c = c.transact.ensures.watches c.if-not-self.true

pub returns-then-not-self-clause-follows : goal.returns-then-not-self-clause-follows
returns-then-not-self-clause-follows c = c.transact.ensures.follows c.if-not-self.true

pub returns-else-not-self-clause-watches : goal.returns-else-not-self-clause-watches
returns-else-not-self-clause-watches c = watches_in_a_gap c.args.self.now c.args.tx.now c.if-not-self.false

pub returns-else-not-self-clause-follows : goal.returns-else-not-self-clause-follows
returns-else-not-self-clause-follows c = follows_in_a_gap c.args.self.now c.args.tx.now c.if-not-self.false

pub returns-then-not-self-clause-begins : goal.returns-then-not-self-clause-begins
returns-then-not-self-clause-begins c = c.transact.ensures.begins c.if-not-self.true

pub returns-else-not-self-clause-begins : goal.returns-else-not-self-clause-begins
returns-else-not-self-clause-begins c = begins_same (Tx c.args.tx.now) c.args.place c.args.self.now c.args.self.now refl
    refl

pub returns-then-not-self-clause-knows : goal.returns-then-not-self-clause-knows
returns-then-not-self-clause-knows c = knows_tx c.args.self.now c.transact.new.self c.args.tx.now c.if-not-self.true
    c.transact.ensures.knows

pub returns-else-not-self-clause-knows : goal.returns-else-not-self-clause-knows
returns-else-not-self-clause-knows c = knows_tx_in_gap c.args.self.now c.args.tx.now c.if-not-self.false

pub returns-else-not-self-clause-notes : goal.returns-else-not-self-clause-notes
returns-else-not-self-clause-notes c = checker_notes_nothing c.args.place c.args.self.now c.args.self.now refl refl
