use Rattle.std.proofs.Common.{true, refl, sym, subst}
use Rattle.swd_checker.specs.Standing.{CheckerWatches, checker_gap}
use Rattle.swd_checker.specs.Fitting.{CheckerFollows, CheckerBeginsBy, CheckerKnows}
use Rattle.swd_checker.proofs.FittingLemmas.{follows_nothing, follows_cut}
use Rattle.swd_checker.proofs.StandingLemmas.{watches_nothing, watches_cut}
use Rattle.swd_checker.proofs.BeginsLemmas.{begins_same}
use Rattle.swd_checker.specs.Knowing.{opening_after_item}
use Rattle.swd_checker.specs.declared.opening.Opening.TheVariants.{Anything}
use Rattle.swd_checker.proofs.KnowingLemmas.{checker_notes_nothing, knows_nothing, knows_passed, knows_same}
use Rattle.swd_checker.proofs.checker.Checker.take.Goals as goal

pub returns-in-Junk-clause-watches : goal.returns-in-Junk-clause-watches
returns-in-Junk-clause-watches c = subst (λ i. CheckerWatches i c.args.self.now c.skip.new.self) (sym c.in-Junk.is)
    (c.skip.ensures.watches _)

pub returns-in-Junk-clause-follows : goal.returns-in-Junk-clause-follows
returns-in-Junk-clause-follows c = subst (λ i. CheckerFollows i c.args.self.now c.skip.new.self) (sym c.in-Junk.is)
    (c.skip.ensures.follows _)

pub returns-in-Reset-clause-watches : goal.returns-in-Reset-clause-watches
returns-in-Reset-clause-watches c = subst (λ i. CheckerWatches i c.args.self.now c.reset.new.self)
    (sym c.in-Reset.is) (c.reset.ensures.watches _)

pub returns-in-Reset-clause-follows : goal.returns-in-Reset-clause-follows
returns-in-Reset-clause-follows c = subst (λ i. CheckerFollows i c.args.self.now c.reset.new.self)
    (sym c.in-Reset.is) (c.reset.ensures.follows _)

pub returns-in-Tx-clause-watches : goal.returns-in-Tx-clause-watches
returns-in-Tx-clause-watches c = subst (λ i. CheckerWatches i c.args.self.now c.take_transaction.new.self)
    (sym c.in-Tx.is) c.take_transaction.ensures.watches

pub returns-in-Tx-clause-follows : goal.returns-in-Tx-clause-follows
returns-in-Tx-clause-follows c = subst (λ i. CheckerFollows i c.args.self.now c.take_transaction.new.self)
    (sym c.in-Tx.is) c.take_transaction.ensures.follows

pub returns-in-Cut-clause-watches : goal.returns-in-Cut-clause-watches
returns-in-Cut-clause-watches c = subst (λ i. CheckerWatches i c.args.self.now c.leave.new.self) (sym c.in-Cut.is)
    (watches_cut c.args.self.now c.leave.new.self _ c.leave.ensures.leaves)

pub returns-in-Cut-clause-follows : goal.returns-in-Cut-clause-follows
returns-in-Cut-clause-follows c = subst (λ i. CheckerFollows i c.args.self.now c.leave.new.self) (sym c.in-Cut.is)
    (follows_cut c.args.self.now c.leave.new.self _ c.leave.ensures.crowded)

pub returns-in_default-clause-watches : goal.returns-in_default-clause-watches
returns-in_default-clause-watches c = watches_nothing c.args.self.now c.args.item.now c.in_default.not-Junk
    c.in_default.not-Reset c.in_default.not-Tx c.in_default.not-Cut

pub returns-in_default-clause-follows : goal.returns-in_default-clause-follows
returns-in_default-clause-follows c = follows_nothing c.args.self.now c.args.item.now c.in_default.not-Junk
    c.in_default.not-Reset c.in_default.not-Tx c.in_default.not-Cut

pub returns-in-Junk-clause-begins : goal.returns-in-Junk-clause-begins
returns-in-Junk-clause-begins c = begins_same c.args.item.now c.args.place c.args.self.now c.skip.new.self
    c.skip.ensures.known c.skip.ensures.began

pub returns-in-Reset-clause-begins : goal.returns-in-Reset-clause-begins
returns-in-Reset-clause-begins c = begins_same c.args.item.now c.args.place c.args.self.now c.reset.new.self
    c.reset.ensures.known c.reset.ensures.began

pub returns-in-Tx-clause-begins : goal.returns-in-Tx-clause-begins
returns-in-Tx-clause-begins c = subst
    (λ i. CheckerBeginsBy i c.args.place c.args.self.now c.take_transaction.new.self) (sym c.in-Tx.is)
    c.take_transaction.ensures.begins

pub returns-in-Cut-clause-begins : goal.returns-in-Cut-clause-begins
returns-in-Cut-clause-begins c = begins_same c.args.item.now c.args.place c.args.self.now c.leave.new.self
    c.leave.ensures.known c.leave.ensures.began

pub returns-in_default-clause-begins : goal.returns-in_default-clause-begins
returns-in_default-clause-begins c = begins_same c.args.item.now c.args.place c.args.self.now c.args.self.now refl refl

pub returns-in-Junk-clause-knows : goal.returns-in-Junk-clause-knows
returns-in-Junk-clause-knows c =
    let s = c.args.self.now in
    subst (λ i. CheckerKnows (opening_after_item i (checker_gap s) s.opening) s c.skip.new.self) (sym c.in-Junk.is)
    (c.skip.ensures.knows c.in-Junk.field-0)

pub returns-in-Junk-clause-notes : goal.returns-in-Junk-clause-notes
returns-in-Junk-clause-notes c = checker_notes_nothing c.args.place c.args.self.now c.skip.new.self
    ((c.skip.ensures.watches true).broken (λ tx e. cc)) c.skip.ensures.crowded

pub returns-in-Reset-clause-knows : goal.returns-in-Reset-clause-knows
returns-in-Reset-clause-knows c =
    let s = c.args.self.now in
    subst (λ i. CheckerKnows (opening_after_item i (checker_gap s) s.opening) s c.reset.new.self) (sym c.in-Reset.is)
    (knows_same s c.reset.new.self c.reset.ensures.began c.reset.ensures.opening)

pub returns-in-Reset-clause-notes : goal.returns-in-Reset-clause-notes
returns-in-Reset-clause-notes c = checker_notes_nothing c.args.place c.args.self.now c.reset.new.self
    ((c.reset.ensures.watches 0).broken (λ tx e. cc)) c.reset.ensures.crowded

pub returns-in-Tx-clause-knows : goal.returns-in-Tx-clause-knows
returns-in-Tx-clause-knows c =
    let s = c.args.self.now in
    subst (λ i. CheckerKnows (opening_after_item i (checker_gap s) s.opening) s c.take_transaction.new.self)
    (sym c.in-Tx.is) c.take_transaction.ensures.knows

pub returns-in-Cut-clause-knows : goal.returns-in-Cut-clause-knows
returns-in-Cut-clause-knows c =
    let s = c.args.self.now in
    subst (λ i. CheckerKnows (opening_after_item i (checker_gap s) s.opening) s c.leave.new.self) (sym c.in-Cut.is)
    (knows_nothing Anything s c.leave.new.self c.leave.ensures.began c.leave.ensures.opening (λ h. refl))

pub returns-in-Cut-clause-notes : goal.returns-in-Cut-clause-notes
returns-in-Cut-clause-notes c = checker_notes_nothing c.args.place c.args.self.now c.leave.new.self
    c.leave.ensures.leaves.broken c.leave.ensures.crowded

pub returns-in_default-clause-knows : goal.returns-in_default-clause-knows
returns-in_default-clause-knows c = knows_passed c.args.self.now c.args.item.now c.in_default.not-Junk
    c.in_default.not-Tx c.in_default.not-Cut

pub returns-in_default-clause-notes : goal.returns-in_default-clause-notes
returns-in_default-clause-notes c = checker_notes_nothing c.args.place c.args.self.now c.args.self.now refl refl
