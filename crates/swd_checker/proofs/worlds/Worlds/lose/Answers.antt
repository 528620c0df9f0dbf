use Rattle.swd_checker.proofs.TransactLemmas.{loses_silently, loses_never, loses_any}
use Rattle.swd_checker.proofs.worlds.Worlds.lose.Goals as goal

pub returns-then-is_quiet-clause-loses : goal.returns-then-is_quiet-clause-loses
returns-then-is_quiet-clause-loses c = λ s t is lost d. loses_silently c.args.asked c.add.new.self c.args.seen
    (c.is_quiet.ensures.quiet c.if-is_quiet.true) c.add.ensures.adds s t is lost d

pub returns-then-not-asked-clause-loses : goal.returns-then-not-asked-clause-loses
returns-then-not-asked-clause-loses c = λ s t is lost d. loses_any c.args.asked c.with_fault.result
    c.lose_any.new.self c.args.seen c.with_fault.ensures.same c.with_fault.ensures.world c.lose_any.ensures.loses s t is
    lost d

pub returns-else-not-asked-clause-loses : goal.returns-else-not-asked-clause-loses
returns-else-not-asked-clause-loses c = λ s t is lost d. loses_never c.args.asked c.args.self.now c.args.seen
    c.if-not-asked.false (c.is_quiet.ensures.other c.if-is_quiet.false) s t is lost d

pub returns-then-is_quiet-clause-reaches : goal.returns-then-is_quiet-clause-reaches
returns-then-is_quiet-clause-reaches c = λ link old is h. c.add.ensures.reaches link old
    (h.quiet (c.is_quiet.ensures.quiet c.if-is_quiet.true) (c.is_quiet.ensures.undriven c.if-is_quiet.true))
