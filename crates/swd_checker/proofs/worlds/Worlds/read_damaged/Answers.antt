use Rattle.std.proofs.Common.{refl}
use Rattle.swd_checker.proofs.AddingLemmas.{read_changed}
use Rattle.swd_checker.proofs.worlds.Worlds.read_damaged.Goals as goal

pub returns-then-not-now-clause-reads : goal.returns-then-not-now-clause-reads
returns-then-not-now-clause-reads c = λ dirty place inside chosen x accepts prompt is. read_changed c.args.now
    c.with_fault.result c.read.new.self c.seen.result c.args.word place c.with_fault.ensures.same
    c.with_fault.ensures.world c.read.ensures.reads (c.seen.ensures.changed refl place inside) chosen x accepts prompt
    is
