use Rattle.std.proofs.Common.{sym, ◌∙◌}
use Rattle.swd_checker.proofs.IdentifyLemmas.{identification_seen}
use Rattle.swd_checker.proofs.IdentifyingLemmas.{read_in_moved, read_in_none}
use Rattle.swd_checker.proofs.identification.seen_in.Goals as goal

pub returns-then-reads_identification-clause-all : goal.returns-then-reads_identification-clause-all
returns-then-reads_identification-clause-all c = λ clean s t h. identification_seen clean c.args.tx.now.result
    c.args.tx.now.request c.moved_in.result s t c.moved_in.ensures.all
    (sym c.reads_identification.ensures ∙ c.if-reads_identification.true) h

pub returns-then-reads_identification-clause-exact : goal.returns-then-reads_identification-clause-exact
returns-then-reads_identification-clause-exact c = read_in_moved c.args.tx.now c.moved_in.result
    c.moved_in.ensures.exact

pub returns-else-reads_identification-clause-exact : goal.returns-else-reads_identification-clause-exact
returns-else-reads_identification-clause-exact c = read_in_none c.args.tx.now _ c.reads_identification.ensures
    c.if-reads_identification.false
