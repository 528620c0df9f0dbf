use Rattle.swd_host.proofs.Words.{arith}
use Rattle.swd_host.proofs.Blocked.{block_reads_valid, block_reads_too_many, block_reads_unaligned}
use Rattle.swd_host.proofs.block.refusal.Goals as goal

pub returns-then-count-gt-MOST_ACCESSES-clause-refused : goal.returns-then-count-gt-MOST_ACCESSES-clause-refused
returns-then-count-gt-MOST_ACCESSES-clause-refused c = block_reads_too_many c.args.addr c.args.count
    c.if-count-gt-MOST_ACCESSES.true

pub returns-then-addr-eq0-clause-none : goal.returns-then-addr-eq0-clause-none
returns-then-addr-eq0-clause-none c = (
  omega (arith, c.if-count-gt-MOST_ACCESSES.false),
  block_reads_valid c.args.addr c.args.count c.if-addr-eq0.true c.requires,
)

pub returns-else-addr-eq0-clause-refused : goal.returns-else-addr-eq0-clause-refused
returns-else-addr-eq0-clause-refused c =
    block_reads_unaligned c.args.addr c.args.count (omega (arith, c.if-count-gt-MOST_ACCESSES.false))
    c.if-count-eq0.false c.if-addr-eq0.false
