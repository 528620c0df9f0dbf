use Rattle.swd_bits.proofs.BitsLemmas.{low_bits-join, low_bits_join_lt}
use Rattle.swd_bits.proofs.tx_bits.TxBits.then.Goals as goal

pub returns-clause-whole : goal.returns-clause-whole
returns-clause-whole c =
    low_bits_join_lt c.args.self.len c.args.more.len c.args.more.bits c.args.self.bits c.requires.small c.requires.whole
    c.requires.room

pub returns-clause-bits : goal.returns-clause-bits
returns-clause-bits c =
    low_bits-join c.args.self.len c.args.more.len c.args.more.bits c.args.self.bits c.requires.small c.requires.whole
    c.requires.room
