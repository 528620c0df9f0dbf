use Rattle.std.proofs.Common.{arith}
use Rattle.std.proofs.lemmas.Bool.Decides.{nat_tests}
use Rattle.swd_trace.proofs.ItemBitsLemmas.{item_bits_left_count}
use Rattle.swd_trace.proofs.item_bits.ItemBits.is_empty.Goals as goal

pub returns-then-self-eq0 : goal.returns-then-self-eq0
returns-then-self-eq0 c =
    let b = c.args.self.now in
    grind (arith, nat_tests, item_bits_left_count b.run b.len b.bits b.one)
