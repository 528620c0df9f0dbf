use Rattle.std.proofs.Common.{map}
use Rattle.swd_bits.specs.BitLists.{tx_bits_of}
use Rattle.swd_trace.specs.declared.item.Item.TheVariants.{Junk}
use Rattle.swd_text.proofs.ListerLemmas.{lister_puts_items}
use Rattle.swd_text.proofs.lister.Lister.put_lost.Goals as goal

pub returns-in-Some : goal.returns-in-Some
returns-in-Some g c =
    let gives = c.in-Some.ensures.junk in
    lister_puts_items g.W.Write.contents _ _ _ _ (map Junk (tx_bits_of c.in-Some.junk)) gives.law gives.fed
    c.put_junk.ensures.sends c.put_junk.ensures.writer
