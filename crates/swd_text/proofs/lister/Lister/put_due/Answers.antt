use Rattle.swd_text.proofs.ListerLemmas.{lister_puts_item, lister_puts_join}
use Rattle.swd_text.proofs.lister.Lister.put_due.Goals as goal

pub loop-item-init : goal.loop-item-init
loop-item-init g c = record {
  puts = lister_puts_join g.W.Write.contents _ _ _ _ _ _ c.put_txs.ensures c.put_lost.ensures;
}

pub loop-item-preserved : goal.loop-item-preserved
loop-item-preserved g c = record {
  puts = lister_puts_item g.W.Write.contents _ _ _ _ _ _ c.in-Some.item c.loop-item.invariant.puts
      c.in-Some.ensures.item c.in-Some.ensures.fed c.put_line.ensures.sends c.put_line.ensures.writer;
}
