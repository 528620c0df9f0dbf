use Rattle.swd_trace.specs.declared.item.Item.TheVariants.{Tx}
use Rattle.swd_text.proofs.ListerLemmas.{lister_puts_item, lister_puts_nothing}
use Rattle.swd_text.proofs.lister.Lister.put_txs.Goals as goal

pub loop-spelled-init : goal.loop-spelled-init
loop-spelled-init g c = record {
  puts = lister_puts_nothing g.W.Write.contents c.args.self.now.decoder c.args.block.now;
}

pub loop-spelled-preserved : goal.loop-spelled-preserved
loop-spelled-preserved g c =
    let tx = c.in-Some.ensures.tx.found.0 in
    let spelled = c.in-Some.ensures.tx.found.1 in
    let gives = c.in-Some.ensures.tx.gives tx spelled in
    record {
      puts = lister_puts_item g.W.Write.contents _ _ _ _ _ _ (Tx tx) c.loop-spelled.invariant.puts gives.law
          gives.fed (c.put_held_tx.ensures.sends tx spelled) c.put_held_tx.ensures.writer;
    }

pub loop-spelled-smaller : goal.loop-spelled-smaller
loop-spelled-smaller g c = let gives = c.in-Some.ensures.tx.gives c.in-Some.ensures.tx.found.0
    c.in-Some.ensures.tx.found.1 in gives.fewer
