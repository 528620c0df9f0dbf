use Rattle.std.proofs.Common.{◌+◌, ◌^◌, ◌<◌, ◌++◌, ◌∷◌, [], arith}
use Rattle.swd_bits.specs.Bits.{low_bits}
use Rattle.swd_bits.proofs.BitsLemmas.{length-low_bits}
use Rattle.swd_trace.specs.declared.item.Item.TheVariants.{Tx}
use Rattle.swd_trace.specs.Held.{decoder_fed, idle_items}
use Rattle.swd_text.proofs.ListerLemmas.{decode_text_lists_found_tx}
use Rattle.swd_text.proofs.lister.Lister.bits_at_once.Goals as goal

pub returns-in-Some-clause-takes : goal.returns-in-Some-clause-takes
returns-in-Some-clause-takes g c =
    let d = c.args.self.now.decoder in
    let found = c.in-Some.found in
    let takes = c.in-Some.ensures.tx in
    let tx = takes.spells.0 in
    let spelled = takes.spells.1 in
    let most = takes.most in
    let few : decoder_fed d + found.taken < 2 ^ 64 = omega arith in
    record {
      lists = λ start before items h. (
        items ++ (idle_items found.idle ++ Tx tx ∷ []),
        decode_text_lists_found_tx g.W.Write.contents start d c.take_tx.new.self c.args.block.now
            c.put_found.new.block before items (low_bits found.taken c.args.bits) found.taken found.idle tx
            (c.in-Some.ensures.read tx before items spelled h.law) takes.fed
            (length-low_bits found.taken c.args.bits) few (λ all s. c.put_found.ensures.sends tx spelled start all s) h,
      );
      settled = takes.settled;
      fed = takes.fed;
      same = c.put_found.ensures.writer;
    }
