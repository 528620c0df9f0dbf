use Rattle.std.proofs.Common.{[], ◌∷◌, ◌++◌, ◌∙◌, arith}
use Rattle.swd_text.proofs.ListerLemmas.{decode_text_takes_bits}
use Rattle.swd_text.proofs.lister.ListerBitSinkBlock.take_bit.Goals as goal

pub returns-clause-led : goal.returns-clause-led
returns-clause-led g c = λ i seen h.
    let m = c.put_due.ensures.puts.lists i.from (seen ++ c.args.bit ∷ []) h.items
    (decode_text_takes_bits g.W.Write.contents i.from c.args.self.now.decoder c.take.new.self c.args.block.now seen
    h.items (c.args.bit ∷ []) c.take.ensures.law c.take.ensures.fed (omega arith) h.lists) in
    record {
      items = m.0;
      lists = m.1;
      undecided = c.put_due.ensures.undecided;
      same = c.put_due.ensures.puts.same ∙ h.same;
    }
