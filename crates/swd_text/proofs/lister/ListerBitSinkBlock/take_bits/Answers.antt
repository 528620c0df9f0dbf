use Rattle.std.proofs.Common.{◌∙◌}
use Rattle.swd_trace.proofs.HeldLemmas.{decoder_settled_undecided}
use Rattle.swd_text.proofs.lister.ListerBitSinkBlock.take_bits.Goals as goal

pub returns-clause-led : goal.returns-clause-led
returns-clause-led g c = λ i seen h.
    let m = c.bits_at_once.ensures.takes.lists i.from seen h.items h.lists in
    record {
      items = m.0;
      lists = m.1;
      undecided = decoder_settled_undecided c.bits_at_once.new.self.decoder c.bits_at_once.ensures.takes.settled;
      same = c.bits_at_once.ensures.takes.same ∙ h.same;
    }
