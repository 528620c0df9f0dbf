use Rattle.std.proofs.Common.{◌∙◌, sym, subst, append-nil}
use Rattle.swd_trace.specs.Texts.{listing}
use Rattle.swd_text.specs.Listers.{ListerHasTaken}
use Rattle.swd_text.proofs.ListerLemmas.{lister_decides}
use Rattle.swd_text.proofs.lister.ListerBitSinkBlock.pause.Goals as goal

pub returns-in-Ok-clause-led : goal.returns-in-Ok-clause-led
returns-in-Ok-clause-led g c = λ i seen h.
    subst (ListerHasTaken g.W.Write.contents i (c.args.self.now, c.flush.new.self)) (sym (append-nil seen)) (record {
      items = h.items;
      lists = record {
        law = h.lists.law;
        count = h.lists.count;
        counted = h.lists.counted;
        sends = c.flush.ensures.sends i.from (listing h.items) h.lists.sends;
      };
      undecided = h.undecided;
      same = c.flush.ensures.writer ∙ h.same;
    })

pub returns-in-Err-clause-stops : goal.returns-in-Err-clause-stops
returns-in-Err-clause-stops g c = λ i seen h. record {
  items = h.items;
  decided = lister_decides g.W.Write.contents i (c.args.self.now, c.args.block.now) seen h;
  cut = c.in-Err.ensures.err i.from (listing h.items) h.lists.sends;
  same = c.flush.ensures.writer ∙ h.same;
}
