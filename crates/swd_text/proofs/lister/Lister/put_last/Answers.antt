use Rattle.std.proofs.Common.{[], ◌∷◌, ◌++◌, sym, ap, ◌∙◌, subst, append_assoc}
use Rattle.swd_io.specs.Blocks.{BlockBufferSends}
use Rattle.swd_trace.specs.Held.{decoder_rest}
use Rattle.swd_text.proofs.ListerLemmas.{decode_text_listing_more}
use Rattle.swd_text.proofs.lister.Lister.put_last.Goals as goal

pub loop-item-preserved : goal.loop-item-preserved
loop-item-preserved g c = record {
  sends = λ start bits items h.
      let i = c.loop-item.invariant.sends start bits items h in (
        i.0 ++ c.in-Some.item ∷ [],
        append_assoc i.0 (c.in-Some.item ∷ []) (decoder_rest c.last.new.self [])
            ∙ ap (λ x. i.0 ++ x) (sym c.in-Some.ensures.item) ∙ i.1,
        subst (λ all. BlockBufferSends g.W.Write.contents start c.put_line.new.block all)
            (sym (decode_text_listing_more i.0 c.in-Some.item)) (c.put_line.ensures.sends start _ i.2),
      );
  writer = c.put_line.ensures.writer ∙ c.loop-item.invariant.writer;
}
