use Rattle.std.proofs.Common.{◌≡◌, ℕ, zero, suc, ◌+◌, ◌<◌, List, [], ◌∷◌, ◌++◌, length, take, get_or, sym, ap, ◌∙◌}
use Rattle.std.proofs.Common.{subst, append_assoc, arith, add-one}
use Rattle.std.proofs.lemmas.List.{append-nil}
use Rattle.std.proofs.Math.Seq.{take-suc}
use Rattle.swd_trace.specs.declared.item.Item.{Item}
use Rattle.swd_trace.specs.Listed.{IsLegalItem, AreLegalItems}
use Rattle.swd_trace.specs.Texts.{item_text, trace_text}
use Rattle.swd_io.specs.Blocks.{BlockBufferSends}
use Rattle.swd_text.proofs.encoding.put_items.Goals as goal

legal_at : (items : List Item) (k : ℕ) (d : Item) → k < length items → AreLegalItems items
    → IsLegalItem (get_or items k d)
legal_at [] k d h l = absurd (omega arith)
legal_at (item ∷ items) zero d h l = l.0
legal_at (item ∷ items) (suc k) d h l = legal_at items k d (omega arith) l.1

-- the text of some items and one more
trace_more : (items : List Item) (item : Item) → trace_text (items ++ item ∷ []) ≡ trace_text items ++ item_text item
trace_more [] item = append-nil (item_text item)
trace_more (i ∷ items) item = ap (λ x. item_text i ++ x) (trace_more items item)
    ∙ sym (append_assoc (item_text i) (trace_text items) (item_text item))

trace_next : (items : List Item) (k : ℕ) (d : Item) → k < length items
    → trace_text (take (k + 1) items) ≡ trace_text (take k items) ++ item_text (get_or items k d)
trace_next items k d h =
    ap (λ n. trace_text (take n items)) (add-one k) ∙ ap trace_text (take-suc items k d h)
    ∙ trace_more (take k items) (get_or items k d)

pub put_item-requires : goal.put_item-requires
put_item-requires g c = legal_at c.args.items.now c.loop-item.item-index _ c.loop-item-test.true c.requires

pub loop-item-preserved : goal.loop-item-preserved
loop-item-preserved g c =
    let items = c.args.items.now in
    let k = c.loop-item.item-index in
    let so_far = trace_text (take k items) in
    record {
      sends = λ start all h.
          subst (BlockBufferSends g.W.Write.contents start c.put_item.new.block)
          (append_assoc all so_far (item_text (get_or items k _))
          ∙ ap (λ x. all ++ x) (sym (trace_next items k _ c.loop-item-test.true)))
          (c.put_item.ensures.sends start (all ++ so_far) (c.loop-item.invariant.sends start all h));
      writer = c.put_item.ensures.writer ∙ c.loop-item.invariant.writer;
    }
