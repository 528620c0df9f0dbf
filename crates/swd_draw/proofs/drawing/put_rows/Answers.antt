use Rattle.std.proofs.Common.{◌≡◌, ◌+◌, ◌<◌, [], ◌∷◌, ◌++◌, length, take, get_or, sym, ap, ◌∙◌, subst, append_assoc}
use Rattle.std.proofs.Common.{add-one, arith}
use Rattle.std.proofs.Math.Seq.{take-suc}
use Rattle.std.proofs.lemmas.List.{length-take-le}
use Rattle.std.specs.Prelude.{ℕ, List}
use Rattle.swd_io.specs.Blocks.{BlockBufferSends}
use Rattle.swd_resync.specs.declared.part.Part.{Part}
use Rattle.swd_resync.specs.declared.part.Part.TheVariants.{Item as Told}
use Rattle.swd_trace.specs.declared.item.Item.TheVariants.{Reset}
use Rattle.swd_capture.specs.Tellers.{IsCaptureTellerAfter}
use Rattle.swd_draw.specs.Rows.{drawn_line_form, drawing_row, drawing_rows}
use Rattle.swd_draw.proofs.RowLemmas.{drawing_rows_more}
use Rattle.swd_draw.proofs.drawing.put_rows.Goals as goal

-- one part more
next_part : (parts : List Part) (index : ℕ) (other : Part) → index < length parts
    → take (index + 1) parts ≡ take index parts ++ get_or parts index other ∷ []
next_part parts index other h = ap (λ n. take n parts) (add-one index) ∙ take-suc parts index other h

pub loop-index-preserved : goal.loop-index-preserved
loop-index-preserved g c =
    let parts = c.args.parts.now in
    let names = c.args.names in
    let index = c.loop-index.index in
    let before = take index parts in
    let part = get_or parts index (Told (Reset 0)) in
    let within : index < length parts = c.loop-index-test.true in
    let next : take (index + 1) parts ≡ before ++ part ∷ [] = next_part parts index (Told (Reset 0)) within in
    let at : index ≡ length before = sym (length-take-le index parts (omega arith)) in
    let text : c.as_bytes.result.now ≡ drawing_row names before part =
    c.as_bytes.ensures.value ∙ c.as_str.ensures.value
    ∙ c.push_row.ensures.bytes names before c.loop-index.invariant.after at
    ∙ ap (λ x. x ++ drawing_row names before part) c.clear.ensures in
    record {
      within = omega arith;
      after = subst (λ p. IsCaptureTellerAfter (drawn_line_form names) p c.push_row.new.teller) (sym next)
          (c.push_row.ensures.after names before c.loop-index.invariant.after);
      writer = c.put_text.ensures.writer ∙ c.loop-index.invariant.writer;
      sends = λ start all h.
          subst (λ x. BlockBufferSends g.W.Write.contents start c.put_text.new.block x)
          (ap (λ x. (all ++ drawing_rows names [] before) ++ x) text
          ∙ append_assoc all (drawing_rows names [] before) (drawing_row names before part)
          ∙ ap (λ x. all ++ x) (sym (drawing_rows_more names [] before part) ∙ ap (drawing_rows names []) (sym next)))
          (c.put_text.ensures.sends start (all ++ drawing_rows names [] before)
          (c.loop-index.invariant.sends start all h));
    }
