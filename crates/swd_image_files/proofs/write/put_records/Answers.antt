use Rattle.std.proofs.Common.{◌≡◌, ◌+◌, ◌-◌, ◌/◌, ◌<◌, [], ◌∷◌, ◌++◌, length, take, drop, ap, ap₂, sym, ◌∙◌}
use Rattle.std.proofs.Common.{append_assoc, arith, min, subst}
use Rattle.std.proofs.lemmas.Bool.{eqb-false, eqb-true}
use Rattle.std.proofs.lemmas.List.{length-drop, append-nil}
use Rattle.swd_io.specs.Blocks.{BlockBufferSends}
use Rattle.swd_image_files.specs.Texts.{image_file_base_lines, image_file_data_count, image_file_data_line}
use Rattle.swd_image_files.specs.Texts.{image_file_data_lines}
use Rattle.swd_image_files.proofs.TextLemmas.{image_file_no_data_line, image_file_next_data_line_of}
use Rattle.swd_image_files.proofs.TextLemmas.{image_file_text_append}
use Rattle.swd_image_files.proofs.write.put_records.Goals as goal

pub loop-rest-preserved : goal.loop-rest-preserved
loop-rest-preserved g c =
    let records = c.args.records in
    let at = c.loop-rest.at in
    let upper = c.loop-rest.upper in
    let rest = c.loop-rest.rest.now in
    let most = c.loop-rest.invariant.most in
    let text = c.loop-rest.invariant.text in
    let enough = c.loop-rest.invariant.enough in
    let fits = c.loop-rest.invariant.fits in
    let k = c.min-count.result in
    let empty = eqb-false (length rest) 0 (sym c.is_empty.ensures ∙ c.loop-rest-test.true) in
    let some : 0 < length rest = omega (arith, empty) in
    let counted : k ≡ image_file_data_count records at rest =
    c.min-count.ensures ∙ ap (λ s. min s (length rest)) c.span.ensures.value in
    let line : c.as_slice.result.now ≡ image_file_data_line records at (take k rest) =
    c.as_slice.ensures.value ∙ c.data_line.ensures ∙ ap (image_file_data_line records at) c.front.ensures in
    let part = image_file_base_lines records upper (at / 65536) in
    let fed = c.as_slice.result.now ++ 10 ∷ [] in
    let left = length-drop k rest in
    let one = c.span.ensures.some in
    let min_is = c.min-count.ensures in
    let behind = c.behind-rest.ensures in
    let len : length c.behind-rest.result.now ≡ length rest - k = ap length behind ∙ left in
    record {
      most = most - 1;
      enough = omega (arith, len, one, min_is, enough, some);
      fits = omega (arith, len, min_is, fits);
      text = text ++ (part ++ fed);
      whole =
          append_assoc text (part ++ fed) (image_file_data_lines records (most - 1) (at / 65536) (at + k)
          c.behind-rest.result.now)
          ∙ ap (λ l. text ++ ((part ++ fed) ++ image_file_data_lines records (most - 1) (at / 65536) (at + k) l)) behind
          ∙ ap (λ l. text ++ ((part ++ (l ++ 10 ∷ []))
          ++ image_file_data_lines records (most - 1) (at / 65536) (at + k) (drop k rest))) line
          ∙ ap (λ n. text ++ ((part ++ (image_file_data_line records at (take n rest) ++ 10 ∷ []))
          ++ image_file_data_lines records (most - 1) (at / 65536) (at + n) (drop n rest))) counted
          ∙ ap (λ l. text ++ l) (sym (image_file_next_data_line_of records most upper at rest some enough))
          ∙ c.loop-rest.invariant.whole;
      sends = λ start all h.
          subst (BlockBufferSends g.W.Write.contents start c.put_line.new.self)
          (image_file_text_append all text part fed) (c.put_line.ensures.sends start ((all ++ text) ++ part)
          (c.put_base.ensures.sends start (all ++ text) (c.loop-rest.invariant.sends start all h)));
      writer = c.put_line.ensures.writer ∙ c.put_base.ensures.writer ∙ c.loop-rest.invariant.writer;
    }

pub returns-clause-sends : goal.returns-clause-sends
returns-clause-sends g c = λ start all h.
    let records = c.args.records in
    let rest = c.loop-rest.rest.now in
    let text = c.loop-rest.invariant.text in
    let most = c.loop-rest.invariant.most in
    let end = c.end_line.result.now ++ 10 ∷ [] in
    let none = eqb-true (length rest) 0 (sym c.is_empty.ensures ∙ c.loop-rest-test.false) in
    let whole : text ≡ image_file_data_lines records (length c.args.bytes.now) 0 c.args.addr c.args.bytes.now =
    sym (append-nil text)
    ∙ ap (λ l. text ++ l) (sym (image_file_no_data_line records most c.loop-rest.upper c.loop-rest.at rest none))
    ∙ c.loop-rest.invariant.whole in
    subst (BlockBufferSends g.W.Write.contents start c.put_line-2.new.self)
    (append_assoc all text end
    ∙ ap₂ (λ t e. all ++ (t ++ (e ++ 10 ∷ []))) whole c.end_line.ensures)
    (c.put_line-2.ensures.sends start (all ++ text) (c.loop-rest.invariant.sends start all h))
