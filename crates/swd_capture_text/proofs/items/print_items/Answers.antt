use Rattle.std.proofs.Common.{◌≡◌, ℕ, ◌+◌, ◌<◌, ◌≤◌, List, [], ◌∷◌, ◌++◌, length, map, take, get_or}
use Rattle.std.proofs.Common.{refl, sym, ap, subst, ◌∙◌}
use Rattle.std.proofs.KnownBytes.{Appends-nil}
use Rattle.std.specs.Io.KnownBytes.{Appends}
use Rattle.std.proofs.lemmas.List.{map-append, take_all, take_more}
use Rattle.swd_io.specs.Blocks.{BlockBufferSends, OutputStopped}
use Rattle.swd_trace.specs.declared.item.Item.{Item}
use Rattle.swd_resync.specs.declared.part.Part.TheVariants.{Item as Told}
use Rattle.swd_capture.specs.declared.printed.Printed.{Printed}
use Rattle.swd_capture.specs.Printing.{capture_printout, capture_printed_parts}
use Rattle.swd_capture.specs.Tellers.{IsCaptureTellerAfter}
use Rattle.swd_capture.proofs.TellerLemmas.{capture_printed_more, capture_printed_none}
use Rattle.swd_capture_text.specs.Captures.{print_items_output}
use Rattle.swd_capture_text.proofs.items.print_items.Goals as goal

-- the parts for some items and one more
next : (items : List Item) (i : ℕ) (d : Item) → i < length items
    → map Told (take (i + 1) items) ≡ map Told (take i items) ++ Told (get_or items i d) ∷ []
next items i d h = ap (map Told) (take_more items i d h) ∙ map-append Told (take i items) (get_or items i d ∷ [])

pub loop-item-init : goal.loop-item-init
loop-item-init g c =
    let start = g.W.Write.contents c.args.writer.now in
    record {
      after = c.new-teller.ensures;
      sends = subst (BlockBufferSends g.W.Write.contents start c.new-block.result)
          (sym (capture_printed_none c.args.printed))
          (c.new-block.ensures.sends start [] (Appends-nil start) refl);
      writer = refl;
    }

pub loop-item-preserved : goal.loop-item-preserved
loop-item-preserved g c =
    let items = c.args.items.now in
    let i = c.loop-item.item-index in
    let start = g.W.Write.contents c.args.writer.now in
    let before = map Told (take i items) in
    let more = next items i _ c.loop-item-test.true in
    record {
      after = subst (λ parts. IsCaptureTellerAfter c.args.printed parts c.put_part.new.teller) (sym more)
          (c.put_part.ensures.after c.args.printed before c.loop-item.invariant.after);
      sends = subst (BlockBufferSends g.W.Write.contents start c.put_part.new.block)
          (sym (ap (capture_printed_parts c.args.printed) more ∙ capture_printed_more c.args.printed before
          _)) (c.put_part.ensures.sends c.args.printed before c.loop-item.invariant.after start
          (capture_printed_parts c.args.printed before) c.loop-item.invariant.sends);
      writer = c.put_part.ensures.writer ∙ c.loop-item.invariant.writer;
    }

-- the output for all of them
whole : (printed : Printed) (items : List Item) (i : ℕ) → length items ≤ i
    → capture_printout printed (map Told (take i items)) ≡ print_items_output printed items
whole printed items i h = ap (λ all. capture_printout printed (map Told all)) (take_all i items h)

pub returns-in-Ok : goal.returns-in-Ok
returns-in-Ok g c =
    let start = g.W.Write.contents c.args.writer.now in
    let same = c.writer-1.given.1 (sym (c.flush.ensures.writer ∙ c.put_rows.ensures.writer
    ∙ c.loop-item.invariant.writer ∙ c.new-block.ensures.writer)) in
    let all = c.put_rows.ensures.sends start _ _ c.loop-item.invariant.after c.loop-item.invariant.sends in
    let text = print_items_output c.args.printed c.args.items.now in
    subst (λ w. Appends start (g.W.Write.contents w) text) (sym same)
    (subst (Appends start (g.W.Write.contents c.flush.new.self.writer.now))
    (whole c.args.printed c.args.items.now c.loop-item.item-index c.loop-item-test.false)
    (c.in-Ok.ensures.ok start _ all).0)

pub returns-in-Err : goal.returns-in-Err
returns-in-Err g c =
    let start = g.W.Write.contents c.args.writer.now in
    let same = c.writer-1.given.1 (sym (c.flush.ensures.writer ∙ c.put_rows.ensures.writer
    ∙ c.loop-item.invariant.writer ∙ c.new-block.ensures.writer)) in
    let all = c.put_rows.ensures.sends start _ _ c.loop-item.invariant.after c.loop-item.invariant.sends in
    let text = print_items_output c.args.printed c.args.items.now in
    subst (λ w. OutputStopped c.in-Err.written start (g.W.Write.contents w) text) (sym same)
    (subst (OutputStopped c.in-Err.written start (g.W.Write.contents c.flush.new.self.writer.now))
    (whole c.args.printed c.args.items.now c.loop-item.item-index c.loop-item-test.false)
    (c.in-Err.ensures.err start _ all))
