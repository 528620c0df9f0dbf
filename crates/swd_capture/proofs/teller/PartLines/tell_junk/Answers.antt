use Rattle.std.proofs.Common.{◌≡◌, ◌+◌, ◌-◌, ◌/◌, ◌%◌, ◌^◌, min, List, Bool, true, false, [], ◌∷◌, ◌++◌, length}
use Rattle.std.proofs.Common.{replicate, refl, sym, ap, append_assoc, ◌∙◌, arith}
use Rattle.std.specs.Prelude.{◌==◌, Option}
use Rattle.std.proofs.lemmas.List.{append-nil}
use Rattle.swd_bits.specs.Bits.{low_bits}
use Rattle.swd_bits.specs.BitLists.{tx_bits_of}
use Rattle.swd_bits.proofs.BitsLemmas.{length-low_bits}
use Rattle.swd_port.specs.declared.select.Select.{Select}
use Rattle.swd_trace.proofs.NumberLemmas.{decoder_bits_next, decoder_bits_none}
use Rattle.swd_trace.specs.Texts.{item_line}
use Rattle.swd_trace.specs.declared.item.Item.TheVariants.{Junk}
use Rattle.swd_resync.specs.declared.part.Part.{Part}
use Rattle.swd_resync.specs.declared.part.Part.TheVariants.{Item as Told}
use Rattle.swd_resync.specs.AsItems.{resync_items}
use Rattle.swd_capture.specs.declared.printed.LineForm.{LineForm}
use Rattle.swd_capture.specs.declared.printed.Printed.TheVariants.{Lines}
use Rattle.swd_capture.specs.Names.{capture_select_behind, capture_select_from}
use Rattle.swd_capture.specs.Places.{capture_place_behind}
use Rattle.swd_capture.specs.Printing.{capture_printed_entry, capture_junk_parts, capture_part_line, capture_place_if}
use Rattle.swd_capture.specs.Printing.{capture_printed_parts}
use Rattle.swd_capture.proofs.TellerLemmas.{capture_place_more, capture_select_at_junk, capture_printed_more}
use Rattle.swd_capture.proofs.teller.PartLines.tell_junk.Goals as goal

-- a junk bit's line has no name
no_name : (names : Bool) (select : Option Select) (b : Bool)
    → capture_part_line names select (Told (Junk b)) ≡ item_line (Junk b)
no_name true select b = refl
no_name false select b = refl

-- a junk bit's line, with its place
junk_entry : (form : LineForm) (parts : List Part) (b : Bool)
    → capture_place_if form.places (capture_place_behind (resync_items parts)) ++ (item_line (Junk b) ++ 10 ∷ [])
    ≡ capture_printed_entry (Lines form) parts (Told (Junk b))
junk_entry form parts b =
    let before = resync_items parts in
    let place = capture_place_if form.places (capture_place_behind before) in
    ap (λ x. place ++ (x ++ 10 ∷ [])) (sym (no_name form.names (capture_select_behind before) b))
    ∙ sym (append_assoc place (capture_part_line form.names (capture_select_behind before) (Told (Junk b))) (10 ∷ []))

pub loop-left-preserved : goal.loop-left-preserved
loop-left-preserved g c = record {
  tells = λ parts h.
      let i = c.loop-left.invariant.tells parts h in
      let form = c.args.self.now.form in
      let left = c.loop-left.left in
      let bits = c.loop-left.bits in
      let old = c.loop-left.text.bytes in
      let bit = bits % 2 == 1 in
      let part = Told (Junk bit) in
      let line = capture_printed_entry (Lines form) i.0 part in
      let next : low_bits left bits ≡ bit ∷ low_bits (left - 1) (bits / 2) =
      decoder_bits_next left bits (omega (arith, c.loop-left-test.true)) in (
        i.0 ++ part ∷ [],
        i.1 ++ line,
        c.saturating_add-place.ensures ∙ ap (λ n. min (n + 1) (2 ^ 64 - 1)) i.2 ∙ sym
            (capture_place_more i.0 part),
        c.push_junk.ensures.bytes
            ∙ ap (λ f. old ++ (capture_place_if f.places c.loop-left.place ++ (item_line (Junk bit) ++ 10 ∷ [])))
            c.loop-left.invariant.form
            ∙ ap (λ p. old ++ (capture_place_if form.places p ++ (item_line (Junk bit) ++ 10 ∷ []))) i.2
            ∙ ap (λ x. old ++ x) (junk_entry form i.0 bit) ∙ ap (λ x. x ++ line) i.3
            ∙ append_assoc c.args.text.now.bytes i.1 line,
        capture_printed_more (Lines form) i.0 part ∙ ap (λ x. x ++ line) i.4
            ∙ append_assoc (capture_printed_parts (Lines form) parts) i.1 line,
        append_assoc i.0 (part ∷ []) (capture_junk_parts (low_bits (left - 1) (bits / 2)))
            ∙ ap (λ x. i.0 ++ capture_junk_parts x) (sym next) ∙ i.5,
      );
  form = c.loop-left.invariant.form;
  select = c.loop-left.invariant.select;
  room = omega (arith, c.loop-left.invariant.room, c.push_junk.ensures.len, c.loop-left-test.true);
}

pub returns-clause-after : goal.returns-clause-after
returns-clause-after g c = λ parts h.
    let i = c.loop-left.invariant.tells parts h in
    let bits = tx_bits_of c.args.junk in
    let none : low_bits c.loop-left.left c.loop-left.bits ≡ [] =
    decoder_bits_none c.loop-left.left c.loop-left.bits (omega (arith, c.loop-left-test.false)) in
    let all : i.0 ≡ parts ++ capture_junk_parts bits =
    sym (append-nil i.0) ∙ ap (λ x. i.0 ++ capture_junk_parts x) (sym none) ∙ i.5 in
    let len : length bits ≡ c.from.result = length-low_bits c.args.junk.len c.args.junk.bits ∙ sym c.from.ensures in
    record {
      place = i.2 ∙ ap (λ p. capture_place_behind (resync_items p)) all;
      select = c.selected_behind-self.ensures
          ∙ ap (λ s. capture_select_from s (replicate c.from.result (Junk false)))
          (c.loop-left.invariant.select ∙ h.select) ∙ sym (capture_select_at_junk parts bits c.from.result len);
    }

pub returns-clause-bytes : goal.returns-clause-bytes
returns-clause-bytes g c = λ parts h.
    let i = c.loop-left.invariant.tells parts h in
    let none : low_bits c.loop-left.left c.loop-left.bits ≡ [] =
    decoder_bits_none c.loop-left.left c.loop-left.bits (omega (arith, c.loop-left-test.false)) in (
      i.1,
      i.3,
      ap (capture_printed_parts (Lines c.args.self.now.form))
          (sym (sym (append-nil i.0) ∙ ap (λ x. i.0 ++ capture_junk_parts x) (sym none) ∙ i.5)) ∙ i.4,
    )
