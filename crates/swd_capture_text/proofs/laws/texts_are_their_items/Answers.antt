use Rattle.std.proofs.Common.{◌≡◌, ℕ, List, [], ◌∷◌, ◌++◌, Bool, true, false, Some, map, refl, sym, ap, ◌∙◌}
use Rattle.std.proofs.Common.{append_assoc}
use Rattle.std.specs.Option.{option_map}
use Rattle.swd_bits.specs.TraceText.{scan_bits_from}
use Rattle.swd_trace.specs.declared.item.Item.{Item}
use Rattle.swd_trace.specs.Texts.{bits_of_items, trace_digit, item_bits, trace_text}
use Rattle.swd_resync.specs.declared.part.Part.TheVariants.{Item as Told}
use Rattle.swd_capture_text.proofs.laws.texts_are_their_items.Goals as goal

-- the characters of bits before a text are these bits before its own
bits_before : (bits : List Bool) (text : List ℕ) (more : List Bool) → scan_bits_from false text ≡ Some more
    → scan_bits_from false (map trace_digit bits ++ text) ≡ Some (bits ++ more)
bits_before [] text more e = e
bits_before (false ∷ bits) text more e = ap (option_map (λ rest. false ∷ rest)) (bits_before bits text more e)
bits_before (true ∷ bits) text more e = ap (option_map (λ rest. true ∷ rest)) (bits_before bits text more e)

-- the bits of a trace's text are those of its items
bits_in : (items : List Item) → scan_bits_from false (trace_text items) ≡ Some (bits_of_items items)
bits_in [] = refl
bits_in (item ∷ items) =
    ap (scan_bits_from false) (append_assoc (map trace_digit (item_bits item)) (10 ∷ []) (trace_text items))
    ∙ bits_before (item_bits item) (10 ∷ trace_text items) (bits_of_items items) (bits_in items)

pub returns : goal.returns
returns c = λ items read counted.
    (bits_of_items items, record { has = bits_in items; counted = counted }, ap (map Told) (sym read))
