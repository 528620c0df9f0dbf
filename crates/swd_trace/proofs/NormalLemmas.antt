-- A list of items beside the reading of its bits.
use Rattle.std.proofs.Common.{◌≡◌, ◌≢◌, ℕ, zero, suc, ◌+◌, ◌-◌, ◌<◌, ◌≤◌, Bool, List, [], ◌∷◌, ◌++◌, length, take, drop}
use Rattle.std.proofs.Common.{drop-cons, get_or, append_assoc, sym, ap, ◌∙◌, subst, arith}
use Rattle.std.proofs.lemmas.List.{append-nil, length-append, length-take, length-take-le, take_at, take-take}
use Rattle.swd_trace.specs.declared.item.Item.{Item}
use Rattle.swd_trace.specs.declared.decoder.Decoder.{Decoder}
use Rattle.swd_trace.specs.Held.{decoder_rest}
use Rattle.swd_trace.specs.Listed.{IsLegalItem, AreLegalItems, ItemsDifferFirst}
use Rattle.swd_trace.specs.Normality.{ListingAgrees, ListingDiffers, HasNextItem}
use Rattle.swd_trace.specs.Reading.{reading_of}
use Rattle.swd_trace.specs.Texts.{item_bits, bits_of_items}

-- two lists of which the other goes on with an item that the one does not have there
other_item : (items others : List Item) (same : ℕ) (item : Item) → same ≤ length items
    → take same others ≡ take same items →
    take (same + 1) others ≡ take same items ++ item ∷ [] → (HasNextItem items same item → ⊥)
    → ItemsDifferFirst items others (suc same)
other_item items others same item within first read other =
    let n : suc same - 1 ≡ same = omega arith in
    let m : suc same ≡ same + 1 = omega arith in
    record {
      same = rw n (sym first);
      other = λ e.
          let f : take (same + 1) items ≡ take same items ++ item ∷ [] = subst (λ k. take k items ≡ take k others) m e
          ∙ read in
          let long : length (take (same + 1) items) ≡ length (take same items ++ item ∷ []) = ap length f in
          let here : same < length items =
          omega (
            arith,
            length-take (same + 1) items,
            length-take-le same items within,
            length-append (take same items)
                (item ∷ []),
          ) in
          other (here, f);
    }

-- the item that is read is another one than the list's
pub listing_differs_at_item : (items : List Item) (same : ℕ) (old new : Decoder) (ahead : List Bool) (item : Item)
    → decoder_rest old ahead ≡ item ∷ decoder_rest new ahead →
    (HasNextItem items same item → ⊥) → ListingAgrees items same old ahead → ListingDiffers items same
listing_differs_at_item items same old new ahead item law other h =
    let within : same ≤ length items = h.within in
    let all = reading_of (bits_of_items items) in
    let len : length (take same items) ≡ same = length-take-le same items within in
    let more : length (take same items ++ item ∷ []) ≡ same + 1 = length-append (take same items) (item ∷ [])
    ∙ ap (λ n. n + 1) len in
    let first : take same all ≡ take same items = ap (take same) (sym h.law)
    ∙ take_at (take same items) (decoder_rest old ahead) same len in
    let next : (take same items ++ item ∷ []) ++ decoder_rest new ahead ≡ all =
    append_assoc (take same items) (item ∷ []) (decoder_rest new ahead) ∙ ap (λ x. take same items ++ x) (sym law) ∙
    h.law in
    let read : take (same + 1) all ≡ take same items ++ item ∷ [] =
    ap (take (same + 1)) (sym next) ∙ take_at (take same items ++ item ∷ []) (decoder_rest new ahead) (same + 1) more in
    record { within = within; first = other_item items all same item within first read other }

-- the reading ends with the items that it has in common with the list
common : (items : List Item) (same : ℕ) (d : Decoder) → decoder_rest d [] ≡ [] → ListingAgrees items same d []
    → take same items ≡ reading_of (bits_of_items items)
common items same d none h = sym (append-nil (take same items)) ∙ ap (λ x. take same items ++ x) (sym none) ∙ h.law

-- where a reading is the first items of its list and no more, the two differ first at the item after these
pub listing_longer_than_reading : (items : List Item) (same : ℕ) (d : Decoder) → decoder_rest d [] ≡ []
    → same ≢ length items → ListingAgrees items same d [] →
    ItemsDifferFirst items (reading_of (bits_of_items items)) (suc same)
listing_longer_than_reading items same d none other h =
    let within : same ≤ length items = h.within in
    let n : suc same - 1 ≡ same = omega arith in
    let all : reading_of (bits_of_items items) ≡ take same items = sym (common items same d none h) in
    let first : take same items ≡ take same (reading_of (bits_of_items items)) = sym
    (take-take same same items (omega arith)) ∙ ap (take same) (sym all) in
    record {
      same = rw n first;
      other = λ e.
          let long : length (take (suc same) items) ≡ length (take (suc same) (take same items)) = ap length
          (e ∙ ap (take (suc same)) all) in
          omega (
            arith,
            length-take (suc same) items,
            length-take (suc same) (take same items),
            length-take-le same
                items within,
          );
    }

-- ---- the items one by one

-- in a list of legal items, the item at each place is legal
pub legal_item_at_place : (items : List Item) (at : ℕ) (d : Item) → at < length items → AreLegalItems items
    → IsLegalItem (get_or items at d)
legal_item_at_place [] at d h l = absurd (omega arith)
legal_item_at_place (item ∷ items) zero d h l = l.0
legal_item_at_place (item ∷ items) (suc at) d h l = legal_item_at_place items at d (omega arith) l.1

-- the bits of an item and of those after it
pub item_bits_from_place : (items : List Item) (at : ℕ) (d : Item) → at < length items →
    bits_of_items (drop at items) ≡ item_bits (get_or items at d) ++ bits_of_items (drop (at + 1) items)
item_bits_from_place items at d h =
    let n : suc at ≡ at + 1 = omega arith in
    ap bits_of_items (drop-cons items at d h)
    ∙ ap (λ k. item_bits (get_or items at d) ++ bits_of_items (drop k items)) n

-- the items from a place on have as many bits as the item there and the items after it together
pub item_bit_count_from_place : (items : List Item) (at : ℕ) (d : Item) → at < length items →
    length (bits_of_items (drop at items)) ≡ length (item_bits (get_or items at d)) + length
    (bits_of_items (drop (at + 1) items))
item_bit_count_from_place items at d h =
    ap length (item_bits_from_place items at d h)
    ∙ length-append (item_bits (get_or items at d)) (bits_of_items (drop (at + 1) items))
