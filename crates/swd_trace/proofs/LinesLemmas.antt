-- Laws of the lines of a text, and of what is kept of a listing.
use Rattle.std.proofs.Common.{◌≡◌, ◌≢◌, ℕ, suc, ◌+◌, ◌-◌, ◌^◌, ◌<◌, ◌≤◌, List, [], ◌∷◌, ◌++◌, length, take}
use Rattle.std.proofs.Common.{append_assoc, refl, sym, ap, ◌∙◌, subst, arith, Some}
use Rattle.std.specs.Prelude.{if◌then◌else◌}
use Rattle.std.proofs.lemmas.Bool.{ne_eqb}
use Rattle.std.proofs.lemmas.List.{take_at, length-append, append-nil}
use Rattle.swd_trace.specs.declared.item.Item.{Item}
use Rattle.swd_trace.specs.Listed.{AreLegalItems, before_listing_lines, listing_lines, IsItemLine, AreItemLines}
use Rattle.swd_trace.specs.Listed.{ListsItems, IsFirstBadListingLine}
use Rattle.swd_trace.specs.Taken.{IsUnbrokenListing, ListingTakes}
use Rattle.swd_trace.specs.Texts.{item_bits, bits_of_items}
use Rattle.swd_trace.proofs.SizeLemmas.{length-line, item_bits_length_more}

-- a byte that is no line feed
lines_byte : (byte : ℕ) (text : List ℕ) → byte ≢ 10
    → listing_lines (byte ∷ text) ≡ before_listing_lines byte (listing_lines text)
lines_byte byte text h = ap (λ t. if t then [] ∷ listing_lines text else before_listing_lines byte (listing_lines text))
    (ne_eqb byte 10 h)

-- a line that ends
pub listing_line_ended : (line more : List ℕ) → IsUnbrokenListing line
    → listing_lines (line ++ 10 ∷ more) ≡ line ∷ listing_lines more
listing_line_ended [] more h = refl
listing_line_ended (byte ∷ line) more h = lines_byte byte (line ++ 10 ∷ more) h.0
    ∙ ap (before_listing_lines byte) (listing_line_ended line more h.1)

-- a last line without its end
pub listing_line_unended : (byte : ℕ) (line : List ℕ) → IsUnbrokenListing (byte ∷ line)
    → listing_lines (byte ∷ line) ≡ (byte ∷ line) ∷ []
listing_line_unended byte [] h = lines_byte byte [] h.0
listing_line_unended byte (next ∷ line) h = lines_byte byte (next ∷ line) h.0
    ∙ ap (before_listing_lines byte) (listing_line_unended next line h.1)

-- the first line begins with these bytes
pub record BeginsListingLine (front : List ℕ) (all : List (List ℕ)) : Type 0 where
  pub back : List ℕ
  pub rest : List (List ℕ)
  pub is : all ≡ (front ++ back) ∷ rest

begins_byte : (byte : ℕ) (all : List (List ℕ)) → BeginsListingLine (byte ∷ []) (before_listing_lines byte all)
begins_byte byte [] = record { back = []; rest = []; is = refl }
begins_byte byte (line ∷ rest) = record { back = line; rest = rest; is = refl }

pub listing_line_begins : (line : List ℕ) (byte : ℕ) (more : List ℕ) → IsUnbrokenListing line → byte ≢ 10
    → BeginsListingLine (line ++ byte ∷ []) (listing_lines (line ++ byte ∷ more))
listing_line_begins [] byte more h k = subst (BeginsListingLine (byte ∷ [])) (sym (lines_byte byte more k))
    (begins_byte byte (listing_lines more))
listing_line_begins (first ∷ line) byte more h k =
    let b = listing_line_begins line byte more h.1 k in
    record {
      back = b.back;
      rest = b.rest;
      is = lines_byte first (line ++ byte ∷ more) h.0
          ∙ ap (before_listing_lines first) b.is;
    }

unbroken_more : (line : List ℕ) (byte : ℕ) → IsUnbrokenListing line → byte ≢ 10 → IsUnbrokenListing (line ++ byte ∷ [])
unbroken_more [] byte h k = (k, tt)
unbroken_more (first ∷ line) byte h k = (h.0, unbroken_more line byte h.1 k)

-- one line more
pub listing_item_lines_more : (ended : List (List ℕ)) (items : List Item) (line : List ℕ) (item : Item)
    → AreItemLines ended items → IsItemLine line item → AreItemLines (ended ++ line ∷ []) (items ++ item ∷ [])
listing_item_lines_more [] [] line item h k = (k, tt)
listing_item_lines_more [] (other ∷ items) line item h k = absurd h
listing_item_lines_more (first ∷ ended) [] line item h k = absurd h
listing_item_lines_more (first ∷ ended) (other ∷ items) line item h k =
    (h.0, listing_item_lines_more ended items line item h.1 k)

-- the items of some lines and one line more
pub record ListingLastLine (ended : List (List ℕ)) (line : List ℕ) (items : List Item) : Type 0 where
  pub front : List Item
  pub last : Item
  pub is : items ≡ front ++ last ∷ []
  pub each : AreItemLines ended front
  pub line_is : IsItemLine line last

pub listing_lines_split_last : (ended : List (List ℕ)) (line : List ℕ) (items : List Item)
    → AreItemLines (ended ++ line ∷ []) items → ListingLastLine ended line items
listing_lines_split_last [] line [] h = absurd h
listing_lines_split_last [] line (item ∷ []) h = record { front = []; last = item; is = refl; each = tt; line_is = h.0 }
listing_lines_split_last [] line (item ∷ other ∷ items) h = absurd h.1
listing_lines_split_last (first ∷ ended) line [] h = absurd h
listing_lines_split_last (first ∷ ended) line (item ∷ items) h =
    let p = listing_lines_split_last ended line items h.1 in
    record {
      front = item ∷ p.front;
      last = p.last;
      is = ap (λ x. item ∷ x) p.is;
      each = (h.0, p.each);
      line_is =
          p.line_is;
    }

pub length-are : (ended : List (List ℕ)) (items : List Item) → AreItemLines ended items → length ended ≡ length items
length-are [] [] h = refl
length-are [] (item ∷ items) h = absurd h
length-are (line ∷ ended) [] h = absurd h
length-are (line ∷ ended) (item ∷ items) h = ap suc (length-are ended items h.1)

-- the line after those that list some items is bad
pub listing_first_bad_line : (ended all rest : List (List ℕ)) (line : List ℕ) (items : List Item)
    → all ≡ ended ++ line ∷ rest → AreItemLines ended items → length (bits_of_items items) < 2 ^ 64 →
    ((others : List Item) → ListsItems (ended ++ line ∷ []) others → ⊥) → IsFirstBadListingLine all (length items + 1)
listing_first_bad_line ended all rest line items e each counted bad =
    let n : length ended ≡ length items + 1 - 1 = length-are ended items each ∙ omega arith in
    let m : length (ended ++ line ∷ []) ≡ length items + 1 = length-append ended (line ∷ [])
    ∙ ap (λ n. n + 1) (length-are ended items each) in
    let front : take (length items + 1 - 1) all ≡ ended = ap (take (length items + 1 - 1)) e
    ∙ take_at ended (line ∷ rest) (length items + 1 - 1) n in
    let with : take (length items + 1) all ≡ ended ++ line ∷ [] =
    ap (take (length items + 1)) (e ∙ sym (append_assoc ended (line ∷ []) rest))
    ∙ take_at (ended ++ line ∷ []) rest (length items + 1) m in
    record {
      before = items;
      good = subst (λ x. ListsItems x items) (sym front) (record { each = each; counted = counted });
      bad = λ others h. bad others (subst (λ x. ListsItems x others) with h);
    }

only_none : (others : List Item) → AreItemLines [] others → others ≡ []
only_none [] h = refl
only_none (item ∷ items) h = absurd h

-- a byte that is no line feed
pub listing_takes_byte : (seen : List ℕ) (items : List Item) (line new : List ℕ) (total byte : ℕ) → byte ≢ 10
    → new ≡ line ++ byte ∷ [] → ListingTakes seen items line total → ListingTakes (seen ++ byte ∷ []) items new total
listing_takes_byte seen items line new total byte h e t = rw e (record {
  ended = t.ended;
  parts = λ more. ap listing_lines (append_assoc seen (byte ∷ []) more) ∙ t.parts (byte ∷ more)
      ∙ ap (λ x. t.ended ++ listing_lines x) (sym (append_assoc line (byte ∷ []) more));
  unbroken = unbroken_more line byte t.unbroken h;
  each = t.each;
  only = t.only;
  total_is = t.total_is;
  counted = t.counted;
})

-- a text with a line feed more
ended_at : (seen : List ℕ) (items : List Item) (line : List ℕ) (total : ℕ) (more : List ℕ)
    (t : ListingTakes seen items line total) → listing_lines (seen ++ 10 ∷ more) ≡ t.ended ++ line ∷ listing_lines more
ended_at seen items line total more t = t.parts (10 ∷ more) ∙ ap (λ x. t.ended ++ x)
    (listing_line_ended line more t.unbroken)

same_some : (a b : Item) → Some a ≡ Some b → b ≡ a
same_some a b e = cc

-- a line feed, after an item's line
pub listing_takes_item_line : (seen : List ℕ) (items : List Item) (line : List ℕ) (total : ℕ) (item : Item)
    → IsItemLine line item → ((other : Item) → IsItemLine line other → Some item ≡ Some other) →
    total + length (item_bits item) < 2 ^ 64 → ListingTakes seen items line total
    → ListingTakes (seen ++ 10 ∷ []) (items ++ item ∷ []) [] (total + length (item_bits item))
listing_takes_item_line seen items line total item is only room t = record {
  ended = t.ended ++ line ∷ [];
  parts = λ more. ap listing_lines (append_assoc seen (10 ∷ []) more) ∙ ended_at seen items line total more t
      ∙ sym (append_assoc t.ended (line ∷ []) (listing_lines more));
  unbroken = tt;
  each = listing_item_lines_more t.ended items line item t.each is;
  only = λ others h.
      let p = listing_lines_split_last t.ended line others h in
      p.is ∙ ap (λ x. x ++ p.last ∷ []) (t.only p.front p.each)
      ∙ ap (λ x. items ++ x ∷ []) (same_some item p.last (only p.last p.line_is));
  total_is = ap (λ n. n + length (item_bits item)) t.total_is ∙ sym (item_bits_length_more items item);
  counted = room;
}

counted_of : (seen : List ℕ) (items : List Item) (line : List ℕ) (total : ℕ) → ListingTakes seen items line total
    → length (bits_of_items items) < 2 ^ 64
counted_of seen items line total t = let e = t.total_is in let h = t.counted in omega (arith, e, h)

-- the line that has begun is that of no item
pub listing_refuses_line : (seen more : List ℕ) (items : List Item) (line : List ℕ) (total : ℕ)
    → ((item : Item) → IsItemLine line item → ⊥) → ListingTakes seen items line total →
    IsFirstBadListingLine (listing_lines (seen ++ 10 ∷ more)) (length items + 1)
listing_refuses_line seen more items line total none t =
    listing_first_bad_line t.ended (listing_lines (seen ++ 10 ∷ more)) (listing_lines more) line items
    (ended_at seen items line total more t) t.each (counted_of seen items line total t)
    (λ others h. let p = listing_lines_split_last t.ended line others h.each in none p.last p.line_is)

-- its item has too many bits
pub listing_refuses_bit_count : (seen more : List ℕ) (items : List Item) (line : List ℕ) (total : ℕ) (item : Item)
    → ((other : Item) → IsItemLine line other → Some item ≡ Some other) →
    2 ^ 64 ≤ total + length (item_bits item) → ListingTakes seen items line total
    → IsFirstBadListingLine (listing_lines (seen ++ 10 ∷ more)) (length items + 1)
listing_refuses_bit_count seen more items line total item only past t =
    listing_first_bad_line t.ended (listing_lines (seen ++ 10 ∷ more)) (listing_lines more) line items
    (ended_at seen items line total more t) t.each (counted_of seen items line total t)
    (λ others h.
    let p = listing_lines_split_last t.ended line others h.each in
    let e : others ≡ items ++ item ∷ [] = p.is ∙ ap (λ x. x ++ p.last ∷ []) (t.only p.front p.each)
    ∙ ap (λ x. items ++ x ∷ []) (same_some item p.last (only p.last p.line_is)) in
    let n : length (bits_of_items others) ≡ total + length (item_bits item) = ap (λ x. length (bits_of_items x)) e
    ∙ item_bits_length_more items item ∙ ap (λ n. n + length (item_bits item)) (sym t.total_is) in
    let k : length (bits_of_items others) < 2 ^ 64 = h.counted in
    omega (arith, n, k))

-- it is longer than any item's
pub listing_refuses_long_line : (seen more : List ℕ) (items : List Item) (line : List ℕ) (total byte : ℕ) → byte ≢ 10
    → length line ≡ 64 → ListingTakes seen items line total →
    IsFirstBadListingLine (listing_lines (seen ++ byte ∷ more)) (length items + 1)
listing_refuses_long_line seen more items line total byte h n t =
    let b = listing_line_begins line byte more t.unbroken h in
    let e : listing_lines (seen ++ byte ∷ more) ≡ t.ended ++ ((line ++ byte ∷ []) ++ b.back) ∷ b.rest =
    t.parts (byte ∷ more) ∙ ap (λ x. t.ended ++ x) b.is in
    listing_first_bad_line t.ended (listing_lines (seen ++ byte ∷ more)) b.rest ((line ++ byte ∷ []) ++ b.back) items e
    t.each (counted_of seen items line total t) (λ others k.
    let p = listing_lines_split_last t.ended ((line ++ byte ∷ []) ++ b.back) others k.each in
    let m : length ((line ++ byte ∷ []) ++ b.back) ≤ 64 = length-line ((line ++ byte ∷ []) ++ b.back) p.last
    p.line_is in
    omega (arith, m, n, length-append (line ++ byte ∷ []) b.back, length-append line (byte ∷ [])))

-- the end of the text
pub listing_takes_all_lines : (seen : List ℕ) (items : List Item) (line : List ℕ) (total : ℕ) → line ≡ []
    → ListingTakes seen items line total → ListsItems (listing_lines seen) items
listing_takes_all_lines seen items line total e t =
    let f : listing_lines seen ≡ t.ended = ap listing_lines (sym (append-nil seen)) ∙ t.parts []
    ∙ ap (λ x. t.ended ++ listing_lines (x ++ [])) e ∙ append-nil t.ended in
    subst (λ x. ListsItems x items) (sym f) (record { each = t.each; counted = counted_of seen items line total t })

-- a last line that lacks its end is as if it had it
last_line : (line : List ℕ) → line ≢ [] → IsUnbrokenListing line
    → listing_lines (line ++ []) ≡ listing_lines (line ++ 10 ∷ [])
last_line [] h k = absurd (h refl)
last_line (byte ∷ line) h k = ap listing_lines (append-nil (byte ∷ line)) ∙ listing_line_unended byte line k
    ∙ sym (listing_line_ended (byte ∷ line) [] k)

-- a line feed after a last line that isn't empty, and lacks its own, adds no line
pub listing_last_feed_no_line : (seen : List ℕ) (items : List Item) (line : List ℕ) (total : ℕ) → line ≢ []
    → ListingTakes seen items line total → listing_lines (seen ++ 10 ∷ []) ≡ listing_lines seen
listing_last_feed_no_line seen items line total h t =
    t.parts (10 ∷ []) ∙ ap (λ x. t.ended ++ x) (sym (last_line line h t.unbroken)) ∙ sym (t.parts [])
    ∙ ap listing_lines (append-nil seen)

-- items that have lines have legal counts, words and bits
pub listing_items_are_legal : (ended : List (List ℕ)) (items : List Item) → AreItemLines ended items
    → AreLegalItems items
listing_items_are_legal [] [] h = tt
listing_items_are_legal [] (item ∷ items) h = absurd h
listing_items_are_legal (line ∷ ended) [] h = absurd h
listing_items_are_legal (line ∷ ended) (item ∷ items) h = (h.0.legal, listing_items_are_legal ended items h.1)
