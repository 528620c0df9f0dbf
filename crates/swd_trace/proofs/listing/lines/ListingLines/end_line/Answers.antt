use Rattle.std.proofs.Common.{◌≡◌, ◌≤◌, ◌<◌, ◌+◌, ◌^◌, ℕ, List, [], ◌∷◌, ◌++◌, length, sym, subst, arith, Some, None}
use Rattle.std.proofs.lemmas.Grind.{common_steps}
use Rattle.swd_trace.specs.declared.item.Item.{Item}
use Rattle.swd_trace.specs.Listed.{listing_lines, IsItemLine, RefusesListing}
use Rattle.swd_trace.specs.Texts.{item_bits}
use Rattle.swd_trace.proofs.LinesLemmas.{listing_takes_item_line, listing_refuses_line, listing_refuses_bit_count}
use Rattle.swd_trace.proofs.listing.lines.ListingLines.end_line.Goals as goal

-- the line as it is lent
none : (line lent : List ℕ) → lent ≡ line → ((item : Item) → IsItemLine lent item → None ≡ Some item) → (item : Item)
    → IsItemLine line item → ⊥
none line lent e h item k = let f = h item (subst (λ l. IsItemLine l item) (sym e) k) in cc

only : (line lent : List ℕ) (found : Item) → lent ≡ line
    → ((item : Item) → IsItemLine lent item → Some found ≡ Some item)
    → (item : Item) → IsItemLine line item → Some found ≡ Some item
only line lent found e h item k = h item (subst (λ l. IsItemLine l item) (sym e) k)

pub returns-in_default-clause-err : goal.returns-in_default-clause-err
returns-in_default-clause-err g c = λ seen more t.
    let self = c.args.self.now in
    subst (λ f. RefusesListing f (listing_lines (seen ++ 10 ∷ more))) (sym c.bad_line.ensures)
    (listing_refuses_line seen more self.items.items self.line.items self.total
    (none self.line.items c.as_slice.result.now c.as_slice.ensures.value c.in_default.ensures.only) t)

pub returns-in_default-checked_add-clause-err : goal.returns-in_default-checked_add-clause-err
returns-in_default-checked_add-clause-err g c = λ seen more t.
    let self = c.args.self.now in
    let past : 2 ^ 64 ≤ self.total + length (item_bits c.in-Some.item) = omega
    (arith, c.bit_count.ensures, c.in_default-checked_add.ensures) in
    subst (λ f. RefusesListing f (listing_lines (seen ++ 10 ∷ more))) (sym c.bad_line-in_default-checked_add.ensures)
    (listing_refuses_bit_count seen more self.items.items self.line.items self.total c.in-Some.item
    (only self.line.items c.as_slice.result.now c.in-Some.item c.as_slice.ensures.value c.in-Some.ensures.only) past t)

pub returns-clause-ok : goal.returns-clause-ok
returns-clause-ok g c = λ seen t.
    let self = c.args.self.now in
    let item = c.in-Some.item in
    let e : c.in-Some-checked_add.total ≡ self.total + length (item_bits item) = omega
    (arith, c.bit_count.ensures, c.in-Some-checked_add.ensures) in
    let f : c.push.new.self.items ≡ self.items.items
    ++ item ∷ [] = grind (arith, common_steps, c.push.ensures.items, c.if-is_err.false) in
    let room : self.total + length (item_bits item) < 2 ^ 64 = omega
    (arith, c.bit_count.ensures, c.in-Some-checked_add.ensures) in
    rw (e, f, c.clear.ensures)
    (listing_takes_item_line seen self.items.items self.line.items self.total item
    (subst (λ l. IsItemLine l item) c.as_slice.ensures.value c.in-Some.ensures.found)
    (only self.line.items c.as_slice.result.now item c.as_slice.ensures.value c.in-Some.ensures.only) room t)
