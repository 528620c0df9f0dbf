use Rattle.std.proofs.Common.{◌≡◌, ◌≢◌, ℕ, Bool, true, false, List, [], ◌∷◌, ◌++◌, length, ap, ◌∙◌, subst, arith}
use Rattle.std.specs.Prelude.{◌==◌}
use Rattle.swd_trace.specs.Listed.{ListsItems, RefusesListing}
use Rattle.swd_trace.proofs.LinesLemmas.{listing_items_are_legal, listing_takes_all_lines, listing_last_feed_no_line}
use Rattle.swd_trace.proofs.listing.lines.ListingLines.finish.Goals as goal

-- the line that has begun is not empty
some : (line : List ℕ) (empty : Bool) → empty ≡ (length line == 0) → empty ≡ false → line ≢ []
some line empty e f g = let h : empty ≡ true = e ∙ ap (λ l. length l == 0) g in cc

pub returns-in-Ok-clause-ok : goal.returns-in-Ok-clause-ok
returns-in-Ok-clause-ok g c = λ seen t.
    let self = c.args.self in
    let new = c.end_line.new.self in
    let k = listing_takes_all_lines (seen ++ 10 ∷ []) new.items.items new.line.items new.total c.in-Ok.ensures.empty
    (c.in-Ok.ensures.ok seen t) in
    subst (λ x. ListsItems x new.items.items)
    (listing_last_feed_no_line seen self.items.items self.line.items self.total
    (some self.line.items c.is_empty.result c.is_empty.ensures c.if-is_empty.false) t) k

pub returns-in-Err-clause-err : goal.returns-in-Err-clause-err
returns-in-Err-clause-err g c = λ seen t.
    let self = c.args.self in
    subst (RefusesListing c.in-Err.fault) (listing_last_feed_no_line seen self.items.items self.line.items self.total
    (some self.line.items c.is_empty.result c.is_empty.ensures c.if-is_empty.false) t)
    (c.in-Err.ensures.err seen [] t)

pub returns-then-is_empty-clause-legal : goal.returns-then-is_empty-clause-legal
returns-then-is_empty-clause-legal g c = λ seen t. listing_items_are_legal t.ended c.args.self.items.items t.each

pub returns-in-Ok-clause-legal : goal.returns-in-Ok-clause-legal
returns-in-Ok-clause-legal g c = λ seen t.
    let u = c.in-Ok.ensures.ok seen t in
    listing_items_are_legal u.ended c.end_line.new.self.items.items u.each

pub returns-then-is_empty-clause-counted : goal.returns-then-is_empty-clause-counted
returns-then-is_empty-clause-counted g c = λ seen t. omega (arith, t.total_is, t.counted)

pub returns-in-Ok-clause-counted : goal.returns-in-Ok-clause-counted
returns-in-Ok-clause-counted g c = λ seen t.
    let u = c.in-Ok.ensures.ok seen t in
    omega (arith, u.total_is, u.counted)
