use Rattle.std.proofs.Common.{◌≡◌, ◌∷◌, ◌++◌, length, sym, subst, arith}
use Rattle.swd_trace.specs.Listed.{listing_lines, RefusesListing}
use Rattle.swd_trace.proofs.LinesLemmas.{listing_takes_byte, listing_refuses_long_line}
use Rattle.swd_trace.proofs.listing.lines.ListingLines.byte.Goals as goal

pub returns-then-len-eq-LONGEST-clause-err : goal.returns-then-len-eq-LONGEST-clause-err
returns-then-len-eq-LONGEST-clause-err g c = λ seen more t.
    let self = c.args.self.now in
    let n : length self.line.items ≡ 64 = omega arith in
    subst (λ f. RefusesListing f (listing_lines (seen ++ c.args.byte ∷ more))) (sym c.bad_line.ensures)
    (listing_refuses_long_line seen more self.items.items self.line.items self.total c.args.byte c.if-byte-eq10.false n
    t)

pub returns-clause-ok : goal.returns-clause-ok
returns-clause-ok g c = λ seen t.
    let self = c.args.self.now in
    listing_takes_byte seen self.items.items self.line.items c.push.new.self.items self.total c.args.byte
    c.if-byte-eq10.false c.push.ensures.items t
