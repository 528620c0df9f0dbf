-- A listing that is read piece by piece.
use Rattle.std.specs.Prelude.{ℕ, List, ◌++◌}
use Rattle.swd_trace.specs.Listed.{listing_lines, RefusesListing}
use Rattle.swd_trace.specs.Taken.{ListingTakes}
use Rattle.swd_trace.specs.declared.listing.fault.ListFault.{ListFault}
use Rattle.swd_trace.specs.declared.listing.lines.ListingLines.{ListingLines}

-- these bytes were taken, and this is kept of them
abbrev pub ListingHasRead : {A : Type 0} → Unit {0} → ListingLines A × Unit {0} → List ℕ → Type 0
ListingHasRead u l seen = ListingTakes seen l.0.items.items l.0.line.items l.0.total

-- whatever follows, the listing is rejected with this error
abbrev pub RefusesListingLater : {A : Type 0} → Unit {0} → ListingLines A × Unit {0} → ListFault → List ℕ → Type 0
RefusesListingLater u l fault text = (more : List ℕ) → RefusesListing fault (listing_lines (text ++ more))
