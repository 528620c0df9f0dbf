use Rattle.std.proofs.Common.{ℕ, List, ◌++◌, take}
use Rattle.swd_trace.specs.ListReader.{ListingHasRead}
use Rattle.swd_trace.proofs.listing.reader.ListingLinesConsumerUnit.take.Given as goal

abbrev pub invariant-loop-byte : goal.invariant-loop-byte
invariant-loop-byte g l = (seen : List ℕ) → ListingHasRead tt (l.fn.self, tt) seen
    → ListingHasRead tt (l.self, tt) (seen ++ take l.byte-index l.piece)
