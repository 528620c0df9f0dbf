use Rattle.std.proofs.Common.{suc, ◌++◌, take, drop, subst}
use Rattle.swd_bits.proofs.ScanLemmas.{scan_bits_parted}
use Rattle.swd_trace.specs.Listed.{listing_lines, RefusesListing}
use Rattle.swd_trace.proofs.listing.reader.ListingLinesConsumerUnit.take.Goals as goal

pub returns-in-Err-clause-err : goal.returns-in-Err-clause-err
returns-in-Err-clause-err g c = λ u seen h more.
    let piece = c.args.piece.now in
    let i = c.loop-byte.byte-index in
    subst (λ x. RefusesListing c.in-Err.fault (listing_lines x))
    (scan_bits_parted seen piece more i c.loop-byte-test.true)
    (c.in-Err.ensures.err (seen ++ take i piece) (drop (suc i) piece ++ more) (c.loop-byte.invariant seen h))
