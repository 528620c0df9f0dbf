use Rattle.std.proofs.Common.{[]}
use Rattle.swd_trace.proofs.NormalLemmas.{listing_differs_at_item, listing_longer_than_reading}
use Rattle.swd_trace.proofs.listing.normal.last_difference.Goals as goal

pub returns-then-not-has_next-clause-tells : goal.returns-then-not-has_next-clause-tells
returns-then-not-has_next-clause-tells c =
    (listing_differs_at_item c.args.items.now c.loop-item.same c.loop-item.decoder c.last.new.self [] c.in-Some.item
    c.in-Some.ensures.item
    (c.has_next.ensures.no c.if-not-has_next.true) c.loop-item.invariant).first

pub returns-else-same-items-clause-tells : goal.returns-else-same-items-clause-tells
returns-else-same-items-clause-tells c =
    listing_longer_than_reading c.args.items.now c.loop-item.same c.loop-item.decoder c.in_default.ensures.none
    c.if-same-items.false c.loop-item.invariant
