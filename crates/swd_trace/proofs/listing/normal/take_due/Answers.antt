use Rattle.swd_trace.proofs.NormalLemmas.{listing_differs_at_item}
use Rattle.swd_trace.proofs.listing.normal.take_due.Goals as goal

pub returns-then-not-has_next-clause-no : goal.returns-then-not-has_next-clause-no
returns-then-not-has_next-clause-no c = λ h ahead a.
    listing_differs_at_item c.args.items.now c.loop-item.same c.loop-item.decoder c.due.new.self ahead c.in-Some.item
    (c.in-Some.ensures.item ahead)
    (c.has_next.ensures.no c.if-not-has_next.true) (c.loop-item.invariant.agrees ahead a)
