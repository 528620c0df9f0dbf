use Rattle.std.proofs.Common.{◌≡◌, ◌+◌, ◌^◌, ◌<◌, length, drop, get_or, subst, arith}
use Rattle.swd_trace.specs.declared.item.Item.TheVariants.{Reset}
use Rattle.swd_trace.specs.Normality.{ListingAgrees}
use Rattle.swd_trace.specs.Texts.{item_bits, bits_of_items}
use Rattle.swd_trace.proofs.NormalLemmas.{legal_item_at_place, item_bits_from_place, item_bit_count_from_place}
use Rattle.swd_trace.proofs.listing.normal.first_difference.Goals as goal

pub take_item-requires-clause-legal : goal.take_item-requires-clause-legal
take_item-requires-clause-legal c = legal_item_at_place c.args.items.now c.loop-item.item-index (Reset 0)
    c.loop-item-test.true c.requires.legal

pub take_item-requires-clause-room : goal.take_item-requires-clause-room
take_item-requires-clause-room c =
    let items = c.args.items.now in
    let fed : c.loop-item.decoder.fed + length (bits_of_items (drop c.loop-item.item-index items)) ≡ length
    (bits_of_items items) = c.loop-item.invariant.fed in
    let counted : length (bits_of_items items) < 2 ^ 64 = c.requires.counted in
    omega (arith, item_bit_count_from_place items c.loop-item.item-index (Reset 0) c.loop-item-test.true)

pub returns-then-not-take_item-clause-tells : goal.returns-then-not-take_item-clause-tells
returns-then-not-take_item-clause-tells c =
    let items = c.args.items.now in
    let at = c.loop-item.item-index in
    (c.take_item.ensures.no c.if-not-take_item.true (bits_of_items (drop (at + 1) items))
    (subst (ListingAgrees items c.loop-item.same c.loop-item.decoder)
    (item_bits_from_place items at (Reset 0) c.loop-item-test.true)
    c.loop-item.invariant.agrees)).first

pub returns-then-not-take_item-clause-within : goal.returns-then-not-take_item-clause-within
returns-then-not-take_item-clause-within c =
    let items = c.args.items.now in
    let at = c.loop-item.item-index in
    (c.take_item.ensures.no c.if-not-take_item.true (bits_of_items (drop (at + 1) items))
    (subst (ListingAgrees items c.loop-item.same c.loop-item.decoder)
    (item_bits_from_place items at (Reset 0) c.loop-item-test.true)
    c.loop-item.invariant.agrees)).within

pub loop-item-preserved : goal.loop-item-preserved
loop-item-preserved c =
    let items = c.args.items.now in
    let at = c.loop-item.item-index in
    let before : c.loop-item.decoder.fed + length (bits_of_items (drop at items)) ≡ length (bits_of_items items) =
    c.loop-item.invariant.fed in
    let fed : c.take_item.new.decoder.fed ≡ c.loop-item.decoder.fed + length (item_bits (get_or items at (Reset 0))) =
    c.take_item.ensures.fed c.if-not-take_item.false in
    record {
      settled = c.take_item.ensures.settled c.if-not-take_item.false;
      fed = omega (arith, item_bit_count_from_place items at (Reset 0) c.loop-item-test.true);
      agrees = c.take_item.ensures.yes c.if-not-take_item.false (bits_of_items (drop (at + 1) items))
          (subst (ListingAgrees items c.loop-item.same c.loop-item.decoder)
          (item_bits_from_place items at (Reset 0) c.loop-item-test.true) c.loop-item.invariant.agrees);
    }
