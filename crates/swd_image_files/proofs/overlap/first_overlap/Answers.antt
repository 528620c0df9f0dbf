use Rattle.std.proofs.Common.{All, subst, sym, rules, ◌∙◌, ap}
use Rattle.std.proofs.lemmas.List.Sorted.{IsNonDecreasingBy-from_sort_by_key, All-permutation}
use Rattle.std.specs.List.Sorted.{IsPermutation}
use Rattle.swd_image_files.specs.declared.image.Range.{Range}
use Rattle.swd_image_files.specs.Overlaps.{IsSoundImageRange, first_image_overlap_from}
use Rattle.swd_image_files.proofs.OverlapLemmas.{image_file_lowest_overlap}
use Rattle.swd_image_files.proofs.overlap.first_overlap.Goals as goal

pub first_adjacent-requires : goal.first_adjacent-requires
first_adjacent-requires g c =
    let all = subst (All IsSoundImageRange) (sym c.in_ok-sorted.ensures.items) c.requires in
    subst (All IsSoundImageRange) (sym c.deref.ensures.value)
    (All-permutation IsSoundImageRange c.in_ok-sorted.sorted.items c.sort_unstable_by_key.new.self.items
    c.sort_unstable_by_key.ensures.permutation all)

pub returns : goal.returns
returns g c =
    let sorted = c.sort_unstable_by_key.new.self.items in
    let ranges = c.args.ranges.now in
    let moved = subst (λ l. IsPermutation l sorted) c.in_ok-sorted.ensures.items
    c.sort_unstable_by_key.ensures.permutation in
    let sound = All-permutation IsSoundImageRange ranges sorted moved c.requires in
    let rises = IsNonDecreasingBy-from_sort_by_key (λ (r : Range). r.addr) sorted
    c.sort_unstable_by_key.ensures.sorted (λ a r q k. search rules) in
    image_file_lowest_overlap ranges sorted c.first_adjacent.result moved sound rises
    (c.first_adjacent.ensures ∙ ap (first_image_overlap_from 0) c.deref.ensures.value)
