use Rattle.std.proofs.Common.{◌≡◌, ℕ, suc, ◌+◌, ◌<◌, List, [], ◌∷◌, ◌++◌, length, take, get_or, sym, ap, ◌∙◌, arith}
use Rattle.std.proofs.Math.Seq.{take-suc}
use Rattle.std.proofs.lemmas.List.{append_cancel_left}
use Rattle.swd_trace.specs.declared.item.Item.{Item}
use Rattle.swd_trace.specs.declared.item.Item.TheVariants.{Reset}
use Rattle.swd_trace.proofs.listing.normal.has_next.Goals as goal

one_more : (items : List Item) (same : ℕ) (d : Item) → same < length items
    → take (same + 1) items ≡ take same items ++ get_or items same d ∷ []
one_more items same d h =
    let n : same + 1 ≡ suc same = omega arith in
    ap (λ k. take k items) n ∙ take-suc items same d h

same_last : (a b : Item) → a ∷ [] ≡ b ∷ [] → a ≡ b
same_last a b e = cc

pub returns-then-same-items-clause-yes : goal.returns-then-same-items-clause-yes
returns-then-same-items-clause-yes c = λ h.
    let items = c.args.items.now in (
      c.if-same-items.true,
      one_more items c.args.same (Reset 0) c.if-same-items.true
          ∙ ap (λ x. take c.args.same items ++ x ∷ []) (c.is_same.ensures.yes h),
    )

pub returns-then-same-items-clause-no : goal.returns-then-same-items-clause-no
returns-then-same-items-clause-no c = λ h n.
    let items = c.args.items.now in
    let here : get_or items c.args.same (Reset 0) ∷ [] ≡ c.args.item.now ∷ [] =
    append_cancel_left (take c.args.same items) _ _
    (sym (one_more items c.args.same (Reset 0) c.if-same-items.true) ∙ n.1) in
    c.is_same.ensures.no h (same_last (get_or items c.args.same (Reset 0)) c.args.item.now here)
