use Rattle.std.proofs.Common.{arith, rules, ◌≡◌, ◌≤◌, ◌<◌, ◌+◌, ◌-◌, ◌++◌, ◌∷◌, [], ◌∙◌, ap, sym, ℕ, suc, List}
use Rattle.std.proofs.Common.{length, map, take, set, replicate, get_or}
use Rattle.std.proofs.lemmas.List.{append_assoc, length-map, length-take-le, set_at, take_more, map_push}
use Rattle.swd_checker.specs.declared.worlds.Kept.{Kept}
use Rattle.swd_checker.specs.Fields.{checked_world_fields, checked_world_unused}
use Rattle.swd_checker.proofs.fields.fields_of_worlds.Goals as goal

-- one world more
fill_next : (kept : List Kept) (p : ℕ) (d : Kept) → p < length kept → length kept ≤ 64
    → set (map checked_world_fields (take p kept) ++ replicate (64 - p) checked_world_unused) p
    (checked_world_fields (get_or kept p d))
    ≡ map checked_world_fields (take (p + 1) kept) ++ replicate (64 - (p + 1)) checked_world_unused
fill_next kept p d lt few =
    let done = map checked_world_fields (take p kept) in
    let rest = replicate (64 - (p + 1)) checked_world_unused in
    let next = checked_world_fields (get_or kept p d) in
    let count : 64 - p ≡ suc (64 - (p + 1)) = omega arith in
    let long : length done ≡ p = length-map (take p kept) checked_world_fields ∙ length-take-le p kept (omega arith) in
    let filled : set (done ++ replicate (64 - p) checked_world_unused) p next ≡ done ++ next ∷ rest =
    ap (λ n. set (done ++ replicate n checked_world_unused) p next) count
    ∙ set_at done checked_world_unused rest next p long in
    let more : map checked_world_fields (take (p + 1) kept) ≡ done ++ next ∷ [] =
    ap (map checked_world_fields) (take_more kept p d lt) ∙ map_push checked_world_fields (take p kept)
    (get_or kept p d) in
    filled ∙ sym (ap (λ l. l ++ rest) more ∙ append_assoc done (next ∷ []) rest)

pub loop-place-preserved : goal.loop-place-preserved
loop-place-preserved c =
    let lt : c.loop-place.place < length c.args.kept.now = search rules in
    ap (λ ws. set ws c.loop-place.place c.of.result) c.loop-place.invariant
    ∙ (ap (set (map checked_world_fields (take c.loop-place.place c.args.kept.now)
    ++ replicate (64 - c.loop-place.place) checked_world_unused) c.loop-place.place) c.of.ensures
    ∙ fill_next c.args.kept.now c.loop-place.place _ lt c.requires)
