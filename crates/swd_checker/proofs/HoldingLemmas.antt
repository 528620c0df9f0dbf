-- What a list of worlds holds while worlds are added and joined.
use Rattle.std.proofs.Common.{◌≡◌, ◌<◌, ◌≤◌, ◌+◌, ◌-◌, ℕ, Bool, false, refl, sym, subst, arith, ◌∙◌}
use Rattle.std.proofs.Common.{◌⊎◌, inl, inr, List, [], ◌∷◌, ◌++◌, length, get_or}
use Rattle.std.specs.Prelude.{Some, true, ◌==◌, slice_index_or}
use Rattle.std.specs.List.{Any, remove}
use Rattle.std.proofs.lemmas.List.Edits.{get_or-remove_below, get_or-remove_above, length-remove}
use Rattle.std.proofs.lemmas.List.{get_or_append_left, length_push}
use Rattle.std.proofs.lemmas.List.Quantifiers.{Any-push}
use Rattle.swd_port.specs.Port.{Target}
use Rattle.swd_checker.specs.declared.worlds.Kept.{Kept}
use Rattle.swd_checker.specs.declared.worlds.Worlds.{Worlds}
use Rattle.swd_checker.specs.Worlds.{World}
use Rattle.swd_checker.specs.Described.{WorldDescribes}
use Rattle.swd_checker.specs.Holding.{KeptDescribes, WorldsHold, WorldsKeep, WorldsGrow, IsKeptJoined}
use Rattle.swd_checker.specs.Reaching.{CheckedLink, WorldReaches, WorldsReach, IsReachedJoined}
use Rattle.swd_checker.proofs.KeptLemmas.{AreAddingReached, adding_reached_first, adding_reached_joined}

-- a target is described by a world of the list, or by the one that is to be added
pub record HeldOr (v : Worlds) (added : Kept) (awaited : Bool) (x : Target) : Type 0 where
  pub held : v.crowded ≡ false
      → Any (λ kept. KeptDescribes kept awaited x) v.kept.items ⊎ KeptDescribes added awaited x

-- while a world is added, nothing that was held or that it describes is lost
pub record WorldsAdding (v : Worlds) (w : World) (now : Worlds) (added : Kept) : Type 0 where
  pub crowded : now.crowded ≡ v.crowded
  pub few : length now.kept.items ≤ length v.kept.items
  pub kept : (awaited : Bool) (x : Target) → WorldsHold v awaited x → HeldOr now added awaited x
  pub adds : (x : Target) → WorldDescribes w x → HeldOr now added w.awaits x
  pub reaches : (link : CheckedLink) → WorldsReach link v → WorldReaches link w
      → AreAddingReached link now.kept.items added

-- before any world is joined with it
pub worlds_adding_first : (v : Worlds) (w : World) (faults : ℕ)
    → WorldsAdding v w v (record { world = w; faults = faults })
worlds_adding_first v w faults = record {
  crowded = refl;
  few = omega arith;
  kept = λ awaited x held. record { held = λ f. inl (held.held f) };
  adds = λ x described. record { held = λ f. inr (record { awaits = refl; target = described }) };
  reaches = λ link all reached. adding_reached_first link v w (record { world = w; faults = faults }) refl all reached;
}

place_cases : (k place : ℕ) → (k < place) ⊎ ((k ≡ place) ⊎ (place < k))
place_cases k place = grind arith

-- each element is the removed one, or is left
any_removed : (P : Kept → Type 0) (items : List Kept) (place : ℕ) → place < length items → Any P items
    → ((kept : Kept) × (slice_index_or items place kept ≡ kept) × P kept) ⊎ Any P (remove items place)
any_removed P items place inside (k, kept, within, is, holds) = elim (place_cases k place)
    as (λ _. ((kept : Kept) × (slice_index_or items place kept ≡ kept) × P kept) ⊎ Any P (remove items place)) [
      | inl below ↦ inr (
        k,
        kept,
        omega (arith, length-remove items place inside),
        get_or-remove_below items place kept k below inside ∙ is,
        holds,
      )
      | inr rest ↦ elim rest
          as (λ _. ((kept : Kept) × (slice_index_or items place kept ≡ kept) × P kept) ⊎ Any P (remove items place)) [
            | inl same ↦ inl (kept, subst (λ p. slice_index_or items p kept ≡ kept) same is, holds)
            | inr above ↦ (
                let later : k ≡ k - 1 + 1 = omega arith in
                inr (
                  k - 1,
                  kept,
                  omega (arith, length-remove items place inside),
                  get_or-remove_above items place kept (k - 1) (omega arith) inside
                      ∙ subst (λ p. get_or items p kept ≡ kept) later is,
                  holds,
                )
                )
          ]
    ]

joined_left : (now left : Worlds) (added joined : Kept) (place : ℕ) (awaited : Bool) (x : Target)
    → left.kept.items ≡ remove now.kept.items place → IsKeptJoined now.kept.items added (Some (place, joined))
    → Any (λ kept. KeptDescribes kept awaited x) now.kept.items ⊎ KeptDescribes added awaited x
    → Any (λ kept. KeptDescribes kept awaited x) left.kept.items ⊎ KeptDescribes joined awaited x
joined_left now left added joined place awaited x items h (inr described) = inr (h.2.each awaited x described)
joined_left now left added joined place awaited x items h (inl held) =
    elim (any_removed (λ kept. KeptDescribes kept awaited x) now.kept.items place h.0 held)
    as (λ _. Any (λ kept. KeptDescribes kept awaited x) left.kept.items ⊎ KeptDescribes joined awaited x) [
      | inl found ↦ inr ((h.1 found.0 found.1).each awaited x found.2)
      | inr rest ↦ inl (subst (Any (λ kept. KeptDescribes kept awaited x)) (sym items) rest)
    ]

joined_or : (now left : Worlds) (added joined : Kept) (place : ℕ) (awaited : Bool) (x : Target)
    → left.crowded ≡ now.crowded → left.kept.items ≡ remove now.kept.items place
    → IsKeptJoined now.kept.items added (Some (place, joined)) → HeldOr now added awaited x
    → HeldOr left joined awaited x
joined_or now left added joined place awaited x same items h or =
    record { held = λ f. joined_left now left added joined place awaited x items h (or.held (sym same ∙ f)) }

fewer : (items left : List Kept) (place most : ℕ) → left ≡ remove items place → place < length items
    → length items ≤ most → length left ≤ most
fewer items left place most is inside few =
    subst (λ l. length l ≤ most) (sym is) (omega (arith, length-remove items place inside, few))

-- one of the worlds is joined with the added one
pub worlds_adding_joined : (v : Worlds) (w : World) (now left : Worlds) (added joined : Kept) (place : ℕ)
    → left.crowded ≡ now.crowded → left.kept.items ≡ remove now.kept.items place
    → IsKeptJoined now.kept.items added (Some (place, joined))
    → IsReachedJoined now.kept.items added (Some (place, joined)) → WorldsAdding v w now added
    → WorldsAdding v w left joined
worlds_adding_joined v w now left added joined place same items h reaches before = record {
  crowded = same ∙ before.crowded;
  few = fewer now.kept.items left.kept.items place (length v.kept.items) items h.0 before.few;
  kept = λ awaited x held. joined_or now left added joined place awaited x same items h (before.kept awaited x held);
  adds = λ x described. joined_or now left added joined place w.awaits x same items h (before.adds x described);
  reaches = λ link all reached. adding_reached_joined link now.kept.items left.kept.items added joined place items h.0
      reaches (before.reaches link all reached);
}

any_first : (P : Kept → Type 0) (items : List Kept) (added : Kept) → Any P items → Any P (items ++ added ∷ [])
any_first P items added (k, kept, within, is, holds) =
    (k, kept, omega (arith, length_push items added), get_or_append_left items (added ∷ []) kept k within ∙ is, holds)

pushed : (now last : Worlds) (added : Kept) (awaited : Bool) (x : Target) → last.crowded ≡ now.crowded
    → last.kept.items ≡ now.kept.items ++ added ∷ [] → HeldOr now added awaited x → WorldsHold last awaited x
pushed now last added awaited x same items or = record {
  held = λ f. subst (Any (λ kept. KeptDescribes kept awaited x)) (sym items) (elim (or.held (sym same ∙ f))
      as (λ _. Any (λ kept. KeptDescribes kept awaited x) (now.kept.items ++ added ∷ [])) [
        | inl held ↦ any_first (λ kept. KeptDescribes kept awaited x) now.kept.items added held
        | inr described ↦ Any-push (λ kept. KeptDescribes kept awaited x) now.kept.items added described
      ]);
}

-- the added one is put at the end
pub worlds_adding_keeps : (v : Worlds) (w : World) (now last : Worlds) (added : Kept) → last.crowded ≡ now.crowded
    → last.kept.items ≡ now.kept.items ++ added ∷ [] → WorldsAdding v w now added → WorldsKeep v last
worlds_adding_keeps v w now last added same items h =
    record { each = λ awaited x held. pushed now last added awaited x same items (h.kept awaited x held) }

-- and describes what it does
pub worlds_adding_adds : (v : Worlds) (w : World) (now last : Worlds) (added : Kept) → last.crowded ≡ now.crowded
    → last.kept.items ≡ now.kept.items ++ added ∷ [] → WorldsAdding v w now added → (x : Target)
    → WorldDescribes w x → WorldsHold last w.awaits x
worlds_adding_adds v w now last added same items h x described =
    pushed now last added w.awaits x same items (h.adds x described)

-- two additions after each other
pub worlds_keep_then : (v now last : Worlds) → WorldsKeep v now → WorldsKeep now last → WorldsKeep v last
worlds_keep_then v now last h k = record { each = λ awaited x held. k.each awaited x (h.each awaited x held) }

-- what an added world holds, told of a world that it equals
pub worlds_hold_as : (v : Worlds) (u w : World) (awaited : Bool) (x : Target)
    → ((y : Target) → WorldDescribes u y → WorldsHold v u.awaits y) → u ≡ w → w.awaits ≡ awaited → WorldDescribes w x
    → WorldsHold v awaited x
worlds_hold_as v u w awaited x adds is same described = subst (λ a. WorldsHold v a x) same
    (subst (λ z. (y : Target) → WorldDescribes z y → WorldsHold v z.awaits y) is adds x described)

-- there was no room for the added one
pub worlds_adding_full : (v : Worlds) (w : World) (now last : Worlds) (added : Kept)
    → last.kept.items ≡ now.kept.items → length now.kept.items ≡ 64 → WorldsAdding v w now added → WorldsGrow 1 v last
worlds_adding_full v w now last added items full h = let few = h.few in record {
  few = subst (λ l. length l ≤ length v.kept.items + 1) (sym items) (omega (arith, few));
  fits = λ room. absurd (omega (arith, few, full, room));
}

-- there was
pub worlds_adding_grows : (v : Worlds) (w : World) (now last : Worlds) (added : Kept) → last.crowded ≡ now.crowded
    → last.kept.items ≡ now.kept.items ++ added ∷ [] → WorldsAdding v w now added → WorldsGrow 1 v last
worlds_adding_grows v w now last added same items h = let few = h.few in record {
  few = subst (λ l. length l ≤ length v.kept.items + 1) (sym items) (omega (
    arith,
    length_push now.kept.items added,
    few,
  ));
  fits = λ room. same ∙ h.crowded;
}

-- some are added, and then others
pub worlds_grow_then : (a b : ℕ) (v now last : Worlds) → WorldsGrow a v now → WorldsGrow b now last
    → WorldsGrow (a + b) v last
worlds_grow_then a b v now last h k = let first = h.few in let second = k.few in record {
  few = omega (arith, first, second);
  fits = λ room. k.fits (omega (arith, first, room)) ∙ h.fits (omega (arith, room));
}

-- the list has as many as fit
pub worlds_are_full : (n : ℕ) (b : Bool) → b ≡ (n == 64) → b ≡ true → n ≡ 64
worlds_are_full n b e f = grind arith
