-- Laws of what is decided.
use Rattle.std.proofs.Common.{◌≡◌, ◌≢◌, ℕ, zero, suc, ◌+◌, ◌<◌, ◌≤◌, Bool, true, false, List, [], ◌∷◌, ◌++◌, length}
use Rattle.std.proofs.Common.{replicate, refl, sym, ap, ◌∙◌, arith, inl, inr}
use Rattle.std.proofs.lemmas.List.{length-append, append-nil, replicate-append-replicate}
use Rattle.std.proofs.lemmas.Bool.{cases_lt}
use Rattle.swd_bits.specs.Bits.{bits_number}
use Rattle.swd_trace.specs.declared.item.Item.{Item}
use Rattle.swd_trace.specs.declared.item.Item.TheVariants.{Reset, Switch, Idle, Cut}
use Rattle.swd_trace.specs.declared.mode.Mode.{Mode}
use Rattle.swd_trace.specs.declared.mode.Mode.TheVariants.{Synced, AfterReset, AfterSwitch, Lost}
use Rattle.swd_trace.specs.Reading.{trace_begins_with, switch_item, first_item, cut_first_item, reading}
use Rattle.swd_trace.specs.Decided.{BeginsItems, BeginsAllReadings, DecidesNoItem, IsLongestDecided}
use Rattle.swd_trace.proofs.ReadingLemmas.{differing_items_undecided, reading_first_item, cut_item_alone}
use Rattle.swd_trace.proofs.ReadingLemmas.{cut_item_len_is_bits, idle_item_at_end, reset_item_at_end, junk_item_first}
use Rattle.swd_trace.proofs.ReadingLemmas.{switch_item_after_reset, no_switch_item_synced, cut_item_of_ones}
use Rattle.swd_trace.proofs.ReadingLemmas.{cut_item_ones_after_switch, cut_item_ones_after_reset}
use Rattle.swd_trace.proofs.ReadingLemmas.{junk_item_of_ones, trace_bit_cases}

-- where all of the bits are cut off, one bit more changes the item
pub cut_item_undecided : (mode : Mode) (b : Bool) (bits : List Bool)
    → first_item mode b bits ≡ cut_first_item (b ∷ bits) → DecidesNoItem (λ more. reading mode ((b ∷ bits) ++ more))
cut_item_undecided mode b bits e =
    differing_items_undecided (λ more. reading mode ((b ∷ bits) ++ more)) [] (false ∷ [])
    (Cut (record { len = length (b ∷ bits); bits = bits_number (b ∷ bits) }))
    (first_item mode b (bits ++ false ∷ [])).item [] _ (inl refl) (inr (inl refl))
    (ap (λ x. reading mode (b ∷ x)) (append-nil bits) ∙ cut_item_alone mode b bits e)
    (reading_first_item mode b (bits ++ false ∷ [])) (λ same.
    let l : length (b ∷ bits) ≡ length (b ∷ (bits ++ false ∷ [])) =
    cut_item_len_is_bits mode b (bits ++ false ∷ []) (record { len = length (b ∷ bits); bits = bits_number (b ∷ bits) })
    (sym same) in
    let m : length (bits ++ false ∷ []) ≡ length bits + 1 = length-append bits (false ∷ []) in
    omega arith)

-- zeros may go on
pub idle_item_undecided : (n : ℕ) → 0 < n → DecidesNoItem (λ more. reading Synced (replicate n false ++ more))
idle_item_undecided n h =
    let longer : replicate n false ++ false ∷ [] ≡ replicate (n + 1) false = replicate-append-replicate n 1 false in
    differing_items_undecided (λ more. reading Synced (replicate n false ++ more)) [] (false ∷ []) (Idle n)
    (Idle (n + 1)) [] [] (inl refl) (inr (inl refl))
    (ap (reading Synced) (append-nil (replicate n false)) ∙ idle_item_at_end n h)
    (ap (reading Synced) longer ∙ idle_item_at_end (n + 1) (omega arith))
    (λ same. let e : n ≡ n + 1 = cc in omega arith)

-- ones may become a reset, or a longer one
first_of_ones : (mode : Mode) (n : ℕ) → 0 < n → (a : Item) × (r : List Item) × (reading mode (replicate n true) ≡ a ∷ r)
    × (a ≢ Reset (n + 50))
first_of_ones mode zero h = absurd (omega arith)
first_of_ones mode (suc n) h = elim (cases_lt (suc n) 50) [
  | inl few ↦ few_ones mode few
  | inr many ↦
      (Reset (suc n), [], reset_item_at_end mode (suc n) many, λ same. let e : suc n ≡ suc n + 50 = cc in omega arith)
]
  where
    few_ones : (mode : Mode) → suc n < 50 → (a : Item) × (r : List Item)
        × (reading mode (replicate (suc n) true) ≡ a ∷ r) × (a ≢ Reset (suc n + 50))
    few_ones Synced few = (_, [], cut_item_alone Synced true (replicate n true) (cut_item_of_ones n few), λ same. cc)
    few_ones AfterReset few =
        (_, [], cut_item_alone AfterReset true (replicate n true) (cut_item_ones_after_reset n few), λ same. cc)
    few_ones AfterSwitch few =
        (_, [], cut_item_alone AfterSwitch true (replicate n true) (cut_item_ones_after_switch n few), λ same. cc)
    few_ones Lost few = (_, _, junk_item_first Lost true (replicate n true) (junk_item_of_ones n few), λ same. cc)

-- ones alone decide no item, in any mode: they may become a line reset, or a longer one
pub reset_item_undecided : (mode : Mode) (n : ℕ) → 0 < n
    → DecidesNoItem (λ more. reading mode (replicate n true ++ more))
reset_item_undecided mode n h =
    let now = first_of_ones mode n h in
    differing_items_undecided (λ more. reading mode (replicate n true ++ more)) [] (replicate 50 true) now.0
    (Reset (n + 50)) now.1 [] (inl refl) (inr (inr (inr (inl refl))))
    (ap (reading mode) (append-nil (replicate n true)) ∙ now.2)
    (ap (reading mode) (replicate-append-replicate n 50 true) ∙ reset_item_at_end mode (n + 50) (omega arith))
    now.3

begins_len : (a b : List Bool) → trace_begins_with a b ≡ true → length a ≤ length b
begins_len [] b e = omega arith
begins_len (x ∷ a) [] e = absurd cc
begins_len (true ∷ a) (true ∷ b) e = let h = begins_len a b e in omega arith
begins_len (true ∷ a) (false ∷ b) e = absurd cc
begins_len (false ∷ a) (true ∷ b) e = absurd cc
begins_len (false ∷ a) (false ∷ b) e = let h = begins_len a b e in omega arith

-- fewer bits than a switch has are none
pub switch_item_needs_16_bits : (bits : List Bool) → length bits < 16 → trace_begins_with switch_item bits ≡ false
switch_item_needs_16_bits bits h = elim (trace_bit_cases (trace_begins_with switch_item bits))
    [ inl e ↦ (let l : 16 ≤ length bits = begins_len switch_item bits e in absurd (omega arith)) | inr e ↦ e ]

-- the beginning of a switch may become one
pub switch_item_undecided : (front back : List Bool) → switch_item ≡ front ++ back → front ≢ [] → length front < 16
    → DecidesNoItem (λ more. reading AfterReset (front ++ more))
switch_item_undecided [] back e n h = absurd (n refl)
switch_item_undecided (true ∷ front) back e n h = absurd cc
switch_item_undecided (false ∷ front) back e n h =
    differing_items_undecided (λ more. reading AfterReset ((false ∷ front) ++ more)) [] back
    (first_item Synced false front).item Switch _ _ (inl refl) (inr (inr (inr (inr (false ∷ front, n, e)))))
    (ap (reading AfterReset) (append-nil (false ∷ front))
    ∙ no_switch_item_synced (false ∷ front) (switch_item_needs_16_bits (false ∷ front) h) ∙ reading_first_item Synced
    false front) (ap (reading AfterReset) (sym e) ∙ switch_item_after_reset [])
    (λ same. cc)

-- ---- the longest common beginning

begins_within : (items other : List Item) (rest : List Bool → List Item) → DecidesNoItem rest
    → BeginsAllReadings other (λ more. items ++ rest more) → BeginsItems other items
begins_within items [] rest u all = (items, refl)
begins_within [] (o ∷ other) rest u all = absurd (u o (λ more c. (other ++ (all more c).0, (all more c).1)))
begins_within (i ∷ items) (o ∷ other) rest u all =
    let e : i ∷ (items ++ rest []) ≡ o ∷ (other ++ (all [] (inl refl)).0) = (all [] (inl refl)).1 in
    let same : i ≡ o = cc in
    let r = begins_within items other rest u (λ more c.
    let f : i ∷ (items ++ rest more) ≡ o ∷ (other ++ (all more c).0) = (all more c).1 in
    let g : items ++ rest more ≡ other ++ (all more c).0 = cc in
    ((all more c).0, g)) in
    (r.0, ap (λ x. i ∷ x) r.1 ∙ ap (λ x. x ∷ (other ++ r.0)) same)

-- where nothing is left to begin with, these items are the longest
pub decided_items_are_longest : (items : List Item) (readings rest : List Bool → List Item)
    → ((more : List Bool) → items ++ rest more ≡ readings more) → DecidesNoItem rest → IsLongestDecided items readings
decided_items_are_longest items readings rest e u = record {
  common = λ more c. (rest more, sym (e more));
  longest = λ other all. begins_within items other rest u (λ more c. ((all more c).0, e more ∙ (all more c).1));
}
