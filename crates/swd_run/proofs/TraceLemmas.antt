-- A trace that is written while its run goes on: which items no further call changes, and their text.
use Rattle.std.proofs.Common.{◌≡◌, ◌∙◌, ℕ, zero, suc, ◌-◌, ◌≤◌, Bool, true, false, List, [], ◌∷◌, ◌++◌, length}
use Rattle.std.proofs.Common.{take, drop, refl, sym, ap, subst, append_assoc, arith}
use Rattle.swd_trace.specs.declared.item.Item.{Item}
use Rattle.swd_trace.specs.declared.item.Item.TheVariants.{Reset, Switch, Idle, Tx, Junk, Cut}
use Rattle.swd_trace.specs.Listed.{AreLegalItems}
use Rattle.swd_trace.specs.Texts.{item_text, trace_text}
use Rattle.swd_recorder.specs.Items.{recorded_joined, recorded_with_item, recorded_with_items}
use Rattle.swd_recorder.specs.Kept.{RecorderAdds, RecorderKept}
use Rattle.swd_run.proofs.GrowingLemmas.{growing_first_next}

-- ---- items that no further call changes

first_with : (items : List Item) (item : Item) (n : ℕ) → n ≤ length items - 1
    → take n (recorded_with_item items item) ≡ take n items
first_with [] item zero h = refl
first_with [] item (suc n) h = absurd (omega (arith, h))
first_with (last ∷ []) item zero h = refl
first_with (last ∷ []) item (suc n) h = absurd (omega (arith, h))
first_with (first ∷ second ∷ items) item zero h = refl
first_with (first ∷ second ∷ items) item (suc n) h =
    ap (λ l. first ∷ l) (first_with (second ∷ items) item n (omega (arith, h)))

some_joined : (last item : Item) → 1 ≤ length (recorded_joined last item)
some_joined (Idle m) (Idle n) = omega arith
some_joined (Idle m) (Reset n) = omega arith
some_joined (Idle m) Switch = omega arith
some_joined (Idle m) (Tx tx) = omega arith
some_joined (Idle m) (Junk b) = omega arith
some_joined (Idle m) (Cut bits) = omega arith
some_joined (Reset n) item = omega arith
some_joined Switch item = omega arith
some_joined (Tx tx) item = omega arith
some_joined (Junk b) item = omega arith
some_joined (Cut bits) item = omega arith

longer_with : (items : List Item) (item : Item) → length items ≤ length (recorded_with_item items item)
longer_with [] item = omega arith
longer_with (last ∷ []) item = some_joined last item
longer_with (first ∷ second ∷ items) item = let rest = longer_with (second ∷ items) item in omega (arith, rest)

first_with_all : (items more : List Item) (n : ℕ) → n ≤ length items - 1
    → (take n (recorded_with_items items more) ≡ take n items) × (n ≤ length (recorded_with_items items more) - 1)
first_with_all items [] n h = (refl, h)
first_with_all items (item ∷ more) n h =
    let longer = longer_with items item in
    let rest = first_with_all (recorded_with_item items item) more n (omega (arith, h, longer)) in
    (rest.0 ∙ first_with items item n h, rest.1)

-- all but the last of the items stay as they are when more are added
pub run_trace_settled_stays : (more : List Item) (old new : RecorderKept) (n : ℕ) → RecorderAdds more old new
    → n ≤ length old.items - 1 → (take n new.items ≡ take n old.items) × (n ≤ length new.items - 1)
run_trace_settled_stays more old new n adds h = by new.is_cut refl
  where
    like : (items : List Item) → new.items ≡ items → (take n items ≡ take n old.items) × (n ≤ length items - 1)
        → (take n new.items ≡ take n old.items) × (n ≤ length new.items - 1)
    like items same both = (ap (take n) same ∙ both.0, subst (λ l. n ≤ length l - 1) (sym same) both.1)

    by : (b : Bool) → new.is_cut ≡ b → (take n new.items ≡ take n old.items) × (n ≤ length new.items - 1)
    by false e = like (recorded_with_items old.items more) (adds.whole e).1 (first_with_all old.items more n h)
    by true e = like old.items (adds.cut e).0 (refl, h)

-- ---- texts

trace_both : (first next : List Item) → trace_text (first ++ next) ≡ trace_text first ++ trace_text next
trace_both [] next = refl
trace_both (item ∷ first) next =
    ap (λ x. item_text item ++ x) (trace_both first next)
    ∙ sym (append_assoc (item_text item) (trace_text first) (trace_text next))

-- the text of the first items is that of fewer, and of those behind them
pub run_trace_text_next : (items : List Item) (m n : ℕ) → m ≤ n
    → trace_text (take m items) ++ trace_text (take (n - m) (drop m items)) ≡ trace_text (take n items)
run_trace_text_next items m n h =
    sym (trace_both (take m items) (take (n - m) (drop m items))) ∙ ap trace_text (growing_first_next items m n h)

legal_drop : (items : List Item) (n : ℕ) → AreLegalItems items → AreLegalItems (drop n items)
legal_drop items zero h = h
legal_drop [] (suc n) h = tt
legal_drop (item ∷ items) (suc n) h = legal_drop items n h.1

legal_take : (items : List Item) (n : ℕ) → AreLegalItems items → AreLegalItems (take n items)
legal_take items zero h = tt
legal_take [] (suc n) h = tt
legal_take (item ∷ items) (suc n) h = (h.0, legal_take items n h.1)

-- items that stand in a list of legal items are legal
pub run_trace_legal_in : (items : List Item) (m n : ℕ) → AreLegalItems items
    → AreLegalItems (take n (drop m items))
run_trace_legal_in items m n h = legal_take (drop m items) n (legal_drop items m h)
