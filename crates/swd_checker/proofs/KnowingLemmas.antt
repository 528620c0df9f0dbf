-- What is known of a target before the worlds are held, and what is noted of an item.
use Rattle.std.proofs.Common.{◌≡◌, ℕ, Bool, true, false, refl, sym, ap, subst, ◌∙◌, ◌⊎◌, inl, inr}
use Rattle.std.proofs.Common.{List, [], ◌∷◌, ◌++◌}
use Rattle.std.specs.Prelude.{Option, Some, None, ◌==◌, ◌&&◌, not, if◌then◌else◌}
use Rattle.std.specs.Option.{option_or}
use Rattle.swd_bits.specs.declared.request.Request.{Request}
use Rattle.swd_bits.specs.declared.tx.Tx.{Tx as Transaction}
use Rattle.swd_bits.specs.declared.tx.TxEnd.{TxEnd}
use Rattle.swd_bits.specs.declared.tx.TxEnd.TheVariants.{Moved, Wait, Fault, NoAck}
use Rattle.swd_bits.specs.declared.tx_bits.TxBits.{TxBits}
use Rattle.swd_trace.specs.declared.item.Item.{Item}
use Rattle.swd_trace.specs.declared.item.Item.TheVariants.{Reset, Switch, Idle, Tx, Junk, Cut}
use Rattle.swd_checker.specs.declared.rule.Rule.{Rule}
use Rattle.swd_checker.specs.declared.checker.Checker.{Checker}
use Rattle.swd_checker.specs.declared.opening.Opening.{Opening}
use Rattle.swd_checker.specs.declared.opening.Opening.TheVariants.{Anything, Resting, Selected, Over}
use Rattle.swd_checker.specs.Openings.{checked_passes, checked_leaves_rest, checked_selects, is_opening_over}
use Rattle.swd_checker.specs.Knowing.{is_opening_decided, opening_after_end, opening_after_moved, opening_after_other}
use Rattle.swd_checker.specs.Knowing.{opening_after_fault, opening_after_item, opening_after_tx, opening_over_items}
use Rattle.swd_checker.specs.Knowing.{AreOpeningUnknown}
use Rattle.swd_checker.specs.Standing.{CheckedGap, checker_gap, checked_gap_after, checked_gap_over}
use Rattle.swd_checker.specs.Fitting.{CheckerKnows, CheckerNotes}

-- NOTES
-- an item of which nothing is noted
pub checker_notes_nothing : (place : ℕ) (c now : Checker) → now.broken ≡ c.broken → now.crowded ≡ c.crowded
    → CheckerNotes place c now
checker_notes_nothing place c now broken crowded = record {
  broken = λ b e. inl (sym broken ∙ e);
  crowded = λ p e. inl (sym crowded ∙ e);
  kept = λ p e. crowded ∙ e;
}

-- the first that is noted stays
pub first_noted : {A : Type 0} (before : Option A) (noted found : A) → option_or before (Some noted) ≡ Some found
    → (before ≡ Some found) ⊎ (found ≡ noted)
first_noted None noted found e = inr (let f : Some noted ≡ Some found = e in cc)
first_noted (Some held) noted found e = inl e

pub first_kept : {A : Type 0} (before : Option A) (noted found : A) → before ≡ Some found
    → option_or before (Some noted) ≡ Some found
first_kept None noted found e = absurd (cc)
first_kept (Some held) noted found e = e

pub first_is_some : {A : Type 0} (before : Option A) (noted : A) → option_or before (Some noted) ≡ None → ⊥
first_is_some None noted e = cc
first_is_some (Some held) noted e = cc

noted_then : {A : Type 0} (P : A → Type 0) (x : A) (first mid : Option A) → ((mid ≡ Some x) → (first ≡ Some x) ⊎ P x)
    → (mid ≡ Some x) ⊎ P x → (first ≡ Some x) ⊎ P x
noted_then P x first mid before (inl e) = before e
noted_then P x first mid before (inr h) = inr h

-- and what two parts of its step note
pub checker_notes_then : (place : ℕ) (c mid now : Checker) → CheckerNotes place c mid → CheckerNotes place mid now
    → CheckerNotes place c now
checker_notes_then place c mid now first next = record {
  broken = λ b e. noted_then (λ b. b.0 ≡ place) b c.broken mid.broken (first.broken b) (next.broken b e);
  crowded = λ p e. noted_then (λ p. p ≡ place) p c.crowded mid.crowded (first.crowded p) (next.crowded p e);
  kept = λ p e. next.kept p (first.kept p e);
}

-- what is noted behind a change of something else
pub checker_notes_behind : (place : ℕ) (c first now : Checker) → first.broken ≡ c.broken
    → first.crowded ≡ c.crowded → CheckerNotes place first now → CheckerNotes place c now
checker_notes_behind place c first now broken crowded next =
    checker_notes_then place c first now (checker_notes_nothing place c first broken crowded) next

noted_here : (place : ℕ) (rule : Rule) (b : ℕ × Rule) → Some (place, rule) ≡ Some b → b.0 ≡ place
noted_here place rule b e = let f : (place, rule) ≡ b = cc in sym (ap (λ (x : ℕ × Rule). x.0) f)

-- a broken rule
pub checker_notes_broken : (place : ℕ) (rule : Rule) (c now : Checker) → now.broken ≡ Some (place, rule)
    → now.crowded ≡ c.crowded → CheckerNotes place c now
checker_notes_broken place rule c now broken crowded = record {
  broken = λ b e. inr (noted_here place rule b (sym broken ∙ e));
  crowded = λ p e. inl (sym crowded ∙ e);
  kept = λ p e. crowded ∙ e;
}

first_broken : (before : Option (ℕ × Rule)) (place : ℕ) (rule : Rule) (b : ℕ × Rule)
    → option_or before (Some (place, rule)) ≡ Some b → (before ≡ Some b) ⊎ (b.0 ≡ place)
first_broken None place rule b e = inr (noted_here place rule b e)
first_broken (Some held) place rule b e = inl e

-- one unless another was broken before
pub checker_notes_first_broken : (place : ℕ) (rule : Rule) (c now : Checker)
    → now.broken ≡ option_or c.broken (Some (place, rule)) → now.crowded ≡ c.crowded → CheckerNotes place c now
checker_notes_first_broken place rule c now broken crowded = record {
  broken = λ b e. first_broken c.broken place rule b (sym broken ∙ e);
  crowded = λ p e. inl (sym crowded ∙ e);
  kept = λ p e. crowded ∙ e;
}

-- too many worlds
pub checker_notes_crowded : (place : ℕ) (c now : Checker) → now.broken ≡ c.broken
    → now.crowded ≡ option_or c.crowded (Some place) → CheckerNotes place c now
checker_notes_crowded place c now broken crowded = record {
  broken = λ b e. inl (sym broken ∙ e);
  crowded = λ p e. first_noted c.crowded place p (sym crowded ∙ e);
  kept = λ p e. crowded ∙ first_kept c.crowded place p e;
}

-- WHAT IS KNOWN
decided_not_over : (b : Bool) (opening : Opening) → is_opening_over opening ≡ false
    → is_opening_over (if b then opening else Anything) ≡ false
decided_not_over true opening h = h
decided_not_over false opening h = refl

other_not_over : (opening : Opening) (q : Request) → is_opening_over (opening_after_other opening q) ≡ false
other_not_over Anything q = refl
other_not_over Resting q = decided_not_over (checked_leaves_rest q.addr q.ap q.read) Resting refl
other_not_over (Selected select) q = refl
other_not_over Over q = refl

moved_not_over : (opening : Opening) (q : Request) → is_opening_over (opening_after_moved opening q) ≡ false
moved_not_over Anything q = refl
moved_not_over Resting q = other_not_over Resting q
moved_not_over (Selected select) q = decided_not_over (checked_passes q.addr q.ap q.read) (Selected select) refl
moved_not_over Over q = refl

whole_not_over : (selects : Bool) (opening : Opening) (q : Request) (word : ℕ)
    → is_opening_over (if selects then Selected word else opening_after_moved opening q) ≡ false
whole_not_over true opening q word = refl
whole_not_over false opening q word = moved_not_over opening q

fault_not_over : (opening : Opening) → is_opening_over (opening_after_fault opening) ≡ false
fault_not_over Anything = refl
fault_not_over Resting = refl
fault_not_over (Selected select) = refl
fault_not_over Over = refl

-- a transaction by which the state isn't known
end_not_over : (opening : Opening) (end : TxEnd) (q : Request) → is_opening_over opening ≡ false
    → is_opening_over (opening_after_end opening end q) ≡ false
end_not_over opening Wait q h = h
end_not_over opening Fault q h = fault_not_over opening
end_not_over opening (NoAck seen) q h = other_not_over opening q
end_not_over opening (Moved word true) q h = whole_not_over (checked_selects q.addr q.ap q.read) opening q word
end_not_over opening (Moved word false) q h = moved_not_over opening q

-- by cases of whether it is
tx_decided : (opening : Opening) (end : TxEnd) (q : Request) → is_opening_decided opening end q ≡ true
    → is_opening_over (opening_after_tx opening end q) ≡ true
tx_decided opening end q e = rw e refl

tx_not_decided : (opening : Opening) (end : TxEnd) (q : Request) → is_opening_decided opening end q ≡ false
    → opening_after_tx opening end q ≡ opening_after_end opening end q
tx_not_decided opening end q e = rw e refl

-- ITEMS
-- an item at which no check begins
pub knows_nothing : (after : Opening) (c now : Checker) → now.began ≡ c.began → now.opening ≡ after
    → (is_opening_over c.opening ≡ false → is_opening_over after ≡ false) → CheckerKnows after c now
knows_nothing after c now began opening still = record {
  begun = λ p e. began ∙ e;
  waits = λ none over. (opening, still over);
  begins = λ none over p e. absurd (let f : None ≡ Some p = sym none ∙ sym began ∙ e in cc);
}

-- what is known stays
pub knows_same : (c now : Checker) → now.began ≡ c.began → now.opening ≡ c.opening → CheckerKnows c.opening c now
knows_same c now began opening = knows_nothing c.opening c now began opening (λ h. h)

-- an item at which nothing is looked
pub knows_passed : (c : Checker) (item : Item) → ((b : Bool) → item ≡ Junk b → ⊥)
    → ((tx : Transaction) → item ≡ Tx tx → ⊥) → ((bits : TxBits) → item ≡ Cut bits → ⊥)
    → CheckerKnows (opening_after_item item (checker_gap c) c.opening) c c
knows_passed c (Junk b) junk tx cut = absurd (junk b refl)
knows_passed c (Tx t) junk tx cut = absurd (tx t refl)
knows_passed c (Cut bits) junk tx cut = absurd (cut bits refl)
knows_passed c (Reset ones) junk tx cut = knows_same c c refl refl
knows_passed c (Idle zeros) junk tx cut = knows_same c c refl refl
knows_passed c Switch junk tx cut = knows_same c c refl refl

-- a junk bit that begins no gap
pub knows_stray : (c now : Checker) (b : Bool) → (c.stray == 0) ≡ false → now.began ≡ c.began
    → now.opening ≡ c.opening → CheckerKnows (opening_after_item (Junk b) (checker_gap c) c.opening) c now
knows_stray c now b some began opening =
    let same : opening_after_item (Junk b) (checker_gap c) c.opening ≡ c.opening = stray_same c.in_gap c.opening in
    subst (λ o. CheckerKnows o c now) (sym same) (knows_same c now began opening)
  where
    stray_same : (gap : Bool) (opening : Opening)
        → (if not gap && (c.stray == 0) then Anything else opening) ≡ opening
    stray_same true opening = refl
    stray_same false opening = rw some refl

-- in a gap
pub knows_in_gap : (c : Checker) (b : Bool) → c.in_gap ≡ true
    → CheckerKnows (opening_after_item (Junk b) (checker_gap c) c.opening) c c
knows_in_gap c b gap =
    let same : opening_after_item (Junk b) (checker_gap c) c.opening ≡ c.opening = rw gap refl in
    subst (λ o. CheckerKnows o c c) (sym same) (knows_same c c refl refl)

-- by the first bit of one
pub knows_gap : (c now : Checker) (b : Bool) → c.in_gap ≡ false → c.stray ≡ 0 → now.began ≡ c.began
    → now.opening ≡ Anything → CheckerKnows (opening_after_item (Junk b) (checker_gap c) c.opening) c now
knows_gap c now b outside none began opening =
    let same : opening_after_item (Junk b) (checker_gap c) c.opening ≡ Anything = rw outside (rw none refl) in
    subst (λ o. CheckerKnows o c now) (sym same) (knows_nothing Anything c now began opening (λ h. refl))

-- a transaction in a gap
pub knows_tx_in_gap : (c : Checker) (tx : Transaction) → c.in_gap ≡ true
    → CheckerKnows (opening_after_item (Tx tx) (checker_gap c) c.opening) c c
knows_tx_in_gap c tx gap =
    let same : opening_after_item (Tx tx) (checker_gap c) c.opening ≡ c.opening = rw gap refl in
    subst (λ o. CheckerKnows o c c) (sym same) (knows_same c c refl refl)

-- and outside of one
pub knows_tx : (c now : Checker) (tx : Transaction) → c.in_gap ≡ false
    → CheckerKnows (opening_after_tx c.opening tx.result tx.request) c now
    → CheckerKnows (opening_after_item (Tx tx) (checker_gap c) c.opening) c now
knows_tx c now tx outside h =
    let same : opening_after_item (Tx tx) (checker_gap c) c.opening ≡ opening_after_tx c.opening tx.result tx.request =
    rw outside refl in
    subst (λ o. CheckerKnows o c now) (sym same) h

-- TRANSACTIONS
-- a transaction in worlds that are held
pub knows_over : (after : Opening) (c now : Checker) → is_opening_over c.opening ≡ true → now.began ≡ c.began
    → CheckerKnows after c now
knows_over after c now over began = record {
  begun = λ p e. began ∙ e;
  waits = λ none not_over. absurd (let f : true ≡ false = sym over ∙ not_over in cc);
  begins = λ none not_over. absurd (let f : true ≡ false = sym over ∙ not_over in cc);
}

-- by which the state is known
pub knows_enough : (tx : Transaction) (c now : Checker) (place : ℕ)
    → is_opening_decided c.opening tx.result tx.request ≡ true → now.began ≡ option_or c.began (Some place)
    → CheckerKnows (opening_after_tx c.opening tx.result tx.request) c now
knows_enough tx c now place decided began = record {
  begun = λ p e. began ∙ first_kept c.began place p e;
  waits = λ none. absurd (first_is_some c.began place (sym began ∙ none));
  begins = λ none over p e. tx_decided c.opening tx.result tx.request decided;
}

-- and by which it isn't
pub knows_too_little : (tx : Transaction) (c now : Checker)
    → is_opening_decided c.opening tx.result tx.request ≡ false → now.began ≡ c.began
    → now.opening ≡ opening_after_end c.opening tx.result tx.request
    → CheckerKnows (opening_after_tx c.opening tx.result tx.request) c now
knows_too_little tx c now decided began opening =
    let same = tx_not_decided c.opening tx.result tx.request decided in
    subst (λ o. CheckerKnows o c now) (sym same)
    (knows_nothing (opening_after_end c.opening tx.result tx.request) c now began opening
    (λ h. end_not_over c.opening tx.result tx.request h))

-- what is known after both parts of a transaction's step, of which the second leaves it
pub knows_then : (after : Opening) (c first mid now : Checker) → first.began ≡ c.began → first.opening ≡ c.opening
    → CheckerKnows after first mid → now.began ≡ mid.began → now.opening ≡ mid.opening → CheckerKnows after c now
knows_then after c first mid now began_first opening_first h began opening =
    let over_first : is_opening_over first.opening ≡ is_opening_over c.opening = ap is_opening_over opening_first in
    record {
      begun = λ p e. began ∙ h.begun p (began_first ∙ e);
      waits = λ none over.
          let w = h.waits (sym began ∙ none) (over_first ∙ over) in (opening ∙ w.0, w.1);
      begins = λ none over p e. h.begins (began_first ∙ none) (over_first ∙ over) p (sym began ∙ e);
    }

-- LISTS
-- what is known after one item more
pub opening_over_more : (items : List Item) (item : Item) (g : CheckedGap) (opening : Opening)
    → opening_over_items (items ++ item ∷ []) g opening
    ≡ opening_after_item item (checked_gap_over items g) (opening_over_items items g opening)
opening_over_more [] item g opening = refl
opening_over_more (first ∷ items) item g opening =
    opening_over_more items item (checked_gap_after first g) (opening_after_item first g opening)

-- the state isn't known by one item more
pub opening_unknown_more : (items : List Item) (item : Item) (g : CheckedGap) (opening : Opening)
    → AreOpeningUnknown items g opening
    → is_opening_over (opening_after_item item (checked_gap_over items g) (opening_over_items items g opening)) ≡ false
    → AreOpeningUnknown (items ++ item ∷ []) g opening
opening_unknown_more [] item g opening h next = (h, next)
opening_unknown_more (first ∷ items) item g opening h next =
    (h.0, opening_unknown_more items item (checked_gap_after first g) (opening_after_item first g opening) h.1 next)

-- nor is it after these items
pub opening_unknown_last : (items : List Item) (g : CheckedGap) (opening : Opening) → AreOpeningUnknown items g opening
    → is_opening_over (opening_over_items items g opening) ≡ false
opening_unknown_last [] g opening h = h
opening_unknown_last (first ∷ items) g opening h =
    opening_unknown_last items (checked_gap_after first g) (opening_after_item first g opening) h.1
