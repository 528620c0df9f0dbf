-- What a check knows of the items that it took, item by item.
use Rattle.std.proofs.Common.{◌≡◌, ◌<◌, ◌≤◌, ◌+◌, ◌-◌, ℕ, zero, suc, Bool, true, false, refl, sym, ap, subst}
use Rattle.std.proofs.Common.{◌∙◌, ◌⊎◌, inl, inr, List, [], ◌∷◌, ◌++◌, replicate, min, append_assoc, append-nil, arith}
use Rattle.std.proofs.Common.{◌*◌, ◌^◌}
use Rattle.std.specs.Prelude.{Option, Some, None, is_some, ◌==◌, sum_by, unwrap_or}
use Rattle.std.proofs.lemmas.List.Folds.{sum_by-replicate}
use Rattle.std.proofs.lemmas.List.Sums.{sum_by-append, sum_by-cons}
use Rattle.std.proofs.lemmas.List.{replicate-append-replicate, replicate_more}
use Rattle.swd_bits.specs.declared.tx.Tx.{Tx as Transaction}
use Rattle.swd_bits.specs.declared.tx.TxEnd.{TxEnd}
use Rattle.swd_bits.specs.declared.tx.TxEnd.TheVariants.{Moved, Wait, Fault, NoAck}
use Rattle.swd_trace.specs.declared.item.Item.{Item}
use Rattle.swd_trace.specs.declared.item.Item.TheVariants.{Reset, Switch, Idle, Tx, Junk, Cut}
use Rattle.swd_port.specs.Port.{Port}
use Rattle.swd_checker.specs.declared.checker.CheckStart.{CheckStart}
use Rattle.swd_checker.specs.declared.checker.Checker.{Checker}
use Rattle.swd_checker.specs.Standing.{CheckedGap, CheckedRuns, CheckedShows, CheckedShowsIn, CheckerWatches}
use Rattle.swd_checker.specs.Standing.{CheckerLeaves}
use Rattle.swd_checker.specs.Standing.{CheckerHolds}
use Rattle.swd_checker.specs.Standing.{checker_gap, checked_gap_after, checked_gap_at, checked_gap_none}
use Rattle.swd_checker.specs.Standing.{checked_gap_over}
use Rattle.swd_checker.specs.Standing.{checked_stray_after}
use Rattle.swd_checker.proofs.StandingLemmas.{checked_shows_same, checker_holds_in_gap}
use Rattle.swd_checker.proofs.WholeLemmas.{checked_gap_over_more, checked_last_shown}
use Rattle.swd_trace.specs.Listed.{AreLegalItems}
use Rattle.swd_checker.specs.declared.checker.CheckStart.TheVariants.{Made, Rest, Any}
use Rattle.swd_checker.specs.declared.opening.Opening.{Opening}
use Rattle.swd_checker.specs.Openings.{is_opening_over}
use Rattle.swd_checker.specs.Knowing.{CheckedFrom, opening_after_item, opening_of_start, opening_over_items}
use Rattle.swd_checker.specs.Fitting.{CheckerBeginsBy, CheckerFirst, CheckerFollows, CheckerKnows, CheckerShows}
use Rattle.swd_checker.specs.Fitting.{AreGapless}
use Rattle.swd_checker.specs.Fitting.{AreShownByRun}
use Rattle.swd_observer.specs.declared.trace.TraceObserver.{TraceObserver}
use Rattle.swd_observer.specs.Traces.{observed_item_len, observed_place_after}
use Rattle.swd_checker.proofs.FittingLemmas.{checked_gapless_more, legal_items_more, shown_by_run}
use Rattle.swd_checker.proofs.KnowingLemmas.{opening_over_more, opening_unknown_last, opening_unknown_more}
use Rattle.swd_checker.proofs.BeginsLemmas.{checked_from_known, checked_from_more, checker_known_at}
use Rattle.swd_checker.proofs.BeginsLemmas.{checker_waits_at_first}
use Rattle.swd_checker.proofs.BeginsLemmas.{checker_shows_other, checker_unbegun_before, checker_waits_more}
use Rattle.swd_text.specs.Sinks.{sink_leads_join}
use Rattle.swd_check.specs.declared.recent.Recent.{Recent}
use Rattle.swd_check.specs.declared.rules.Rules.{Rules}
use Rattle.swd_check.specs.declared.why.Broken.{Broken}
use Rattle.swd_check.specs.declared.check.Check.{Check}
use Rattle.swd_check.specs.Watched.{CheckIndex, CheckBroke, CheckHolds, CheckTakes, CheckJudges, CheckTx, check_tx}
use Rattle.swd_check.specs.Watched.{CheckRulesHold, CheckRulesTake, IsCheckJudged, CheckRulesFit, CheckRulesFrom}
use Rattle.swd_check.specs.Watched.{CheckFitsFrom, AreCheckShown, check_place}
use Rattle.swd_check.specs.Watched.{IsCheckedAnswer, HasCheckedAnswer}

-- GAPS
junk_stays : (none : Bool) (b : Bool) (g : CheckedGap) → (g.stray == 0) ≡ none → g.in_gap ≡ true
    → (checked_gap_after (Junk b) g).in_gap ≡ true
junk_stays true b g z e = rw z refl
junk_stays false b g z e = rw z e

tx_stays : (gap : Bool) (tx : Transaction) (g : CheckedGap) → g.in_gap ≡ gap → gap ≡ true
    → (checked_gap_after (Tx tx) g).in_gap ≡ true
tx_stays true tx g e f = rw e refl
tx_stays false tx g e f = absurd (cc)

gap_stays : (item : Item) (g : CheckedGap) → ((ones : ℕ) → item ≡ Reset ones → ⊥) → g.in_gap ≡ true
    → (checked_gap_after item g).in_gap ≡ true
gap_stays (Reset ones) g other e = absurd (other ones refl)
gap_stays (Junk b) g other e = junk_stays (g.stray == 0) b g refl e
gap_stays (Tx tx) g other e = tx_stays g.in_gap tx g refl e
gap_stays (Cut bits) g other e = refl
gap_stays (Idle zeros) g other e = e
gap_stays Switch g other e = e

-- in a gap the gap of other items doesn't matter: the next line reset ends both
gap_goes_on : (item : Item) (g other : CheckedGap) → g.in_gap ≡ true
    → ((checked_gap_after item g).in_gap ≡ true) ⊎ (checked_gap_after item g ≡ checked_gap_after item other)
gap_goes_on (Reset ones) g other e = inr refl
gap_goes_on (Junk b) g other e = inl (gap_stays (Junk b) g (λ ones f. cc) e)
gap_goes_on (Tx tx) g other e = inl (gap_stays (Tx tx) g (λ ones f. cc) e)
gap_goes_on (Cut bits) g other e = inl refl
gap_goes_on (Idle zeros) g other e = inl e
gap_goes_on Switch g other e = inl e

-- the gap of a checker after one item more
gap_more : (c now : Checker) (item : Item) (items : List Item)
    → checker_gap now ≡ checked_gap_after item (checker_gap c)
    → (c.in_gap ≡ true) ⊎ (checker_gap c ≡ checked_gap_over items checked_gap_none)
    → (now.in_gap ≡ true) ⊎ (checker_gap now ≡ checked_gap_over (items ++ item ∷ []) checked_gap_none)
gap_more c now item items e (inl gap) = elim
    (gap_goes_on item (checker_gap c) (checked_gap_over items checked_gap_none) gap)
    as (λ _. (now.in_gap ≡ true) ⊎ (checker_gap now ≡ checked_gap_over (items ++ item ∷ []) checked_gap_none)) [
      | inl stays ↦ inl (ap (λ (g : CheckedGap). g.in_gap) e ∙ stays)
      | inr same ↦ inr (e ∙ same ∙ sym (checked_gap_over_more items item checked_gap_none))
    ]
gap_more c now item items e (inr same) =
    inr (e ∙ ap (checked_gap_after item) same ∙ sym (checked_gap_over_more items item checked_gap_none))

-- what an item shows where a checker is in a gap, or in that of the items
shows_here : (c : Checker) (clean : Bool) (item : Item) (g : CheckedGap) (s t : Port) → c.clean ≡ clean
    → (c.in_gap ≡ true) ⊎ (checker_gap c ≡ g) → CheckedShows clean g item s t
    → CheckedShows c.clean (checker_gap c) item s t
shows_here c clean item g s t wire (inl gap) shows =
    subst (λ b. CheckedShowsIn b c.clean c.stray item s t) (sym gap) (checked_shows_same clean g item s t shows)
shows_here c clean item g s t wire (inr same) shows =
    subst (λ b. CheckedShows b (checker_gap c) item s t) (sym wire)
    (subst (λ h. CheckedShows clean h item s t) (sym same) shows)

-- ANSWERS
-- after one item more the target answered if it did before, or if the item is an answer
answer_more : (items : List Item) (item : Item) → HasCheckedAnswer items ⊎ IsCheckedAnswer item
    → HasCheckedAnswer (items ++ item ∷ [])
answer_more items item (inl h) = record {
  before = h.before;
  tx = h.tx;
  after = h.after ++ item ∷ [];
  is = ap (λ l. l ++ item ∷ []) h.is ∙ append_assoc h.before (Tx h.tx ∷ h.after) (item ∷ []);
  acknowledged = h.acknowledged;
}
answer_more items item (inr h) = record {
  before = items;
  tx = h.0;
  after = [];
  is = ap (λ x. items ++ x ∷ []) h.1;
  acknowledged = h.2;
}

-- what is noted of a step
abbrev pub AnswersMore : Item → Rules → Rules → Type 0
AnswersMore item r now = now.is_answered ≡ true → (r.is_answered ≡ true) ⊎ IsCheckedAnswer item

answered_more : (items : List Item) (item : Item) (r now : Rules) → AnswersMore item r now
    → (r.is_answered ≡ true → HasCheckedAnswer items) → now.is_answered ≡ true → HasCheckedAnswer (items ++ item ∷ [])
answered_more items item r now more before e = elim (more e) as (λ _. HasCheckedAnswer (items ++ item ∷ [])) [
  | inl f ↦ answer_more items item (inl (before f))
  | inr f ↦ answer_more items item (inr f)
]

-- nothing is noted
pub answers_same : (item : Item) (r now : Rules) → now.is_answered ≡ r.is_answered → AnswersMore item r now
answers_same item r now same = λ e. inl (sym same ∙ e)

-- RULES
-- an item at its place that a checker watches
pub record CheckWatches (item : Item) (place : ℕ) (c now : Checker) : Type 0 where
  pub watches : CheckerWatches item c now
  pub follows : CheckerFollows item c now
  pub begins : CheckerBeginsBy item place c now
  pub knows : c.broken ≡ None → CheckerKnows (opening_after_item item (checker_gap c) c.opening) c now

none_not_some : (n : ℕ) → None ≡ Some n → ⊥
none_not_some n e = cc

begun_watch : (before : Option ℕ) (start : CheckStart) (items : List Item) (item : Item) (place from : ℕ)
    (c now : Checker) → c.began ≡ before → CheckWatches item place c now → c.broken ≡ None → now.broken ≡ None
    → now.crowded ≡ None → place ≡ check_place items → CheckRulesFit start items c → now.began ≡ Some from
    → CheckRulesFrom start (items ++ item ∷ []) from now
begun_watch None start items item place from c now was w whole still room at h e =
    let other : start ≡ Made → ⊥ = λ made. none_not_some 0 (sym was ∙ h.made made) in
    let s = w.begins.opens room still was from e in record {
      skipped = items;
      rest = item ∷ [];
      is = refl;
      place = s.0 ∙ at;
      first = checked_from_known start items item other
          (checker_known_at start items item c now from h.gap (w.knows whole) was e (h.waits was));
      shows = λ legal gapless.
          let l = legal_items_more items item legal in
          checker_shows_other start (item ∷ []) now other (s.1 l.1 (h.word l.0));
    }
begun_watch (Some p) start items item place from c now was w whole still room at h e =
    let same : Some from ≡ Some p = sym e ∙ (w.knows whole).begun p was in
    let is : from ≡ p = cc in
    let b = h.begun p was (w.follows.crowded room) in record {
      skipped = b.skipped;
      rest = b.rest ++ item ∷ [];
      is = ap (λ l. l ++ item ∷ []) b.is ∙ append_assoc b.skipped b.rest (item ∷ []);
      place = is ∙ b.place;
      first = checked_from_more start b.skipped b.rest item b.first;
      shows = λ legal gapless.
          let l = legal_items_more items item legal in
          let g = checked_gapless_more checked_gap_none b.rest item gapless in
          let before : CheckerShows start b.rest c = b.shows l.0 g.0 in
          w.follows.shows l.1 (ap (λ z. (checked_gap_after item z).in_gap) before.gap ∙ g.1) room still start b.rest
          before;
    }

-- what fits, with one item more
fits_watch : (start : CheckStart) (items : List Item) (item : Item) (place : ℕ) (c now : Checker)
    → CheckWatches item place c now → c.broken ≡ None → now.broken ≡ None → place ≡ check_place items
    → CheckRulesFit start items c → CheckRulesFit start (items ++ item ∷ []) now
fits_watch start items item place c now w whole still at h = record {
  gap = w.watches.gap whole ∙ ap (checked_gap_after item) h.gap
      ∙ sym (checked_gap_over_more items item checked_gap_none);
  made = λ made. (w.knows whole).begun 0 (h.made made);
  word = λ legal. let l = legal_items_more items item legal in w.begins.word l.1 still (h.word l.0);
  waits = λ none. checker_waits_more start items item c now h.gap (w.knows whole) none
      (h.waits (checker_unbegun_before c.began _ c now refl (w.knows whole) none));
  begun = λ from e room. begun_watch c.began start items item place from c now refl w whole still room at h e;
}

-- the checker watches an item
pub check_rules_watch : (item : Item) (place : ℕ) (r now : Rules) → CheckWatches item place r.checker now.checker
    → now.outside ≡ r.outside
    → (now.is_outside ≡ true → (r.is_outside ≡ true) × ((ones : ℕ) → item ≡ Reset ones → ⊥))
    → AnswersMore item r now → CheckRulesTake item place r now
check_rules_watch item place r now w left_at outside answers = λ start clean items unbroken at h. record {
  holds = λ s t starts run.
      let x = checked_last_shown clean checked_gap_none items item s t run in
      w.watches.holds x.0 t
      (shows_here r.checker clean item (checked_gap_over items checked_gap_none) x.0 t h.wire h.gap x.2)
      (h.holds s x.0 starts x.1);
  wire = w.watches.wire ∙ h.wire;
  gap = gap_more r.checker now.checker item items (w.watches.gap unbroken) h.gap;
  outside = λ e.
      let o = outside e in
      ap (λ (g : CheckedGap). g.in_gap) (w.watches.gap unbroken)
      ∙ gap_stays item (checker_gap r.checker) o.1 (h.outside o.0);
  left = λ e f. h.left (outside e).0 (sym left_at ∙ f);
  answered = answered_more items item r now answers h.answered;
  fits = λ inside still. fits_watch start items item place r.checker now.checker w unbroken still at
      (h.fits (sym left_at ∙ inside) unbroken);
}

-- an item that a checker in a gap isn't given
check_rules_stay : (item : Item) (start : CheckStart) (clean : Bool) (items : List Item) (r now : Rules)
    → now.checker ≡ r.checker → now.is_outside ≡ r.is_outside → now.outside ≡ r.outside → r.checker.in_gap ≡ true
    → (now.outside ≡ None → now.checker.broken ≡ None → CheckRulesFit start (items ++ item ∷ []) now.checker)
    → AnswersMore item r now → CheckRulesHold start clean r items
    → CheckRulesHold start clean now (items ++ item ∷ [])
check_rules_stay item start clean items r now same stays place gap fits answers h =
    let there : now.checker.in_gap ≡ true = ap (λ (c : Checker). c.in_gap) same ∙ gap in record {
      holds = λ s t starts run.
          let x = checked_last_shown clean checked_gap_none items item s t run in
          subst (λ c. CheckerHolds c t) (sym same) (checker_holds_in_gap r.checker x.0 t gap
          (checked_shows_same clean (checked_gap_over items checked_gap_none) item x.0 t x.2) (h.holds s x.0 starts
          x.1));
      wire = ap (λ (c : Checker). c.clean) same ∙ h.wire;
      gap = inl there;
      outside = λ e. there;
      left = λ e f. h.left (sym stays ∙ e) (sym place ∙ f);
      answered = answered_more items item r now answers h.answered;
      fits = fits;
    }

-- outside of the model an item isn't looked at
pub check_rules_outside : (item : Item) (place : ℕ) (r now : Rules) → now.checker ≡ r.checker
    → now.outside ≡ r.outside → now.is_outside ≡ r.is_outside → r.is_outside ≡ true → AnswersMore item r now
    → CheckRulesTake item place r now
check_rules_outside item place r now same left_at stays outside answers = λ start clean items unbroken at h.
    check_rules_stay item start clean items r now same stays left_at (h.outside outside)
    (λ inside. absurd (h.left outside (sym left_at ∙ inside))) answers h

-- where a session leaves the model before an item
pub check_rules_left : (start : CheckStart) (clean : Bool) (items : List Item) (r now : Rules)
    → CheckerLeaves r.checker now.checker → (now.outside ≡ None → ⊥) → now.is_answered ≡ r.is_answered
    → CheckRulesHold start clean r items → CheckRulesHold start clean now items
check_rules_left start clean items r now leaves left answered h =
    let there : now.checker.in_gap ≡ true = ap (λ (g : CheckedGap). g.in_gap) leaves.gap in record {
      holds = λ s t starts run. leaves.holds t t (record { identification = refl }) (h.holds s t starts run);
      wire = leaves.wire ∙ h.wire;
      gap = inl there;
      outside = λ e. there;
      left = λ e f. left f;
      answered = λ e. h.answered (sym answered ∙ e);
      fits = λ inside. absurd (left inside);
    }

-- and where a session leaves the model
pub check_rules_leave : (item : Item) (place : ℕ) (r now : Rules) → CheckerLeaves r.checker now.checker
    → (now.outside ≡ None → ⊥) → AnswersMore item r now → CheckRulesTake item place r now
check_rules_leave item place r now leaves left answers = λ start clean items unbroken at h.
    let there : now.checker.in_gap ≡ true = ap (λ (g : CheckedGap). g.in_gap) leaves.gap in record {
      holds = λ s t starts run.
          let x = checked_last_shown clean checked_gap_none items item s t run in
          leaves.holds x.0 t (checked_shows_same clean (checked_gap_over items checked_gap_none) item x.0 t x.2)
          (h.holds s x.0 starts x.1);
      wire = leaves.wire ∙ h.wire;
      gap = inl there;
      outside = λ e. there;
      left = λ e f. left f;
      answered = answered_more items item r now answers h.answered;
      fits = λ inside. absurd (left inside);
    }

-- BEFORE THE FIRST ITEM
first_from : (start : CheckStart) (c : Checker) (p : ℕ) → ((start ≡ Made → ⊥) → c.began ≡ None) → c.began ≡ Some p
    → CheckedFrom start [] []
first_from Made c p unbegun e = refl
first_from Rest c p unbegun e = absurd (let f : None ≡ Some p = sym (unbegun (λ is. cc)) ∙ e in cc)
first_from Any c p unbegun e = absurd (let f : None ≡ Some p = sym (unbegun (λ is. cc)) ∙ e in cc)

-- no bit is before them
pub check_place_none : check_place [] ≡ 0
check_place_none = refl

-- a checker that watched none
pub check_rules_first : (start : CheckStart) (c : Checker) → checker_gap c ≡ checked_gap_none → CheckerFirst start c
    → c.opening ≡ opening_of_start start → ((start ≡ Made → ⊥) → c.began ≡ None) → CheckRulesFit start [] c
check_rules_first start c gap h opening unbegun = record {
  gap = gap;
  made = h.made;
  word = λ legal. h.word;
  waits = λ none. checker_waits_at_first start c opening h none;
  begun = λ from e room.
      let f = h.first from e in record {
        skipped = [];
        rest = [];
        is = refl;
        place = f.0 ∙ sym check_place_none;
        first = first_from start c from unbegun e;
        shows = λ legal gapless. f.1;
      };
}

-- PLACES
-- behind one item more
place_more : (items : List Item) (item : Item) (place now : ℕ) → place ≡ check_place items
    → now ≡ observed_place_after item place → now ≡ check_place (items ++ item ∷ [])
place_more items item place now at after =
    let all = sum_by-append observed_item_len items (item ∷ []) in
    let last : sum_by observed_item_len (item ∷ []) ≡ observed_item_len item + 0 =
    sum_by-cons observed_item_len item [] in
    omega (arith, at, after, all, last)

-- behind so many junk bits
place_junk : (seen : List Item) (bits place now : ℕ) → place ≡ check_place seen
    → now ≡ min (place + bits) (2 ^ 64 - 1) → now ≡ check_place (seen ++ replicate bits (Junk false))
place_junk seen bits place now at after =
    let all = sum_by-append observed_item_len seen (replicate bits (Junk false)) in
    let junk : sum_by observed_item_len (replicate bits (Junk false)) ≡ bits * 1 =
    sum_by-replicate observed_item_len bits (Junk false) in
    omega (arith, at, after, all, junk)

-- WHAT IS SHOWN
made_skips_none : (start : CheckStart) (before items : List Item) → start ≡ Made → CheckedFrom start before items
    → before ≡ []
made_skips_none Made before items e h = h
made_skips_none Rest before items e h = absurd (cc)
made_skips_none Any before items e h = absurd (cc)

-- of a target in its reset state all items are
made_shown : (start : CheckStart) (clean : Bool) (seen : List Item) (c : Checker) → start ≡ Made → c.clean ≡ clean
    → CheckRulesFrom start seen 0 c → AreLegalItems seen → AreGapless checked_gap_none seen
    → AreShownByRun Made clean seen
made_shown start clean seen c made wire b legal gapless =
    let none : b.skipped ≡ [] = made_skips_none start b.skipped b.rest made b.first in
    let same : b.rest ≡ seen = sym (b.is ∙ ap (λ l. l ++ b.rest) none) in
    let run : AreShownByRun start c.clean b.rest =
    shown_by_run start b.rest c (b.shows legal (subst (AreGapless checked_gap_none) (sym same) gapless)) in
    subst (λ l. AreShownByRun Made clean l) same (subst (λ z. AreShownByRun z clean b.rest) made
    (subst (λ wire. AreShownByRun start wire b.rest) wire run))

-- CHECKS
-- no rule was broken before
pub check_unbroken : (broken : Option Broken) (b : Bool) → b ≡ is_some broken → b ≡ false → broken ≡ None
check_unbroken None b is other = refl
check_unbroken (Some broken) b is other = absurd (let e : true ≡ false = sym is ∙ other in cc)

-- a rule that was broken before still is
broke_more : (i : CheckIndex) (items next : List Item) (broken : Option Broken) → CheckBroke i items broken
    → CheckBroke i (items ++ next) broken
broke_more i items next None h = tt
broke_more i items next (Some broken) r = record {
  before = r.before;
  after = r.after ++ next;
  is = ap (λ l. l ++ next) r.is ∙ append_assoc r.before (Tx broken.tx ∷ r.after) next;
  place = r.place;
  never = r.never;
  shown = r.shown;
}

none_broken : (broken : Option Broken) → broken ≡ None → (i : CheckIndex) (items : List Item) → CheckBroke i items
    broken
none_broken None e i items = tt
none_broken (Some broken) e i items = absurd (cc)

-- a check where a rule was broken before, at any item
pub check_stays_broken : {A : Type 0} (check now : Check A) (item : Item) → (check.broken ≡ None → ⊥)
    → now.broken ≡ check.broken → now.observer.place ≡ observed_place_after item check.observer.place
    → CheckTakes (item ∷ []) check now
check_stays_broken check now item some same after = λ i seen h. record {
  rules = λ e. absurd (some (sym same ∙ e));
  unbroken = λ e. absurd (some (sym same ∙ e));
  broke = subst (CheckBroke i (seen ++ item ∷ [])) (sym same) (broke_more i seen (item ∷ []) check.broken h.broke);
  place = place_more seen item check.observer.place now.observer.place h.place after;
}

-- some rule was
pub check_is_broken : (broken : Option Broken) (b : Bool) → b ≡ is_some broken → b ≡ true → broken ≡ None → ⊥
check_is_broken None b is some e = let f : true ≡ false = sym some ∙ is in cc
check_is_broken (Some broken) b is some e = cc

-- an item by which no rule is broken
pub check_goes_on : {A : Type 0} (check now : Check A) (item : Item) → check.broken ≡ None → now.broken ≡ check.broken
    → CheckRulesTake item check.observer.place check.rules now.rules
    → now.rules.checker.broken ≡ check.rules.checker.broken
    → now.observer.place ≡ observed_place_after item check.observer.place → CheckTakes (item ∷ []) check now
check_goes_on check now item none same takes unbroken after = λ i seen h. record {
  rules = λ e. takes i.start i.clean seen (h.unbroken none) h.place (h.rules none);
  unbroken = λ e. unbroken ∙ h.unbroken none;
  broke = none_broken now.broken (same ∙ none) i (seen ++ item ∷ []);
  place = place_more seen item check.observer.place now.observer.place h.place after;
}

judged_none : (t : CheckTx) (r : Rules) (broken : Option Broken) → IsCheckJudged t r broken → broken ≡ None
    → r.checker.broken ≡ None
judged_none t r None h e = h
judged_none t r (Some broken) h e = absurd (cc)

-- all items so far were checked and decided
pub record CheckDecided (r : Rules) : Type 0 where
  pub inside : r.outside ≡ None
  pub uncrowded : r.checker.crowded ≡ None

decided_shown : (start : CheckStart) (clean : Bool) (seen : List Item) (r : Rules) → r.checker.broken ≡ None
    → CheckDecided r → CheckRulesHold start clean r seen → AreCheckShown start clean seen
decided_shown start clean seen r whole d h = λ made legal gapless.
    let f = h.fits d.inside whole in
    made_shown start clean seen r.checker made h.wire (f.begun 0 (f.made made) d.uncrowded) legal gapless

judged_broke : (i : CheckIndex) (seen : List Item) (t : CheckTx) (before r : Rules) (broken : Option Broken)
    → before.checker.broken ≡ None → t.place ≡ check_place seen → (t.is_first ≡ true → CheckDecided before)
    → CheckRulesHold i.start i.clean before seen → CheckRulesHold i.start i.clean r (seen ++ Tx t.tx ∷ [])
    → IsCheckJudged t r broken → CheckBroke i (seen ++ Tx t.tx ∷ []) broken
judged_broke i seen t before r None whole at decided held k h = tt
judged_broke i seen t before r (Some broken) whole at decided held k h = record {
  before = seen;
  after = [];
  is = ap (λ x. seen ++ Tx x ∷ []) (sym h.0);
  place = h.1 ∙ at;
  never = λ e s u starts run. h.3 e (k.holds s u starts
      (subst (λ x. CheckedRuns i.clean checked_gap_none (seen ++ Tx x ∷ []) s u) h.0 run)).unbroken;
  shown = λ first. decided_shown i.start i.clean seen before whole (decided (sym h.2 ∙ first)) held;
}

-- a transaction that is judged
pub check_judged : {A : Type 0} (check mid now : Check A) (tx : Transaction) (is_first : Bool) → check.broken ≡ None
    → mid.broken ≡ check.broken → mid.observer.place ≡ observed_place_after (Tx tx) check.observer.place
    → (is_first ≡ true → CheckDecided check.rules)
    → CheckRulesTake (Tx tx) check.observer.place check.rules mid.rules
    → CheckJudges (check_tx tx check.observer.place is_first) mid now → CheckTakes (Tx tx ∷ []) check now
check_judged check mid now tx is_first none same after decided takes judges = λ i seen h.
    let t : CheckTx = check_tx tx check.observer.place is_first in
    let k : CheckRulesHold i.start i.clean now.rules (seen ++ Tx tx ∷ []) =
    subst (λ r. CheckRulesHold i.start i.clean r (seen ++ Tx tx ∷ [])) (sym judges.rules)
    (takes i.start i.clean seen (h.unbroken none) h.place (h.rules none)) in
    let j : IsCheckJudged t now.rules now.broken = judges.broken (same ∙ none) in record {
      rules = λ e. k;
      unbroken = λ e. judged_none t now.rules now.broken j e;
      broke = judged_broke i seen t check.rules now.rules now.broken (h.unbroken none) h.place decided (h.rules none)
          k j;
      place = place_more seen (Tx tx) check.observer.place now.observer.place h.place
          (ap (λ (o : TraceObserver). o.place) judges.place ∙ after);
    }

-- what a check knows doesn't depend on what it observed but for the place
pub check_same : {A : Type 0} (i : CheckIndex) (check now : Check A) (items : List Item) → now.rules ≡ check.rules
    → now.broken ≡ check.broken → now.observer.place ≡ check.observer.place → CheckHolds i check items
    → CheckHolds i now items
check_same i check now items rules broken place h = record {
  rules = λ e. subst (λ r. CheckRulesHold i.start i.clean r items) (sym rules) (h.rules (sym broken ∙ e));
  unbroken = λ e. ap (λ (r : Rules). r.checker.broken) rules ∙ h.unbroken (sym broken ∙ e);
  broke = subst (CheckBroke i items) (sym broken) h.broke;
  place = place ∙ h.place;
}

-- a rule that isn't some is none
pub no_some : (broken : Option Broken) → ((b : Broken) → broken ≡ Some b → ⊥) → broken ≡ None
no_some None h = refl
no_some (Some b) h = absurd (h b refl)

fits_from : (began : Option ℕ) (start : CheckStart) (clean : Bool) (seen : List Item) (c : Checker) (from : ℕ)
    → c.began ≡ began → (c.began ≡ None → ⊥) → from ≡ unwrap_or began 0 → c.clean ≡ clean → c.crowded ≡ None
    → CheckRulesFit start seen c → CheckFitsFrom start clean seen from
fits_from None start clean seen c from was some at wire room h = absurd (some was)
fits_from (Some p) start clean seen c from was some at wire room h =
    let b = h.begun p was room in record {
      skipped = b.skipped;
      rest = b.rest;
      is = b.is;
      place = at ∙ b.place;
      first = b.first;
      shown = λ legal gapless. subst (λ wire. AreShownByRun start wire b.rest) wire
          (shown_by_run start b.rest c (b.shows legal gapless));
    }

-- where no rule is broken, and all was checked, the target answered, and some run shows the items
pub check_fits : {A : Type 0} (i : CheckIndex) (check : Check A) (seen : List Item) (from : ℕ) → check.broken ≡ None
    → check.rules.outside ≡ None → (check.rules.checker.broken ≡ None → check.rules.checker.crowded ≡ None)
    → (check.rules.checker.began ≡ None → ⊥) → from ≡ unwrap_or check.rules.checker.began 0
    → check.rules.is_answered ≡ true → CheckHolds i check seen
    → HasCheckedAnswer seen × CheckFitsFrom i.start i.clean seen from
check_fits i check seen from none inside room some at answered h =
    let k = h.rules none in
    let whole = h.unbroken none in (
      k.answered answered,
      fits_from check.rules.checker.began i.start i.clean seen check.rules.checker from refl some at k.wire
          (room whole) (k.fits inside whole),
    )

-- SKIPS
stray_less : (n k : ℕ) → (n == 0) ≡ false → n < suc k → n - 1 < k
stray_less n k z h = grind arith

-- junk bits change nothing in a gap
junk_is_gap : (k : ℕ) → checked_gap_over (replicate k (Junk false)) (checked_gap_at 0 true) ≡ checked_gap_at 0 true
junk_is_gap zero = refl
junk_is_gap (suc k) = junk_is_gap k

junk_begins_gap : (none : Bool) (k : ℕ) (g : CheckedGap) → (g.stray == 0) ≡ none → g.stray < suc k
    → ((h : CheckedGap) → h.stray < k → checked_gap_over (replicate k (Junk false)) h ≡ checked_gap_at 0 true)
    → checked_gap_over (replicate k (Junk false)) (checked_gap_after (Junk false) g) ≡ checked_gap_at 0 true
junk_begins_gap true k g z h rest = rw z (junk_is_gap k)
junk_begins_gap false k g z h rest = rw z (rest (checked_gap_at (g.stray - 1) g.in_gap) (stray_less g.stray k z h))

-- so many junk bits are a gap
gap_over_junk : (k : ℕ) (g : CheckedGap) → g.stray < k
    → checked_gap_over (replicate k (Junk false)) g ≡ checked_gap_at 0 true
gap_over_junk zero g h = absurd (omega arith)
gap_over_junk (suc k) g h = junk_begins_gap (g.stray == 0) k g refl h (λ next less. gap_over_junk k next less)

end_small : (end : TxEnd) → checked_stray_after end ≤ 34
end_small (NoAck seen) = omega arith
end_small Wait = omega arith
end_small Fault = omega arith
end_small (Moved word ok) = omega arith

junk_small : (none : Bool) (b : Bool) (g : CheckedGap) → (g.stray == 0) ≡ none → g.stray ≤ 34
    → (checked_gap_after (Junk b) g).stray ≤ 34
junk_small true b g z h = rw z (omega arith)
junk_small false b g z h = rw z (omega (arith, h))

tx_small : (gap : Bool) (tx : Transaction) (g : CheckedGap) → g.in_gap ≡ gap → g.stray ≤ 34
    → (checked_gap_after (Tx tx) g).stray ≤ 34
tx_small true tx g e h = rw e h
tx_small false tx g e h = rw e (end_small tx.result)

stray_small : (item : Item) (g : CheckedGap) → g.stray ≤ 34 → (checked_gap_after item g).stray ≤ 34
stray_small (Junk b) g h = junk_small (g.stray == 0) b g refl h
stray_small (Tx tx) g h = tx_small g.in_gap tx g refl h
stray_small (Reset ones) g h = omega arith
stray_small (Cut bits) g h = h
stray_small (Idle zeros) g h = h
stray_small Switch g h = h

-- at most 34 bits may follow a lost acknowledgement
gap_small : (items : List Item) (g : CheckedGap) → g.stray ≤ 34 → (checked_gap_over items g).stray ≤ 34
gap_small [] g h = h
gap_small (item ∷ items) g h = gap_small items (checked_gap_after item g) (stray_small item g h)

gap_over_append : (first next : List Item) (g : CheckedGap)
    → checked_gap_over (first ++ next) g ≡ checked_gap_over next (checked_gap_over first g)
gap_over_append [] next g = refl
gap_over_append (item ∷ first) next g = gap_over_append first next (checked_gap_after item g)

junk_gap : (seen : List Item)
    → checked_gap_over (seen ++ replicate 35 (Junk false)) checked_gap_none ≡ checked_gap_at 0 true
junk_gap seen = gap_over_append seen (replicate 35 (Junk false)) checked_gap_none
    ∙ gap_over_junk 35 (checked_gap_over seen checked_gap_none)
    (let h = gap_small seen checked_gap_none (omega arith) in omega (arith, h))

-- after 35 junk bits a checker is in a gap
in_gap_after : (start : CheckStart) (clean : Bool) (seen : List Item) (r : Rules)
    → CheckRulesHold start clean r (seen ++ replicate 35 (Junk false)) → r.checker.in_gap ≡ true
in_gap_after start clean seen r h = elim h.gap as (λ _. r.checker.in_gap ≡ true) [
  | inl gap ↦ gap
  | inr same ↦ ap (λ (g : CheckedGap). g.in_gap) (same ∙ junk_gap seen)
]

no_stray_after : (start : CheckStart) (clean : Bool) (seen : List Item) (r : Rules)
    → CheckRulesHold start clean r (seen ++ replicate 35 (Junk false)) → r.outside ≡ None → r.checker.broken ≡ None
    → r.checker.stray ≡ 0
no_stray_after start clean seen r h inside whole =
    ap (λ (g : CheckedGap). g.stray) ((h.fits inside whole).gap ∙ junk_gap seen)

junk_in_gap : (g : CheckedGap) (opening : Opening) (b : Bool) → g.in_gap ≡ true
    → opening_after_item (Junk b) g opening ≡ opening
junk_in_gap g opening b gap = rw gap refl

junk_after_gap : (c : Checker) (b : Bool) → c.in_gap ≡ true → c.stray ≡ 0
    → checker_gap c ≡ checked_gap_after (Junk b) (checker_gap c)
junk_after_gap c b gap none = rw none (rw gap refl)

-- what fits, with one junk bit more in a gap
fits_junk : (start : CheckStart) (items : List Item) (c : Checker) (b : Bool) → c.in_gap ≡ true → c.stray ≡ 0
    → CheckRulesFit start items c → CheckRulesFit start (items ++ Junk b ∷ []) c
fits_junk start items c b gap none h =
    let there : (checked_gap_over items checked_gap_none).in_gap ≡ true =
    sym (ap (λ (g : CheckedGap). g.in_gap) h.gap) ∙ gap in
    let known : Opening = opening_over_items items checked_gap_none (opening_of_start start) in
    let same : opening_after_item (Junk b) (checked_gap_over items checked_gap_none) known ≡ known =
    junk_in_gap (checked_gap_over items checked_gap_none) known b there in
    record {
      gap = junk_after_gap c b gap none ∙ ap (checked_gap_after (Junk b)) h.gap
          ∙ sym (checked_gap_over_more items (Junk b) checked_gap_none);
      made = h.made;
      word = λ legal. h.word (legal_items_more items (Junk b) legal).0;
      waits = λ unbegun.
          let w = h.waits unbegun in record {
            unknown = opening_unknown_more items (Junk b) checked_gap_none (opening_of_start start) w.unknown
                (ap is_opening_over same
                ∙ opening_unknown_last items checked_gap_none (opening_of_start start) w.unknown);
            opening = w.opening
                ∙ sym (opening_over_more items (Junk b) checked_gap_none (opening_of_start start) ∙ same);
          };
      begun = λ from e room.
          let x = h.begun from e room in record {
            skipped = x.skipped;
            rest = x.rest ++ Junk b ∷ [];
            is = ap (λ l. l ++ Junk b ∷ []) x.is ∙ append_assoc x.skipped x.rest (Junk b ∷ []);
            place = x.place;
            first = checked_from_more start x.skipped x.rest (Junk b) x.first;
            shows = λ legal gapless.
                let before : CheckerShows start x.rest c = x.shows (legal_items_more items (Junk b) legal).0
                (checked_gapless_more checked_gap_none x.rest (Junk b) gapless).0 in
                absurd (let f : true ≡ false = sym gap ∙ before.inside in cc);
          };
    }

-- and more of them change nothing
check_rules_junk : (k : ℕ) (start : CheckStart) (clean : Bool) (items : List Item) (r : Rules) → r.checker.in_gap ≡ true
    → (r.outside ≡ None → r.checker.broken ≡ None → r.checker.stray ≡ 0) → CheckRulesHold start clean r items
    → CheckRulesHold start clean r (items ++ replicate k (Junk false))
check_rules_junk zero start clean items r gap none h = subst (CheckRulesHold start clean r) (sym (append-nil items)) h
check_rules_junk (suc k) start clean items r gap none h =
    subst (CheckRulesHold start clean r) (append_assoc items (Junk false ∷ []) (replicate k (Junk false)))
    (check_rules_junk k start clean (items ++ Junk false ∷ []) r gap none
    (check_rules_stay (Junk false) start clean items r r refl refl refl gap
    (λ inside whole. fits_junk start items r.checker false gap (none inside whole) (h.fits inside whole))
    (answers_same (Junk false) r r refl) h))

junk_joined : (seen : List Item) (n : ℕ) → 35 ≤ n
    → (seen ++ replicate 35 (Junk false)) ++ replicate (n - 35) (Junk false) ≡ seen ++ replicate n (Junk false)
junk_joined seen n h =
    let e : 35 + (n - 35) ≡ n = omega (arith, h) in
    append_assoc seen (replicate 35 (Junk false)) (replicate (n - 35) (Junk false))
    ∙ ap (λ l. seen ++ l) (replicate-append-replicate 35 (n - 35) (Junk false)
    ∙ ap (λ k. replicate k (Junk false)) e)

-- what a check holds but for the place
record CheckHoldsBut {A : Type 0} (i : CheckIndex) (check : Check A) (items : List Item) : Type 0 where
  pub rules : check.broken ≡ None → CheckRulesHold i.start i.clean check.rules items
  pub unbroken : check.broken ≡ None → check.rules.checker.broken ≡ None
  pub broke : CheckBroke i items check.broken

but_place : {A : Type 0} (i : CheckIndex) (check : Check A) (items : List Item) → CheckHolds i check items
    → CheckHoldsBut i check items
but_place i check items h = record { rules = h.rules; unbroken = h.unbroken; broke = h.broke }

at_place : {A : Type 0} (i : CheckIndex) (check now : Check A) (items : List Item) → now.rules ≡ check.rules
    → now.broken ≡ check.broken → now.observer.place ≡ check_place items → CheckHoldsBut i check items
    → CheckHolds i now items
at_place i check now items rules broken place h = record {
  rules = λ e. subst (λ r. CheckRulesHold i.start i.clean r items) (sym rules) (h.rules (sym broken ∙ e));
  unbroken = λ e. ap (λ (r : Rules). r.checker.broken) rules ∙ h.unbroken (sym broken ∙ e);
  broke = subst (CheckBroke i items) (sym broken) h.broke;
  place = place;
}

more_junk : {A : Type 0} (i : CheckIndex) (check : Check A) (seen : List Item) (n : ℕ) → 35 ≤ n
    → CheckHolds i check (seen ++ replicate 35 (Junk false)) → CheckHoldsBut i check (seen ++ replicate n (Junk false))
more_junk i check seen n long h =
    let same = junk_joined seen n long in record {
      rules = λ e. let k = h.rules e in subst (CheckRulesHold i.start i.clean check.rules) same
          (check_rules_junk (n - 35) i.start i.clean (seen ++ replicate 35 (Junk false)) check.rules
          (in_gap_after i.start i.clean seen check.rules k) (no_stray_after i.start i.clean seen check.rules k) k);
      unbroken = h.unbroken;
      broke = subst (λ l. CheckBroke i l check.broken) same (broke_more i (seen ++ replicate 35 (Junk false))
          (replicate (n - 35) (Junk false)) check.broken h.broke);
    }

skip_cases : (n : ℕ) → (n ≤ 35) ⊎ (35 ≤ n)
skip_cases n = grind arith

-- a skip, of which at most 35 bits are taken, and all counted
pub check_skipped : {A : Type 0} (check mid now : Check A) (bits count : ℕ) → count ≡ min bits 35
    → now.rules ≡ mid.rules → now.broken ≡ mid.broken
    → now.observer.place ≡ min (check.observer.place + bits) (2 ^ 64 - 1)
    → CheckTakes (replicate count (Junk false)) check mid → CheckTakes (replicate bits (Junk false)) check now
check_skipped check mid now bits count e rules broken after takes = λ i seen h.
    at_place i mid now (seen ++ replicate bits (Junk false)) rules broken
    (place_junk seen bits check.observer.place now.observer.place h.place after)
    (elim (skip_cases bits) as (λ _. CheckHoldsBut i mid (seen ++ replicate bits (Junk false))) [
      | inl short ↦ (
          let f : count ≡ bits = omega (arith, e, short) in
          but_place i mid (seen ++ replicate bits (Junk false))
          (subst (λ k. CheckHolds i mid (seen ++ replicate k (Junk false))) f (takes i seen h))
          )
      | inr long ↦ (
          let f : count ≡ 35 = omega (arith, e, long) in
          more_junk i mid seen bits long
          (subst (λ k. CheckHolds i mid (seen ++ replicate k (Junk false))) f (takes i seen h))
          )
    ])

-- one junk bit more
pub check_skips : {A : Type 0} (check mid now : Check A) (count : ℕ)
    → CheckTakes (replicate count (Junk false)) check mid → CheckTakes (Junk false ∷ []) mid now
    → CheckTakes (replicate (count + 1) (Junk false)) check now
check_skips check mid now count first next =
    subst (λ l. CheckTakes l check now) (replicate_more count (Junk false))
    (sink_leads_join CheckHolds check mid now (replicate count (Junk false)) (Junk false ∷ []) first next)

-- what came last, and whether the bits of a damaged word are told, change nothing that is known of the items
pub check_rules_noted : (start : CheckStart) (clean : Bool) (r : Rules) (recent : Recent) (untold : Bool)
    (items : List Item) → CheckRulesHold start clean r items
    → CheckRulesHold start clean (record r { recent = recent; untold = untold }) items
check_rules_noted start clean r recent untold items h = record {
  holds = h.holds;
  wire = h.wire;
  gap = h.gap;
  outside = h.outside;
  left = h.left;
  answered = h.answered;
  fits = h.fits;
}

-- whether words that weren't told leave the model doesn't touch what a check holds
pub check_untold : {A : Type 0} (i : CheckIndex) (check : Check A) (untold : Bool) (items : List Item)
    → CheckHolds i check items
    → CheckHolds i (record check { rules = record check.rules { untold = untold } }) items
check_untold i check untold items h = record {
  rules = λ e. check_rules_noted i.start i.clean check.rules check.rules.recent untold items (h.rules e);
  unbroken = h.unbroken;
  broke = h.broke;
  place = h.place;
}
