-- What a check knows of the items that it took, and what its verdict says of them.
use Rattle.std.specs.Prelude.{◌≡◌, ◌⊎◌, ◌++◌, ◌&&◌, ◌-◌, ◌^◌, ℕ, not, Bool, true, false, List, [], ◌∷◌, Option, None}
use Rattle.std.specs.Prelude.{Some, min, sum_by, unwrap_or}
use Rattle.swd_bits.specs.declared.tx.TxEnd.{TxEnd}
use Rattle.swd_bits.specs.declared.tx.TxEnd.TheVariants.{Moved, NoAck}
use Rattle.swd_bits.specs.declared.tx.Tx.{Tx as Transaction}
use Rattle.swd_trace.specs.declared.item.Item.{Item}
use Rattle.swd_trace.specs.declared.item.Item.TheVariants.{Tx}
use Rattle.swd_port.specs.Port.{Port}
use Rattle.swd_trace.specs.Listed.{AreLegalItems}
use Rattle.swd_observer.specs.Traces.{observed_item_len}
use Rattle.swd_checker.specs.declared.checker.CheckStart.{CheckStart}
use Rattle.swd_checker.specs.declared.checker.CheckStart.TheVariants.{Made, Rest}
use Rattle.swd_checker.specs.Standing.{CheckedStarts, CheckedRuns, CheckerHolds}
use Rattle.swd_checker.specs.Standing.{checker_gap, checked_gap_none, checked_gap_over}
use Rattle.swd_checker.specs.declared.checker.Checker.{Checker}
use Rattle.swd_checker.specs.Reaching.{IsWordSound}
use Rattle.swd_checker.specs.Knowing.{CheckedFrom}
use Rattle.swd_checker.specs.Whole.{IsShownByNoRun}
use Rattle.swd_checker.specs.Fitting.{CheckerShows, CheckerWaits, AreGapless, AreShownByRun}
use Rattle.swd_check.specs.declared.rules.Rules.{Rules}
use Rattle.swd_check.specs.declared.why.Why.{Why}
use Rattle.swd_check.specs.declared.why.Why.TheVariants.{Rule}
use Rattle.swd_check.specs.declared.why.Broken.{Broken}
use Rattle.swd_check.specs.declared.check.Check.{Check}
use Rattle.swd_check.specs.declared.checked.Checked.{Checked}
use Rattle.swd_check.specs.declared.checked.Checked.TheVariants.{Breaks, Fits}
use Rattle.swd_text.specs.Sinks.{LeadsSinkOn}

-- where a check begins: the state of the target, and whether nothing is damaged or lost
pub record CheckIndex : Type 0 where
  pub start : CheckStart
  pub clean : Bool

abbrev pub check_index : CheckStart → Bool → CheckIndex
check_index start clean = record { start = start; clean = clean }

-- of a session: the target is at rest, and data may be damaged or lost
abbrev pub checked_rest : CheckIndex
checked_rest = check_index Rest false

-- A rule of the port model, and none of the checks beside it.
abbrev pub is_check_rule : Why → Bool
is_check_rule (Rule reason) = true
is_check_rule why = false

-- the place behind these items: the number of their bits, at most 2^64 - 1
abbrev pub check_place : List Item → ℕ
check_place items = min (sum_by observed_item_len items) (2 ^ 64 - 1)

-- some run of the port model shows these items, of a target in its reset state, if no bits hide a part of the session
abbrev pub AreCheckShown : CheckStart → Bool → List Item → Type 0
AreCheckShown start clean items = start ≡ Made → AreLegalItems items → AreGapless checked_gap_none items
    → AreShownByRun Made clean items

-- The named transaction is one of the items, at its place. No run of the port model shows the items up to it, if a rule
-- of the model is broken. If it is said to be the first, some run shows those before it.
pub record CheckBreaksAt (start : CheckStart) (clean : Bool) (items : List Item) (broken : Broken) : Type 0 where
  pub before : List Item
  pub after : List Item
  pub is : items ≡ before ++ Tx broken.tx ∷ after
  pub place : broken.place ≡ check_place before
  pub never : is_check_rule broken.why ≡ true → IsShownByNoRun start clean (before ++ Tx broken.tx ∷ [])
  pub shown : broken.is_first ≡ true → AreCheckShown start clean before

-- The check of the items begins at this place, the first by which the state of the target is known, and some run of the
-- port model shows those from there on, if no bits hide a part of the session.
pub record CheckFitsFrom (start : CheckStart) (clean : Bool) (items : List Item) (from : ℕ) : Type 0 where
  pub skipped : List Item
  pub rest : List Item
  pub is : items ≡ skipped ++ rest
  pub place : from ≡ check_place skipped
  pub first : CheckedFrom start skipped rest
  pub shown : AreLegalItems items → AreGapless checked_gap_none rest → AreShownByRun start clean rest

-- the target acknowledged a request
abbrev pub is_checked_ack : TxEnd → Bool
is_checked_ack (NoAck seen) = false
is_checked_ack end = true

-- The bits of its word aren't told: of a read's with wrong parity over a way that doesn't tell them.
abbrev pub is_check_damaged : TxEnd → Bool
is_check_damaged (Moved word parity_ok) = not parity_ok
is_check_damaged end = false

abbrev pub is_check_untold : Bool → Transaction → Bool
is_check_untold untold tx = untold && tx.request.read && is_check_damaged tx.result

abbrev pub IsCheckedAnswer : Item → Type 0
IsCheckedAnswer item = (tx : Transaction) × (item ≡ Tx tx) × (is_checked_ack tx.result ≡ true)

-- it did so once at least
pub record HasCheckedAnswer (items : List Item) : Type 0 where
  pub before : List Item
  pub tx : Transaction
  pub after : List Item
  pub is : items ≡ before ++ Tx tx ∷ after
  pub acknowledged : is_checked_ack tx.result ≡ true

-- What a verdict says of the items: where a rule of the port model is broken, it is so. Where the items fit, the target
-- answered, and some run of the model shows them, from where its state is known.
abbrev pub CheckSays : CheckIndex → List Item → Checked → Type 0
CheckSays i items (Breaks broken) = CheckBreaksAt i.start i.clean items broken
CheckSays i items (Fits count from faults gaps) =
    HasCheckedAnswer items × CheckFitsFrom i.start i.clean items (unwrap_or from 0)
CheckSays i items checked = Unit {0}

-- a checker that began its check of these items at this place
pub record CheckRulesFrom (start : CheckStart) (items : List Item) (from : ℕ) (c : Checker) : Type 0 where
  pub skipped : List Item
  pub rest : List Item
  pub is : items ≡ skipped ++ rest
  pub place : from ≡ check_place skipped
  pub first : CheckedFrom start skipped rest
  pub shows : AreLegalItems items → AreGapless checked_gap_none rest → CheckerShows start rest c

-- The same before it began, and afterwards: what is known where the session never left the model.
pub record CheckRulesFit (start : CheckStart) (items : List Item) (c : Checker) : Type 0 where
  pub gap : checker_gap c ≡ checked_gap_over items checked_gap_none
  pub made : start ≡ Made → c.began ≡ Some 0
  pub word : AreLegalItems items → IsWordSound c.identification.word
  pub waits : c.began ≡ None → CheckerWaits start items c
  pub begun : (from : ℕ) → c.began ≡ Some from → c.crowded ≡ None → CheckRulesFrom start items from c

-- Rules that took these items. Outside of the model the checker is in a gap, and the items may be in none.
pub record CheckRulesHold (start : CheckStart) (clean : Bool) (r : Rules) (items : List Item) : Type 0 where
  pub holds : (s t : Port) → CheckedStarts start s → CheckedRuns clean checked_gap_none items s t
      → CheckerHolds r.checker t
  pub wire : r.checker.clean ≡ clean
  pub gap : (r.checker.in_gap ≡ true) ⊎ (checker_gap r.checker ≡ checked_gap_over items checked_gap_none)
  pub outside : r.is_outside ≡ true → r.checker.in_gap ≡ true
  pub left : r.is_outside ≡ true → r.outside ≡ None → ⊥
  pub answered : r.is_answered ≡ true → HasCheckedAnswer items
  pub fits : r.outside ≡ None → r.checker.broken ≡ None → CheckRulesFit start items r.checker

-- rules that take one item more, at its place, where none is broken yet
abbrev pub CheckRulesTake : Item → ℕ → Rules → Rules → Type 0
CheckRulesTake item place r now = (start : CheckStart) (clean : Bool) (items : List Item) → r.checker.broken ≡ None
    → place ≡ check_place items → CheckRulesHold start clean r items
    → CheckRulesHold start clean now (items ++ item ∷ [])

abbrev pub CheckBroke : CheckIndex → List Item → Option Broken → Type 0
CheckBroke i items None = Unit {0}
CheckBroke i items (Some broken) = CheckBreaksAt i.start i.clean items broken

-- a check that took these items
pub record CheckHolds {A : Type 0} (i : CheckIndex) (check : Check A) (items : List Item) : Type 0 where
  pub rules : check.broken ≡ None → CheckRulesHold i.start i.clean check.rules items
  pub unbroken : check.broken ≡ None → check.rules.checker.broken ≡ None
  pub broke : CheckBroke i items check.broken
  pub place : check.observer.place ≡ check_place items

-- and takes these
abbrev pub CheckTakes : {A : Type 0} → List Item → Check A → Check A → Type 0
CheckTakes items check now = LeadsSinkOn CheckHolds check items now

-- a transaction, and whether all before it was decided
pub record CheckTx : Type 0 where
  pub tx : Transaction
  pub place : ℕ
  pub is_first : Bool

-- what is found of a transaction that was taken by the rules
abbrev pub IsCheckJudged : CheckTx → Rules → Option Broken → Type 0
IsCheckJudged t r None = r.checker.broken ≡ None
IsCheckJudged t r (Some broken) = (broken.tx ≡ t.tx) × (broken.place ≡ t.place) × (broken.is_first ≡ t.is_first)
    × (is_check_rule broken.why ≡ true → r.checker.broken ≡ None → ⊥)

abbrev pub check_tx : Transaction → ℕ → Bool → CheckTx
check_tx tx place is_first = record { tx = tx; place = place; is_first = is_first }

pub record CheckJudges {A : Type 0} (t : CheckTx) (check now : Check A) : Type 0 where
  pub rules : now.rules ≡ check.rules
  pub place : now.observer ≡ check.observer
  pub broken : check.broken ≡ None → IsCheckJudged t now.rules now.broken
