-- Runs of the port model that show the items of a trace: the other half of the theorem.
use Rattle.std.specs.Prelude.{ℕ, ◌≡◌, ◌⊎◌, ◌<◌, ◌≤◌, ◌+◌, ◌++◌, ◌∷◌, [], Bool, true, false, List, Some, None, All}
use Rattle.std.specs.Prelude.{length}
use Rattle.std.specs.Prelude.{take, drop}
use Rattle.swd_bits.specs.declared.tx.Tx.{Tx as Transaction}
use Rattle.swd_trace.specs.declared.item.Item.{Item}
use Rattle.swd_trace.specs.Listed.{IsLegalItem, AreLegalItems}
use Rattle.swd_port.specs.Registers.{register_bit}
use Rattle.swd_port.specs.Port.{Port}
use Rattle.swd_checker.specs.declared.checker.CheckStart.{CheckStart}
use Rattle.swd_checker.specs.declared.checker.CheckStart.TheVariants.{Made, Any}
use Rattle.swd_checker.specs.declared.checker.Checker.{Checker}
use Rattle.swd_checker.specs.declared.opening.Opening.{Opening}
use Rattle.swd_checker.specs.declared.opening.Opening.TheVariants.{Over}
use Rattle.swd_checker.specs.declared.rule.Rule.{Rule}
use Rattle.swd_checker.specs.declared.worlds.Worlds.{Worlds}
use Rattle.swd_checker.specs.Worlds.{World}
use Rattle.swd_checker.specs.Exact.{WorldWords, CheckedAnswers, IsWorldExact, IsWorldSound, IsWorldPort}
use Rattle.swd_checker.specs.Reaching.{CheckedLink, LinkSteps, WorldsReach, AreKeptSound, IsWordSound, IsDpidrWord}
use Rattle.swd_checker.specs.Standing.{CheckedGap, CheckedStarts, CheckedRuns, checker_gap, checked_gap_none}
use Rattle.swd_checker.specs.Standing.{checked_gap_after, checked_gap_over}
use Rattle.swd_checker.specs.Openings.{is_opening_over}
use Rattle.swd_checker.specs.Knowing.{CheckedFrom, AreOpeningUnknown, opening_of_start, opening_over_items}
use Rattle.swd_checker.specs.Whole.{IsShownByNoRun}

-- where a run begins that shows what a checker of this start watched from the place at which its check began: in the
-- reset state, or else in any state
abbrev pub CheckedBegins : CheckStart → Port → Type 0
CheckedBegins Made s = CheckedStarts Made s
CheckedBegins start s = register_bit 0 s.target.identification ≡ true

-- some run that shows these items leads to each state that the world stands for, of which there is one
pub record WorldIsShown (start : CheckStart) (clean : Bool) (n : ℕ) (items : List Item) (w : World) : Type 0 where
  pub sound : IsWorldSound w
  pub each : (v : WorldWords) (answers : CheckedAnswers) → IsWorldExact w v → (s : Port) × (t : Port)
      × CheckedBegins start s × CheckedRuns clean checked_gap_none items s t × IsWorldPort w n v answers t

-- so it is of each world that a checker holds, if DPIDR returns one of the words that are left
pub record CheckerShows (start : CheckStart) (items : List Item) (c : Checker) : Type 0 where
  pub over : c.opening ≡ Over
  pub some : 0 < length c.worlds.kept.items
  pub word : IsWordSound c.identification.word
  pub gap : checker_gap c ≡ checked_gap_over items checked_gap_none
  pub inside : c.in_gap ≡ false
  pub each : (n : ℕ) → IsDpidrWord c.identification n
      → All (λ kept. WorldIsShown start c.clean n items kept.world) c.worlds.kept.items

-- a checker of a target in its reset state, before the first item
pub record CheckerBegins (c : Checker) : Type 0 where
  pub shows : CheckerShows Made [] c
  pub uncrowded : c.crowded ≡ None

-- and after one more, unless it found a broken rule, or more worlds than it holds
pub record CheckerFollows (item : Item) (c now : Checker) : Type 0 where
  pub crowded : now.crowded ≡ None → c.crowded ≡ None
  pub shows : IsLegalItem item → (checked_gap_after item (checker_gap c)).in_gap ≡ false → now.crowded ≡ None
      → now.broken ≡ None → (start : CheckStart) (items : List Item) → CheckerShows start items c
      → CheckerShows start (items ++ item ∷ []) now

-- what the steps of a transaction leave of what isn't about the worlds
pub record CheckerStays (c now : Checker) : Type 0 where
  pub crowded : now.crowded ≡ None → c.crowded ≡ None
  pub broken : now.broken ≡ None → c.broken ≡ None

-- the worlds that are left after a transaction
pub record CheckerSettles (c now : Checker) : Type 0 where
  pub stays : CheckerStays c now
  pub left : now.crowded ≡ None → now.broken ≡ None → (now.opening ≡ c.opening) × (now.worlds ≡ c.worlds)
      × (0 < length c.worlds.kept.items) × (now.began ≡ c.began)

-- a transaction in worlds that are held
pub record CheckerSteps (tx : Transaction) (c now : Checker) : Type 0 where
  pub stays : CheckerStays c now
  pub over : c.opening ≡ Over → now.crowded ≡ None → now.broken ≡ None → (now.opening ≡ Over)
      × (0 < length now.worlds.kept.items)
      × ((link : CheckedLink) → link.from ≡ c.worlds.kept.items → LinkSteps link c.clean tx
      → AreKeptSound c.worlds.kept.items → WorldsReach link now.worlds) × (now.began ≡ c.began)

-- a transaction at which a check may begin: the worlds after it are those to which it leads from some that are held
pub record CheckerOpens (tx : Transaction) (place : ℕ) (c now : Checker) : Type 0 where
  pub stays : now.crowded ≡ None → now.broken ≡ None → (p : ℕ) → c.began ≡ Some p → now.began ≡ Some p
  pub opens : now.crowded ≡ None → now.broken ≡ None → c.began ≡ None → (p : ℕ) → now.began ≡ Some p → (p ≡ place)
      × (now.opening ≡ Over) × (0 < length now.worlds.kept.items) × (v : Worlds) × AreKeptSound v.kept.items
      × ((link : CheckedLink) → link.from ≡ v.kept.items → LinkSteps link c.clean tx → WorldsReach link now.worlds)

-- An item at this place, by the place at which the check began. It is that of the first item that was checked: some
-- run shows it, from some state.
pub record CheckerBeginsBy (item : Item) (place : ℕ) (c now : Checker) : Type 0 where
  pub word : IsLegalItem item → now.broken ≡ None → IsWordSound c.identification.word
      → IsWordSound now.identification.word
  pub stays : now.crowded ≡ None → now.broken ≡ None → (p : ℕ) → c.began ≡ Some p → now.began ≡ Some p
  pub opens : now.crowded ≡ None → now.broken ≡ None → c.began ≡ None → (p : ℕ) → now.began ≡ Some p → (p ≡ place)
      × (IsLegalItem item → IsWordSound c.identification.word → CheckerShows Any (item ∷ []) now)

-- what is known of the target before its worlds are held, once it is this: until it is enough, no check begins
pub record CheckerKnows (after : Opening) (c now : Checker) : Type 0 where
  pub begun : (p : ℕ) → c.began ≡ Some p → now.began ≡ Some p
  pub waits : now.began ≡ None → is_opening_over c.opening ≡ false
      → (now.opening ≡ after) × (is_opening_over after ≡ false)
  pub begins : c.began ≡ None → is_opening_over c.opening ≡ false → (p : ℕ) → now.began ≡ Some p
      → is_opening_over after ≡ true

-- What is known where no check of these items began: too little, by each of them.
pub record CheckerWaits (start : CheckStart) (items : List Item) (c : Checker) : Type 0 where
  pub unknown : AreOpeningUnknown items checked_gap_none (opening_of_start start)
  pub opening : c.opening ≡ opening_over_items items checked_gap_none (opening_of_start start)

-- An item at this place, by what is noted of it: the first broken rule, and the first place at which there were more
-- worlds than are held.
pub record CheckerNotes (place : ℕ) (c now : Checker) : Type 0 where
  pub broken : (b : ℕ × Rule) → now.broken ≡ Some b → (c.broken ≡ Some b) ⊎ (b.0 ≡ place)
  pub crowded : (p : ℕ) → now.crowded ≡ Some p → (c.crowded ≡ Some p) ⊎ (p ≡ place)
  pub kept : (p : ℕ) → c.crowded ≡ Some p → now.crowded ≡ Some p

-- a checker before the first item, by the place at which its check begins
pub record CheckerFirst (start : CheckStart) (c : Checker) : Type 0 where
  pub uncrowded : c.crowded ≡ None
  pub word : IsWordSound c.identification.word
  pub made : start ≡ Made → c.began ≡ Some 0
  pub first : (p : ℕ) → c.began ≡ Some p → (p ≡ 0) × CheckerShows start [] c

-- no bits hide a part of the session: no junk but what may follow a lost acknowledgement, and no cut end
abbrev pub AreGapless : CheckedGap → List Item → Type 0
AreGapless g [] = g.in_gap ≡ false
AreGapless g (item ∷ items) = (g.in_gap ≡ false) × AreGapless (checked_gap_after item g) items

-- some run of the port model shows these items
pub record AreShownByRun (start : CheckStart) (clean : Bool) (items : List Item) : Type 0 where
  pub first : Port
  pub last : Port
  pub starts : CheckedBegins start first
  pub runs : CheckedRuns clean checked_gap_none items first last

-- THE THEOREM. Of a target in its reset state: some run of the port model shows the first `count` items, if no bits
-- hide
-- a part of the session, and no run shows one more.
pub record IsLongestShown (clean : Bool) (items : List Item) (count : ℕ) : Type 0 where
  pub inside : count ≤ length items
  pub shown : AreLegalItems items → AreGapless checked_gap_none (take count items)
      → AreShownByRun Made clean (take count items)
  pub longest : count < length items → IsShownByNoRun Made clean (take (count + 1) items)

-- THE THEOREM. Of a target in any state: `from` is the first item by which its state is known, and some run of the port
-- model shows the items from that one up to `count`, from the reset state if that was the start and else from some
-- state, if no bits hide a part of the session. No run from the start shows the items up to `count` and one more.
pub record IsLongestShownFrom (start : CheckStart) (clean : Bool) (items : List Item) (from count : ℕ) : Type 0 where
  pub before : from ≤ count
  pub inside : count ≤ length items
  pub first : CheckedFrom start (take from items) (drop from (take count items))
  pub shown : AreLegalItems items → AreGapless checked_gap_none (drop from (take count items))
      → AreShownByRun start clean (drop from (take count items))
  pub longest : count < length items → IsShownByNoRun start clean (take (count + 1) items)
