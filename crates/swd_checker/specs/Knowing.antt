-- The first item at which the state of a target is known well enough for a check to begin.
use Rattle.std.specs.Prelude.{ℕ, ◌≡◌, ◌==◌, ◌&&◌, not, Bool, true, false, List, [], ◌∷◌, if◌then◌else◌}
use Rattle.swd_bits.specs.declared.request.Request.{Request}
use Rattle.swd_bits.specs.declared.tx.TxEnd.{TxEnd}
use Rattle.swd_bits.specs.declared.tx.TxEnd.TheVariants.{Moved, Wait, Fault, NoAck}
use Rattle.swd_trace.specs.declared.item.Item.{Item}
use Rattle.swd_trace.specs.declared.item.Item.TheVariants.{Tx, Junk, Cut}
use Rattle.swd_checker.specs.declared.checker.CheckStart.{CheckStart}
use Rattle.swd_checker.specs.declared.checker.CheckStart.TheVariants.{Made, Rest, Any}
use Rattle.swd_checker.specs.declared.opening.Opening.{Opening}
use Rattle.swd_checker.specs.declared.opening.Opening.TheVariants.{Anything, Resting, Selected, Over}
use Rattle.swd_checker.specs.Openings.{checked_passes, checked_may_be_refused, checked_leaves_rest}
use Rattle.swd_checker.specs.Openings.{checked_reads_status, checked_selects, is_opening_over}
use Rattle.swd_checker.specs.Standing.{CheckedGap, checked_gap_after, checked_gap_none, checked_gap_over}

-- The state is known by this transaction: a target at rest showed CTRL/STAT, or OK to a request that can be refused
-- came next to a write of SELECT.
abbrev pub is_opening_decided : Opening → TxEnd → Request → Bool
is_opening_decided Resting (Moved word ok) q = ok && checked_reads_status q.addr q.ap q.read
is_opening_decided (Selected select) (Moved word ok) q = checked_may_be_refused q.addr q.ap q.read
is_opening_decided opening end q = false

-- What is known after a request that may have been accepted. At rest it is what neither starts a transfer nor writes
-- SELECT that keeps it.
abbrev pub opening_after_other : Opening → Request → Opening
opening_after_other Resting q = if checked_leaves_rest q.addr q.ap q.read then Resting else Anything
opening_after_other opening q = Anything

-- after OK and a data phase, if it isn't a whole write of SELECT
abbrev pub opening_after_moved : Opening → Request → Opening
opening_after_moved (Selected select) q = if checked_passes q.addr q.ap q.read then Selected select else Anything
opening_after_moved opening q = opening_after_other opening q

abbrev pub opening_after_whole : Opening → Request → ℕ → Opening
opening_after_whole opening q word =
    if checked_selects q.addr q.ap q.read then Selected word else opening_after_moved opening q

abbrev pub opening_after_fault : Opening → Opening
opening_after_fault Resting = Resting
opening_after_fault opening = Anything

-- after a transaction by which the state isn't known
abbrev pub opening_after_end : Opening → TxEnd → Request → Opening
opening_after_end opening Wait q = opening
opening_after_end opening (Moved word ok) q =
    if ok then opening_after_whole opening q word else opening_after_moved opening q
opening_after_end opening Fault q = opening_after_fault opening
opening_after_end opening (NoAck seen) q = opening_after_other opening q

abbrev pub opening_after_tx : Opening → TxEnd → Request → Opening
opening_after_tx opening end q =
    if is_opening_decided opening end q then Over else opening_after_end opening end q

-- What is known after an item: `Over` if the state is. In a gap, and by its first bit, nothing is.
abbrev pub opening_after_item : Item → CheckedGap → Opening → Opening
opening_after_item (Tx tx) g opening =
    if g.in_gap then opening else opening_after_tx opening tx.result tx.request
opening_after_item (Junk b) g opening = if not g.in_gap && (g.stray == 0) then Anything else opening
opening_after_item (Cut bits) g opening = Anything
opening_after_item item g opening = opening

-- after these items
abbrev pub opening_over_items : List Item → CheckedGap → Opening → Opening
opening_over_items [] g opening = opening
opening_over_items (item ∷ items) g opening =
    opening_over_items items (checked_gap_after item g) (opening_after_item item g opening)

-- before the first item
abbrev pub opening_of_start : CheckStart → Opening
opening_of_start Made = Over
opening_of_start Rest = Resting
opening_of_start Any = Anything

-- the state is known neither at first nor by one of these items
abbrev pub AreOpeningUnknown : List Item → CheckedGap → Opening → Type 0
AreOpeningUnknown [] g opening = is_opening_over opening ≡ false
AreOpeningUnknown (item ∷ items) g opening = (is_opening_over opening ≡ false)
    × AreOpeningUnknown items (checked_gap_after item g) (opening_after_item item g opening)

-- By this item the state is known, and by none of those before it.
pub record IsOpeningKnown (start : CheckStart) (before : List Item) (item : Item) : Type 0 where
  pub unknown : AreOpeningUnknown before checked_gap_none (opening_of_start start)
  pub known : is_opening_over (opening_after_item item (checked_gap_over before checked_gap_none)
      (opening_over_items before checked_gap_none (opening_of_start start))) ≡ true

-- The check of these items, behind others, begins at the first of them: at the first item of all from the reset state,
-- and else at the one by which the state is known.
abbrev pub CheckedFrom : CheckStart → List Item → List Item → Type 0
CheckedFrom Made before items = before ≡ []
CheckedFrom start before [] = ⊥
CheckedFrom start before (item ∷ items) = IsOpeningKnown start before item
