-- What a checker holds of a state of the port model, and what an item of a trace shows of it.
use Rattle.std.specs.Prelude.{ℕ, ◌≡◌, ◌≢◌, ◌<◌, ◌-◌, ◌==◌, ◌&&◌, not, Bool, true, false, if◌then◌else◌, Option, Some}
use Rattle.std.specs.Prelude.{None}
use Rattle.std.specs.Prelude.{IfSome, List, [], ◌∷◌}
use Rattle.swd_bits.specs.declared.request.Reg4.{Reg4}
use Rattle.swd_bits.specs.declared.request.Reg4.TheVariants.{R0}
use Rattle.swd_bits.specs.declared.tx.Tx.{Tx as Transaction}
use Rattle.swd_bits.specs.declared.tx.TxEnd.{TxEnd}
use Rattle.swd_bits.specs.declared.tx.TxEnd.TheVariants.{Moved, NoAck}
use Rattle.swd_trace.specs.declared.item.Item.{Item}
use Rattle.swd_trace.specs.declared.item.Item.TheVariants.{Reset, Switch, Idle, Tx, Junk, Cut}
use Rattle.swd_port.specs.Bus.{Bus}
use Rattle.swd_port.specs.Port.{Port}
use Rattle.swd_port.specs.Made.{port_made}
use Rattle.swd_port.specs.Registers.{register_bit}
use Rattle.swd_port.specs.Leading.{PortLeads, port_line_awaits}
use Rattle.swd_port.specs.Completion.{PortCompletes}
use Rattle.swd_checker.specs.declared.near.Near.{Near}
use Rattle.swd_checker.specs.declared.identification.Identification.{Identification}
use Rattle.swd_checker.specs.declared.opening.Opening.TheVariants.{Anything}
use Rattle.swd_checker.specs.declared.checker.CheckStart.{CheckStart}
use Rattle.swd_checker.specs.declared.checker.CheckStart.TheVariants.{Made, Rest, Any}
use Rattle.swd_checker.specs.declared.checker.Checker.{Checker}
use Rattle.swd_checker.specs.declared.checker.Verdict.{Verdict}
use Rattle.swd_checker.specs.declared.checker.Verdict.TheVariants.{Fits, Breaks, Crowded}
use Rattle.swd_checker.specs.declared.rule.Rule.{Rule}
use Rattle.swd_checker.specs.Described.{IsCheckedNear, checked_changed_at}
use Rattle.swd_checker.specs.Openings.{OpeningHolds, IsCheckedResting}
use Rattle.swd_checker.specs.Checked.{CheckedTransacts}

-- DPIDR's word may be this
abbrev pub IsWordIdentified : Option Near → ℕ → Type 0
IsWordIdentified None n = Unit {0}
IsWordIdentified (Some near) n = IsCheckedNear near n

abbrev pub IsIdentified : Identification → ℕ → Type 0
IsIdentified known n = IsWordIdentified known.word n

-- the words that a data phase may have had, if there was one
abbrev pub IsSeenIn : TxEnd → Option Near → Type 0
IsSeenIn (Moved word ok) seen = IfSome seen (λ near. (ok ≡ true → IsCheckedNear near word)
    × (ok ≡ false → (place : ℕ) → place < 33 → IsCheckedNear near (checked_changed_at word place)))
IsSeenIn end seen = seen ≡ None

-- a read of DPIDR
abbrev pub checked_reads_dpidr : Reg4 → Bool → Bool → Bool
checked_reads_dpidr R0 ap read = not ap && read
checked_reads_dpidr addr ap read = false

-- the bits that belong to nothing: up to 34 may follow a lost acknowledgement, and others begin a gap, which ends at
-- the next line reset. So does the cut end of a trace.
pub record CheckedGap : Type 0 where
  pub stray : ℕ
  pub in_gap : Bool

abbrev pub checked_gap_at : ℕ → Bool → CheckedGap
checked_gap_at stray in_gap = record { stray = stray; in_gap = in_gap }

abbrev pub checked_gap_none : CheckedGap
checked_gap_none = checked_gap_at 0 false

abbrev pub checked_stray_after : TxEnd → ℕ
checked_stray_after (NoAck seen) = 34
checked_stray_after end = 0

abbrev pub checked_gap_after : Item → CheckedGap → CheckedGap
checked_gap_after (Junk b) g = if g.stray == 0 then checked_gap_at 0 true
    else checked_gap_at (g.stray - 1) g.in_gap
checked_gap_after (Reset ones) g = checked_gap_none
checked_gap_after (Tx tx) g = if g.in_gap then g else checked_gap_at (checked_stray_after tx.result) g.in_gap
checked_gap_after (Cut bits) g = checked_gap_at g.stray true
checked_gap_after item g = g

-- after these items
abbrev pub checked_gap_over : List Item → CheckedGap → CheckedGap
checked_gap_over [] g = g
checked_gap_over (item ∷ items) g = checked_gap_over items (checked_gap_after item g)

-- in a gap anything may happen to a target, which is still the same one
pub record IsSameTarget (s t : Port) : Type 0 where
  pub identification : t.target.identification ≡ s.target.identification

-- a junk bit shows nothing, and where it begins a gap, anything may have happened
abbrev pub CheckedJunk : Bool → Port → Port → Type 0
CheckedJunk true s t = IsSameTarget s t
CheckedJunk false s t = PortCompletes s t

-- What an item shows of the port model. Where `clean` is true, nothing is damaged or lost.
abbrev pub CheckedShowsPlainly : Bool → ℕ → Item → Port → Port → Type 0
CheckedShowsPlainly clean stray (Tx tx) s t = CheckedTransacts clean tx.result tx.request s t
CheckedShowsPlainly clean stray (Reset ones) s t = (n : ℕ) × (n ≢ 0) × PortLeads s n t
CheckedShowsPlainly clean stray (Idle zeros) s t = PortLeads s 0 t
CheckedShowsPlainly clean stray (Junk b) s t = CheckedJunk (stray == 0) s t
CheckedShowsPlainly clean stray (Cut bits) s t = IsSameTarget s t
CheckedShowsPlainly clean stray Switch s t = PortCompletes s t

-- the same in a gap, or outside of one
abbrev pub CheckedShowsIn : Bool → Bool → ℕ → Item → Port → Port → Type 0
CheckedShowsIn true clean stray item s t = IsSameTarget s t
CheckedShowsIn false clean stray item s t = CheckedShowsPlainly clean stray item s t

abbrev pub CheckedShows : Bool → CheckedGap → Item → Port → Port → Type 0
CheckedShows clean g item s t = CheckedShowsIn g.in_gap clean g.stray item s t

-- a run of the port model that shows these items, with gaps
abbrev pub CheckedRuns : Bool → CheckedGap → List Item → Port → Port → Type 0
CheckedRuns clean g [] s t = t ≡ s
CheckedRuns clean g (item ∷ items) s t =
    (m : Port) × CheckedShows clean g item s m × CheckedRuns clean (checked_gap_after item g) items m t

-- where a run may begin; DPIDR's bit 0 is 1 (IHI 0031, B2, on DPIDR)
pub record CheckedMade (s : Port) : Type 0 where
  pub identification : ℕ
  pub bus : Bus
  pub is : s ≡ port_made identification bus

abbrev pub CheckedStartsAt : CheckStart → Port → Type 0
CheckedStartsAt Made s = CheckedMade s
CheckedStartsAt Rest s = IsCheckedResting s.target × (port_line_awaits s.link.line ≡ false)
CheckedStartsAt Any s = port_line_awaits s.link.line ≡ false

pub record CheckedStarts (start : CheckStart) (s : Port) : Type 0 where
  pub odd : register_bit 0 s.target.identification ≡ true
  pub first : CheckedStartsAt start s

-- what a checker that found no broken rule holds of the state of the target
pub record CheckerHolds (c : Checker) (s : Port) : Type 0 where
  pub unbroken : c.broken ≡ None
  pub odd : register_bit 0 s.target.identification ≡ true
  pub identified : IsIdentified c.identification s.target.identification
  pub opened : OpeningHolds c.opening c.worlds s
  pub in_gap : c.in_gap ≡ true → c.opening ≡ Anything

abbrev pub checker_gap : Checker → CheckedGap
checker_gap c = checked_gap_at c.stray c.in_gap

-- a checker before the first item
pub record CheckerStarts (start : CheckStart) (clean : Bool) (c : Checker) : Type 0 where
  pub holds : (s : Port) → CheckedStarts start s → CheckerHolds c s
  pub unbroken : c.broken ≡ None
  pub wire : c.clean ≡ clean
  pub gapless : checker_gap c ≡ checked_gap_none

-- and after one more
pub record CheckerWatches (item : Item) (c now : Checker) : Type 0 where
  pub holds : (s t : Port) → CheckedShows c.clean (checker_gap c) item s t → CheckerHolds c s → CheckerHolds now t
  pub wire : now.clean ≡ c.clean
  pub gap : c.broken ≡ None → checker_gap now ≡ checked_gap_after item (checker_gap c)
  -- only a transaction can break a rule
  pub broken : ((tx : Transaction) → item ≡ Tx tx → ⊥) → now.broken ≡ c.broken

-- and after anything may have happened to the target, up to the next line reset
pub record CheckerLeaves (c now : Checker) : Type 0 where
  pub holds : (s t : Port) → IsSameTarget s t → CheckerHolds c s → CheckerHolds now t
  pub wire : now.clean ≡ c.clean
  pub gap : checker_gap now ≡ checked_gap_at c.stray true
  pub broken : now.broken ≡ c.broken

-- the verdict, by the place and the rule of the first item that broke one, and the first place that was crowded
abbrev pub checked_verdict : Option (ℕ × Rule) → Option ℕ → Verdict
checked_verdict (Some broken) crowded = Breaks broken.0 broken.1
checked_verdict None (Some place) = Crowded place
checked_verdict None None = Fits

-- a verdict that is red
abbrev pub is_checked_broken : Verdict → Bool
is_checked_broken (Breaks place rule) = true
is_checked_broken verdict = false

-- what the steps of a transaction leave as it was
pub record CheckerKeeps (c now : Checker) : Type 0 where
  pub identification : now.identification ≡ c.identification
  pub wire : now.clean ≡ c.clean
  pub gap : checker_gap now ≡ checker_gap c

pub record CheckerKeepsWorlds (c now : Checker) : Type 0 where
  pub opening : now.opening ≡ c.opening
  pub worlds : now.worlds ≡ c.worlds
  pub wire : now.clean ≡ c.clean
  pub gap : checker_gap now ≡ checker_gap c

-- a transaction in the worlds, or before they are held
pub record CheckerChecks (tx : Transaction) (c now : Checker) : Type 0 where
  pub each : (s t : Port) → CheckedTransacts c.clean tx.result tx.request s t → OpeningHolds c.opening c.worlds s
      → OpeningHolds now.opening now.worlds t × (now.broken ≡ c.broken)

-- a transaction, by DPIDR
pub record CheckerIdentifies (tx : Transaction) (c now : Checker) : Type 0 where
  pub each : (clean : Bool) (s t : Port) → CheckedTransacts clean tx.result tx.request s t
      → register_bit 0 s.target.identification ≡ true → IsIdentified c.identification s.target.identification
      → IsIdentified now.identification s.target.identification × (now.broken ≡ c.broken)
