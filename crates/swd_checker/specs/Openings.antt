-- What is known of a target before its worlds are few enough to be held.
use Rattle.std.specs.Prelude.{ℕ, ◌≡◌, ◌⊎◌, ◌==◌, ◌&&◌, ◌||◌, not, Bool, true, false, None}
use Rattle.swd_bits.specs.declared.request.Request.{Request}
use Rattle.swd_bits.specs.declared.request.Reg4.{Reg4}
use Rattle.swd_bits.specs.declared.request.Reg4.TheVariants.{R0, R4, R8, RC}
use Rattle.swd_bits.specs.declared.tx.TxEnd.{TxEnd}
use Rattle.swd_bits.specs.declared.tx.TxEnd.TheVariants.{Moved}
use Rattle.swd_port.specs.declared.state.Reset.TheVariants.{Live}
use Rattle.swd_port.specs.Port.{Port, Target, port_selects_mem_ap}
use Rattle.swd_port.specs.Registers.{register_bit, select_of}
use Rattle.swd_checker.specs.declared.opening.Opening.{Opening}
use Rattle.swd_checker.specs.declared.opening.Opening.TheVariants.{Anything, Resting, Selected, Over}
use Rattle.swd_checker.specs.declared.worlds.Worlds.{Worlds}
use Rattle.swd_checker.specs.Worlds.{World, TarUnknown, HeldUnknown, world_made}
use Rattle.swd_checker.specs.Holding.{WorldsHoldPort}
use Rattle.swd_checker.specs.Checked.{CheckedTransacts}

-- SELECT names bank 0 of access port 0 and DPBANKSEL 0, and nothing is pending
pub record IsCheckedResting (x : Target) : Type 0 where
  pub mem_ap : port_selects_mem_ap x.select ≡ true
  pub bank0 : (x.select.dpbanksel == 0) ≡ true
  pub pending : x.pending ≡ None

-- the last write was SELECT, with this word: it arrived, or arrived damaged
pub record IsCheckedSelected (word : ℕ) (x : Target) : Type 0 where
  pub pending : x.pending ≡ None
  pub arrived : (x.write_error ≡ true) ⊎ (x.select ≡ select_of word)

-- what is known of a port: before its worlds are few enough to be held, and then by the worlds
abbrev pub OpeningHolds : Opening → Worlds → Port → Type 0
OpeningHolds Anything v s = Unit {0}
OpeningHolds Resting v s = IsCheckedResting s.target
OpeningHolds (Selected word) v s = IsCheckedSelected word s.target
OpeningHolds Over v s = (v.crowded ≡ false) × WorldsHoldPort v s

-- a transaction leads from what is known to what is known after it
abbrev pub OpeningLeads : Opening → TxEnd → Request → Opening → Type 0
OpeningLeads before end q after = (clean : Bool) (v u : Worlds) (s t : Port) → CheckedTransacts clean end q s t
    → OpeningHolds before v s → OpeningHolds after u t

-- The worlds hold the state before a transaction that opens them, but for the line: what the target awaited before its
-- OK has no effect.
abbrev pub WorldsOpen : Opening → TxEnd → Request → Worlds → Type 0
WorldsOpen opening end q v = (clean : Bool) (u : Worlds) (s t : Port) → CheckedTransacts clean end q s t
    → OpeningHolds opening u s
    → (before : Port) × CheckedTransacts clean end q before t × (v.crowded ≡ false) × WorldsHoldPort v before

-- a live target, with no flag set, nothing pending and SELECT 0, of which no word is known
abbrev pub world_unknown : World
world_unknown = record world_made {
  reset = Live;
  tar = TarUnknown;
  buffer = HeldUnknown;
  last_returned = HeldUnknown;
}

-- a target at rest that returned this word of CTRL/STAT
pub record IsOpenedAtStatus (word : ℕ) (x : Target) : Type 0 where
  pub live : x.reset ≡ Live
  pub sticky_error : x.sticky_error ≡ register_bit 5 word
  pub read_ok : x.read_ok ≡ register_bit 6 word
  pub write_error : x.write_error ≡ register_bit 7 word
  pub rests : IsCheckedResting x

-- a target that answers OK to a request that it may refuse, where SELECT was written with this word
pub record IsOpenedAtOkay (word : ℕ) (x : Target) : Type 0 where
  pub live : x.reset ≡ Live
  pub sticky_error : x.sticky_error ≡ false
  pub write_error : x.write_error ≡ false
  pub select : x.select ≡ select_of word
  pub pending : x.pending ≡ None

-- a read of the debug port's address 0 or 4: of DPIDR, CTRL/STAT, or another bank
abbrev pub checked_passes : Reg4 → Bool → Bool → Bool
checked_passes R0 ap read = not ap && read
checked_passes R4 ap read = not ap && read
checked_passes R8 ap read = false
checked_passes RC ap read = false

-- a read of CTRL/STAT, where DPBANKSEL is 0
abbrev pub checked_reads_status : Reg4 → Bool → Bool → Bool
checked_reads_status R4 ap read = not ap && read
checked_reads_status addr ap read = false

-- a write of SELECT
abbrev pub checked_selects : Reg4 → Bool → Bool → Bool
checked_selects R8 ap read = not ap && not read
checked_selects addr ap read = false

-- a data phase
abbrev pub is_checked_moved : TxEnd → Bool
is_checked_moved (Moved word ok) = true
is_checked_moved end = false

abbrev pub is_opening_over : Opening → Bool
is_opening_over Over = true
is_opening_over opening = false

-- a request that can be refused, whatever SELECT is
abbrev pub checked_may_be_refused : Reg4 → Bool → Bool → Bool
checked_may_be_refused R0 ap read = ap
checked_may_be_refused R4 ap read = ap || not read
checked_may_be_refused R8 ap read = true
checked_may_be_refused RC ap read = true

-- a request that neither starts a transfer nor writes SELECT, whatever SELECT is
abbrev pub checked_leaves_rest : Reg4 → Bool → Bool → Bool
checked_leaves_rest R0 ap read = true
checked_leaves_rest R4 ap read = true
checked_leaves_rest R8 ap read = ap || read
checked_leaves_rest RC ap read = not ap
