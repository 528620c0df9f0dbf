-- A checker as integers. Each enum that isn't optional is numbered from 1 on, so no checker has all zeros. An unused
-- field is 0, and so is each field of an unused world.
use Rattle.std.specs.Prelude.{ℕ, ◌≡◌, ◌-◌, Option, Some, None, is_some, unwrap_or, List, ◌++◌, map, length, replicate}
use Rattle.std.specs.Prelude.{true, false}
use Rattle.swd_bits.specs.Bits.{bit}
use Rattle.swd_port.specs.declared.state.Reset.{Reset}
use Rattle.swd_port.specs.declared.state.Reset.TheVariants.{Unreset, Fresh, Live}
use Rattle.swd_checker.specs.declared.near.Near.{Near}
use Rattle.swd_checker.specs.declared.opening.Opening.{Opening}
use Rattle.swd_checker.specs.declared.opening.Opening.TheVariants.{Anything, Resting, Selected, Over}
use Rattle.swd_checker.specs.declared.rule.Rule.{Rule}
use Rattle.swd_checker.specs.declared.rule.Rule.TheVariants.{Silence, Acknowledgement, NeverRefused, Flags}
use Rattle.swd_checker.specs.declared.rule.Rule.TheVariants.{Power as RulePower}
use Rattle.swd_checker.specs.declared.rule.Rule.TheVariants.{FaultFirst, Posted, Resent, Status, Identification, Parity}
use Rattle.swd_checker.specs.declared.worlds.Kept.{Kept}
use Rattle.swd_checker.specs.declared.fields.HeldFields.{HeldFields}
use Rattle.swd_checker.specs.declared.fields.IntervalFields.{IntervalFields}
use Rattle.swd_checker.specs.declared.fields.WorldFields.{WorldFields}
use Rattle.swd_checker.specs.declared.checker.Checker.{Checker}
use Rattle.swd_checker.specs.declared.checker.fields.CheckerFields.{CheckerFields}
use Rattle.swd_checker.specs.Worlds.{Power, PowerOff, PowerUnseen, PowerLate, PowerSeen, Transfer, TransferRead}
use Rattle.swd_checker.specs.Worlds.{TransferWrite, Tar, TarUnknown, TarFrom, Held, HeldUnknown, HeldWord, HeldCsw}
use Rattle.swd_checker.specs.Worlds.{HeldSeen}

abbrev pub checked_reset_number : Reset → ℕ
checked_reset_number Unreset = 1
checked_reset_number Fresh = 2
checked_reset_number Live = 3

abbrev pub checked_power_number : Power → ℕ
checked_power_number PowerOff = 1
checked_power_number PowerUnseen = 2
checked_power_number PowerLate = 3
checked_power_number PowerSeen = 4

abbrev pub checked_transfer_number : Option Transfer → ℕ
checked_transfer_number None = 0
checked_transfer_number (Some TransferRead) = 1
checked_transfer_number (Some TransferWrite) = 2

abbrev pub checked_tar_fields : Tar → IntervalFields
checked_tar_fields TarUnknown = record { first = 0; more = 0; known = 0 }
checked_tar_fields (TarFrom first more) = record { first = first; more = more; known = 1 }

abbrev pub checked_held_fields : Held → HeldFields
checked_held_fields HeldUnknown = record { places = 0; word = 0; kind = 1 }
checked_held_fields HeldWord = record { places = 0; word = 0; kind = 2 }
checked_held_fields (HeldCsw false) = record { places = 0; word = 0; kind = 3 }
checked_held_fields (HeldCsw true) = record { places = 0; word = 0; kind = 4 }
checked_held_fields (HeldSeen near) = record { places = near.places; word = near.word; kind = 5 }

-- a world, and the requests that were damaged or lost on the way to it
abbrev pub checked_world_fields : Kept → WorldFields
checked_world_fields kept = record {
  faults = kept.faults;
  buffer = checked_held_fields kept.world.buffer;
  last_returned = checked_held_fields kept.world.last_returned;
  tar = checked_tar_fields kept.world.tar;
  reset = checked_reset_number kept.world.reset;
  sticky_error = bit kept.world.sticky_error;
  write_error = bit kept.world.write_error;
  read_ok = bit kept.world.read_ok;
  debug = checked_power_number kept.world.debug;
  system = checked_power_number kept.world.system;
  mem_ap = bit kept.world.mem_ap;
  bank0 = bit kept.world.bank0;
  increments = bit kept.world.increments;
  pending = checked_transfer_number kept.world.pending;
  awaits = bit kept.world.awaits;
}

-- an unused world
abbrev pub checked_world_unused : WorldFields
checked_world_unused = record {
  faults = 0;
  buffer = record { places = 0; word = 0; kind = 0 };
  last_returned = record { places = 0; word = 0; kind = 0 };
  tar = record { first = 0; more = 0; known = 0 };
  reset = 0;
  sticky_error = 0;
  write_error = 0;
  read_ok = 0;
  debug = 0;
  system = 0;
  mem_ap = 0;
  bank0 = 0;
  increments = 0;
  pending = 0;
  awaits = 0;
}

-- worlds, and unused ones behind them, 64 in all
abbrev pub checked_worlds_fields : List Kept → List WorldFields
checked_worlds_fields kept = map checked_world_fields kept ++ replicate (64 - length kept) checked_world_unused

abbrev pub checker_rule_number : Rule → ℕ
checker_rule_number Silence = 1
checker_rule_number Acknowledgement = 2
checker_rule_number NeverRefused = 3
checker_rule_number Flags = 4
checker_rule_number RulePower = 5
checker_rule_number FaultFirst = 6
checker_rule_number Posted = 7
checker_rule_number Resent = 8
checker_rule_number Status = 9
checker_rule_number Identification = 10
checker_rule_number Parity = 11

-- the place and the rule of the item that no run explains
abbrev pub checker_broken_place : Option (ℕ × Rule) → ℕ
checker_broken_place None = 0
checker_broken_place (Some (place, rule)) = place

abbrev pub checker_broken_rule : Option (ℕ × Rule) → ℕ
checker_broken_rule None = 0
checker_broken_rule (Some (place, rule)) = checker_rule_number rule

abbrev pub checker_opening_number : Opening → ℕ
checker_opening_number Anything = 1
checker_opening_number Resting = 2
checker_opening_number (Selected word) = 3
checker_opening_number Over = 4

-- the word that was written to SELECT
abbrev pub checker_opening_word : Opening → ℕ
checker_opening_word (Selected word) = word
checker_opening_word opening = 0

-- what DPIDR's word may be
abbrev pub checker_identification_held : Option Near → Held
checker_identification_held None = HeldUnknown
checker_identification_held (Some near) = HeldSeen near

abbrev pub checker_fields : Checker → CheckerFields
checker_fields c = record {
  worlds = checked_worlds_fields c.worlds.kept.items;
  identification = checked_held_fields (checker_identification_held c.identification.word);
  began = unwrap_or c.began 0;
  faults_before = c.faults_before;
  gaps = c.gaps;
  broken = checker_broken_place c.broken;
  crowded = unwrap_or c.crowded 0;
  select = checker_opening_word c.opening;
  count = length c.worlds.kept.items;
  overfull = bit c.worlds.crowded;
  opening = checker_opening_number c.opening;
  clean = bit c.clean;
  has_began = bit (is_some c.began);
  in_gap = bit c.in_gap;
  stray = c.stray;
  rule = checker_broken_rule c.broken;
  is_crowded = bit (is_some c.crowded);
}

-- some checker has these integers
abbrev pub IsChecker : CheckerFields → Type 0
IsChecker fields = (c : Checker) × (checker_fields c ≡ fields)
