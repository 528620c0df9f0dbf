-- The checker that is read from any integers. Only `CheckerFields::checker` uses it, which rejects a checker whose own
-- integers differ.
use Rattle.std.specs.Prelude.{ℕ, ◌==◌, if◌then◌else◌, Option, Some, None, List, map, take, true, false}
use Rattle.swd_port.specs.declared.state.Reset.{Reset}
use Rattle.swd_port.specs.declared.state.Reset.TheVariants.{Unreset, Fresh, Live}
use Rattle.swd_checker.specs.declared.near.Near.{Near}
use Rattle.swd_checker.specs.declared.opening.Opening.{Opening}
use Rattle.swd_checker.specs.declared.opening.Opening.TheVariants.{Anything, Resting, Selected, Over}
use Rattle.swd_checker.specs.declared.rule.Rule.{Rule}
use Rattle.swd_checker.specs.declared.rule.Rule.TheVariants.{Silence, Acknowledgement, NeverRefused, Flags}
use Rattle.swd_checker.specs.declared.rule.Rule.TheVariants.{Power as RulePower}
use Rattle.swd_checker.specs.declared.rule.Rule.TheVariants.{FaultFirst, Posted, Resent, Status, Identification, Parity}
use Rattle.swd_checker.specs.declared.worlds.Kept.{Kept}
use Rattle.swd_checker.specs.declared.fields.HeldFields.{HeldFields}
use Rattle.swd_checker.specs.declared.fields.IntervalFields.{IntervalFields}
use Rattle.swd_checker.specs.declared.fields.WorldFields.{WorldFields}
use Rattle.swd_checker.specs.declared.checker.Checker.{Checker}
use Rattle.swd_checker.specs.declared.checker.fields.CheckerFields.{CheckerFields}
use Rattle.swd_checker.specs.Worlds.{Power, PowerOff, PowerUnseen, PowerLate, PowerSeen, Transfer, TransferRead}
use Rattle.swd_checker.specs.Worlds.{TransferWrite, Tar, TarUnknown, TarFrom, Held, HeldUnknown, HeldWord, HeldCsw}
use Rattle.swd_checker.specs.Worlds.{HeldSeen}

abbrev pub checked_reset_from : ℕ → Reset
checked_reset_from n = if n == 1 then Unreset else if n == 2 then Fresh else Live

abbrev pub checked_power_from : ℕ → Power
checked_power_from n = if n == 1 then PowerOff else if n == 2 then PowerUnseen else if n == 3 then PowerLate else
    PowerSeen

abbrev pub checked_transfer_from : ℕ → Option Transfer
checked_transfer_from n = if n == 1 then Some TransferRead else if n == 2 then Some TransferWrite else None

abbrev pub checked_tar_from : IntervalFields → Tar
checked_tar_from f = if f.known == 1 then TarFrom f.first f.more else TarUnknown

abbrev pub checked_near_from : HeldFields → Near
checked_near_from f = record { word = f.word; places = f.places }

abbrev pub checked_held_from : HeldFields → Held
checked_held_from f =
    if f.kind == 2 then HeldWord else if f.kind == 3 then HeldCsw false else if f.kind == 4 then HeldCsw true
    else if f.kind == 5 then HeldSeen (checked_near_from f) else HeldUnknown

abbrev pub checked_world_from : WorldFields → Kept
checked_world_from f = record {
  world = record {
    reset = checked_reset_from f.reset;
    sticky_error = f.sticky_error == 1;
    write_error = f.write_error == 1;
    read_ok = f.read_ok == 1;
    debug = checked_power_from f.debug;
    system = checked_power_from f.system;
    mem_ap = f.mem_ap == 1;
    bank0 = f.bank0 == 1;
    increments = f.increments == 1;
    pending = checked_transfer_from f.pending;
    awaits = f.awaits == 1;
    tar = checked_tar_from f.tar;
    buffer = checked_held_from f.buffer;
    last_returned = checked_held_from f.last_returned;
  };
  faults = f.faults;
}

abbrev pub checker_rule_from : ℕ → Rule
checker_rule_from n =
    if n == 1 then Silence else if n == 2 then Acknowledgement else if n == 3 then NeverRefused else if n == 4 then
    Flags
    else if n == 5 then RulePower else if n == 6 then FaultFirst else if n == 7 then Posted else if n == 8 then Resent
    else if n == 9 then Status else if n == 10 then Identification else Parity

abbrev pub checker_broken_from : ℕ → ℕ → Option (ℕ × Rule)
checker_broken_from place rule = if rule == 0 then None else Some (place, checker_rule_from rule)

abbrev pub checker_place_from : ℕ → ℕ → Option ℕ
checker_place_from known place = if known == 1 then Some place else None

abbrev pub checker_opening_from : ℕ → ℕ → Opening
checker_opening_from n word =
    if n == 1 then Anything else if n == 2 then Resting else if n == 3 then Selected word else Over

abbrev pub checker_identification_from : HeldFields → Option Near
checker_identification_from f = if f.kind == 5 then Some (checked_near_from f) else None

-- the first of these worlds, as many as are used
abbrev pub checked_worlds_from : ℕ → List WorldFields → List Kept
checked_worlds_from count worlds = map checked_world_from (take count worlds)

abbrev pub checker_from : CheckerFields → Checker
checker_from f = record {
  worlds = record { kept = record { items = checked_worlds_from f.count f.worlds }; crowded = f.overfull == 1 };
  opening = checker_opening_from f.opening f.select;
  identification = record { word = checker_identification_from f.identification };
  clean = f.clean == 1;
  began = checker_place_from f.has_began f.began;
  faults_before = f.faults_before;
  gaps = f.gaps;
  in_gap = f.in_gap == 1;
  stray = f.stray;
  broken = checker_broken_from f.broken f.rule;
  crowded = checker_place_from f.is_crowded f.crowded;
}
