-- What a verdict in the caller's memory says of a checker.
use Rattle.std.specs.Prelude.{ℕ, ◌≡◌, ◌==◌, Bool, if◌then◌else◌, Option, Some, None, is_some, unwrap_or}
use Rattle.swd_bits.specs.Bits.{bit}
use Rattle.swd_checker.specs.declared.checker.Checker.{Checker}
use Rattle.swd_checker.specs.declared.checker.CheckStart.{CheckStart}
use Rattle.swd_checker.specs.declared.checker.CheckStart.TheVariants.{Made, Rest, Any}
use Rattle.swd_checker.specs.declared.checker.fields.CheckerFields.{CheckerFields}
use Rattle.swd_checker.specs.declared.rule.Rule.{Rule}
use Rattle.swd_trace.specs.declared.item.Item.{Item}
use Rattle.swd_trace.specs.Listed.{IsEncodableItem}
use Rattle.swd_checker.specs.Fields.{checker_broken_rule, checker_fields}
use Rattle.swd_checker.specs.Standing.{CheckerStarts, CheckerWatches}
use Rattle.swd_c.specs.declared.item.SwdItem.{SwdItem}
use Rattle.swd_c.specs.Items.{c_api_item}
use Rattle.swd_c.specs.declared.check.SwdVerdict.{SwdVerdict}

-- the state of the target before the first item, by its number
abbrev pub c_api_start : ℕ → Option CheckStart
c_api_start n = if n == 1 then Some Made else if n == 2 then Some Rest else if n == 3 then Some Any else None

-- the kind of a verdict: an item breaks a rule, there were too many worlds, or neither
abbrev pub c_api_verdict_kind : Option (ℕ × Rule) → Option ℕ → ℕ
c_api_verdict_kind (Some broken) crowded = 2
c_api_verdict_kind None (Some place) = 3
c_api_verdict_kind None None = 1

-- the place of that item, or the one where there were too many worlds
abbrev pub c_api_verdict_place : Option (ℕ × Rule) → Option ℕ → ℕ
c_api_verdict_place (Some (place, rule)) crowded = place
c_api_verdict_place None crowded = unwrap_or crowded 0

-- what a checker shows, with at least so many damaged or lost requests
abbrev pub c_api_verdict : Checker → ℕ → SwdVerdict
c_api_verdict c faults = record {
  place = c_api_verdict_place c.broken c.crowded;
  began = unwrap_or c.began 0;
  faults = faults;
  gaps = c.gaps;
  kind = c_api_verdict_kind c.broken c.crowded;
  rule = checker_broken_rule c.broken;
  has_began = bit (is_some c.began);
}

-- the same by its fields
abbrev pub c_api_verdict_from : CheckerFields → ℕ → SwdVerdict
c_api_verdict_from f faults = record {
  place = if f.rule == 0 then (if f.is_crowded == 0 then 0 else f.crowded) else f.broken;
  began = f.began;
  faults = faults;
  gaps = f.gaps;
  kind = if f.rule == 0 then (if f.is_crowded == 0 then 1 else 3) else 2;
  rule = f.rule;
  has_began = f.has_began;
}

-- these are the integers of a checker before its first item
abbrev pub CApiCheckStarts : Option CheckStart → Bool → CheckerFields → Type 0
CApiCheckStarts None clean fields = Unit {0}
CApiCheckStarts (Some start) clean fields = (c : Checker) × (checker_fields c ≡ fields) × CheckerStarts start clean c

-- and these of a checker after one more item
abbrev pub CApiCheckWatches : CheckerFields → SwdItem → CheckerFields → Type 0
CApiCheckWatches before fields now = (c : Checker) (item : Item) → checker_fields c ≡ before → IsEncodableItem item
    → c_api_item item ≡ fields → (after : Checker) × (checker_fields after ≡ now) × CheckerWatches item c after
