-- What has integers is read back from them: a checker, and its parts. For `CheckerFields::checker`.
use Rattle.std.proofs.Common.{arith, ◌≡◌, ◌==◌, ◌∙◌, ap, refl, ℕ, Bool, Option, List, [], ◌∷◌, ◌-◌, map, length}
use Rattle.std.proofs.Common.{replicate}
use Rattle.std.proofs.lemmas.List.{take_at, length-map}
use Rattle.swd_bits.specs.Bits.{bit}
use Rattle.swd_port.specs.declared.state.Reset.{Reset}
use Rattle.swd_checker.specs.declared.near.Near.{Near}
use Rattle.swd_checker.specs.declared.opening.Opening.{Opening}
use Rattle.swd_checker.specs.declared.rule.Rule.{Rule}
use Rattle.swd_checker.specs.declared.worlds.Kept.{Kept}
use Rattle.swd_checker.specs.declared.checker.Checker.{Checker}
use Rattle.swd_checker.specs.Worlds.{Power, Transfer, Tar, Held}
use Rattle.swd_checker.specs.Fields.{checked_reset_number, checked_power_number, checked_transfer_number}
use Rattle.swd_checker.specs.Fields.{checked_tar_fields, checked_held_fields, checked_world_fields}
use Rattle.swd_checker.specs.Fields.{checked_world_unused, checked_worlds_fields, checker_broken_place}
use Rattle.swd_checker.specs.Fields.{checker_broken_rule, checker_opening_number, checker_opening_word}
use Rattle.swd_checker.specs.Fields.{checker_identification_held, checker_fields, checker_rule_number}
use Rattle.swd_checker.specs.FieldsRead.{checked_reset_from, checked_power_from, checked_transfer_from}
use Rattle.swd_checker.specs.FieldsRead.{checked_tar_from, checked_held_from, checked_world_from}
use Rattle.swd_checker.specs.FieldsRead.{checked_worlds_from, checker_broken_from}
use Rattle.swd_checker.specs.FieldsRead.{checker_opening_from, checker_identification_from, checker_from}
use Rattle.swd_checker.specs.FieldsRead.{checker_rule_from}

flag_back : (b : Bool) → (bit b == 1) ≡ b
flag_back b = grind arith

reset_back : (r : Reset) → checked_reset_from (checked_reset_number r) ≡ r
reset_back r = grind arith

power_back : (p : Power) → checked_power_from (checked_power_number p) ≡ p
power_back p = grind arith

transfer_back : (t : Option Transfer) → checked_transfer_from (checked_transfer_number t) ≡ t
transfer_back t = grind arith

tar_back : (t : Tar) → checked_tar_from (checked_tar_fields t) ≡ t
tar_back t = grind arith

held_back : (h : Held) → checked_held_from (checked_held_fields h) ≡ h
held_back h = grind arith

world_back : (k : Kept) → checked_world_from (checked_world_fields k) ≡ k
world_back k = grind (arith, flag_back, reset_back, power_back, transfer_back, tar_back, held_back)

each_back : (kept : List Kept) → map checked_world_from (map checked_world_fields kept) ≡ kept
each_back [] = refl
each_back (k ∷ more) = rw (world_back k, each_back more) refl

worlds_back : (kept : List Kept) → checked_worlds_from (length kept) (checked_worlds_fields kept) ≡ kept
worlds_back kept =
    ap (map checked_world_from) (take_at (map checked_world_fields kept)
    (replicate (64 - length kept) checked_world_unused) (length kept) (length-map kept checked_world_fields))
    ∙ each_back kept

rule_back : (r : Rule) → checker_rule_from (checker_rule_number r) ≡ r
rule_back r = grind arith

broken_back : (b : Option (ℕ × Rule)) → checker_broken_from (checker_broken_place b) (checker_broken_rule b) ≡ b
broken_back b = grind (arith, rule_back)

opening_back : (o : Opening) → checker_opening_from (checker_opening_number o) (checker_opening_word o) ≡ o
opening_back o = grind arith

identification_back : (n : Option Near)
    → checker_identification_from (checked_held_fields (checker_identification_held n)) ≡ n
identification_back n = grind arith

-- the checker that is read from the integers of a checker is that checker
pub checker_back : (c : Checker) → checker_from (checker_fields c) ≡ c
checker_back c = grind (arith, flag_back, worlds_back, broken_back, opening_back, identification_back)
