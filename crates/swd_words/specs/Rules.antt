-- The forms that arguments have.
use Rattle.std.specs.Prelude.{ℕ, ◌-◌, ◌^◌, Bool, List, [], ◌∷◌, Some, length, pos}
use Rattle.clap.specs.Words.{Rule, Text, new_rule}
use Rattle.clap.specs.declared.builder.action.ArgAction.TheVariants.{Append, SetTrue}
use Rattle.clap.specs.declared.builder.value_parser.ValueParser.TheVariants.{Signed}

-- a value at its place, and whether it has to be given
abbrev pub place_rule : Text → Bool → Rule
place_rule name required = let rule = new_rule name in record rule { required = required }

-- values at the last places, maybe none
abbrev pub places_rule : Text → Rule
places_rule name =
    let rule = new_rule name in
    record rule {
      action = Some Append;
      range = Some (record { start_inclusive = 0; end_inclusive = 2 ^ 64 - 1 });
    }

-- an option without a value
abbrev pub flag_rule : Text → Rule
flag_rule name = let rule = new_rule name in record rule { long = Some name; action = Some SetTrue }

-- an option with a value
abbrev pub value_rule : Text → Rule
value_rule name = let rule = new_rule name in record rule { long = Some name; value_names = 1 }

-- an option with a value or none
abbrev pub optional_rule : Text → Rule
optional_rule name =
    let rule = new_rule name in
    record rule {
      long = Some name;
      range = Some (record { start_inclusive = 0; end_inclusive = 1 });
      value_names = 1;
    }

-- an option with a number of this least one to 1,000, and the number without it
abbrev pub number_rule : Text → ℕ → Text → Rule
number_rule name least default =
    let rule = new_rule name in
    record rule {
      long = Some name;
      value_names = 1;
      parser = Some (Signed (pos least) (pos 1000));
      defaults = default ∷ [];
    }

-- an option that may be given repeatedly, each time with so many values
abbrev pub repeated_rule : {A : Type 0} → Text → List A → Rule
repeated_rule name values = let rule = new_rule name in record rule
    { long = Some name; action = Some Append; value_names = length values }
