-- What a parse says of a command's rows.
use Rattle.std.proofs.Common.{◌≡◌, ◌⊎◌, Bool, List, [], Option, None, Some, refl, sym, subst, ap, ◌∙◌, inl, inr, true}
use Rattle.std.proofs.Common.{if◌then◌else◌}
use Rattle.std.specs.Prelude.{IsSomeAnd, IfErr, Result, Ok, Err}
use Rattle.clap.proofs.OnLiterals.{clap_on_literals}
use Rattle.clap.specs.Words.{is_simple, is_simple_and_free, Row, Text, first_of, subcommand_rows_of, subcommand_name_of}
use Rattle.std.specs.Option.{option_map}
use Rattle.clap.specs.declared.parser.matches.ArgMatches.{ArgMatches}
use Rattle.clap.specs.declared.parser.matches.ArgMatches.TheViews.{out-ArgMatches}
use Rattle.clap.specs.Words.{HasKind, IsAmong, Kinds, kind_of}
use Rattle.clap.specs.declared.error.Error.{Error}
use Rattle.clap.specs.declared.error.kind.ErrorKind.TheVariants as kind
use Rattle.swd_command_line.specs.declared.command.CommandLine.{CommandLine}
use Rattle.swd_words.specs.declared.fault.LineFault.{LineFault}
use Rattle.swd_words.specs.declared.fault.LineFault.TheVariants.{Clap, Memory}
use Rattle.swd_words.specs.Commands.{IsArgumentsErrorKind, IsArgumentsRefusal, arguments_spelled_out}
use Rattle.swd_words.specs.Commands.{swd_app}

-- one row's part, from the name and the rows
pub argument_from_rows : (rows : Option (Text × List Row)) (name want id : Text) (own : List Row) (value : Option Text)
    → Some name ≡ option_map (λ p. p.0) rows → Some own ≡ option_map (λ p. p.1) rows → name ≡ want
    → value ≡ first_of id own →
    IsSomeAnd rows (λ p. (p.0 ≡ want) × (value ≡ first_of id p.1))
argument_from_rows None name want id own value e f g h = absurd cc
argument_from_rows (Some p) name want id own value e f g h =
    let n : name ≡ p.0 = cc in
    let r : own ≡ p.1 = cc in
    (sym n ∙ g, h ∙ ap (first_of id) r)

map_map : {A B C : Type 0} (f : A → B) (g : B → C) (o : Option A)
    → option_map (λ x. g (f x)) o ≡ option_map g (option_map f o)
map_map f g None = refl
map_map f g (Some x) = refl

-- the name of the subcommand is that of its rows
pub argument_name_in_rows : (m : ArgMatches) → subcommand_name_of m ≡ option_map (λ p. p.0) (subcommand_rows_of m)
argument_name_in_rows m = map_map _ (λ p. p.0) (out-ArgMatches m).subcommand

-- the command is one whose matches are exact, and whose faults are
pub swd_app_simple : is_simple swd_app ≡ true
unfolding clap_on_literals
swd_app_simple = refl

-- the command is simple, and no argument has a rule on another
pub swd_app_simple_and_free : is_simple_and_free swd_app ≡ true
unfolding clap_on_literals
swd_app_simple_and_free = refl

-- where nothing is wrong with the words, any refusal is out of memory
pub arguments_refused_memory : (kinds : Kinds) (answer : Result CommandLine LineFault) → kinds ≡ []
    → IfErr answer (IsArgumentsRefusal kinds)
arguments_refused_memory kinds (Ok line) none = tt
arguments_refused_memory kinds (Err Memory) none = tt
arguments_refused_memory kinds (Err (Clap error)) none = inr none

-- another fault of the same kind tells the same mistake
pub arguments_refused_alike : (kinds : Kinds) (error : Error) (fault : LineFault) → HasKind kinds error
    → IsArgumentsErrorKind (kind_of error) fault → IsArgumentsRefusal kinds fault
arguments_refused_alike kinds error Memory has same = tt
arguments_refused_alike kinds error (Clap other) has same = inl
    (subst (λ k. (k ≡ kind.OutOfMemory) ⊎ IsAmong k kinds) (sym same) has)

-- what is left of the arguments, as the parser gets them: after -- they are unchanged
abbrev pub arguments_left : Bool → List Text → List Text
arguments_left escaped words = if escaped then words else arguments_spelled_out words
