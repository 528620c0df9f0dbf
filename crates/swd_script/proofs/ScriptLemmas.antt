-- Laws of the lines of a script.
use Rattle.std.proofs.Common.{◌≡◌, ℕ, suc, zero, ◌<◌, ◌≤◌, Bool, true, false, List, [], ◌∷◌, length, take, refl, sym}
use Rattle.std.proofs.Common.{ap, ◌∙◌, arith, Option, Some, None, Result, Ok, Err}
use Rattle.std.specs.Prelude.{if◌then◌else◌, ◌&&◌, nat_le, nat_eq, codes}
use Rattle.std.specs.Option.{option_and_then}
use Rattle.std.specs.Str.{bytes_eq}
use Rattle.std.proofs.lemmas.Bool.Decides.{nat_tests}
use Rattle.std.proofs.lemmas.List.{take_all, length-take-le}
use Rattle.swd_script.specs.declared.command.Command.{Command}
use Rattle.swd_script.specs.declared.command.Command.TheVariants.{Memory, Room, Core, Read as ReadCommand}
use Rattle.swd_script.specs.declared.command.Command.TheVariants.{Write as WriteCommand, ReadMany, Block, Verify, Next}
use Rattle.swd_script.specs.declared.command.Command.TheVariants.{Until as UntilLine}
use Rattle.swd_script.specs.Numerals.{script_decimal_number, script_hex_number, is_script_hex_prefix}
use Rattle.swd_script.specs.Numerals.{script_number_from, script_numeral, script_number_in_word}
use Rattle.swd_script.specs.Plans.{plan_file_bare_mark, plan_file_mark, plan_file_marked, plan_file_place}
use Rattle.swd_script.specs.Plans.{plan_file_placed_mark, plan_file_line, plan_file_with_mark}
use Rattle.swd_script.specs.Scripts.{script_after_command, script_command_of, script_long_command, script_line}
use Rattle.swd_script.specs.Scripts.{script_short_command, script_until_command, ScriptSayings}
use Rattle.arrayvec.specs.ArrayVec.{ArrayVec}
use Rattle.swd_script.specs.Lines.{script_line_words}
use Rattle.swd_script.specs.Scans.{IsScannedScriptLine}
use Rattle.swd_script.specs.Words.{texts, texts_of, first_words}
use Rattle.swd_port.specs.declared.mark.Mark.{Mark}
use Rattle.swd_port.specs.declared.mark.Mark.TheVariants.{Clean, Wait, Flip, Deaf, Mute}
use Rattle.swd_script.specs.declared.fault.LineFault.{LineFault}
use Rattle.swd_script.specs.declared.fault.LineFault.TheVariants.{Word}

-- what is cut off a word that is longer than any that means something
same_name : (n : ℕ) (word name : List ℕ) → length name < n → bytes_eq (take n word) name ≡ bytes_eq word name
same_name zero word name h = absurd (omega arith)
same_name (suc n) [] name h = refl
same_name (suc n) (byte ∷ word) [] h = refl
same_name (suc n) (byte ∷ word) (first ∷ name) h = let k : length name < n = omega arith in
    ap (λ t. nat_eq byte first && t) (same_name n word name k)

no_numeral : (base longest : ℕ) (word : List ℕ) → longest < length word → script_numeral base longest word ≡ None
no_numeral base longest word h =
    let e : (nat_le 1 (length word) && nat_le (length word) longest) ≡ false = grind (arith, nat_tests) in
    ap (λ t. if t then option_and_then script_number_in_word (script_number_from base 0 word) else None) e

numeral_cut : (base longest kept : ℕ) (word : List ℕ) (t : Bool) → nat_le (length word) kept ≡ t → longest < kept
    → script_numeral base longest (take kept word) ≡ script_numeral base longest word
numeral_cut base longest kept word true e h =
    let n : length word ≤ kept = grind (arith, nat_tests) in
    ap (script_numeral base longest) (take_all kept word n)
numeral_cut base longest kept word false e h =
    let n : kept < length word = grind (arith, nat_tests) in
    let m : length (take kept word) ≡ kept = length-take-le kept word (omega arith) in
    no_numeral base longest (take kept word) (omega arith) ∙ sym (no_numeral base longest word (omega arith))

hex_cut : (word : List ℕ) → script_hex_number (take 11 word) ≡ script_hex_number word
hex_cut [] = refl
hex_cut (first ∷ []) = refl
hex_cut (first ∷ second ∷ word) = behind (is_script_hex_prefix first second)
  where
    behind : (prefix : Bool)
        → script_numeral 16 8 (if prefix then take 9 word else take 11 (first ∷ second ∷ word))
        ≡ script_numeral 16 8 (if prefix then word else first ∷ second ∷ word)
    behind true = numeral_cut 16 8 9 word (nat_le (length word) 9) refl (omega arith)
    behind false =
        let whole : List ℕ = first ∷ second ∷ word in
        numeral_cut 16 8 11 whole (nat_le (length whole) 11) refl (omega arith)

decimal_cut : (word : List ℕ) → script_decimal_number (take 11 word) ≡ script_decimal_number word
decimal_cut word = numeral_cut 10 10 11 word (nat_le (length word) 11) refl (omega arith)

name_cut : (word name : List ℕ) → length name < 11 → bytes_eq (take 11 word) name ≡ bytes_eq word name
name_cut word name h = same_name 11 word name h

abbrev short_shape : Bool → Bool → Bool → Option ℕ → Option ℕ → Option Command
short_shape room read core first count =
    if room then Some (Room count) else
    (if read then Some (ReadCommand first) else
    (if core then Some (Core first) else None))

short_cut : (name first : List ℕ) → script_short_command (take 11 name) (take 11 first)
    ≡ script_short_command name first
short_cut name first =
    let kept = take 11 name in
    let f = script_hex_number (take 11 first) in
    let d = script_decimal_number (take 11 first) in
    let room = bytes_eq name (codes "room") in
    let read = bytes_eq name (codes "r") in
    let core = bytes_eq name (codes "core") in
    ap (λ t. short_shape t (bytes_eq kept (codes "r")) (bytes_eq kept (codes "core")) f d)
    (name_cut name (codes "room") (omega arith))
    ∙ ap (λ t. short_shape room t (bytes_eq kept (codes "core")) f d) (name_cut name (codes "r") (omega arith))
    ∙ ap (λ t. short_shape room read t f d) (name_cut name (codes "core") (omega arith))
    ∙ ap (λ n. short_shape room read core n d) (hex_cut first)
    ∙ ap (λ n. short_shape room read core (script_hex_number first) n) (decimal_cut first)

abbrev long_shape : Bool → Bool → Bool → Bool → Bool → Option ℕ → Option ℕ → Option ℕ → Option Command
long_shape memory write many block verify first second count =
    if memory then Some (Memory first count) else
    (if write then Some (WriteCommand first second) else
    (if many then Some (ReadMany first count) else
    (if block then Some (Block first count) else
    (if verify then Some (Verify first second) else None))))

long_cut : (name first second : List ℕ)
    → script_long_command (take 11 name) (take 11 first) (take 11 second) ≡ script_long_command name first second
long_cut name first second =
    let kept = take 11 name in
    let f = script_hex_number (take 11 first) in
    let s = script_hex_number (take 11 second) in
    let d = script_decimal_number (take 11 second) in
    let memory = bytes_eq name (codes "memory") in
    let write = bytes_eq name (codes "w") in
    let many = bytes_eq name (codes "rn") in
    let block = bytes_eq name (codes "block") in
    let verify = bytes_eq name (codes "verify") in
    let last = bytes_eq kept (codes "verify") in
    ap (λ t. long_shape t (bytes_eq kept (codes "w")) (bytes_eq kept (codes "rn")) (bytes_eq kept (codes "block")) last
    f s d)
    (name_cut name (codes "memory") (omega arith))
    ∙ ap (λ t. long_shape memory t (bytes_eq kept (codes "rn")) (bytes_eq kept (codes "block")) last f s d)
    (name_cut name (codes "w") (omega arith))
    ∙ ap (λ t. long_shape memory write t (bytes_eq kept (codes "block")) last f s d)
    (name_cut name (codes "rn") (omega arith))
    ∙ ap (λ t. long_shape memory write many t last f s d) (name_cut name (codes "block") (omega arith))
    ∙ ap (λ t. long_shape memory write many block t f s d) (name_cut name (codes "verify") (omega arith))
    ∙ ap (λ n. long_shape memory write many block verify n s d) (hex_cut first)
    ∙ ap (λ n. long_shape memory write many block verify (script_hex_number first) n d) (hex_cut second)
    ∙ ap (λ n. long_shape memory write many block verify (script_hex_number first) (script_hex_number second) n)
    (decimal_cut second)

abbrev until_shape : Bool → Option ℕ → Option ℕ → Option ℕ → Option ℕ → Option Command
until_shape until addr mask value most = if until then Some (UntilLine addr mask value most) else None

until_cut : (name addr mask value most : List ℕ)
    → script_until_command (take 11 name) (take 11 addr) (take 11 mask) (take 11 value) (take 11 most)
    ≡ script_until_command name addr mask value most
until_cut name addr mask value most =
    let a = script_hex_number (take 11 addr) in
    let m = script_hex_number (take 11 mask) in
    let v = script_hex_number (take 11 value) in
    let n = script_decimal_number (take 11 most) in
    let until = bytes_eq name (codes "until") in
    ap (λ t. until_shape t a m v n) (name_cut name (codes "until") (omega arith))
    ∙ ap (λ x. until_shape until x m v n) (hex_cut addr)
    ∙ ap (λ x. until_shape until (script_hex_number addr) x v n) (hex_cut mask)
    ∙ ap (λ x. until_shape until (script_hex_number addr) (script_hex_number mask) x n) (hex_cut value)
    ∙ ap (λ x. until_shape until (script_hex_number addr) (script_hex_number mask) (script_hex_number value) x)
    (decimal_cut most)

command_cut : (all : List (List ℕ)) → script_command_of (first_words all) ≡ script_command_of all
command_cut [] = refl
command_cut (name ∷ []) = ap (λ t. if t then Some Next else None) (name_cut name (codes "next") (omega arith))
command_cut (name ∷ first ∷ []) = short_cut name first
command_cut (name ∷ first ∷ second ∷ []) = long_cut name first second
command_cut (name ∷ first ∷ second ∷ third ∷ []) = refl
command_cut (name ∷ first ∷ second ∷ third ∷ fourth ∷ []) = until_cut name first second third fourth
command_cut (name ∷ first ∷ second ∷ third ∷ fourth ∷ fifth ∷ more) = refl

-- no command has four words
pub script_no_four_words : (words : List (ArrayVec ℕ)) → 4 ≤ length words → length words < 5
    → script_command_of (texts words) ≡ None
script_no_four_words [] low high = absurd (omega arith)
script_no_four_words (a ∷ []) low high = absurd (omega arith)
script_no_four_words (a ∷ b ∷ []) low high = absurd (omega arith)
script_no_four_words (a ∷ b ∷ c ∷ []) low high = absurd (omega arith)
script_no_four_words (a ∷ b ∷ c ∷ d ∷ []) low high = refl
script_no_four_words (a ∷ b ∷ c ∷ d ∷ e ∷ more) low high = absurd (omega arith)

-- nor more than five
pub script_no_six_words : (words : List (ArrayVec ℕ)) → 6 ≤ length words → script_command_of (texts words) ≡ None
script_no_six_words [] low = absurd (omega arith)
script_no_six_words (a ∷ []) low = absurd (omega arith)
script_no_six_words (a ∷ b ∷ []) low = absurd (omega arith)
script_no_six_words (a ∷ b ∷ c ∷ []) low = absurd (omega arith)
script_no_six_words (a ∷ b ∷ c ∷ d ∷ []) low = absurd (omega arith)
script_no_six_words (a ∷ b ∷ c ∷ d ∷ e ∷ []) low = absurd (omega arith)
script_no_six_words (a ∷ b ∷ c ∷ d ∷ e ∷ f ∷ more) low = refl

-- the first words of a line say what all of them say
pub script_line_cut : (number : ℕ) (said : ScriptSayings) (all : List (List ℕ))
    → script_line number said (Some (first_words all)) ≡ script_line number said (Some all)
script_line_cut number said [] = refl
script_line_cut number said (name ∷ arguments) = ap (script_after_command number said) (command_cut (name ∷ arguments))

abbrev bare_shape : Bool → Bool → Bool → Result Mark LineFault
bare_shape clean wait deaf = if clean then Ok Clean else
    (if wait then Ok Wait else (if deaf then Ok Deaf else Err Word))

abbrev placed_shape : Bool → Bool → Option ℕ → Result Mark LineFault
placed_shape flip mute place =
    if flip then plan_file_marked (λ bit. Flip bit) (plan_file_place 33 place) else
    (if mute then plan_file_marked (λ bit. Mute bit) (plan_file_place 3 place) else Err Word)

bare_cut : (name : List ℕ) → plan_file_bare_mark (take 11 name) ≡ plan_file_bare_mark name
bare_cut name =
    let kept = take 11 name in
    let clean = bytes_eq name (codes ".") in
    let wait = bytes_eq name (codes "wait") in
    ap (λ t. bare_shape t (bytes_eq kept (codes "wait")) (bytes_eq kept (codes "deaf")))
    (name_cut name (codes ".") (omega arith))
    ∙ ap (λ t. bare_shape clean t (bytes_eq kept (codes "deaf"))) (name_cut name (codes "wait") (omega arith))
    ∙ ap (λ t. bare_shape clean wait t) (name_cut name (codes "deaf") (omega arith))

placed_cut : (name place : List ℕ) → plan_file_placed_mark (take 11 name) (take 11 place)
    ≡ plan_file_placed_mark name place
placed_cut name place =
    let kept = take 11 name in
    let number = script_decimal_number (take 11 place) in
    let flip = bytes_eq name (codes "flip") in
    ap (λ t. placed_shape t (bytes_eq kept (codes "mute")) number) (name_cut name (codes "flip") (omega arith))
    ∙ ap (λ t. placed_shape flip t number) (name_cut name (codes "mute") (omega arith))
    ∙ ap (λ n. placed_shape flip (bytes_eq name (codes "mute")) n) (decimal_cut place)

mark_cut : (all : List (List ℕ)) → plan_file_mark (first_words all) ≡ plan_file_mark all
mark_cut [] = refl
mark_cut (name ∷ []) = bare_cut name
mark_cut (name ∷ place ∷ []) = placed_cut name place
mark_cut (name ∷ place ∷ third ∷ []) = refl
mark_cut (name ∷ place ∷ third ∷ fourth ∷ []) = refl
mark_cut (name ∷ place ∷ third ∷ fourth ∷ fifth ∷ []) = refl
mark_cut (name ∷ place ∷ third ∷ fourth ∷ fifth ∷ sixth ∷ more) = refl

pub plan_file_line_cut : (marks : List Mark) (all : List (List ℕ))
    → plan_file_line marks (Some (first_words all)) ≡ plan_file_line marks (Some all)
plan_file_line_cut marks [] = refl
plan_file_line_cut marks (name ∷ arguments) = ap (plan_file_with_mark marks) (mark_cut (name ∷ arguments))

-- what the first words of a line say is what the line says
pub script_line_of_first_words : (number : ℕ) (said : ScriptSayings) (line : List ℕ)
    (words : Option (ArrayVec (ArrayVec ℕ))) → IsScannedScriptLine line words
    → script_line number said (texts_of words) ≡ script_line number said (script_line_words line)
script_line_of_first_words number said line None h = ap (script_line number said) (sym h)
script_line_of_first_words number said line (Some kept) h =
    ap (λ x. script_line number said (Some x)) h.first ∙ script_line_cut number said h.all
    ∙ ap (script_line number said) (sym h.are)

-- the first words of a plan's line say what all its words say
pub plan_file_line_of_words : (marks : List Mark) (line : List ℕ) (words : Option (ArrayVec (ArrayVec ℕ)))
    → IsScannedScriptLine line words
    → plan_file_line marks (texts_of words) ≡ plan_file_line marks (script_line_words line)
plan_file_line_of_words marks line None h = ap (plan_file_line marks) (sym h)
plan_file_line_of_words marks line (Some kept) h =
    ap (λ x. plan_file_line marks (Some x)) h.first ∙ plan_file_line_cut marks h.all ∙ ap (plan_file_line marks)
    (sym h.are)
