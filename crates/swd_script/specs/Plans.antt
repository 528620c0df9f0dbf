-- What a plan means, or its first error.
use Rattle.std.specs.Prelude.{ℕ, nat_lt, List, [], ◌∷◌, ◌++◌, codes, Option, Some, None, Result, Ok, Err, if◌then◌else◌}
use Rattle.std.specs.Str.{bytes_eq}
use Rattle.swd_port.specs.declared.mark.Mark.{Mark}
use Rattle.swd_port.specs.declared.mark.Mark.TheVariants.{Clean, Wait, Flip, Deaf, Mute}
use Rattle.swd_script.specs.declared.fault.LineFault.{LineFault}
use Rattle.swd_script.specs.declared.fault.LineFault.TheVariants.{Word, Number, Range}
use Rattle.swd_script.specs.declared.fault.ScriptFault.{ScriptFault}
use Rattle.swd_script.specs.Faults.{script_after_lines}
use Rattle.swd_script.specs.Lines.{script_lines}
use Rattle.swd_script.specs.Numerals.{script_decimal_number}

-- the marks without argument
abbrev pub plan_file_bare_mark : List ℕ → Result Mark LineFault
plan_file_bare_mark name =
    if bytes_eq name (codes ".") then Ok Clean else
    (if bytes_eq name (codes "wait") then Ok Wait else (if bytes_eq name (codes "deaf") then Ok Deaf else Err Word))

-- a bit number, which has to be below `limit`
abbrev pub plan_file_place : ℕ → Option ℕ → Result ℕ LineFault
plan_file_place limit None = Err Number
plan_file_place limit (Some place) = if nat_lt place limit then Ok place else Err Range

abbrev pub plan_file_marked : (ℕ → Mark) → Result ℕ LineFault → Result Mark LineFault
plan_file_marked mark (Ok place) = Ok (mark place)
plan_file_marked mark (Err fault) = Err fault

-- the marks with a bit number: one of the 33 bits of a data phase, or of the three of an acknowledgement
abbrev pub plan_file_placed_mark : List ℕ → List ℕ → Result Mark LineFault
plan_file_placed_mark name place =
    if bytes_eq name (codes "flip") then plan_file_marked (λ bit. Flip bit)
    (plan_file_place 33 (script_decimal_number place)) else
    (if bytes_eq name (codes "mute") then plan_file_marked (λ bit. Mute bit)
    (plan_file_place 3 (script_decimal_number place)) else Err Word)

-- the mark of a line's words
abbrev pub plan_file_mark : List (List ℕ) → Result Mark LineFault
plan_file_mark [] = Err Word
plan_file_mark (name ∷ []) = plan_file_bare_mark name
plan_file_mark (name ∷ place ∷ []) = plan_file_placed_mark name place
plan_file_mark (name ∷ place ∷ third ∷ more) = Err Word

abbrev pub plan_file_with_mark : List Mark → Result Mark LineFault → Result (List Mark) LineFault
plan_file_with_mark marks (Ok mark) = Ok (marks ++ mark ∷ [])
plan_file_with_mark marks (Err fault) = Err fault

-- what a line adds, by its words; a line without words adds nothing
abbrev pub plan_file_line : List Mark → Option (List (List ℕ)) → Result (List Mark) LineFault
plan_file_line marks None = Err Word
plan_file_line marks (Some []) = Ok marks
plan_file_line marks (Some (name ∷ arguments)) = plan_file_with_mark marks (plan_file_mark (name ∷ arguments))

-- the marks of a plan, or the error of its first invalid line
abbrev pub plan_of : List ℕ → Result (List Mark) ScriptFault
plan_of text = script_after_lines (λ number. plan_file_line) [] 0 (script_lines text)
