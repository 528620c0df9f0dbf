-- The first error of an input that is read line by line.
use Rattle.std.specs.Prelude.{ℕ, suc, ◌+◌, ◌-◌, ◌^◌, min, List, [], ◌∷◌, Option, Result, Ok, Err}
use Rattle.swd_script.specs.declared.fault.LineFault.{LineFault}
use Rattle.swd_script.specs.declared.fault.LineFault.TheVariants.{Word, Number, Range, NoMemoryLine, Memory}
use Rattle.swd_script.specs.declared.fault.ScriptFault.{ScriptFault}
use Rattle.swd_script.specs.declared.fault.ScriptFault.TheVariants.{Word as WordAt, Number as NumberAt}
use Rattle.swd_script.specs.declared.fault.ScriptFault.TheVariants.{Range as RangeAt, NoMemoryLine as NoMemoryLineAt}
use Rattle.swd_script.specs.declared.fault.ScriptFault.TheVariants.{Memory as MemoryAt}
use Rattle.swd_script.specs.Lines.{script_line_words}

-- the number, from 1, of the line after `before` others, at most 2^64 - 1
abbrev pub script_line_number : ℕ → ℕ
script_line_number before = min (before + 1) (2 ^ 64 - 1)

-- the error of the line with this number
abbrev pub script_fault_at : LineFault → ℕ → ScriptFault
script_fault_at Word line = WordAt line
script_fault_at Number line = NumberAt line
script_fault_at Range line = RangeAt line
script_fault_at NoMemoryLine line = NoMemoryLineAt line
script_fault_at Memory line = MemoryAt line

-- the error of the line after `before` others, or what follows from its result
abbrev pub script_then_lines : {S : Type 0} → ℕ → (S → Result S ScriptFault) → Result S LineFault →
    Result S ScriptFault
script_then_lines before rest (Ok state) = rest state
script_then_lines before rest (Err fault) = Err (script_fault_at fault (script_line_number before))

-- what some lines make of a state, each with its number and words, after `before` other lines; or the first
-- error
abbrev pub script_after_lines : {S : Type 0} → (ℕ → S → Option (List (List ℕ)) → Result S LineFault) → S → ℕ →
    List (List ℕ) → Result S ScriptFault
script_after_lines take state before [] = Ok state
script_after_lines take state before (line ∷ rest) =
    script_then_lines before (λ next. script_after_lines take next (suc before) rest)
    (take (script_line_number before) state (script_line_words line))
