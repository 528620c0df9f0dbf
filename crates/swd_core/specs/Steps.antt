-- The text of a script that works at a core: that of `swd_script`, with eight hexadecimal digits of each word.
use Rattle.std.specs.Prelude.{ℕ, List, [], ◌∷◌, ◌++◌, codes}
use Rattle.std.specs.Fmt.{decimal}
use Rattle.swd_bits.specs.Listing.{hex8}
use Rattle.swd_core.specs.declared.step.CoreStep.{CoreStep}
use Rattle.swd_core.specs.declared.step.CoreStep.TheVariants.{Read, Write, Until}

-- the line of an access, without its line feed
abbrev pub core_step_line : CoreStep → List ℕ
core_step_line (Read at) = codes "r" ++ codes " " ++ hex8 at
core_step_line (Write at word) = codes "w" ++ codes " " ++ hex8 at ++ codes " " ++ hex8 word
core_step_line (Until until) = codes "until" ++ codes " " ++ hex8 until.addr ++ codes " " ++ hex8 until.mask
    ++ codes " " ++ hex8 until.value ++ codes " " ++ decimal until.most

-- the lines of accesses, each with its line feed
abbrev pub core_step_lines : List CoreStep → List ℕ
core_step_lines [] = []
core_step_lines (step ∷ steps) = (core_step_line step ++ 10 ∷ []) ++ core_step_lines steps

-- the whole script
abbrev pub core_script_text : List CoreStep → List ℕ
core_script_text steps = (codes "memory 20000000 1" ++ 10 ∷ []) ++ core_step_lines steps
