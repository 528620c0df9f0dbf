-- What a line makes of a file.
use Rattle.std.proofs.Common.{◌≡◌, ℕ, ◌+◌, List, ◌∷◌, [], Ok, Err, ap, refl, sym, ◌∙◌, Bool, true, false, length, take}
use Rattle.std.proofs.Common.{drop, min, arith}
use Rattle.std.proofs.lemmas.Bool.{ltb-true, ltb-false}
use Rattle.std.specs.Prelude.{nat_lt}
use Rattle.swd_image_files.specs.declared.fault.ImageFileFault.TheVariants.{Line}
use Rattle.swd_image_files.specs.declared.fault.LineFlaw.{LineFlaw}
use Rattle.swd_image_files.specs.declared.kind.RecordFormat.{RecordFormat}
use Rattle.swd_image_files.specs.declared.place.RecordState.{RecordState}
use Rattle.swd_image_files.specs.Files.{image_file_after_lines, image_file_then_lines}
use Rattle.swd_image_files.specs.Images.{ImageFileContents}
use Rattle.swd_image_files.specs.Lines.{image_file_line_len, image_file_lines, image_file_without_return}
use Rattle.swd_image_files.specs.Places.{image_file_after_line, image_file_next_number, image_file_with_line}
use Rattle.swd_image_files.proofs.LineLemmas.{image_file_lines_last, image_file_lines_left, image_file_lines_first}

-- an invalid line
pub image_file_fault_step : (records : RecordFormat) (place : RecordState) (image : ImageFileContents) (number : ℕ)
    (line : List ℕ) (rest : List (List ℕ)) (flaw : LineFlaw) → image_file_after_line records place line ≡ Err flaw
    → image_file_after_lines records place image number (line ∷ rest) ≡ Err (Line number flaw)
image_file_fault_step records place image number line rest flaw e =
    ap (image_file_then_lines number
    (λ after. image_file_after_lines records after (image_file_with_line records place line image)
    (image_file_next_number number) rest)) e

-- a valid one
pub image_file_valid_line_step : (records : RecordFormat) (place after : RecordState) (image : ImageFileContents)
    (number : ℕ) (line : List ℕ) (rest : List (List ℕ)) → image_file_after_line records place line ≡ Ok after
    → image_file_after_lines records place image number (line ∷ rest)
    ≡ image_file_after_lines records after (image_file_with_line records place line image)
    (image_file_next_number number) rest
image_file_valid_line_step records place after image number line rest e =
    ap (image_file_then_lines number
    (λ after. image_file_after_lines records after (image_file_with_line records place line image)
    (image_file_next_number number) rest)) e

more_left : (more : Bool) (rest text : List ℕ) (len : ℕ) → more ≡ nat_lt len (length text)
    → len ≡ image_file_line_len text
    → image_file_lines text ≡ image_file_without_return (take len text)
    ∷ image_file_lines_left more (drop (len + 1) text)
more_left true rest text len m e =
    let more = ltb-true len (length text) (sym m) in
    image_file_lines_first text (omega (arith, e, more))
    ∙ ap (λ n. image_file_without_return (take n text) ∷ image_file_lines (drop (n + 1) text)) (sym e)
more_left false rest text len m e =
    let last = ltb-false len (length text) (sym m) in
    image_file_lines_last text (omega (arith, e, last)) ∙ ap (λ n. image_file_without_return (take n text) ∷ []) (sym e)

-- the lines from a place on: the next one, and those behind it
pub image_file_lines_step : (more : Bool) (text : List ℕ) (len : ℕ) → more ≡ true → len ≡ image_file_line_len text
    → image_file_lines_left more text
    ≡ image_file_without_return (take len text) ∷ image_file_lines_left (nat_lt len (length text)) (drop (len + 1) text)
image_file_lines_step true text len m e = more_left (nat_lt len (length text)) text text len refl e
image_file_lines_step false text len m e = absurd cc

-- the rest behind a line, if there is more
pub image_file_lines_behind : (more : Bool) (text : List ℕ) (len at : ℕ) → more ≡ nat_lt len (length text)
    → at ≡ min (length text) (len + 1)
    → image_file_lines_left more (drop (len + 1) text) ≡ image_file_lines_left more (drop at text)
image_file_lines_behind true text len at m e =
    let some = ltb-true len (length text) (sym m) in
    ap (λ n. image_file_lines (drop n text)) (omega (arith, e, some))
image_file_lines_behind false text len at m e = refl
