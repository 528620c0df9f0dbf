-- The lines of a file, one after the other.
use Rattle.std.proofs.Common.{◌≡◌, ℕ, ◌+◌, ◌<◌, ◌≤◌, List, [], ◌∷◌, length, take, drop, map, ap, sym, ◌∙◌, arith}
use Rattle.std.proofs.Common.{cond, All, Some, None, false, Bool, inl, inr}
use Rattle.std.specs.Prelude.{unwrap_or, if◌then◌else◌}
use Rattle.std.proofs.lemmas.List.{take_all}
use Rattle.std.proofs.lemmas.Bool.{cases_lt, lt-ltb, le-ltb}
use Rattle.std.proofs.lemmas.List.Splits.{slice_split_first, slice_split_none}
use Rattle.std.proofs.lemmas.List.Sums.{fails_before_first}
use Rattle.std.specs.List.{position_or_len}
use Rattle.swd_image_files.specs.Lines.{is_image_file_feed, image_file_line_len, image_file_lines}
use Rattle.swd_image_files.specs.Lines.{image_file_without_return}

-- where the first line ends, if a line feed ends it
len_fed : (text : List ℕ) → position_or_len is_image_file_feed text < length text
    → image_file_line_len text ≡ position_or_len is_image_file_feed text
len_fed text fed =
    ap (λ b. unwrap_or (cond b (Some (position_or_len is_image_file_feed text)) None) (length text))
    (lt-ltb (position_or_len is_image_file_feed text) (length text) fed)

len_unfed : (text : List ℕ) → length text ≤ position_or_len is_image_file_feed text
    → image_file_line_len text ≡ length text
len_unfed text unfed =
    ap (λ b. unwrap_or (cond b (Some (position_or_len is_image_file_feed text)) None) (length text))
    (le-ltb (position_or_len is_image_file_feed text) (length text) unfed)

-- the first line, if a line feed ends it
pub image_file_lines_first : (text : List ℕ) → image_file_line_len text < length text
    → image_file_lines text ≡ image_file_without_return (take (image_file_line_len text) text)
    ∷ image_file_lines (drop (image_file_line_len text + 1) text)
image_file_lines_first text more = elim (cases_lt (position_or_len is_image_file_feed text) (length text)) [
  | inl fed ↦
      (let e = len_fed text fed in
      ap (map image_file_without_return) (slice_split_first is_image_file_feed text 0 fed)
      ∙ ap (λ n. image_file_without_return (take n text) ∷ image_file_lines (drop (n + 1) text)) (sym e))
  | inr unfed ↦ (let e = len_unfed text unfed in absurd (omega (arith, e)))
]

-- the last line
pub image_file_lines_last : (text : List ℕ) → length text ≤ image_file_line_len text
    → image_file_lines text ≡ image_file_without_return (take (image_file_line_len text) text) ∷ []
image_file_lines_last text last = elim (cases_lt (position_or_len is_image_file_feed text) (length text)) [
  | inl fed ↦ (let e = len_fed text fed in absurd (omega (arith, e)))
  | inr unfed ↦
      (let none : All (λ byte. is_image_file_feed byte ≡ false) text =
      λ k d within. fails_before_first is_image_file_feed text k d (omega arith) in
      let e = len_unfed text unfed in
      ap (map image_file_without_return) (slice_split_none is_image_file_feed text none)
      ∙ ap (λ l. image_file_without_return l ∷ [])
      (sym (ap (λ n. take n text) e ∙ take_all (length text) text (omega arith))))
]

-- the lines that aren't read yet: of the rest, if there is more
abbrev pub image_file_lines_left : Bool → List ℕ → List (List ℕ)
image_file_lines_left more rest = if more then image_file_lines rest else []
