-- What is kept of the words of a line.
use Rattle.std.specs.Prelude.{◌≡◌, ℕ, false, List, [], ◌∷◌, ◌++◌, map, take, Option, Some, None}
use Rattle.arrayvec.specs.ArrayVec.{ArrayVec}
use Rattle.swd_script.specs.declared.words.LineWords.{LineWords}
use Rattle.swd_script.specs.Lines.{is_script_blank, script_blank_split}

-- the bytes of the kept words
abbrev pub texts : List (ArrayVec ℕ) → List (List ℕ)
texts kept = map (λ word. word.items) kept

-- those of a line; `None` if it is invalid
abbrev pub texts_of : Option (ArrayVec (ArrayVec ℕ)) → Option (List (List ℕ))
texts_of None = None
texts_of (Some kept) = Some (texts kept.items)

-- what is kept of some words: the first 11 bytes of the first six
abbrev pub first_words : List (List ℕ) → List (List ℕ)
first_words all = take 6 (map (λ word. take 11 word) all)

-- the current word, if there is one
abbrev pub begun : List ℕ → List (List ℕ)
begun [] = []
begun (byte ∷ word) = (byte ∷ word) ∷ []

-- no blank among the bytes
abbrev pub IsUnblank : List ℕ → Type 0
IsUnblank [] = Unit {0}
IsUnblank (byte ∷ word) = (is_script_blank byte ≡ false) × IsUnblank word

-- of the line so far: the complete words, and the current one
pub record Gathers (line : List ℕ) (kept : LineWords) : Type 0 where
  pub ended : List (List ℕ)
  pub last : List ℕ
  pub split : (more : List ℕ) → script_blank_split (line ++ more) ≡ ended ++ script_blank_split (last ++ more)
  pub unblank : IsUnblank last
  pub kept_ended : texts kept.ended.items ≡ first_words ended
  pub kept_last : kept.last.items ≡ take 11 last

-- these are the first words of a line
abbrev pub AreFirst : List (ArrayVec ℕ) → List ℕ → Type 0
AreFirst kept line = texts kept ≡ first_words (script_blank_split line)
