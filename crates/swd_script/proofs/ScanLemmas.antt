-- Laws of one line that is scanned.
use Rattle.std.proofs.Common.{◌≡◌, ◌≢◌, ℕ, ◌<◌, ◌≤◌, ◌⊎◌, inl, inr, Bool, true, false, List, [], ◌∷◌, ◌++◌}
use Rattle.std.proofs.Common.{append_assoc, refl, sym, ap, ◌∙◌, subst, arith, Some, None}
use Rattle.std.specs.Prelude.{if◌then◌else◌, ◌==◌, ◌&&◌, ◌||◌, nat_le}
use Rattle.std.specs.List.{list_all}
use Rattle.std.proofs.lemmas.Bool.{ne_eqb}
use Rattle.std.proofs.lemmas.Bool.Decides.{nat_tests}
use Rattle.std.proofs.lemmas.List.{append-nil}
use Rattle.arrayvec.specs.ArrayVec.{ArrayVec}
use Rattle.swd_script.specs.declared.line_scan.ScanState.{ScanState}
use Rattle.swd_script.specs.declared.line_scan.ScanState.TheVariants.{Code, Return, Comment, Spoiled}
use Rattle.swd_script.specs.declared.words.LineWords.{LineWords}
use Rattle.swd_script.specs.Lines.{is_script_blank, is_script_plain, script_line_words, script_uncommented}
use Rattle.swd_script.specs.Lines.{script_blank_split}
use Rattle.swd_script.specs.Scans.{script_without_return, script_scan_words_at, HasFirstScriptWords, ScriptScanHoldsAt}
use Rattle.swd_script.specs.Scans.{IsScriptCode, IsScriptCodeSoFar, IsScriptCodeThen}
use Rattle.swd_script.specs.Scans.{IsScannedScriptLine, IsSpoiledScriptLine}
use Rattle.swd_script.specs.Words.{AreFirst, Gathers}

uncommented_byte : (byte : ℕ) (line : List ℕ) → (byte == 35) ≡ false
    → script_uncommented (byte ∷ line) ≡ byte ∷ script_uncommented line
uncommented_byte byte line e = ap (λ t. if t then [] else byte ∷ script_uncommented line) e

-- what stands before code's end
uncommented_code : (front rest : List ℕ) → IsScriptCode front
    → script_uncommented (front ++ rest) ≡ front ++ script_uncommented rest
uncommented_code [] rest h = refl
uncommented_code (byte ∷ front) rest h = uncommented_byte byte (front ++ rest) h.1
    ∙ ap (λ x. byte ∷ x) (uncommented_code front rest h.2)

plain_code : (front rest : List ℕ) → IsScriptCode front
    → list_all is_script_plain (front ++ rest) ≡ list_all is_script_plain rest
plain_code [] rest h = refl
plain_code (byte ∷ front) rest h = ap (λ t. t && list_all is_script_plain (front ++ rest)) h.0 ∙ plain_code front rest
    h.2

words_if : (line : List ℕ) (t : Bool) → list_all is_script_plain (script_uncommented line) ≡ t
    → script_line_words line ≡ (if t then Some (script_blank_split (script_uncommented line)) else None)
words_if line t e = ap (λ t. if t then Some (script_blank_split (script_uncommented line)) else None) e

-- code, and what a comment follows
pub script_code_words : (front rest : List ℕ) → IsScriptCode front → script_uncommented rest ≡ []
    → script_line_words (front ++ rest) ≡ Some (script_blank_split front)
script_code_words front rest h e =
    let u : script_uncommented (front ++ rest) ≡ front = uncommented_code front rest h ∙ ap (λ x. front ++ x) e
    ∙ append-nil front in
    let p : list_all is_script_plain (script_uncommented (front ++ rest)) ≡ true =
    ap (list_all is_script_plain) (u ∙ sym (append-nil front)) ∙ plain_code front [] h in
    words_if (front ++ rest) true p ∙ ap (λ x. Some (script_blank_split x)) u

-- code, and a byte that may not stand there
pub script_spoiled_words : (front : List ℕ) (byte : ℕ) (rest : List ℕ) → IsScriptCode front → (byte == 35) ≡ false
    → is_script_plain byte ≡ false → script_line_words (front ++ byte ∷ rest) ≡ None
script_spoiled_words front byte rest h k p =
    let u : script_uncommented (front ++ byte ∷ rest) ≡ front ++ byte ∷ script_uncommented rest =
    uncommented_code front (byte ∷ rest) h ∙ ap (λ x. front ++ x) (uncommented_byte byte rest k) in
    words_if (front ++ byte ∷ rest) false
    (ap (list_all is_script_plain) u ∙ plain_code front (byte ∷ script_uncommented rest) h
    ∙ ap (λ t. t && list_all is_script_plain (script_uncommented rest)) p)

-- the carriage return that is left out is the last byte
pub script_return_last : (front rest : List ℕ) (byte : ℕ)
    → script_without_return (front ++ byte ∷ rest) ≡ front ++ script_without_return (byte ∷ rest)
script_return_last [] rest byte = refl
script_return_last (first ∷ []) rest byte = refl
script_return_last (first ∷ next ∷ front) rest byte = ap (λ x. first ∷ x) (script_return_last (next ∷ front) rest byte)

-- code has none
pub script_code_no_return : (front : List ℕ) → IsScriptCode front → script_without_return front ≡ front
script_code_no_return [] h = refl
script_code_no_return (byte ∷ []) h = ap (λ t. if t then [] else byte ∷ [])
    (ne_eqb byte 13 (λ e. absurd (not_plain byte e h.0)))
  where
    not_plain : (byte : ℕ) → byte ≡ 13 → is_script_plain byte ≡ true → ⊥
    not_plain byte e p = let q : is_script_plain 13 ≡ true = ap is_script_plain (sym e) ∙ p in cc
script_code_no_return (byte ∷ next ∷ line) h = ap (λ x. byte ∷ x) (script_code_no_return (next ∷ line) h.2)

pub script_code_more : (front : List ℕ) (byte : ℕ) → IsScriptCode front → is_script_plain byte ≡ true
    → (byte == 35) ≡ false → IsScriptCode (front ++ byte ∷ [])
script_code_more [] byte h p k = (p, k, tt)
script_code_more (first ∷ front) byte h p k = (h.0, h.1, script_code_more front byte h.2 p k)

-- the end of code
pub script_code_at_end : (line : List ℕ) (old : LineWords) (kept : List (ArrayVec ℕ))
    → ((front : List ℕ) → Gathers front old → AreFirst kept front) → IsScriptCodeSoFar line old
    → HasFirstScriptWords line kept
script_code_at_end line old kept f h = record {
  all = script_blank_split line;
  are = ap script_line_words (sym (append-nil line)) ∙ script_code_words line [] h.code refl;
  first = f line h.gathers;
}

-- the end of code that a comment follows
pub script_comment_at_end : (line front rest : List ℕ) (old : LineWords) (kept : List (ArrayVec ℕ))
    → ((front : List ℕ) → Gathers front old → AreFirst kept front) → IsScriptCodeThen line 35 rest front old
    → HasFirstScriptWords line kept
script_comment_at_end line front rest old kept f h = record {
  all = script_blank_split front;
  are = ap script_line_words h.is ∙ script_code_words front (35 ∷ rest) h.front_is.code refl;
  first = f front h.front_is.gathers;
}

-- the same, without a carriage return at the line's end
comment_kept : (rest : List ℕ) → script_uncommented (script_without_return (35 ∷ rest)) ≡ []
comment_kept [] = refl
comment_kept (byte ∷ rest) = refl

pub script_comment_at_feed : (line front rest : List ℕ) (old : LineWords) (kept : List (ArrayVec ℕ))
    → ((front : List ℕ) → Gathers front old → AreFirst kept front) → IsScriptCodeThen line 35 rest front old
    → HasFirstScriptWords (script_without_return line) kept
script_comment_at_feed line front rest old kept f h = record {
  all = script_blank_split front;
  are = ap (λ x. script_line_words (script_without_return x)) h.is ∙ ap script_line_words
      (script_return_last front rest 35) ∙ script_code_words front (script_without_return (35 ∷ rest)) h.front_is.code
      (comment_kept rest);
  first = f front h.front_is.gathers;
}

pub script_code_at_feed : (line : List ℕ) (old : LineWords) (kept : List (ArrayVec ℕ))
    → ((front : List ℕ) → Gathers front old → AreFirst kept front) → IsScriptCodeSoFar line old
    → HasFirstScriptWords (script_without_return line) kept
script_code_at_feed line old kept f h = subst (λ x. HasFirstScriptWords x kept)
    (sym (script_code_no_return line h.code)) (script_code_at_end line old kept f h)

pub script_return_at_feed : (line front : List ℕ) (old : LineWords) (kept : List (ArrayVec ℕ))
    → ((front : List ℕ) → Gathers front old → AreFirst kept front) → IsScriptCodeThen line 13 [] front old
    → HasFirstScriptWords (script_without_return line) kept
script_return_at_feed line front old kept f h =
    subst (λ x. HasFirstScriptWords x kept)
    (sym (ap script_without_return h.is ∙ script_return_last front [] 13 ∙ append-nil front))
    (script_code_at_end front old kept f h.front_is)

-- a carriage return that the text ends
pub script_return_at_end : (line front : List ℕ) (old : LineWords) → IsScriptCodeThen line 13 [] front old
    → script_line_words line ≡ None
script_return_at_end line front old h = ap script_line_words h.is ∙ script_spoiled_words front 13 [] h.front_is.code
    refl refl

-- one byte more of a spoiled line
pub script_spoiled_more : (line : List ℕ) (byte : ℕ) → IsSpoiledScriptLine line
    → IsSpoiledScriptLine (line ++ byte ∷ [])
script_spoiled_more line byte h = record {
  fed = λ more. ap (λ x. script_line_words (script_without_return x)) (append_assoc line (byte ∷ []) more) ∙ h.fed
      (byte ∷ more);
  unfed = λ more. ap script_line_words (append_assoc line (byte ∷ []) more) ∙ h.unfed (byte ∷ more);
}

-- the last byte is not the one that is left out
return_kept : (byte : ℕ) (more : List ℕ) → byte ≢ 13 → (rest : List ℕ)
    × (script_without_return (byte ∷ more) ≡ byte ∷ rest)
return_kept byte [] h = ([], ap (λ t. if t then [] else byte ∷ []) (ne_eqb byte 13 h))
return_kept byte (next ∷ more) h = (script_without_return (next ∷ more), refl)

-- a byte that may not stand in a line, nor end it
pub script_byte_spoils_line : (line : List ℕ) (byte : ℕ) → IsScriptCode line → byte ≢ 13 → (byte == 35) ≡ false
    → is_script_plain byte ≡ false → IsSpoiledScriptLine (line ++ byte ∷ [])
script_byte_spoils_line line byte h n k p = record {
  fed = λ more.
      let r = return_kept byte more n in
      ap (λ x. script_line_words (script_without_return x)) (append_assoc line (byte ∷ []) more)
      ∙ ap script_line_words (script_return_last line more byte ∙ ap (λ x. line ++ x) r.1) ∙ script_spoiled_words line
      byte r.0 h k p;
  unfed = λ more. ap script_line_words (append_assoc line (byte ∷ []) more) ∙ script_spoiled_words line byte more h k p;
}

-- a carriage return within a line
pub script_return_spoils_line : (line front : List ℕ) (byte : ℕ) (old : LineWords)
    → IsScriptCodeThen line 13 [] front old → IsSpoiledScriptLine (line ++ byte ∷ [])
script_return_spoils_line line front byte old h =
    let e : (more : List ℕ) → (line ++ byte ∷ []) ++ more ≡ front ++ 13 ∷ byte ∷ more =
    λ more. ap (λ x. (x ++ byte ∷ []) ++ more) h.is ∙ append_assoc (front ++ 13 ∷ []) (byte ∷ []) more
    ∙ append_assoc front (13 ∷ []) (byte ∷ more) in
    record {
      fed = λ more. ap (λ x. script_line_words (script_without_return x)) (e more)
          ∙ ap script_line_words (script_return_last front (byte ∷ more) 13)
          ∙ script_spoiled_words front 13 (script_without_return (byte ∷ more)) h.front_is.code refl refl;
      unfed = λ more. ap script_line_words (e more) ∙ script_spoiled_words front 13 (byte ∷ more) h.front_is.code refl
          refl;
    }

pub script_comment_more : (line front rest : List ℕ) (byte : ℕ) (old : LineWords)
    → IsScriptCodeThen line 35 rest front old → IsScriptCodeThen (line ++ byte ∷ []) 35 (rest ++ byte ∷ []) front old
script_comment_more line front rest byte old h = record {
  is = ap (λ x. x ++ byte ∷ []) h.is ∙ append_assoc front (35 ∷ rest) (byte ∷ []);
  front_is = h.front_is;
}

-- what the tests say of a byte
pub record ScriptByteTests (byte : ℕ) (plain : Bool) : Type 0 where
  pub plain_is : is_script_plain byte ≡ plain
  pub hash : (byte == 35) ≡ false

-- a blank is plain and begins no comment
pub script_blank_byte_tests : (byte : ℕ) → is_script_blank byte ≡ true → byte ≢ 35 → ScriptByteTests byte true
script_blank_byte_tests byte e n = record {
  plain_is = ap (λ t. t || (nat_le 33 byte && nat_le byte 126)) e;
  hash = ne_eqb byte 35 n;
}

within : (byte : ℕ) → 33 ≤ byte → byte ≤ 126 → (nat_le 33 byte && nat_le byte 126) ≡ true
within byte h k = grind (arith, nat_tests)

below : (byte : ℕ) → byte < 33 → (nat_le 33 byte && nat_le byte 126) ≡ false
below byte h = grind (arith, nat_tests)

above : (byte : ℕ) → 126 < byte → (nat_le 33 byte && nat_le byte 126) ≡ false
above byte h = grind (arith, nat_tests)

other_tests : (byte : ℕ) (plain : Bool) → is_script_blank byte ≡ false → (nat_le 33 byte && nat_le byte 126) ≡ plain
    → byte ≢ 35 → ScriptByteTests byte plain
other_tests byte plain e p n = record {
  plain_is = ap (λ t. t || (nat_le 33 byte && nat_le byte 126)) e ∙ p;
  hash = ne_eqb byte 35 n;
}

-- a byte of printable ASCII other than `#` is plain and begins no comment
pub script_word_byte_tests : (byte : ℕ) → is_script_blank byte ≡ false → 33 ≤ byte → byte ≤ 126 → byte ≢ 35
    → ScriptByteTests byte true
script_word_byte_tests byte e h k n = other_tests byte true e (within byte h k) n

-- a byte below printable ASCII that is no blank isn't plain and begins no comment
pub script_low_byte_tests : (byte : ℕ) → is_script_blank byte ≡ false → byte < 33 → byte ≢ 35
    → ScriptByteTests byte false
script_low_byte_tests byte e h n = other_tests byte false e (below byte h) n

-- a byte above printable ASCII isn't plain and begins no comment
pub script_high_byte_tests : (byte : ℕ) → is_script_blank byte ≡ false → 126 < byte → byte ≢ 35
    → ScriptByteTests byte false
script_high_byte_tests byte e h n = other_tests byte false e (above byte h) n

-- a line so far without a comment, and a plain byte more: there is still none, and its words are gathered
pub script_code_so_far : (line : List ℕ) (byte : ℕ) (old new : LineWords) → ScriptByteTests byte true
    → (Gathers line old → Gathers (line ++ byte ∷ []) new) → IsScriptCodeSoFar line old
    → IsScriptCodeSoFar (line ++ byte ∷ []) new
script_code_so_far line byte old new t f h = record {
  code = script_code_more line byte h.code t.plain_is t.hash;
  gathers = f h.gathers;
}

-- a line so far without a comment, and a byte more that isn't plain, begins no comment and is no carriage return: the
-- line is invalid, whatever follows
pub script_code_spoiled_by_byte : (line : List ℕ) (byte : ℕ) (old : LineWords) → ScriptByteTests byte false → byte ≢ 13
    → IsScriptCodeSoFar line old → IsSpoiledScriptLine (line ++ byte ∷ [])
script_code_spoiled_by_byte line byte old t n h = script_byte_spoils_line line byte h.code n t.hash t.plain_is

-- a whole line, where no byte has spoiled it
pub script_words_at_feed : (line : List ℕ) (place : ScanState) (old : LineWords) (kept : List (ArrayVec ℕ))
    → ((front : List ℕ) → Gathers front old → AreFirst kept front) → place ≢ Spoiled → ScriptScanHoldsAt place line old
    → HasFirstScriptWords (script_without_return line) kept
script_words_at_feed line Code old kept f n h = script_code_at_feed line old kept f h
script_words_at_feed line Return old kept f n h = script_return_at_feed line h.0 old kept f h.1
script_words_at_feed line Comment old kept f n h = script_comment_at_feed line h.0 h.1 old kept f h.2
script_words_at_feed line Spoiled old kept f n h = absurd (n refl)

-- the last line of a text, at whose end there is code or a comment, has the words that were kept
pub script_words_at_end : (line : List ℕ) (place : ScanState) (old : LineWords) (kept : List (ArrayVec ℕ))
    → ((front : List ℕ) → Gathers front old → AreFirst kept front) → (place ≡ Code) ⊎ (place ≡ Comment)
    → ScriptScanHoldsAt place line old → HasFirstScriptWords line kept
script_words_at_end line Code old kept f n h = script_code_at_end line old kept f h
script_words_at_end line Return old kept f (inl n) h = absurd cc
script_words_at_end line Return old kept f (inr n) h = absurd cc
script_words_at_end line Comment old kept f n h = script_comment_at_end line h.0 h.1 old kept f h.2
script_words_at_end line Spoiled old kept f (inl n) h = absurd cc
script_words_at_end line Spoiled old kept f (inr n) h = absurd cc

spoiled_line : (line : List ℕ) → IsSpoiledScriptLine line → script_line_words line ≡ None
spoiled_line line h = ap script_line_words (sym (append-nil line)) ∙ h.unfed []

-- the last line of a text, at whose end there is a carriage return or which has an invalid byte, is invalid
pub script_invalid_at_end : (line : List ℕ) (place : ScanState) (old : LineWords) → (place ≡ Return) ⊎ (place ≡ Spoiled)
    → ScriptScanHoldsAt place line old → script_line_words line ≡ None
script_invalid_at_end line Code old (inl n) h = absurd cc
script_invalid_at_end line Code old (inr n) h = absurd cc
script_invalid_at_end line Return old n h = script_return_at_end line h.0 old h.1
script_invalid_at_end line Comment old (inl n) h = absurd cc
script_invalid_at_end line Comment old (inr n) h = absurd cc
script_invalid_at_end line Spoiled old n h = spoiled_line line h

-- a line with an invalid byte is invalid, also where a line feed ends it
pub script_invalid_at_feed : (line : List ℕ) (place : ScanState) (old : LineWords) → place ≡ Spoiled
    → ScriptScanHoldsAt place line old → script_line_words (script_without_return line) ≡ None
script_invalid_at_feed line place old e h =
    let k : IsSpoiledScriptLine line = subst (λ p. ScriptScanHoldsAt p line old) e h in
    ap (λ x. script_line_words (script_without_return x)) (sym (append-nil line)) ∙ k.fed []

-- a line that a line feed ends, with the words that were kept
pub script_scanned_at_feed : (line : List ℕ) (place : ScanState) (old new : LineWords)
    → ((front : List ℕ) → Gathers front old → AreFirst new.ended.items front) → ScriptScanHoldsAt place line old
    → IsScannedScriptLine (script_without_return line) (script_scan_words_at place new)
script_scanned_at_feed line Code old new f h = script_words_at_feed line Code old new.ended.items f (λ e. cc) h
script_scanned_at_feed line Return old new f h = script_words_at_feed line Return old new.ended.items f (λ e. cc) h
script_scanned_at_feed line Comment old new f h = script_words_at_feed line Comment old new.ended.items f (λ e. cc) h
script_scanned_at_feed line Spoiled old new f h = script_invalid_at_feed line Spoiled old refl h

-- the last line of a text, at whose end there is code or a comment, with the words that were kept
pub script_scanned_at_end : (line : List ℕ) (place : ScanState) (old new : LineWords)
    → ((front : List ℕ) → Gathers front old → AreFirst new.ended.items front) → (place ≡ Code) ⊎ (place ≡ Comment)
    → ScriptScanHoldsAt place line old → IsScannedScriptLine line (script_scan_words_at place new)
script_scanned_at_end line Code old new f n h = script_words_at_end line Code old new.ended.items f n h
script_scanned_at_end line Return old new f (inl n) h = absurd cc
script_scanned_at_end line Return old new f (inr n) h = absurd cc
script_scanned_at_end line Comment old new f n h = script_words_at_end line Comment old new.ended.items f n h
script_scanned_at_end line Spoiled old new f (inl n) h = absurd cc
script_scanned_at_end line Spoiled old new f (inr n) h = absurd cc

-- a byte after a carriage return, or in a comment or a spoiled line
pub script_spoiled_after_return : (line : List ℕ) (byte : ℕ) (place : ScanState) (old : LineWords) → place ≡ Return
    → ScriptScanHoldsAt place line old → IsSpoiledScriptLine (line ++ byte ∷ [])
script_spoiled_after_return line byte place old e h =
    let k : ScriptScanHoldsAt Return line old = subst (λ p. ScriptScanHoldsAt p line old) e h in
    script_return_spoils_line line k.0 byte old k.1

-- a byte more in a comment, or in an invalid line, changes nothing of what is held
pub script_comment_byte_ignored : (line : List ℕ) (byte : ℕ) (place : ScanState) (old : LineWords) → (place ≡ Comment)
    ⊎ (place ≡ Spoiled) → ScriptScanHoldsAt place line old → ScriptScanHoldsAt place (line ++ byte ∷ []) old
script_comment_byte_ignored line byte Code old (inl n) h = absurd cc
script_comment_byte_ignored line byte Code old (inr n) h = absurd cc
script_comment_byte_ignored line byte Return old (inl n) h = absurd cc
script_comment_byte_ignored line byte Return old (inr n) h = absurd cc
script_comment_byte_ignored line byte Comment old n h =
    (h.0, h.1 ++ byte ∷ [], script_comment_more line h.0 h.1 byte old h.2)
script_comment_byte_ignored line byte Spoiled old n h = script_spoiled_more line byte h
