-- Laws of the words of a line, and of what is kept of them.
use Rattle.std.proofs.Common.{◌≡◌, ℕ, suc, zero, ◌<◌, ◌≤◌, true, false, List, [], ◌∷◌, ◌++◌, length, map, take}
use Rattle.std.proofs.Common.{append_assoc, refl, sym, ap, ◌∙◌, arith}
use Rattle.std.specs.Prelude.{if◌then◌else◌, min}
use Rattle.std.proofs.lemmas.List.{take_all, take-append-le, length-append, length-map, length-take, append-nil}
use Rattle.std.proofs.lemmas.List.{map-append}
use Rattle.arrayvec.specs.ArrayVec.{ArrayVec}
use Rattle.swd_script.specs.declared.words.LineWords.{LineWords}
use Rattle.swd_script.specs.Lines.{script_byte_before, ends_script_word, is_script_blank, script_blank_split}
use Rattle.swd_script.specs.Words.{texts, first_words, begun, IsUnblank, Gathers, AreFirst}

-- a blank before the words
pub script_words_blank : (byte : ℕ) (more : List ℕ) → is_script_blank byte ≡ true
    → script_blank_split (byte ∷ more) ≡ script_blank_split more
script_words_blank byte more e =
    ap (λ t. if t then script_blank_split more else (if ends_script_word more then (byte ∷ [])
    ∷ script_blank_split more else script_byte_before byte (script_blank_split more))) e

-- a byte of a word
words_byte : (byte : ℕ) (more : List ℕ) → is_script_blank byte ≡ false
    → script_blank_split (byte ∷ more) ≡ (if ends_script_word more then (byte ∷ [])
    ∷ script_blank_split more else script_byte_before byte (script_blank_split more))
words_byte byte more e = ap (λ t. if t then script_blank_split more else
    (if ends_script_word more then (byte ∷ [])
    ∷ script_blank_split more else script_byte_before byte (script_blank_split more))) e

words_last_byte : (byte : ℕ) (more : List ℕ) → is_script_blank byte ≡ false → ends_script_word more ≡ true
    → script_blank_split (byte ∷ more) ≡ (byte ∷ []) ∷ script_blank_split more
words_last_byte byte more e h = words_byte byte more e
    ∙ ap (λ t. if t then (byte ∷ []) ∷ script_blank_split more else script_byte_before byte (script_blank_split more)) h

words_next_byte : (byte : ℕ) (more : List ℕ) → is_script_blank byte ≡ false → ends_script_word more ≡ false
    → script_blank_split (byte ∷ more) ≡ script_byte_before byte (script_blank_split more)
words_next_byte byte more e h = words_byte byte more e
    ∙ ap (λ t. if t then (byte ∷ []) ∷ script_blank_split more else script_byte_before byte (script_blank_split more)) h

-- a word that ends, here or at a blank
pub script_words_end : (word more : List ℕ) → IsUnblank word → ends_script_word more ≡ true
    → script_blank_split (word ++ more) ≡ begun word ++ script_blank_split more
script_words_end [] more h e = refl
script_words_end (byte ∷ []) more h e = words_last_byte byte more h.0 e
script_words_end (byte ∷ next ∷ word) more h e =
    words_next_byte byte (next ∷ word ++ more) h.0 h.1.0 ∙ ap (script_byte_before byte)
    (script_words_end (next ∷ word) more h.1 e)

unblank_more : (word : List ℕ) (byte : ℕ) → IsUnblank word → is_script_blank byte ≡ false
    → IsUnblank (word ++ byte ∷ [])
unblank_more [] byte h e = (e, tt)
unblank_more (first ∷ word) byte h e = (h.0, unblank_more word byte h.1 e)

take_more : {A : Type 0} (n : ℕ) (xs ys : List A) → take n (take n xs ++ ys) ≡ take n (xs ++ ys)
take_more zero xs ys = refl
take_more (suc n) [] ys = refl
take_more (suc n) (x ∷ xs) ys = ap (λ t. x ∷ t) (take_more n xs ys)

-- one more byte of a word that is kept
pub script_last_word_more : (word kept next : List ℕ) (byte : ℕ) → length kept < 11 → kept ≡ take 11 word
    → next ≡ kept ++ byte ∷ [] → next ≡ take 11 (word ++ byte ∷ [])
script_last_word_more word kept next byte h e f =
    let n : length (kept ++ byte ∷ []) ≤ 11 = omega (arith, length-append kept (byte ∷ [])) in
    f ∙ sym (take_all 11 (kept ++ byte ∷ []) n) ∙ ap (λ k. take 11 (k ++ byte ∷ [])) e ∙ take_more 11 word (byte ∷ [])

-- one more that is not
pub script_last_word_full : (word kept : List ℕ) (byte : ℕ) → 11 ≤ length kept → kept ≡ take 11 word
    → kept ≡ take 11 (word ++ byte ∷ [])
script_last_word_full word kept byte h e =
    let n : length kept ≡ min 11 (length word) = ap length e ∙ length-take 11 word in
    e ∙ sym (take-append-le 11 word (byte ∷ []) (omega arith))

-- nothing of a line yet
pub script_gathers_none : (kept : LineWords) → kept.ended.items ≡ [] → kept.last.items ≡ [] → Gathers [] kept
script_gathers_none kept e f = record {
  ended = [];
  last = [];
  split = λ more. refl;
  unblank = tt;
  kept_ended = ap texts e;
  kept_last = f;
}

-- a byte of a word more
pub script_gathers_byte : (line : List ℕ) (old new : LineWords) (byte : ℕ) → is_script_blank byte ≡ false
    → new.ended.items ≡ old.ended.items
    → ((word : List ℕ) → old.last.items ≡ take 11 word → new.last.items ≡ take 11 (word ++ byte ∷ [])) →
    Gathers line old → Gathers (line ++ byte ∷ []) new
script_gathers_byte line old new byte h e f g = record {
  ended = g.ended;
  last = g.last ++ byte ∷ [];
  split = λ more. ap script_blank_split (append_assoc line (byte ∷ []) more) ∙ g.split (byte ∷ more)
      ∙ ap (λ x. g.ended ++ script_blank_split x) (sym (append_assoc g.last (byte ∷ []) more));
  unblank = unblank_more g.last byte g.unblank h;
  kept_ended = ap texts e ∙ g.kept_ended;
  kept_last = f g.last g.kept_last;
}

-- the words and the one that has begun
pub script_kept_words : (line : List ℕ) (old : LineWords) (kept : List (ArrayVec ℕ)) (g : Gathers line old)
    → texts kept ≡ take 6 (texts old.ended.items ++ begun old.last.items)
    → texts kept ≡ first_words (g.ended ++ begun g.last)
script_kept_words line old kept g e =
    let cut : begun (take 11 g.last) ≡ map (λ word. take 11 word) (begun g.last) = cut_begun g.last in
    e ∙ ap (λ x. take 6 (x ++ begun old.last.items)) g.kept_ended
    ∙ take_more 6 (map (λ word. take 11 word) g.ended) (begun old.last.items)
    ∙ ap (λ x. take 6 (map (λ word. take 11 word) g.ended ++ x)) (ap begun g.kept_last ∙ cut)
    ∙ ap (take 6) (sym (map-append (λ word. take 11 word) g.ended (begun g.last)))
  where
    cut_begun : (word : List ℕ) → begun (take 11 word) ≡ map (λ word. take 11 word) (begun word)
    cut_begun [] = refl
    cut_begun (byte ∷ word) = refl

-- a blank more
pub script_gathers_blank : (line : List ℕ) (old new : LineWords) (byte : ℕ) → is_script_blank byte ≡ true
    → texts new.ended.items ≡ take 6 (texts old.ended.items ++ begun old.last.items) → new.last.items ≡ []
    → Gathers line old → Gathers (line ++ byte ∷ []) new
script_gathers_blank line old new byte h e f g = record {
  ended = g.ended ++ begun g.last;
  last = [];
  split = λ more. ap script_blank_split (append_assoc line (byte ∷ []) more) ∙ g.split (byte ∷ more)
      ∙ ap (λ x. g.ended ++ x) (script_words_end g.last (byte ∷ more) g.unblank h
      ∙ ap (λ x. begun g.last ++ x) (script_words_blank byte more h)) ∙ sym
      (append_assoc g.ended (begun g.last) (script_blank_split more));
  unblank = tt;
  kept_ended = script_kept_words line old new.ended.items g e;
  kept_last = f;
}

-- the end of a line
pub script_first_words_at_end : (line : List ℕ) (old : LineWords) (kept : List (ArrayVec ℕ))
    → texts kept ≡ take 6 (texts old.ended.items ++ begun old.last.items) → Gathers line old → AreFirst kept line
script_first_words_at_end line old kept e g =
    script_kept_words line old kept g e
    ∙ ap first_words (sym (ap script_blank_split (sym (append-nil line)) ∙ g.split []
    ∙ ap (λ x. g.ended ++ x) (script_words_end g.last [] g.unblank refl ∙ append-nil (begun g.last))))

-- six words that are kept are the first six, whatever words follow them
pub script_six_words_cut : (kept : List (ArrayVec ℕ)) (more : List (List ℕ)) → 6 ≤ length kept → length kept ≤ 6
    → texts kept ≡ take 6 (texts kept ++ more)
script_six_words_cut kept more h k =
    let n : length (texts kept) ≡ length kept = length-map kept (λ word. word.items) in
    sym (take-append-le 6 (texts kept) more (omega arith) ∙ take_all 6 (texts kept) (omega arith))

-- where no word was begun, up to six words that are kept are all the first ones
pub script_words_all_kept : (kept : List (ArrayVec ℕ)) (word : List ℕ) → length kept ≤ 6 → length word ≡ 0
    → texts kept ≡ take 6 (texts kept ++ begun word)
script_words_all_kept kept [] k e =
    let n : length (texts kept) ≡ length kept = length-map kept (λ word. word.items) in
    sym (ap (take 6) (append-nil (texts kept)) ∙ take_all 6 (texts kept) (omega arith))
script_words_all_kept kept (byte ∷ word) k e = absurd (omega arith)
