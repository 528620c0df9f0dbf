-- What is known of a held word: what is left of it once it was seen, and which words it covers.
use Rattle.std.proofs.Common.{◌≡◌, ◌<◌, ◌^◌, ℕ, Bool, refl, sym, ap, subst, arith}
use Rattle.std.specs.Prelude.{Option, Some, None, IfSome, unwrap_or}
use Rattle.swd_checker.specs.declared.near.Near.{Near}
use Rattle.swd_checker.specs.Worlds.{Held, HeldUnknown, HeldWord, HeldCsw, HeldSeen}
use Rattle.swd_checker.specs.Described.{IsCheckedNear}
use Rattle.swd_checker.specs.Words.{Words, WordsOfCsw, WordsNear, IsCheckedWord, NearIncludes}
use Rattle.swd_checker.specs.Exact.{IsNearSound, IsHeldSound, IsHeldExact}
use Rattle.swd_checker.specs.Reaching.{HeldNarrows, HeldHas, IsHeldOfNear, NearNarrows}
use Rattle.swd_checker.specs.Joining.{HeldCovers}
use Rattle.swd_checker.proofs.NearLemmas.{near_small, near_sound}

-- NARROWED
-- a word that is seen
seen_fills : (seen : Near) (value : Option ℕ) (word : ℕ) → value ≡ Some word → IsCheckedNear seen word
    → (filler : ℕ) × (filler < 2 ^ 32) × IsCheckedNear seen (unwrap_or value filler)
seen_fills seen value word is near =
    (0, omega arith, subst (IsCheckedNear seen) (sym (ap (λ o. unwrap_or o 0) is)) near)

-- nothing is known of it
pub held_unknown_narrows : (seen : Near) → IsNearSound seen → HeldNarrows HeldUnknown seen HeldUnknown
held_unknown_narrows seen sound = record {
  sound = λ h. tt;
  each = λ value is. (
    is,
    (let found = near_sound seen sound in (
      found.0,
      near_small seen found.0 sound.small found.1,
      subst (λ o. IsCheckedNear seen (unwrap_or o found.0)) (sym is) found.1,
    )),
  );
}

-- it is a word
pub held_word_narrows : (seen : Near) → IsNearSound seen → HeldNarrows HeldWord seen (HeldSeen seen)
held_word_narrows seen sound = record {
  sound = λ h. sound;
  each = λ value (word, is, near). (
    (word, is, near_small seen word sound.small near),
    seen_fills seen value word is near,
  );
}

-- it is one of these words
pub held_words_narrow : (held : Held) (words : Words) (seen left : Near) (narrowed : Held) → IsNearSound seen
    → ((value : Option ℕ) (word : ℕ) → value ≡ Some word → word < 2 ^ 32 → IsCheckedWord words word
    → IsHeldExact held value) → NearNarrows seen words left → narrowed ≡ HeldSeen left
    → HeldNarrows held seen narrowed
held_words_narrow held words seen left narrowed sound made narrows same =
    subst (HeldNarrows held seen) (sym same) (record {
      sound = λ h. narrows.sound sound;
      each = λ value (word, is, near). (
        made value word is (near_small seen word sound.small (narrows.each word near).0) (narrows.each word near).1,
        seen_fills seen value word is (narrows.each word near).0,
      );
    })

held_some_narrow : (held : Held) (words : Words) (seen : Near) (left : Option Near) (narrowed : Held)
    → IsNearSound seen
    → ((value : Option ℕ) (word : ℕ) → value ≡ Some word → word < 2 ^ 32 → IsCheckedWord words word
    → IsHeldExact held value) → IfSome left (λ near. NearNarrows seen words near) → IsHeldOfNear left narrowed
    → HeldNarrows held seen narrowed
held_some_narrow held words seen None narrowed sound made narrows of = absurd of
held_some_narrow held words seen (Some near) narrowed sound made narrows of =
    held_words_narrow held words seen near narrowed sound made narrows of

held_any_narrow : (held : Held) (words : Words) (seen : Near) (left : Option Near) (result : Option Held)
    → IsNearSound seen
    → ((value : Option ℕ) (word : ℕ) → value ≡ Some word → word < 2 ^ 32 → IsCheckedWord words word
    → IsHeldExact held value) → IfSome left (λ near. NearNarrows seen words near)
    → IfSome result (λ narrowed. IsHeldOfNear left narrowed) → IfSome result (λ narrowed. HeldNarrows held seen
    narrowed)
held_any_narrow held words seen left None sound made narrows of = tt
held_any_narrow held words seen left (Some narrowed) sound made narrows of =
    held_some_narrow held words seen left narrowed sound made narrows of

-- it was read from CSW
pub held_csw_narrows : (held : Held) (increments : Bool) (seen : Near) (left : Option Near) (result : Option Held)
    → held ≡ HeldCsw increments → IsNearSound seen
    → IfSome left (λ near. NearNarrows seen (WordsOfCsw increments) near)
    → IfSome result (λ narrowed. IsHeldOfNear left narrowed) → IfSome result (λ narrowed. HeldNarrows held seen
    narrowed)
held_csw_narrows held increments seen left result is sound narrows of =
    subst (λ h. IfSome result (λ narrowed. HeldNarrows h seen narrowed)) (sym is)
    (held_any_narrow (HeldCsw increments) (WordsOfCsw increments) seen left result sound
    (λ value word same small among. (word, same, small, among)) narrows of)

-- it is one of the near words
pub held_seen_narrows : (held : Held) (near seen : Near) (left : Option Near) (result : Option Held)
    → held ≡ HeldSeen near → IsNearSound seen → IfSome left (λ l. NearNarrows seen (WordsNear near) l)
    → IfSome result (λ narrowed. IsHeldOfNear left narrowed) → IfSome result (λ narrowed. HeldNarrows held seen
    narrowed)
held_seen_narrows held near seen left result is sound narrows of =
    subst (λ h. IfSome result (λ narrowed. HeldNarrows h seen narrowed)) (sym is)
    (held_any_narrow (HeldSeen near) (WordsNear near) seen left result sound
    (λ value word same small among. (word, same, among)) narrows of)

held_word_has : (other : Held) → (other ≡ HeldUnknown → HeldWord ≡ HeldUnknown) → IsHeldSound other
    → HeldHas HeldWord other
held_word_has HeldUnknown known sound = absurd (let e : HeldWord ≡ HeldUnknown = known refl in cc)
held_word_has HeldWord known sound = record { each = λ value e. e }
held_word_has (HeldCsw increments) known sound = record { each = λ value (word, is, small, csw). (word, is, small) }
held_word_has (HeldSeen near) known sound =
    record { each = λ value (word, is, h). (word, is, near_small near word sound.small h) }

-- the first is any word
pub held_word_covers : (held other : Held) → held ≡ HeldWord → (other ≡ HeldUnknown → ⊥) → HeldCovers held other
held_word_covers held other is known = record {
  has = λ same sound. subst (λ h. HeldHas h other) (sym is) (held_word_has other (λ e. absurd (known e)) sound);
}

csw_has_near : (increments : Bool) (near : Near) → NearIncludes (WordsOfCsw increments) near → IsNearSound near
    → HeldHas (HeldCsw increments) (HeldSeen near)
csw_has_near increments near includes sound = record {
  each = λ value (word, is, h). (word, is, near_small near word sound.small h, includes.each word h);
}

-- the first is CSW's, the second was seen
pub held_csw_covers_near : (held other : Held) (increments : Bool) (near : Near) → held ≡ HeldCsw increments
    → other ≡ HeldSeen near → NearIncludes (WordsOfCsw increments) near → HeldCovers held other
held_csw_covers_near held other increments near is also includes = subst (λ h. HeldCovers h other) (sym is)
    (subst (λ o. HeldCovers (HeldCsw increments) o) (sym also)
    (record { has = λ known sound. csw_has_near increments near includes sound }))

near_has_near : (a b : Near) → NearIncludes (WordsNear a) b → HeldHas (HeldSeen a) (HeldSeen b)
near_has_near a b includes = record { each = λ value (word, is, h). (word, is, includes.each word h) }
