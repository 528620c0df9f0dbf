-- DPIDR's word: what is left of it after a read is exact.
use Rattle.std.proofs.Common.{◌≡◌, ◌<◌, ◌^◌, ℕ, Bool, true, false, refl, sym, subst, arith, ◌∙◌}
use Rattle.std.specs.Prelude.{Option, Some, None, IfSome}
use Rattle.swd_bits.specs.declared.tx.Tx.{Tx as Transaction}
use Rattle.swd_bits.specs.declared.tx.TxEnd.TheVariants.{Moved}
use Rattle.swd_bits.specs.Transactions.{IsTx, IsTxEnd}
use Rattle.swd_checker.specs.declared.near.Near.{Near}
use Rattle.swd_checker.specs.declared.identification.Identification.{Identification}
use Rattle.swd_checker.specs.Described.{IsCheckedNear}
use Rattle.swd_checker.specs.Words.{WordsOdd, WordsNear}
use Rattle.swd_checker.specs.Standing.{IsWordIdentified, checked_reads_dpidr}
use Rattle.swd_checker.specs.Exact.{IsNearSound}
use Rattle.swd_checker.specs.Reaching.{NearNarrows, IdentificationNarrows, checked_near_seen}
use Rattle.swd_checker.specs.Reaching.{IsWordSound}
use Rattle.swd_checker.specs.Identifying.{IsMovedIn, IsReadIn, NearIdentifies, IsNearOdd, IdentificationLeaves}

-- those of the words that are among the ones that it may be
pub identifies_among : (words before : Near) (known : Identification) (result : Option Near)
    → known.word ≡ Some before → IfSome result (λ near. NearNarrows words (WordsNear before) near)
    → IfSome result (λ near. NearIdentifies words known near)
identifies_among words before known None is narrows = tt
identifies_among words before known (Some near) is narrows = record {
  sound = narrows.sound;
  each = λ n h. (
    subst (λ o. IsWordIdentified o n) (sym is) (narrows.each n h).1,
    (narrows.each n h).0,
  );
}

-- nothing was known of it
pub identifies_any : (words : Near) (known : Identification) → known.word ≡ None → NearIdentifies words known words
identifies_any words known is = record {
  sound = λ sound. sound;
  each = λ n h. (subst (λ o. IsWordIdentified o n) (sym is) tt, h);
}

odd_narrowed : (seen odd : Near) (among : Option Near) → among ≡ Some odd
    → IfSome among (λ near. NearNarrows seen WordsOdd near) → NearNarrows seen WordsOdd odd
odd_narrowed seen odd among is narrows = subst (λ o. IfSome o (λ near. NearNarrows seen WordsOdd near)) is narrows

-- those of the words that are odd
pub identifies_odd : (seen odd : Near) (known : Identification) (among result : Option Near) → among ≡ Some odd
    → IfSome among (λ near. NearNarrows seen WordsOdd near)
    → IfSome result (λ near. NearIdentifies odd known near) → IfSome result (λ near. NearIdentifies seen known near)
identifies_odd seen odd known among None is narrows left = tt
identifies_odd seen odd known among (Some near) is narrows left =
    let h : NearNarrows seen WordsOdd odd = odd_narrowed seen odd among is narrows in
    record {
      sound = λ sound. left.sound (h.sound sound);
      each = λ n k. ((left.each n k).0, (h.each n (left.each n k).1).0);
    }

-- each of them is odd
pub identifies_oddly : (seen odd : Near) (known : Identification) (among result : Option Near) → among ≡ Some odd
    → IfSome among (λ near. NearNarrows seen WordsOdd near)
    → IfSome result (λ near. NearIdentifies odd known near) → IfSome result (λ near. IsNearOdd near)
identifies_oddly seen odd known among None is narrows left = tt
identifies_oddly seen odd known among (Some near) is narrows left =
    let h : NearNarrows seen WordsOdd odd = odd_narrowed seen odd among is narrows in
    record { each = λ n k. (h.each n (left.each n k).1).1 }

-- what is known of it then
pub identification_leaves : (seen word : Near) (known left : Identification) (result : Option Near)
    → result ≡ Some word → left.word ≡ Some word → IfSome result (λ near. NearIdentifies seen known near)
    → IfSome result (λ near. IsNearOdd near) → IdentificationLeaves seen known left
identification_leaves seen word known left result is left_is identifies odd =
    let h : NearIdentifies seen known word =
    subst (λ o. IfSome o (λ near. NearIdentifies seen known near)) is identifies in
    let k : IsNearOdd word = subst (λ o. IfSome o (λ near. IsNearOdd near)) is odd in
    record {
      sound = λ sound. subst IsWordSound (sym left_is) (h.sound sound, k.each);
      each = λ n e. h.each n (subst (λ o. IsWordIdentified o n) left_is e);
    }

seen_sound : (word : ℕ) (ok : Bool) → word < 2 ^ 32 → IsNearSound (checked_near_seen word ok)
seen_sound word true small = record { small = small; place = 32; inside = omega arith; is = refl }
seen_sound word false small = record { small = small; place = 32; inside = omega arith; is = refl }

-- a read of it
pub identification_narrows : (tx : Transaction) (seen : Near) (known left : Identification) (result : Option Near)
    → result ≡ Some seen → IsReadIn tx result → IdentificationLeaves seen known left → IsTx tx
    → IdentificationNarrows tx known left
identification_narrows tx seen known left result is read leaves legal =
    let moved : IsMovedIn tx.result (Some seen) = subst (IsReadIn tx) is read in
    let word = moved.0 in
    let ok = moved.1 in
    let small : word < 2 ^ 32 = subst IsTxEnd moved.2 legal in
    record {
      sound = λ sound. leaves.sound (subst IsNearSound (sym moved.3) (seen_sound word ok small));
      each = λ n h. (
        record { small = h.small; odd = h.odd; may = (leaves.each n h.may).0 },
        record {
          small = h.small;
          seen = λ reads other good same.
              let ends : Moved word ok ≡ Moved other good = sym moved.2 ∙ same in
              let a : word ≡ other = cc in
              let b : ok ≡ good = cc in
              subst (λ k. IsCheckedNear (checked_near_seen other k) n) b
              (subst (λ m. IsCheckedNear (checked_near_seen m ok) n) a
              (subst (λ near. IsCheckedNear near n) moved.3 (leaves.each n h.may).1));
        },
      );
    }

-- no read of it
pub identification_stays : (tx : Transaction) (known : Identification) (result : Option Near) → result ≡ None
    → IsReadIn tx result → IdentificationNarrows tx known known
identification_stays tx known result is read =
    let none : IsReadIn tx None = subst (IsReadIn tx) is read in
    record {
      sound = λ sound. sound;
      each = λ n h. (
        h,
        record { small = h.small; seen = λ reads word ok same. absurd (none reads word ok same) },
      );
    }

-- no read of it, by its request
pub read_in_none : (tx : Transaction) (b : Bool)
    → b ≡ checked_reads_dpidr tx.request.addr tx.request.ap tx.request.read → b ≡ false → IsReadIn tx None
read_in_none tx b same other = λ reads. absurd (let e : true ≡ false = sym reads ∙ sym same ∙ other in cc)

-- a read of it
pub read_in_moved : (tx : Transaction) (result : Option Near) → IsMovedIn tx.result result → IsReadIn tx result
read_in_moved tx None h = λ reads. h
read_in_moved tx (Some near) h = h
