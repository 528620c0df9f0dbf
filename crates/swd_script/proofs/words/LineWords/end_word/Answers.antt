use Rattle.std.proofs.Common.{◌≡◌, ◌≤◌, length, ap, sym, ◌∙◌, arith}
use Rattle.std.proofs.lemmas.Map.Views.{exact_unsigned_eq}
use Rattle.swd_script.specs.Words.{begun}
use Rattle.swd_script.proofs.WordLemmas.{script_six_words_cut, script_words_all_kept}
use Rattle.swd_script.proofs.words.LineWords.end_word.Goals as goal
use Rattle.swd_script.proofs.words.LineWords.end_word.Goals.{else-not-is_full-via-then-not-is_full+else-not-is_empty}
use Rattle.swd_script.proofs.words.LineWords.end_word.Goals.{else-not-is_full-via-else-not-is_full}

pub returns-else-not-is_full-clause-ended : goal.returns-else-not-is_full-clause-ended
returns-else-not-is_full-clause-ended c =
    let old = c.args.self.now in
    let fits : length old.ended.items ≤ 6 = c.is_full.ensures.fits in
    elim c.else-not-is_full.branch [
      | else-not-is_full-via-then-not-is_full+else-not-is_empty w ↦
          let empty : length c.take-word.result.items ≡ 0 = exact_unsigned_eq _ _
          (sym w.is_empty.ensures ∙ w.if-not-is_empty.false) in
          script_words_all_kept old.ended.items old.last.items fits
          (ap (λ v. length v.items) (sym c.take-word.ensures.value) ∙ empty)
      | else-not-is_full-via-else-not-is_full w ↦
          let full : length old.ended.items ≡ 6 = exact_unsigned_eq _ _
          (sym c.is_full.ensures.value ∙ w.if-not-is_full.false) in
          script_six_words_cut old.ended.items (begun old.last.items) (omega arith) fits
    ]
