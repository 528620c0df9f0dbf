-- Words that a script tells, and what was read.
use Rattle.std.proofs.Common.{◌≡◌, ℕ, ◌+◌, ◌<◌, ◌≤◌, ◌∙◌, List, ◌∷◌, length, drop, get_or, Option}
use Rattle.std.proofs.Common.{Some, None, sym, ap, add-one}
use Rattle.std.proofs.Math.Seq.{drop-cons}
use Rattle.std.proofs.lemmas.List.{drop_all}
use Rattle.swd_port.specs.declared.access.Answer.{Answer}
use Rattle.swd_script.specs.declared.batch.Expected.{Expected}
use Rattle.swd_run.specs.declared.verified.Difference.{Difference}
use Rattle.swd_run.specs.Verified.{verify_difference_in, verify_read_differs_in, verify_or_else}

-- what is left of the reads of a run
pub verify_reads_left : (reads : List Expected) (answers : List Answer) (i : ℕ) (d : Expected) → i < length reads
    → verify_difference_in (drop i reads) answers ≡ verify_or_else (verify_read_differs_in answers (get_or reads i d))
    (verify_difference_in (drop (i + 1) reads) answers)
verify_reads_left reads answers i d low =
    ap (λ l. verify_difference_in l answers)
    (drop-cons reads i d low ∙ ap (λ n. get_or reads i d ∷ drop n reads) (sym (add-one i)))

-- where no expected read is left, there is no difference
pub no_verify_read_left : (reads : List Expected) (answers : List Answer) (i : ℕ) → length reads ≤ i
    → verify_difference_in (drop i reads) answers ≡ None
no_verify_read_left reads answers i high = ap (λ l. verify_difference_in l answers) (drop_all i reads high)

-- a difference that was found first is the whole result, whatever is found later
pub verify_difference_first : (result later whole : Option Difference) (found : Difference) → result ≡ Some found
    → whole ≡ verify_or_else result later
    → Some found ≡ whole
verify_difference_first result later whole found is e = sym (e ∙ ap (λ r. verify_or_else r later) is)

-- where no difference was found first, the whole result is what is found later
pub verify_difference_later : (result later whole : Option Difference) → result ≡ None
    → whole ≡ verify_or_else result later → whole ≡ later
verify_difference_later result later whole is e = e ∙ ap (λ r. verify_or_else r later) is
