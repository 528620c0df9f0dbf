-- Laws of the bytes of a comment.
use Rattle.std.proofs.Common.{◌≡◌, ℕ, zero, suc, ◌<◌, ◌≤◌, Bool, true, not, List, [], ◌∷◌, ◌++◌, length, take, get_or}
use Rattle.std.proofs.Common.{sym, ap, ◌∙◌, subst, append_assoc, arith}
use Rattle.std.proofs.lemmas.List.{append-nil}
use Rattle.std.proofs.lemmas.Bool.{ne_eqb}
use Rattle.swd_bits.specs.One.{Reads}
use Rattle.swd_bits.specs.TraceText.{scan_bits_sign_of, scan_bits_comment_after}
use Rattle.swd_bits.proofs.ScanLemmas.{scan_bits_passed_byte}

-- bytes of a comment that is open, before its line feed
pub decode_text_comment_read : (comment : Bool) (n : ℕ) (text seen : List ℕ) (bits : List Bool) → comment ≡ true
    → n ≤ length text → ((k : ℕ) → k < n → get_or text k 0 ≡ 10 → ⊥) → Reads seen bits comment
    → Reads (seen ++ take n text) bits comment
decode_text_comment_read comment zero text seen bits e h none r = rw (append-nil seen) r
decode_text_comment_read comment (suc n) [] seen bits e h none r = absurd (omega arith)
decode_text_comment_read comment (suc n) (b ∷ text) seen bits e h none r =
    let goes : true ≡ scan_bits_comment_after true b = sym (ap not (ne_eqb b 10 (none 0 (omega arith)))) in
    let one : Reads (seen ++ b ∷ []) bits comment =
    scan_bits_passed_byte seen bits comment comment b (ap (λ c. scan_bits_sign_of c b) (sym e))
    (e ∙ goes ∙ ap (λ c. scan_bits_comment_after c b) (sym e)) r in
    subst (λ x. Reads x bits comment) (append_assoc seen (b ∷ []) (take n text))
    (decode_text_comment_read comment n text (seen ++ b ∷ []) bits e (omega arith)
    (λ k less. none (suc k) (omega arith)) one)
