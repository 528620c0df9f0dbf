-- Laws of a piece of a text that is taken from its front.
use Rattle.std.proofs.Common.{◌≡◌, ℕ, ◌+◌, ◌-◌, ◌^◌, ◌<◌, min, List, [], ◌∷◌, ◌++◌, length, take, drop, get_or}
use Rattle.std.proofs.Common.{sym, ap, ◌∙◌, append_assoc, add-one, take_all, arith}
use Rattle.std.proofs.Math.Seq.{take-add, take-suc}
use Rattle.std.proofs.lemmas.List.{length-drop}

-- the place of a byte, at most 2^64 - 1
pub decode_text_piece_place : (place index before seen : ℕ) → place ≡ min before (2 ^ 64 - 1) → seen ≡ before + index
    → min (place + index) (2 ^ 64 - 1) ≡ min seen (2 ^ 64 - 1)
decode_text_piece_place place index before seen p q = omega arith

-- bytes at a place of a piece, as bytes of its front
pub decode_text_piece_front : (seen piece : List ℕ) (index n m : ℕ) → m ≡ index + n
    → (seen ++ take index piece) ++ take n (take (length piece - index) (drop index piece)) ≡ seen ++ take m piece
decode_text_piece_front seen piece index n m e =
    ap (λ x. (seen ++ take index piece) ++ take n x)
    (take_all _ (drop index piece) (omega (arith, length-drop index piece)))
    ∙ append_assoc seen (take index piece) (take n (drop index piece))
    ∙ ap (λ x. seen ++ x) (sym (take-add index n piece) ∙ ap (λ k. take k piece) (sym e))

-- one byte more of the piece
pub decode_text_piece_byte : (seen piece : List ℕ) (index : ℕ) → index < length piece
    → (seen ++ take index piece) ++ get_or piece index 0 ∷ [] ≡ seen ++ take (index + 1) piece
decode_text_piece_byte seen piece index h = append_assoc seen (take index piece) (get_or piece index 0 ∷ [])
    ∙ ap (λ x. seen ++ x) (sym (ap (λ n. take n piece) (add-one index) ∙ take-suc piece index 0 h))
