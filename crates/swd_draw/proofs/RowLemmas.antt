-- Laws of the rows of a drawing.
use Rattle.std.proofs.Common.{◌≡◌, Bool, List, [], ◌∷◌, ◌++◌, sym, ap, ◌∙◌, append_assoc}
use Rattle.std.proofs.lemmas.List.{append-nil}
use Rattle.swd_resync.specs.declared.part.Part.{Part}
use Rattle.swd_draw.specs.Rows.{drawing_row, drawing_rows}

-- one row more
pub drawing_rows_more : (names : Bool) (before parts : List Part) (part : Part)
    → drawing_rows names before (parts ++ part ∷ []) ≡ drawing_rows names before parts
    ++ drawing_row names (before ++ parts) part
drawing_rows_more names before [] part =
    append-nil (drawing_row names before part) ∙ ap (λ b. drawing_row names b part) (sym (append-nil before))
drawing_rows_more names before (p ∷ parts) part =
    ap (λ x. drawing_row names before p ++ x) (drawing_rows_more names (before ++ p ∷ []) parts part)
    ∙ ap (λ b. drawing_row names before p ++ (drawing_rows names (before ++ p ∷ []) parts ++ drawing_row names b part))
    (append_assoc before (p ∷ []) parts)
    ∙ sym (append_assoc (drawing_row names before p) (drawing_rows names (before ++ p ∷ []) parts)
    (drawing_row names (before ++ p ∷ parts) part))
