-- Laws of strips of fields.
use Rattle.std.proofs.Common.{◌≡◌, ℕ, ◌+◌, List, [], ◌∷◌, ◌++◌, length, refl, sym, ap, ◌∙◌, append_assoc, arith}
use Rattle.std.proofs.lemmas.List.{length-append}
use Rattle.swd_draw.specs.Marks.{boxes, strip_end_bit, field_box, field_wave, waves}
use Rattle.swd_draw.specs.declared.field.Field.{Field}
use Rattle.swd_draw.specs.declared.strip.Strip.{Strip}
use Rattle.swd_draw.specs.Strips.{StripAdded, IsEmptyStrip, strip_text}
use Rattle.swd_draw.specs.Rows.{fields_body}

waves_more : (fields more : List Field) → waves (fields ++ more) ≡ waves fields ++ waves more
waves_more [] more = refl
waves_more (f ∷ fields) more =
    ap (λ x. field_wave f.shade f.bits ++ x) (waves_more fields more)
    ∙ sym (append_assoc (field_wave f.shade f.bits) (waves fields) (waves more))

boxes_more : (at : ℕ) (fields more : List Field)
    → boxes at (fields ++ more) ≡ boxes at fields ++ boxes (strip_end_bit at fields) more
boxes_more at [] more = refl
boxes_more at (f ∷ fields) more =
    ap (λ x. field_box at f ++ x) (boxes_more (at + f.bits.len) fields more)
    ∙ sym (append_assoc (field_box at f) (boxes (at + f.bits.len) fields)
    (boxes (strip_end_bit (at + f.bits.len) fields) more))

end_more : (at : ℕ) (fields more : List Field)
    → strip_end_bit at (fields ++ more) ≡ strip_end_bit (strip_end_bit at fields) more
end_more at [] more = refl
end_more at (f ∷ fields) more = end_more (at + f.bits.len) fields more

-- some fields were appended, and then others
pub strip_added_append : (a b c : Strip) (fields more : List Field) → StripAdded a b fields → StripAdded b c more
    → StripAdded a c (fields ++ more)
strip_added_append a b c fields more h k =
    let len : length (fields ++ more) ≡ length fields + length more = length-append fields more in
    let first = h.count in
    let next = k.count in
    record {
      wave = k.wave ∙ ap (λ x. x ++ waves more) h.wave ∙ append_assoc a.wave.bytes (waves fields) (waves more)
          ∙ ap (λ x. a.wave.bytes ++ x) (sym (waves_more fields more));
      boxes = k.boxes ∙ ap (λ n. b.boxes.bytes ++ boxes n more) h.at
          ∙ ap (λ x. x ++ boxes (strip_end_bit a.at fields) more) h.boxes
          ∙ append_assoc a.boxes.bytes (boxes a.at fields) (boxes (strip_end_bit a.at fields) more)
          ∙ ap (λ x. a.boxes.bytes ++ x) (sym (boxes_more a.at fields more));
      at = k.at ∙ ap (λ n. strip_end_bit n more) h.at ∙ sym (end_more a.at fields more);
      count = omega arith;
    }

-- the text of a strip that had no fields before these
pub strip_body : (a b : Strip) (fields : List Field) → IsEmptyStrip a → StripAdded a b fields
    → strip_text b ≡ fields_body fields
unfolding strip_text fields_body
strip_body a b fields h k =
    rw (k.at, k.wave, k.boxes, h.at, h.wave, h.boxes) refl
