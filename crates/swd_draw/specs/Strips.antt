-- A strip of fields.
use Rattle.std.specs.Prelude.{ℕ, ◌≡◌, ◌+◌, List, [], ◌++◌, length, codes}
use Rattle.swd_draw.specs.Marks.{boxes, clock_piece, strip_end_bit, times, waves}
use Rattle.swd_draw.specs.declared.field.Field.{Field}
use Rattle.swd_draw.specs.declared.strip.Strip.{Strip}

-- it has no fields
pub record IsEmptyStrip (s : Strip) : Type 0 where
  pub wave : s.wave.bytes ≡ []
  pub boxes : s.boxes.bytes ≡ []
  pub at : s.at ≡ 0
  pub count : s.count ≡ 0

-- these fields were appended
pub record StripAdded (old new : Strip) (fields : List Field) : Type 0 where
  pub wave : new.wave.bytes ≡ old.wave.bytes ++ waves fields
  pub boxes : new.boxes.bytes ≡ old.boxes.bytes ++ boxes old.at fields
  pub at : new.at ≡ strip_end_bit old.at fields
  pub count : new.count ≡ old.count + length fields

-- the waves of SWCLK and SWDIO, and the boxes
unfoldable pub strip_text : Strip → List ℕ
strip_text s =
    codes "<path d='M58,40h6" ++ times s.at clock_piece ++ codes "'/><path d='M58,56h6" ++ s.wave.bytes
    ++ codes "'/>" ++ s.boxes.bytes
