-- What the reader of a file keeps.
use Rattle.std.specs.Prelude.{◌≡◌, false, All}
use Rattle.swd_image_files.specs.declared.reading.HeldPieces.{HeldPieces}
use Rattle.swd_image_files.specs.declared.reading.Kept.{Kept}
use Rattle.swd_image_files.specs.declared.reading.Kept.TheVariants.{Span, Whole}
use Rattle.swd_image_files.specs.Images.{ImageFileContents, contents_of_image}
use Rattle.swd_image_files.specs.Overlaps.{IsSoundImageRange}

-- it has this image so far, unless memory ran out; each range is sound
pub record ImageFileHolds {A : Type 0} (image : ImageFileContents) (held : HeldPieces A) : Type 0 where
  pub stored : held.failed ≡ false → contents_of_image held.image ≡ image
  pub sound : All IsSoundImageRange image.ranges

-- it has the ranges of this image so far, unless memory ran out; each is sound
pub record ImageFileSpans {A : Type 0} (image : ImageFileContents) (held : HeldPieces A) : Type 0 where
  pub stored : held.failed ≡ false → held.image.ranges.items ≡ image.ranges
  pub sound : All IsSoundImageRange image.ranges

-- it has this image so far, or its ranges alone
abbrev pub IsImageFileHeld : {A : Type 0} → Kept → ImageFileContents → HeldPieces A → Type 0
IsImageFileHeld Whole image held = ImageFileHolds image held
IsImageFileHeld Span image held = ImageFileSpans image held
