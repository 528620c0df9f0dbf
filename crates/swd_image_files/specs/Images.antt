-- Images: the ranges of their pieces, in the order of the file, and the bytes of these pieces, one after the other.
use Rattle.std.specs.Prelude.{ℕ, ◌+◌, ◌==◌, List, [], ◌∷◌, ◌++◌, length, take, drop, if◌then◌else◌}
use Rattle.swd_image_files.specs.declared.image.Range.{Range}
use Rattle.swd_image_files.specs.declared.image.Image.{Image}
use Rattle.swd_image_files.specs.declared.image.Piece.{Piece}
use Rattle.swd_image_files.specs.declared.image.Pieces.{Pieces}

pub record ImageFileContents : Type 0 where
  pub ranges : List Range
  pub bytes : List ℕ

abbrev pub image_file_nothing : ImageFileContents
image_file_nothing = record { ranges = []; bytes = [] }

abbrev pub image_file_range : ℕ → ℕ → Range
image_file_range addr len = record { addr = addr; len = len }

-- the ranges with a further one. It joins the last if it continues it.
abbrev pub image_file_ranges_joined : List Range → ℕ → ℕ → List Range
image_file_ranges_joined [] addr len = image_file_range addr len ∷ []
image_file_ranges_joined (last ∷ []) addr len =
    if last.addr + last.len == addr then image_file_range last.addr (last.len + len) ∷ [] else last
    ∷ image_file_range addr len ∷ []
image_file_ranges_joined (first ∷ next ∷ ranges) addr len = first ∷ image_file_ranges_joined (next ∷ ranges) addr len

-- the image with these bytes at an address. No bytes add nothing.
abbrev pub image_file_add_data : ImageFileContents → ℕ → List ℕ → ImageFileContents
image_file_add_data old addr bytes =
    if length bytes == 0 then old else
    record { ranges = image_file_ranges_joined old.ranges addr (length bytes); bytes = old.bytes ++ bytes }

-- an image
abbrev pub contents_of_image : {A : Type 0} → Image A → ImageFileContents
contents_of_image image = record { ranges = image.ranges.items; bytes = image.bytes.items }

-- bytes at consecutive addresses
pub record ImageFileBytes : Type 0 where
  pub addr : ℕ
  pub bytes : List ℕ

-- the pieces: each range with its bytes
abbrev pub image_file_pieces : List Range → List ℕ → List ImageFileBytes
image_file_pieces [] bytes = []
image_file_pieces (first ∷ ranges) bytes =
    record { addr = first.addr; bytes = take first.len bytes } ∷ image_file_pieces ranges (drop first.len bytes)

abbrev pub image_file_piece : Piece → ImageFileBytes
image_file_piece piece = record { addr = piece.addr; bytes = piece.bytes.now }

-- those that an iterator has left
abbrev pub image_file_pieces_left : Pieces → List ImageFileBytes
image_file_pieces_left pieces = image_file_pieces pieces.ranges.now pieces.bytes.now
