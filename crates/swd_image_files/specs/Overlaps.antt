-- Addresses that two pieces have.
use Rattle.std.specs.Prelude.{ℕ, ◌+◌, ◌^◌, ◌<◌, ◌≤◌, nat_le, nat_lt, ◌&&◌, List, [], ◌∷◌, Option, Some, None}
use Rattle.std.specs.Prelude.{if◌then◌else◌}
use Rattle.std.specs.List.{sum_by}
use Rattle.swd_image_files.specs.declared.image.Range.{Range}

-- 1 if a range has an address
abbrev pub image_range_has : ℕ → Range → ℕ
image_range_has at range = if nat_le range.addr at && nat_lt at (range.addr + range.len) then 1 else 0

-- how many ranges have an address
abbrev pub image_range_times : List Range → ℕ → ℕ
image_range_times ranges at = sum_by (image_range_has at) ranges

-- no two ranges have an address
abbrev pub AreImageRangesApart : List Range → Type 0
AreImageRangesApart ranges = (at : ℕ) → image_range_times ranges at ≤ 1

-- the lowest address that two ranges have
pub record IsLowestImageOverlap (ranges : List Range) (addr : ℕ) : Type 0 where
  pub twice : 2 ≤ image_range_times ranges addr
  pub first : (at : ℕ) → at < addr → image_range_times ranges at ≤ 1

-- a range of some addresses below 2^32
pub record IsSoundImageRange (range : Range) : Type 0 where
  pub some : 0 < range.len
  pub fits : range.addr + range.len ≤ 2 ^ 32

-- the first address of the first range that begins before the end of the range before it
abbrev pub first_image_overlap_from : ℕ → List Range → Option ℕ
first_image_overlap_from end [] = None
first_image_overlap_from end (range ∷ ranges) =
    if nat_lt range.addr end then Some range.addr else first_image_overlap_from (range.addr + range.len) ranges
