-- Files that are written are read back, in each format: for `laws::written_files_are_read`.
use Rattle.std.proofs.Common.{◌≡◌, ℕ, ◌+◌, ◌^◌, ◌≤◌, List, [], ◌∷◌, length, ap, refl, sym, cond, Ok, Err}
use Rattle.std.proofs.Common.{arith, inl, inr, subst, true, false}
use Rattle.std.specs.Prelude.{Result, nat_le, nat_lt, ◌&&◌}
use Rattle.std.proofs.lemmas.Bool.{cases_lt, le-leb}
use Rattle.swd_image_files.specs.declared.fault.ImageFileFault.{ImageFileFault}
use Rattle.swd_image_files.specs.declared.fault.ImageFileFault.TheVariants.{Range}
use Rattle.swd_image_files.specs.declared.format.Format.{Format}
use Rattle.swd_image_files.specs.declared.format.Format.TheVariants.{Binary, IntelHex, SRecord}
use Rattle.swd_image_files.specs.declared.image.Range.{Range as Addresses}
use Rattle.swd_image_files.specs.declared.kind.RecordFormat.TheVariants.{Intel, Motorola}
use Rattle.swd_image_files.specs.Images.{ImageFileContents, image_file_add_data, image_file_nothing, image_file_range}
use Rattle.swd_image_files.specs.Laws.{ReadsBack}
use Rattle.swd_image_files.specs.Overlaps.{AreImageRangesApart}
use Rattle.swd_image_files.specs.Places.{image_file_start}
use Rattle.swd_image_files.proofs.BackLemmas.{IsImageFilePlaceAt, image_file_data_read_back}
use Rattle.swd_image_files.proofs.ImageLemmas.{image_file_add_no_bytes, image_file_add_bytes}

one_apart : (r : Addresses) → AreImageRangesApart (r ∷ [])
one_apart r = λ at.
    elim (nat_le r.addr at && nat_lt at (r.addr + r.len)) as (λ b. 0 + cond b 1 0 ≤ 1)
    [ true ↦ omega arith | false ↦ omega arith ]

-- one piece overlaps nothing
piece_apart : (addr : ℕ) (bytes : List ℕ) → AreImageRangesApart
    (image_file_add_data image_file_nothing addr bytes).ranges
piece_apart addr bytes = elim (cases_lt 0 (length bytes)) [
  | inl some ↦ subst (λ (i : ImageFileContents). AreImageRangesApart i.ranges)
      (sym (image_file_add_bytes image_file_nothing addr bytes some)) (one_apart (image_file_range addr (length bytes)))
  | inr none ↦ subst (λ (i : ImageFileContents). AreImageRangesApart i.ranges)
      (sym (image_file_add_no_bytes image_file_nothing addr bytes (let e : length bytes ≡ 0 = omega arith in e)))
      (λ at. omega arith)
]

start_at : IsImageFilePlaceAt (image_file_start 0) 0
start_at = record { offset = refl; based = refl; wraps = refl; ended = refl }

-- in each format
pub image_file_reads_back : (format : Format) → ReadsBack format
image_file_reads_back Binary = λ addr bytes all below. record {
  is =
      let good : Result ImageFileContents ImageFileFault = Ok (image_file_add_data image_file_nothing addr bytes) in
      let bad : Result ImageFileContents ImageFileFault = Err Range in
      ap (λ b. cond b good bad) (le-leb (addr + length bytes) (2 ^ 32) below);
  apart = piece_apart addr bytes;
}
image_file_reads_back IntelHex = λ addr bytes all below. record {
  is = image_file_data_read_back Intel (length bytes) 0 addr bytes (image_file_start 0) image_file_nothing 1
      (omega arith) all below start_at;
  apart = piece_apart addr bytes;
}
image_file_reads_back SRecord = λ addr bytes all below. record {
  is = image_file_data_read_back Motorola (length bytes) 0 addr bytes (image_file_start 0) image_file_nothing 1
      (omega arith) all below start_at;
  apart = piece_apart addr bytes;
}
