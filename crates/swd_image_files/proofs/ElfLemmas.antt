-- What a program header makes of an image: for `segments.rt`.
use Rattle.std.proofs.Common.{◌≡◌, ℕ, suc, ◌+◌, ◌^◌, ◌≤◌, List, ◌∷◌, drop, length, ap, ap₂, cond, sym, ◌∙◌, true}
use Rattle.std.proofs.Common.{Ok, Err}
use Rattle.std.proofs.lemmas.Bool.{le-leb}
use Rattle.std.specs.Prelude.{Result}
use Rattle.swd_image_files.specs.declared.elf.ProgramHeader.{ProgramHeader}
use Rattle.swd_image_files.specs.declared.fault.ElfFlaw.{ElfFlaw}
use Rattle.swd_image_files.specs.declared.fault.ElfFlaw.TheVariants.{Segment, Range}
use Rattle.swd_image_files.specs.Elf.{elf_program_header, elf_program_headers, elf_segment_bytes, elf_then}
use Rattle.swd_image_files.specs.Elf.{elf_with_loaded, elf_with_segment, elf_with_segments, is_elf_loaded}
use Rattle.swd_image_files.specs.declared.reading.HeldPieces.{HeldPieces}
use Rattle.swd_image_files.specs.declared.reading.Kept.{Kept}
use Rattle.swd_image_files.specs.declared.reading.Kept.TheVariants.{Span, Whole}
use Rattle.swd_image_files.specs.Images.{ImageFileContents, image_file_add_data}
use Rattle.swd_image_files.specs.Readings.{ImageFileHolds, IsImageFileHeld}

-- what has an image has its ranges
pub image_file_held : {A : Type 0} (kept : Kept) (image : ImageFileContents) (held : HeldPieces A)
    → ImageFileHolds image held → IsImageFileHeld kept image held
image_file_held Whole image held holds = holds
image_file_held Span image held holds =
    record { stored = λ fine. ap (λ (i : ImageFileContents). i.ranges) (holds.stored fine); sound = holds.sound }

-- a segment that is loaded, within the file and the addresses
pub elf_loaded_step : (bytes : List ℕ) (base number : ℕ) (header : ProgramHeader) (old : ImageFileContents)
    (part : List ℕ) → is_elf_loaded header ≡ true → header.p_offset + header.p_filesz ≤ length bytes
    → base + header.p_paddr + header.p_filesz ≤ 2 ^ 32 → part ≡ elf_segment_bytes bytes header
    → elf_with_segment bytes base number header old ≡ Ok (image_file_add_data old (base + header.p_paddr) part)
elf_loaded_step bytes base number header old part loaded within below same =
    let kept : Result ImageFileContents ElfFlaw = Ok old in
    let added : List ℕ → Result ImageFileContents ElfFlaw =
    λ l. Ok (image_file_add_data old (base + header.p_paddr) l) in
    let whole = added (elf_segment_bytes bytes header) in
    let past : Result ImageFileContents ElfFlaw = Err (Segment number) in
    let above : Result ImageFileContents ElfFlaw = Err (Range number) in
    ap (λ b. cond b (elf_with_loaded bytes base number header old) kept) loaded
    ∙ ap₂ (λ a b. cond a (cond b whole above) past)
    (le-leb (header.p_offset + header.p_filesz) (length bytes) within)
    (le-leb (base + header.p_paddr + header.p_filesz) (2 ^ 32) below)
    ∙ ap added (sym same)

-- the first of some program headers, and the others
pub elf_next_header : (bytes : List ℕ) (base number left more : ℕ) (rest : List ℕ) (header : ProgramHeader)
    (image : ImageFileContents) → left ≡ suc more → header ≡ elf_program_header rest
    → elf_with_segments bytes base number (elf_program_headers left rest) image
    ≡ elf_with_segments bytes base number (header ∷ elf_program_headers more (drop 32 rest)) image
elf_next_header bytes base number left more rest header image e same =
    ap (λ n. elf_with_segments bytes base number (elf_program_headers n rest) image) e
    ∙ ap (λ h. elf_with_segments bytes base number (h ∷ elf_program_headers more (drop 32 rest)) image) (sym same)

-- the segment of a program header is valid
pub elf_valid_step : (bytes : List ℕ) (base number : ℕ) (header : ProgramHeader) (headers : List ProgramHeader)
    (old new : ImageFileContents) → elf_with_segment bytes base number header old ≡ Ok new
    → elf_with_segments bytes base number (header ∷ headers) old ≡ elf_with_segments bytes base (number + 1) headers new
elf_valid_step bytes base number header headers old new e =
    ap (elf_then (λ image. elf_with_segments bytes base (number + 1) headers image)) e

-- it is invalid
pub elf_flaw_step : (bytes : List ℕ) (base number : ℕ) (header : ProgramHeader) (headers : List ProgramHeader)
    (old : ImageFileContents) (flaw : ElfFlaw) → elf_with_segment bytes base number header old ≡ Err flaw
    → elf_with_segments bytes base number (header ∷ headers) old ≡ Err flaw
elf_flaw_step bytes base number header headers old flaw e =
    ap (elf_then (λ image. elf_with_segments bytes base (number + 1) headers image)) e
