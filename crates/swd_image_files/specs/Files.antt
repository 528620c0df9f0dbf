-- What an image file means, or its first error.
use Rattle.std.specs.Prelude.{◌≡◌, ℕ, ◌+◌, ◌^◌, nat_le, Bool, true, false, ◌||◌, List, [], ◌∷◌, length, take}
use Rattle.std.specs.Prelude.{Result, Ok, Err, IsOk, is_ok, if◌then◌else◌}
use Rattle.swd_image_files.specs.declared.fault.ImageFileFault.{ImageFileFault}
use Rattle.swd_image_files.specs.declared.fault.ImageFileFault.TheVariants.{Line, NoEnd, Range, Elf, Overlap, Memory}
use Rattle.swd_image_files.specs.declared.elf.ElfChoice.{ElfChoice}
use Rattle.swd_image_files.specs.declared.elf.ElfChoice.TheVariants.{Auto, Always, Never}
use Rattle.swd_image_files.specs.declared.fault.ElfFlaw.{ElfFlaw}
use Rattle.swd_image_files.specs.declared.fault.LineFlaw.{LineFlaw}
use Rattle.swd_image_files.specs.declared.format.Format.{Format}
use Rattle.swd_image_files.specs.declared.format.Format.TheVariants.{Binary, IntelHex, SRecord}
use Rattle.swd_image_files.specs.declared.kind.RecordFormat.{RecordFormat}
use Rattle.swd_image_files.specs.declared.kind.RecordFormat.TheVariants.{Intel, Motorola}
use Rattle.swd_image_files.specs.declared.place.RecordState.{RecordState}
use Rattle.swd_image_files.specs.Elf.{elf_contents, is_elf_file}
use Rattle.swd_image_files.specs.Images.{ImageFileContents, image_file_add_data, image_file_nothing}
use Rattle.swd_image_files.specs.Lines.{image_file_line_len, image_file_lines, image_file_without_return}
use Rattle.swd_image_files.specs.Overlaps.{AreImageRangesApart, IsLowestImageOverlap}
use Rattle.swd_image_files.specs.Places.{image_file_after_line, image_file_next_number, image_file_start}
use Rattle.swd_image_files.specs.Places.{image_file_with_line}
use Rattle.swd_image_files.specs.Records.{image_file_record_bytes}

-- the image, if an end record came
abbrev pub image_file_at_end : Bool → ImageFileContents → Result ImageFileContents ImageFileFault
image_file_at_end came old = if came then Ok old else Err NoEnd

-- the result of a line with this number, or what follows from the place after it
abbrev pub image_file_then_lines : ℕ → (RecordState → Result ImageFileContents ImageFileFault)
    → Result RecordState LineFlaw → Result ImageFileContents ImageFileFault
image_file_then_lines number rest (Ok place) = rest place
image_file_then_lines number rest (Err flaw) = Err (Line number flaw)

-- what some lines make of an image, from the line with this number on; or the first error
abbrev pub image_file_after_lines : RecordFormat → RecordState → ImageFileContents → ℕ → List (List ℕ)
    → Result ImageFileContents ImageFileFault
image_file_after_lines records place old number [] = image_file_at_end place.ended old
image_file_after_lines records place old number (line ∷ rest) =
    image_file_then_lines number (λ after. image_file_after_lines records after
    (image_file_with_line records place line old) (image_file_next_number number) rest)
    (image_file_after_line records place line)

-- the image of a file of records, with this offset added to each address
abbrev pub image_file_of_lines : RecordFormat → ℕ → List ℕ → Result ImageFileContents ImageFileFault
image_file_of_lines records offset text = image_file_after_lines records (image_file_start offset) image_file_nothing 1
    (image_file_lines text)

-- the image of a binary file: one piece
abbrev pub image_file_of_binary : ℕ → List ℕ → Result ImageFileContents ImageFileFault
image_file_of_binary base bytes =
    if nat_le (base + length bytes) (2 ^ 32) then Ok (image_file_add_data image_file_nothing base bytes) else Err Range

-- the image of a file, addresses that two pieces have left aside
abbrev pub image_file_contents : Format → ℕ → List ℕ → Result ImageFileContents ImageFileFault
image_file_contents Binary base bytes = image_file_of_binary base bytes
image_file_contents IntelHex base bytes = image_file_of_lines Intel base bytes
image_file_contents SRecord base bytes = image_file_of_lines Motorola base bytes

-- the image of an ELF file, addresses that two segments have left aside
abbrev pub image_file_elf_result : Result ImageFileContents ElfFlaw → Result ImageFileContents ImageFileFault
image_file_elf_result (Ok image) = Ok image
image_file_elf_result (Err flaw) = Err (Elf flaw)

abbrev pub image_file_of_elf : ℕ → List ℕ → Result ImageFileContents ImageFileFault
image_file_of_elf base bytes = image_file_elf_result (elf_contents base bytes)

-- the format of which a line is a record, by its digits, its length and its checksum
abbrev pub image_format_of_line : List ℕ → Format
image_format_of_line line =
    if is_ok (image_file_record_bytes Intel line) then IntelHex else
    (if is_ok (image_file_record_bytes Motorola line) then SRecord else Binary)

-- the first line of a file
abbrev pub image_file_head_line : List ℕ → List ℕ
image_file_head_line bytes = image_file_without_return (take (image_file_line_len bytes) bytes)

-- the format of a file that isn't ELF: one that is a binary by its name may begin with a record
abbrev pub image_format_begun : Format → List ℕ → Format
image_format_begun Binary bytes = image_format_of_line (image_file_head_line bytes)
image_format_begun IntelHex bytes = IntelHex
image_format_begun SRecord bytes = SRecord

-- the image of a file that may be ELF: with Auto it is where it begins as such a file, and a binary where it doesn't
-- begin as a file of records either
abbrev pub image_file_or_elf : ElfChoice → Format → ℕ → List ℕ → Result ImageFileContents ImageFileFault
image_file_or_elf Auto format base bytes =
    if is_elf_file bytes then image_file_of_elf base bytes else
    image_file_contents (image_format_begun format bytes) base bytes
image_file_or_elf Always format base bytes = image_file_of_elf base bytes
image_file_or_elf Never format base bytes = image_file_contents format base bytes

-- a format has addresses of its own
abbrev pub is_addressed_format : Format → Bool
is_addressed_format Binary = false
is_addressed_format IntelHex = true
is_addressed_format SRecord = true

-- a file that may be ELF has addresses of its own, to which the base is added
abbrev pub has_image_file_addresses : ElfChoice → Format → List ℕ → Bool
has_image_file_addresses Auto format bytes =
    is_elf_file bytes || is_addressed_format (image_format_begun format bytes)
has_image_file_addresses Always format bytes = true
has_image_file_addresses Never format bytes = is_addressed_format format

-- a result is this image, in which no two pieces have an address
pub record IsImageIn (meaning : Result ImageFileContents ImageFileFault) (image : ImageFileContents) : Type 0 where
  pub is : meaning ≡ Ok image
  pub apart : AreImageRangesApart image.ranges

-- a file has this image
abbrev pub IsImage : Format → ℕ → List ℕ → ImageFileContents → Type 0
IsImage format base bytes image = IsImageIn (image_file_contents format base bytes) image

-- an ELF file has this image
abbrev pub IsElfImage : ℕ → List ℕ → ImageFileContents → Type 0
IsElfImage base bytes image = IsImageIn (image_file_of_elf base bytes) image

-- a file that may be ELF has this image
abbrev pub IsImageOrElf : ElfChoice → Format → ℕ → List ℕ → ImageFileContents → Type 0
IsImageOrElf elf format base bytes image = IsImageIn (image_file_or_elf elf format base bytes) image

-- the first error by a result, the addresses that two pieces have last; or memory ran out, which leaves those open
abbrev pub IsImageFileFaultIn : Result ImageFileContents ImageFileFault → ImageFileFault → Type 0
IsImageFileFaultIn meaning (Line line flaw) = meaning ≡ Err (Line line flaw)
IsImageFileFaultIn meaning NoEnd = meaning ≡ Err NoEnd
IsImageFileFaultIn meaning Range = meaning ≡ Err Range
IsImageFileFaultIn meaning (Elf flaw) = meaning ≡ Err (Elf flaw)
IsImageFileFaultIn meaning (Overlap addr) = (image : ImageFileContents) × (meaning ≡ Ok image)
    × IsLowestImageOverlap image.ranges addr
IsImageFileFaultIn meaning Memory = IsOk meaning

-- the first error of a file
abbrev pub IsImageFileFault : Format → ℕ → List ℕ → ImageFileFault → Type 0
IsImageFileFault format base bytes fault = IsImageFileFaultIn (image_file_contents format base bytes) fault

-- the first error of an ELF file, and of a file that may be ELF
abbrev pub IsElfFileFault : ℕ → List ℕ → ImageFileFault → Type 0
IsElfFileFault base bytes fault = IsImageFileFaultIn (image_file_of_elf base bytes) fault

abbrev pub IsImageOrElfFault : ElfChoice → Format → ℕ → List ℕ → ImageFileFault → Type 0
IsImageOrElfFault elf format base bytes fault = IsImageFileFaultIn (image_file_or_elf elf format base bytes) fault
