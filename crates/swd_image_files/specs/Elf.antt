-- ELF files: the ELF header and the program headers (System V Application Binary Interface, chapters 4, "Object
-- Files", and 5, "Program Loading"). The project reads 32-bit little-endian executables for Arm.
use Rattle.std.specs.Prelude.{ℕ, zero, suc, ◌+◌, ◌*◌, ◌^◌, ◌≤◌, ◌==◌, nat_le, nat_lt, Bool, false, ◌&&◌, not, List}
use Rattle.std.specs.Prelude.{[], ◌∷◌, length, drop, slice_index, slice_range, Option, Some, None, Result, Ok, Err}
use Rattle.std.specs.Prelude.{if◌then◌else◌}
use Rattle.swd_image_files.specs.declared.elf.ProgramHeader.{ProgramHeader}
use Rattle.swd_image_files.specs.declared.elf.ProgramTable.{ProgramTable}
use Rattle.swd_image_files.specs.declared.fault.ElfFlaw.{ElfFlaw}
use Rattle.swd_image_files.specs.declared.fault.ElfFlaw.TheVariants.{Magic, Header, Class, ByteOrder, Version}
use Rattle.swd_image_files.specs.declared.fault.ElfFlaw.TheVariants.{Machine, FileType, Count, EntrySize}
use Rattle.swd_image_files.specs.declared.fault.ElfFlaw.TheVariants.{Table, Segment, Range}
use Rattle.swd_image_files.specs.Images.{ImageFileContents, image_file_add_data, image_file_nothing}

-- a number of two bytes (Elf32_Half) at a place, the least significant first (ELFDATA2LSB)
abbrev pub elf_half : List ℕ → ℕ → ℕ
elf_half bytes at = slice_index bytes at + 256 * slice_index bytes (at + 1)

-- one of four bytes (Elf32_Word, Elf32_Addr, Elf32_Off)
abbrev pub elf_word : List ℕ → ℕ → ℕ
elf_word bytes at = elf_half bytes at + 65536 * elf_half bytes (at + 2)

-- the magic number, at the beginning of e_ident: 7f, then E (45), L (4c) and F (46)
abbrev pub is_elf_file : List ℕ → Bool
is_elf_file (first ∷ second ∷ third ∷ fourth ∷ bytes) =
    (first == 127) && ((second == 69) && ((third == 76) && (fourth == 70)))
is_elf_file bytes = false

-- the first flaw of the ELF header, which has 52 bytes: e_ident with EI_CLASS (1 is ELFCLASS32) at 4, EI_DATA (1 is
-- ELFDATA2LSB) at 5 and EI_VERSION (1 is EV_CURRENT) at 6; e_type (2 is ET_EXEC) at 16; e_machine (40 is EM_ARM) at 18;
-- and e_version at 20. Which flaw goes first is this project's choice.
abbrev pub elf_header_flaw : List ℕ → Option ElfFlaw
elf_header_flaw bytes =
    if not (is_elf_file bytes) then Some Magic else
    (if nat_lt (length bytes) 52 then Some Header else
    (if not (slice_index bytes 4 == 1) then Some (Class (slice_index bytes 4)) else
    (if not (slice_index bytes 5 == 1) then Some (ByteOrder (slice_index bytes 5)) else
    (if not ((slice_index bytes 6 == 1) && (elf_word bytes 20 == 1)) then Some Version else
    (if not (elf_half bytes 18 == 40) then Some (Machine (elf_half bytes 18)) else
    (if not (elf_half bytes 16 == 2) then Some (FileType (elf_half bytes 16)) else None))))))

abbrev pub elf_table_at : ℕ → ℕ → ProgramTable
elf_table_at start count = record { start = start; count = count }

-- where the program headers are, each of 32 bytes: e_phoff is at 28, e_phentsize at 42 and e_phnum at 44. With ffff
-- (PN_XNUM) for their number it is in a section header, which isn't read.
abbrev pub elf_table_of : List ℕ → ℕ → ℕ → Result ProgramTable ElfFlaw
elf_table_of bytes start count =
    if count == 0 then Ok (elf_table_at 0 0) else
    (if count == 65535 then Err Count else
    (if not (elf_half bytes 42 == 32) then Err EntrySize else
    (if nat_le (start + 32 * count) (length bytes) then Ok (elf_table_at start count) else Err Table)))

abbrev pub elf_table_unless : Option ElfFlaw → Result ProgramTable ElfFlaw → Result ProgramTable ElfFlaw
elf_table_unless (Some flaw) table = Err flaw
elf_table_unless None table = table

abbrev pub elf_table : List ℕ → Result ProgramTable ElfFlaw
elf_table bytes =
    elf_table_unless (elf_header_flaw bytes) (elf_table_of bytes (elf_word bytes 28) (elf_half bytes 44))

-- a table is within a file of this length
abbrev pub IsElfTableWithin : ℕ → ProgramTable → Type 0
IsElfTableWithin len table = table.start + 32 * table.count ≤ len

-- a program header: p_type is at 0, p_offset at 4, p_paddr at 12 and p_filesz at 16. Nothing depends on the others:
-- p_vaddr at 8, p_memsz at 20, p_flags at 24 and p_align at 28.
abbrev pub elf_program_header : List ℕ → ProgramHeader
elf_program_header bytes = record {
  p_type = elf_word bytes 0;
  p_offset = elf_word bytes 4;
  p_paddr = elf_word bytes 12;
  p_filesz = elf_word bytes 16;
}

-- program headers one after the other
abbrev pub elf_program_headers : ℕ → List ℕ → List ProgramHeader
elf_program_headers zero bytes = []
elf_program_headers (suc more) bytes = elf_program_header bytes ∷ elf_program_headers more (drop 32 bytes)

-- a segment that is loaded (PT_LOAD is 1) and has bytes in the file
abbrev pub is_elf_loaded : ProgramHeader → Bool
is_elf_loaded header = (header.p_type == 1) && nat_lt 0 header.p_filesz

-- its bytes
abbrev pub elf_segment_bytes : List ℕ → ProgramHeader → List ℕ
elf_segment_bytes bytes header = slice_range bytes header.p_offset (header.p_offset + header.p_filesz)

-- the image with the segment of this number: its bytes in the file at its physical address, to which the base is added
abbrev pub elf_with_loaded : List ℕ → ℕ → ℕ → ProgramHeader → ImageFileContents → Result ImageFileContents ElfFlaw
elf_with_loaded bytes base number header old =
    if nat_le (header.p_offset + header.p_filesz) (length bytes)
    then (if nat_le (base + header.p_paddr + header.p_filesz) (2 ^ 32)
    then Ok (image_file_add_data old (base + header.p_paddr) (elf_segment_bytes bytes header)) else Err (Range number))
    else Err (Segment number)

abbrev pub elf_with_segment : List ℕ → ℕ → ℕ → ProgramHeader → ImageFileContents → Result ImageFileContents ElfFlaw
elf_with_segment bytes base number header old =
    if is_elf_loaded header then elf_with_loaded bytes base number header old else Ok old

abbrev pub elf_then : {V W : Type 0} → (V → Result W ElfFlaw) → Result V ElfFlaw → Result W ElfFlaw
elf_then rest (Ok value) = rest value
elf_then rest (Err flaw) = Err flaw

-- what the segments of some program headers make of an image, from the one with this number on; or the first flaw
abbrev pub elf_with_segments : List ℕ → ℕ → ℕ → List ProgramHeader → ImageFileContents
    → Result ImageFileContents ElfFlaw
elf_with_segments bytes base number [] old = Ok old
elf_with_segments bytes base number (header ∷ headers) old =
    elf_then (λ image. elf_with_segments bytes base (number + 1) headers image)
    (elf_with_segment bytes base number header old)

-- the image of an ELF file with this base, addresses that two segments have left aside; or its first flaw
abbrev pub elf_contents : ℕ → List ℕ → Result ImageFileContents ElfFlaw
elf_contents base bytes =
    elf_then (λ table. elf_with_segments bytes base 0 (elf_program_headers table.count (drop table.start bytes))
    image_file_nothing) (elf_table bytes)
