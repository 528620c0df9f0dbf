-- The records of the two formats. Intel HEX: Intel, Hexadecimal Object File Format Specification, revision A, 1988,
-- chapters 2 to 8. S-records: Motorola, M68000 Family Programmer's Reference Manual, appendix C.
use Rattle.std.specs.Prelude.{ℕ, ◌+◌, ◌-◌, ◌*◌, ◌%◌, ◌<◌, ◌==◌, nat_le, Bool, true, false, ◌||◌, ◌&&◌, List, [], ◌∷◌}
use Rattle.std.specs.Prelude.{length, slice_index, slice_range, sum, Result, Ok, Err, if◌then◌else◌}
use Rattle.std.specs.List.{list_all}
use Rattle.swd_image_files.specs.declared.fault.LineFlaw.{LineFlaw}
use Rattle.swd_image_files.specs.declared.fault.LineFlaw.TheVariants.{BadStart, BadDigit, BadLength}
use Rattle.swd_image_files.specs.declared.fault.LineFlaw.TheVariants.{BadChecksum, BadType}
use Rattle.swd_image_files.specs.declared.kind.RecordKind.{RecordKind}
use Rattle.swd_image_files.specs.declared.kind.RecordKind.TheVariants.{Data, Base, Count, End, Other}
use Rattle.swd_image_files.specs.declared.kind.RecordFormat.{RecordFormat}
use Rattle.swd_image_files.specs.declared.kind.RecordFormat.TheVariants.{Intel, Motorola}
use Rattle.swd_image_files.specs.Digits.{image_file_digit_bytes, image_file_digit_value, is_image_file_digit}

-- Intel HEX: the bytes of a record are its length, which counts the data alone, two of its offset, its type, its
-- data, and a checksum with which their sum is 0 modulo 256 (chapter 2)
abbrev pub hex_record_checked : List ℕ → List ℕ → Result (List ℕ) LineFlaw
hex_record_checked digits bytes =
    if length digits == 2 * (slice_index bytes 0 + 5)
    then (if sum bytes % 256 == 0 then Ok bytes else Err BadChecksum) else Err BadLength

-- they are written in digits behind a colon (58)
abbrev pub hex_bytes : List ℕ → Result (List ℕ) LineFlaw
hex_bytes [] = Err BadStart
hex_bytes (mark ∷ digits) =
    if mark == 58 then (if list_all is_image_file_digit digits then hex_record_checked digits
    (image_file_digit_bytes digits) else Err BadDigit) else Err BadStart

-- S-records: behind the type come the bytes: how many follow, the address, the data, and a checksum that is the ones'
-- complement of the low byte of the sum of the others
abbrev pub srec_checked : ℕ → List ℕ → List ℕ → Result (List ℕ) LineFlaw
srec_checked kind digits bytes =
    if length digits == 2 * (slice_index bytes 0 + 1)
    then (if sum bytes % 256 == 255 then Ok (kind ∷ bytes) else Err BadChecksum) else Err BadLength

abbrev pub srec_digits : List ℕ → Result (List ℕ) LineFlaw
srec_digits [] = Err BadLength
srec_digits (kind ∷ digits) = srec_checked (image_file_digit_value kind) digits (image_file_digit_bytes digits)

-- they are written in digits behind an S (83), the type in one digit. The type goes first here, too.
abbrev pub srec_bytes : List ℕ → Result (List ℕ) LineFlaw
srec_bytes [] = Err BadStart
srec_bytes (mark ∷ digits) =
    if mark == 83 then (if list_all is_image_file_digit digits then srec_digits digits else Err BadDigit) else Err
    BadStart

-- the bytes of the record in a line, or what is wrong with it
abbrev pub image_file_record_bytes : RecordFormat → List ℕ → Result (List ℕ) LineFlaw
image_file_record_bytes Intel line = hex_bytes line
image_file_record_bytes Motorola line = srec_bytes line

-- the number of two bytes from a place on, the more significant first
abbrev pub image_file_two_bytes : List ℕ → ℕ → ℕ
image_file_two_bytes bytes at = 256 * slice_index bytes at + slice_index bytes (at + 1)

-- the number of 2, 3 or 4 bytes behind the first two, the most significant first
abbrev pub image_file_number : List ℕ → ℕ → ℕ
image_file_number bytes width =
    if width == 2 then image_file_two_bytes bytes 2 else
    (if width == 3 then 256 * image_file_two_bytes bytes 2 + slice_index bytes 4 else
    (if width == 4 then 65536 * image_file_two_bytes bytes 2 + image_file_two_bytes bytes 4 else 0))

-- a record whose type fixes its length
abbrev pub image_file_sized_kind : Bool → RecordKind → Result RecordKind LineFlaw
image_file_sized_kind right kind = if right then Ok kind else Err BadLength

-- a record with the base of the addresses that follow, in these units
abbrev pub image_file_base_kind : List ℕ → ℕ → Bool → Result RecordKind LineFlaw
image_file_base_kind bytes unit wraps = image_file_sized_kind (length bytes == 7)
    (Base (unit * image_file_two_bytes bytes 4) wraps)

-- Intel HEX: 0 data (chapter 5), 1 end of file (chapter 8), 2 extended segment address, in paragraphs of 16 bytes,
-- within whose 64 KiB addresses wrap (chapter 4), 4 extended linear address, the upper 16 bits, where they don't wrap
-- (chapter 3), 3 and 5 a start address (chapters 7 and 6)
abbrev pub hex_record_typed : List ℕ → ℕ → Result RecordKind LineFlaw
hex_record_typed bytes kind =
    if kind == 0 then Ok (Data (image_file_two_bytes bytes 1) 4) else
    (if kind == 1 then image_file_sized_kind (length bytes == 5) End else
    (if kind == 2 then image_file_base_kind bytes 16 true else
    (if kind == 4 then image_file_base_kind bytes 65536 false else
    (if (kind == 3) || (kind == 5) then image_file_sized_kind (length bytes == 9) Other else Err BadType))))

abbrev pub hex_record_kind : List ℕ → Result RecordKind LineFlaw
hex_record_kind bytes = if nat_le 5 (length bytes) then hex_record_typed bytes (slice_index bytes 3) else Err BadLength

-- S-records: S0 a header, S1, S2 and S3 data at an address of 2, 3 and 4 bytes, S5 and S6 a count in 2 and 3 bytes,
-- S7, S8 and S9 the end, with a start address of 4, 3 and 2 bytes
abbrev pub srec_typed : List ℕ → ℕ → Result RecordKind LineFlaw
srec_typed bytes kind =
    if kind == 0 then image_file_sized_kind (nat_le 5 (length bytes)) Other else
    (if nat_le kind 3
    then image_file_sized_kind (nat_le (kind + 4) (length bytes)) (Data (image_file_number bytes (kind + 1)) (kind + 3))
    else (if (kind == 5) || (kind == 6) then image_file_sized_kind (length bytes == kind)
    (Count (image_file_number bytes (kind - 3))) else
    (if nat_le 7 kind && nat_le kind 9 then image_file_sized_kind (length bytes == 14 - kind) End else Err BadType)))

abbrev pub srec_kind : List ℕ → Result RecordKind LineFlaw
srec_kind [] = Err BadLength
srec_kind (kind ∷ bytes) = srec_typed (kind ∷ bytes) kind

-- what a record says, by its bytes
abbrev pub image_file_record_kind : RecordFormat → List ℕ → Result RecordKind LineFlaw
image_file_record_kind Intel bytes = hex_record_kind bytes
image_file_record_kind Motorola bytes = srec_kind bytes

-- the data of a record: its bytes from a place to its checksum
abbrev pub image_file_record_field : List ℕ → ℕ → List ℕ
image_file_record_field bytes from = slice_range bytes from (length bytes - 1)

-- the data of a record of this length begins before its checksum
abbrev pub IsWithinImageRecord : ℕ → RecordKind → Type 0
IsWithinImageRecord len (Data addr from) = from < len
IsWithinImageRecord len (Base at wraps) = Unit {0}
IsWithinImageRecord len (Count count) = Unit {0}
IsWithinImageRecord len End = Unit {0}
IsWithinImageRecord len Other = Unit {0}
