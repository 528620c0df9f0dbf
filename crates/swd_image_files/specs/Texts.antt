-- The files that are written.
use Rattle.std.specs.Prelude.{ℕ, zero, suc, ◌+◌, ◌-◌, ◌/◌, ◌%◌, ◌==◌, nat_lt, min, List, [], ◌∷◌, ◌++◌}
use Rattle.std.specs.Prelude.{length, take, drop, sum, codes, if◌then◌else◌}
use Rattle.swd_image_files.specs.declared.format.Format.{Format}
use Rattle.swd_image_files.specs.declared.format.Format.TheVariants.{Binary, IntelHex, SRecord}
use Rattle.swd_image_files.specs.declared.kind.RecordFormat.{RecordFormat}
use Rattle.swd_image_files.specs.declared.kind.RecordFormat.TheVariants.{Intel, Motorola}

-- a hexadecimal digit of upper case
abbrev pub image_file_hex_digit : ℕ → ℕ
image_file_hex_digit value = if nat_lt value 10 then 48 + value else 55 + value

-- the digits of bytes, two for each
abbrev pub image_file_hex_digits : List ℕ → List ℕ
image_file_hex_digits [] = []
image_file_hex_digits (byte ∷ bytes) = image_file_hex_digit (byte / 16) ∷ image_file_hex_digit (byte % 16)
    ∷ image_file_hex_digits bytes

-- an Intel HEX record: length, offset, type, data and checksum
abbrev pub hex_record_head : ℕ → ℕ → List ℕ → List ℕ
hex_record_head offset kind bytes = length bytes ∷ offset / 256 ∷ offset % 256 ∷ kind ∷ []

abbrev pub hex_record_line : ℕ → ℕ → List ℕ → List ℕ
hex_record_line offset kind bytes =
    58 ∷ (image_file_hex_digits (hex_record_head offset kind bytes)
    ++ (image_file_hex_digits bytes ++ image_file_hex_digits
    ((256 - (sum (hex_record_head offset kind bytes) + sum bytes) % 256) % 256 ∷ [])))

-- an S3 record: length, address, data and checksum
abbrev pub srec_head : ℕ → List ℕ → List ℕ
srec_head addr bytes =
    (length bytes + 5) ∷ addr / 16777216 ∷ addr / 65536 % 256 ∷ addr / 256 % 256 ∷ addr % 256 ∷ []

abbrev pub srec_line : ℕ → List ℕ → List ℕ
srec_line addr bytes =
    83 ∷ 51 ∷ (image_file_hex_digits (srec_head addr bytes) ++ (image_file_hex_digits bytes ++ image_file_hex_digits
    ((255 - (sum (srec_head addr bytes) + sum bytes) % 256) ∷ [])))

-- the record of some data
abbrev pub image_file_data_line : RecordFormat → ℕ → List ℕ → List ℕ
image_file_data_line Intel addr bytes = hex_record_line (addr % 65536) 0 bytes
image_file_data_line Motorola addr bytes = srec_line addr bytes

-- the line of an extended linear address record, if the upper half of the address changes
abbrev pub image_file_base_lines : RecordFormat → ℕ → ℕ → List ℕ
image_file_base_lines Intel old new =
    if old == new then [] else hex_record_line 0 4 (new / 256 ∷ new % 256 ∷ []) ++ 10 ∷ []
image_file_base_lines Motorola old new = []

-- how many bytes the record at an address has at most: in Intel HEX none crosses a multiple of 64 KiB
abbrev pub image_file_record_span : RecordFormat → ℕ → ℕ
image_file_record_span Intel addr = min 16 (65536 - addr % 65536)
image_file_record_span Motorola addr = 16

-- how many bytes it has
abbrev pub image_file_data_count : RecordFormat → ℕ → List ℕ → ℕ
image_file_data_count records addr bytes = min (image_file_record_span records addr) (length bytes)

-- the lines of up to `most` records, with this upper half of the address before them
abbrev pub image_file_data_lines : RecordFormat → ℕ → ℕ → ℕ → List ℕ → List ℕ
image_file_data_lines records zero upper addr bytes = []
image_file_data_lines records (suc most) upper addr bytes =
    if length bytes == 0 then [] else image_file_base_lines records upper (addr / 65536)
    ++ (image_file_data_line records addr (take (image_file_data_count records addr bytes) bytes) ++ 10 ∷ [])
    ++ image_file_data_lines records most (addr / 65536) (addr + image_file_data_count records addr bytes)
    (drop (image_file_data_count records addr bytes) bytes)

-- the end record
abbrev pub image_file_end_line : RecordFormat → List ℕ
image_file_end_line Intel = codes ":00000001FF"
image_file_end_line Motorola = codes "S70500000000FA"

-- a file of records
abbrev pub image_file_of_records : RecordFormat → ℕ → List ℕ → List ℕ
image_file_of_records records addr bytes =
    image_file_data_lines records (length bytes) 0 addr bytes ++ (image_file_end_line records ++ 10 ∷ [])

-- the file of an image of one piece
abbrev pub image_file_of_piece : Format → ℕ → List ℕ → List ℕ
image_file_of_piece Binary addr bytes = bytes
image_file_of_piece IntelHex addr bytes = image_file_of_records Intel addr bytes
image_file_of_piece SRecord addr bytes = image_file_of_records Motorola addr bytes
