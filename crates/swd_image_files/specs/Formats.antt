-- The names of the formats (this project's choice; the extensions are the customary ones).
use Rattle.std.specs.Prelude.{ℕ, ◌-◌, Bool, ◌||◌, List, length, map, drop, codes, Option, Some, None, if◌then◌else◌}
use Rattle.std.specs.Str.{bytes_eq}
use Rattle.std.specs.Char.{to_ascii_lowercase}
use Rattle.swd_image_files.specs.declared.format.Format.{Format}
use Rattle.swd_image_files.specs.declared.format.Format.TheVariants.{Binary, IntelHex, SRecord}

-- the name ends in this extension of lower case, in either case
abbrev pub image_name_ends_in : List ℕ → List ℕ → Bool
image_name_ends_in name extension =
    bytes_eq (map to_ascii_lowercase (drop (length name - length extension) name)) (map to_ascii_lowercase extension)

-- an extension of Intel HEX
abbrev pub is_hex_name : List ℕ → Bool
is_hex_name name =
    image_name_ends_in name (codes ".hex") ||
    (image_name_ends_in name (codes ".ihex") || image_name_ends_in name (codes ".ihx"))

-- an extension of S-records
abbrev pub is_srec_name : List ℕ → Bool
is_srec_name name =
    (image_name_ends_in name (codes ".srec") || image_name_ends_in name (codes ".mot"))
    || (image_name_ends_in name (codes ".s19") ||
    (image_name_ends_in name (codes ".s28") || image_name_ends_in name (codes ".s37")))

-- the format that the extension of a file name stands for
abbrev pub image_format_of_name : List ℕ → Format
image_format_of_name name = if is_hex_name name then IntelHex else (if is_srec_name name then SRecord else Binary)

-- an extension of ELF files
abbrev pub is_elf_image_name : List ℕ → Bool
is_elf_image_name name = image_name_ends_in name (codes ".elf") || image_name_ends_in name (codes ".axf")

-- the format with this word
abbrev pub image_format_of_word : List ℕ → Option Format
image_format_of_word word =
    if bytes_eq word (codes "bin") then Some Binary else
    (if bytes_eq word (codes "hex") then Some IntelHex else
    (if bytes_eq word (codes "srec") then Some SRecord else None))
