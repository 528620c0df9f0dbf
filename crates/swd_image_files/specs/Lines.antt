-- The lines of a file of records.
use Rattle.std.specs.Prelude.{ℕ, ◌-◌, Bool, ◌==◌, ◌||◌, List, length, map, position, slice_index, take, unwrap_or}
use Rattle.std.specs.Prelude.{if◌then◌else◌}
use Rattle.std.specs.List.{list_all, slice_split}

-- a line feed
abbrev pub is_image_file_feed : ℕ → Bool
is_image_file_feed byte = byte == 10

-- how many bytes come before the first line feed
abbrev pub image_file_line_len : List ℕ → ℕ
image_file_line_len text = unwrap_or (position is_image_file_feed text) (length text)

-- a line without the carriage return (13) at its end
abbrev pub image_file_without_return : List ℕ → List ℕ
image_file_without_return line =
    if slice_index line (length line - 1) == 13 then take (length line - 1) line else line

-- the lines of a file, without their line ends: they end in a line feed, or a carriage return and a line feed. The
-- last line, which may be empty, ends with the file.
abbrev pub image_file_lines : List ℕ → List (List ℕ)
image_file_lines text = map image_file_without_return (slice_split is_image_file_feed text)

-- only spaces (32) and tabs (9)
abbrev pub is_image_file_blank_line : List ℕ → Bool
is_image_file_blank_line line = list_all (λ byte. (byte == 32) || (byte == 9)) line
