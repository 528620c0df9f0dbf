-- The files that lead to a target, by their argument IN,OUT.
use Rattle.std.specs.Prelude.{◌==◌, ℕ, Bool, List, length, if◌then◌else◌}
use Rattle.std.specs.List.{after_first, before_first, position_or_len}

-- a comma parts them
abbrev pub is_line_comma : ℕ → Bool
is_line_comma byte = byte == 44

-- the file to read is named before the first comma
abbrev pub line_file_from : List ℕ → List ℕ
line_file_from files = before_first is_line_comma files

-- the file to write is named after it; without a comma it is the same file
abbrev pub line_file_to : List ℕ → List ℕ
line_file_to files =
    if position_or_len is_line_comma files == length files then files else after_first is_line_comma files
