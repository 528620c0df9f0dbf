-- Where the lines of a file lead, and the data that they add.
use Rattle.std.specs.Prelude.{ℕ, ◌+◌, ◌-◌, ◌^◌, ◌==◌, nat_le, min, Bool, true, false, ◌||◌, ◌&&◌, List, length, take}
use Rattle.std.specs.Prelude.{drop, Result, Ok, Err, if◌then◌else◌}
use Rattle.swd_image_files.specs.declared.fault.LineFlaw.{LineFlaw}
use Rattle.swd_image_files.specs.declared.fault.LineFlaw.TheVariants.{AfterEnd, BadCount, Range}
use Rattle.swd_image_files.specs.declared.kind.RecordKind.{RecordKind}
use Rattle.swd_image_files.specs.declared.kind.RecordKind.TheVariants.{Data, Base, Count, End, Other}
use Rattle.swd_image_files.specs.declared.kind.RecordFormat.{RecordFormat}
use Rattle.swd_image_files.specs.declared.place.RecordState.{RecordState}
use Rattle.swd_image_files.specs.Images.{ImageFileContents, image_file_add_data}
use Rattle.swd_image_files.specs.Lines.{is_image_file_blank_line}
use Rattle.swd_image_files.specs.Records.{image_file_record_field, image_file_record_bytes, image_file_record_kind}

-- before the first line: addresses count from 0, with this offset
abbrev pub image_file_start : ℕ → RecordState
image_file_start offset = record { offset = offset; base = 0; wraps = false; records = 0; ended = false }

-- at most 2^64 - 1
abbrev pub image_file_next_number : ℕ → ℕ
image_file_next_number number = min (number + 1) (2 ^ 64 - 1)

-- how many of `len` bytes come before the addresses wrap, in a segment at its end of 64 KiB (chapter 4)
abbrev pub image_file_wrap_room : RecordState → ℕ → ℕ → ℕ
image_file_wrap_room place addr len = if place.wraps then min (65536 - addr) len else len

-- no bytes, or all at addresses below 2^32
abbrev pub image_file_data_fits : ℕ → ℕ → Bool
image_file_data_fits addr len = (len == 0) || nat_le (addr + len) (2 ^ 32)

-- the address of the base, with the offset
abbrev pub image_file_place_base : RecordState → ℕ
image_file_place_base place = place.offset + place.base

-- after a data record with `len` bytes, of which the first `image_file_wrap_room` lie at its address, and the others
-- at the base
abbrev pub image_file_after_data : RecordState → ℕ → ℕ → Result RecordState LineFlaw
image_file_after_data place addr len =
    if image_file_data_fits (image_file_place_base place + addr) (image_file_wrap_room place addr len) &&
    image_file_data_fits (image_file_place_base place) (len - image_file_wrap_room place addr len) then Ok
    (record place { records = image_file_next_number place.records }) else Err Range

-- the image with this data
abbrev pub image_file_with_data : RecordState → ℕ → List ℕ → ImageFileContents → ImageFileContents
image_file_with_data place addr bytes old =
    image_file_add_data (image_file_add_data old (image_file_place_base place + addr)
    (take (image_file_wrap_room place addr (length bytes)) bytes)) (image_file_place_base place)
    (drop (image_file_wrap_room place addr (length bytes)) bytes)

-- after a record
abbrev pub image_file_after_kind : RecordState → RecordKind → List ℕ → Result RecordState LineFlaw
image_file_after_kind place (Data addr from) bytes =
    image_file_after_data place addr (length (image_file_record_field bytes from))
image_file_after_kind place (Base at wraps) bytes = Ok (record place { base = at; wraps = wraps })
image_file_after_kind place (Count count) bytes = if count == place.records then Ok place else Err BadCount
image_file_after_kind place End bytes = Ok (record place { ended = true })
image_file_after_kind place Other bytes = Ok place

-- the image with its data
abbrev pub image_file_with_kind : RecordState → RecordKind → List ℕ → ImageFileContents → ImageFileContents
image_file_with_kind place (Data addr from) bytes old =
    image_file_with_data place addr (image_file_record_field bytes from) old
image_file_with_kind place (Base at wraps) bytes old = old
image_file_with_kind place (Count count) bytes old = old
image_file_with_kind place End bytes old = old
image_file_with_kind place Other bytes old = old

abbrev pub image_file_after_typed : RecordState → List ℕ → Result RecordKind LineFlaw → Result RecordState LineFlaw
image_file_after_typed place bytes (Ok kind) = image_file_after_kind place kind bytes
image_file_after_typed place bytes (Err flaw) = Err flaw

abbrev pub image_file_with_typed : RecordState → List ℕ → Result RecordKind LineFlaw → ImageFileContents
    → ImageFileContents
image_file_with_typed place bytes (Ok kind) old = image_file_with_kind place kind bytes old
image_file_with_typed place bytes (Err flaw) old = old

abbrev pub image_file_after_record : RecordFormat → RecordState → Result (List ℕ) LineFlaw → Result RecordState LineFlaw
image_file_after_record records place (Ok bytes) =
    image_file_after_typed place bytes (image_file_record_kind records bytes)
image_file_after_record records place (Err flaw) = Err flaw

abbrev pub image_file_with_record : RecordFormat → RecordState → Result (List ℕ) LineFlaw → ImageFileContents
    → ImageFileContents
image_file_with_record records place (Ok bytes) old =
    image_file_with_typed place bytes (image_file_record_kind records bytes) old
image_file_with_record records place (Err flaw) old = old

-- after a line: a blank one changes nothing, and nothing else may follow an end record
abbrev pub image_file_after_line : RecordFormat → RecordState → List ℕ → Result RecordState LineFlaw
image_file_after_line records place line =
    if is_image_file_blank_line line then Ok place else
    (if place.ended then Err AfterEnd else image_file_after_record records place (image_file_record_bytes records line))

-- the image with the data of a line
abbrev pub image_file_with_line : RecordFormat → RecordState → List ℕ → ImageFileContents → ImageFileContents
image_file_with_line records place line old =
    if is_image_file_blank_line line then old else
    (if place.ended then old else image_file_with_record records place (image_file_record_bytes records line) old)
