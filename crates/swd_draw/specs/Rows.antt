-- The rows of a drawing: one for each part. The drawing is this project's choice.
use Rattle.std.specs.Prelude.{ℕ, ◌+◌, ◌*◌, nat_lt, Bool, true, List, [], ◌∷◌, ◌++◌, length, codes, min}
use Rattle.std.specs.Prelude.{if◌then◌else◌}
use Rattle.std.specs.Fmt.{decimal}
use Rattle.swd_bits.specs.declared.tx_bits.TxBits.{TxBits}
use Rattle.swd_trace.specs.Reading.{switch_item}
use Rattle.swd_trace.specs.declared.item.Item.{Item}
use Rattle.swd_trace.specs.declared.item.Item.TheVariants.{Reset, Switch, Idle, Tx, Junk, Cut}
use Rattle.swd_resync.specs.declared.part.Part.{Part}
use Rattle.swd_resync.specs.declared.part.Part.TheVariants.{Item as Told, Phased, Skip}
use Rattle.swd_capture.specs.Printing.{capture_printed_entry}
use Rattle.swd_capture.specs.declared.printed.Printed.{Printed}
use Rattle.swd_capture.specs.declared.printed.Printed.TheVariants.{Lines}
use Rattle.swd_draw.specs.Fields.{drawn_field, drawn_ignored_fields, drawn_tx_fields}
use Rattle.swd_draw.specs.Marks.{box_text, boxes, break_piece, clock_piece, strip_end_bit, name_text, times, waves}
use Rattle.swd_draw.specs.declared.field.Field.{Field}
use Rattle.swd_draw.specs.declared.field.Name.{Name}
use Rattle.swd_draw.specs.declared.field.Name.TheVariants.{Reset as InReset, Idle as InIdle, Skip as InSkip}
use Rattle.swd_draw.specs.declared.field.Name.TheVariants.{Switch as InSwitch, Junk as InJunk, Cut as InCut}
use Rattle.swd_draw.specs.declared.field.Shade.{Shade}
use Rattle.swd_draw.specs.declared.field.Shade.TheVariants.{Host, Unknown, Hidden}

-- ---- runs of equal bits

-- a run is drawn at most 16 bits wide
abbrev pub drawn_bits : ℕ → ℕ
drawn_bits n = if nat_lt n 17 then n else 16

-- longer runs have a break in the middle
unfoldable pub run_wave : List ℕ → ℕ → List ℕ
run_wave piece n = if nat_lt n 17 then times n piece else times 7 piece ++ break_piece ++ times 7 piece

-- the level of SWDIO: a reset is ones and idle cycles are zeros; the bits of a skip aren't drawn
unfoldable pub level_of : Name → List ℕ
level_of InReset = codes "V48h12"
level_of InIdle = codes "V64h12"
level_of other = codes "V56h12"

unfoldable pub shade_of : Name → Shade
shade_of InReset = Host
shade_of InIdle = Host
shade_of other = Hidden

-- the waves of SWCLK and SWDIO, and the box, which has the count
unfoldable pub run_body : Name → ℕ → List ℕ
run_body name n =
    codes "<path d='M58,40h6" ++ run_wave clock_piece n ++ codes "'/><path d='M58,56h6" ++ run_wave (level_of name) n
    ++ codes "'/>" ++ box_text 0 (drawn_bits n) (shade_of name) (name_text name) (decimal n)

-- ---- fields

-- the waves of SWCLK and SWDIO, and the boxes
unfoldable pub fields_body : List Field → List ℕ
fields_body fields =
    codes "<path d='M58,40h6" ++ times (strip_end_bit 0 fields) clock_piece ++ codes "'/><path d='M58,56h6"
    ++ waves fields ++ codes "'/>" ++ boxes 0 fields

-- a cut end is a field of its bits, which are at most 49
abbrev pub drawn_cut_field : TxBits → Field
drawn_cut_field bits =
    record { name = InCut; shade = Unknown; bits = record { len = min bits.len 49; bits = bits.bits } }

abbrev pub drawn_item_body : Item → List ℕ
drawn_item_body (Reset n) = run_body InReset n
drawn_item_body Switch = fields_body (drawn_field InSwitch Host switch_item ∷ [])
drawn_item_body (Idle n) = run_body InIdle n
drawn_item_body (Tx tx) = fields_body (drawn_tx_fields tx ++ drawn_ignored_fields 0)
drawn_item_body (Junk b) = fields_body (drawn_field InJunk Unknown (b ∷ []) ∷ [])
drawn_item_body (Cut bits) = fields_body (drawn_cut_field bits ∷ [])

abbrev pub drawn_part_body : Part → List ℕ
drawn_part_body (Told item) = drawn_item_body item
drawn_part_body (Phased tx) = fields_body (drawn_tx_fields tx ++ drawn_ignored_fields 33)
drawn_part_body (Skip n) = run_body InSkip n

-- ---- rows

-- the line of a part: its place, and its line in the listing, with names of registers or not
abbrev pub drawn_line_form : Bool → Printed
drawn_line_form names = Lines (record { places = true; names = names })

-- the top of a row
abbrev pub drawing_row_top : ℕ → ℕ
drawing_row_top n = 64 + 140 * n

unfoldable pub row_head : ℕ → List ℕ
row_head n = codes "<g transform='translate(0," ++ decimal (drawing_row_top n)
    ++ codes ")'><text x='10' y='14' class='l'>"

unfoldable pub row_names : List ℕ
row_names = codes "</text><text x='10' y='36'>SWCLK</text><text x='10' y='60'>SWDIO</text>"

unfoldable pub row_end : List ℕ
row_end = codes "</g>" ++ 10 ∷ []

-- the row of a part after others
abbrev pub drawing_row : Bool → List Part → Part → List ℕ
drawing_row names before part =
    row_head (length before) ++ capture_printed_entry (drawn_line_form names) before part ++ row_names
    ++ drawn_part_body part ++ row_end

-- the rows of parts after others
abbrev pub drawing_rows : Bool → List Part → List Part → List ℕ
drawing_rows names before [] = []
drawing_rows names before (part ∷ parts) =
    drawing_row names before part ++ drawing_rows names (before ++ part ∷ []) parts
