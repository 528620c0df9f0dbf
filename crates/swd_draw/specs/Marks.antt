-- The SVG text of waves and boxes. The drawing is this project's choice.
use Rattle.std.specs.Prelude.{ℕ, zero, suc, ◌+◌, ◌*◌, ◌%◌, ◌^◌, nat_lt, Bool, true, false, List, [], ◌∷◌, ◌++◌, map}
use Rattle.std.specs.Prelude.{codes, if◌then◌else◌, ◌==◌}
use Rattle.std.specs.Fmt.{decimal}
use Rattle.swd_bits.specs.BitLists.{tx_bits_of}
use Rattle.swd_bits.specs.Listing.{hex8}
use Rattle.swd_bits.specs.declared.tx_bits.TxBits.{TxBits}
use Rattle.swd_trace.specs.Texts.{trace_digit}
use Rattle.swd_draw.specs.declared.field.Field.{Field}
use Rattle.swd_draw.specs.declared.field.Name.{Name}
use Rattle.swd_draw.specs.declared.field.Name.TheVariants.{Start, Port, Direction, Address, Parity, Stop, Park}
use Rattle.swd_draw.specs.declared.field.Name.TheVariants.{Turnaround, Ack, ReadData, WriteData, Ignored, Switch, Junk}
use Rattle.swd_draw.specs.declared.field.Name.TheVariants.{Cut, Reset, Idle, Skip}
use Rattle.swd_draw.specs.declared.field.Shade.{Shade}
use Rattle.swd_draw.specs.declared.field.Shade.TheVariants.{Host, Target, Undriven, Wrong, Unknown, Hidden}

-- ---- names

unfoldable pub name_text : Name → List ℕ
name_text Start = codes "Start"
name_text Port = codes "APnDP"
name_text Direction = codes "RnW"
name_text Address = codes "A[2:3]"
name_text Parity = codes "Parity"
name_text Stop = codes "Stop"
name_text Park = codes "Park"
name_text Turnaround = codes "Trn"
name_text Ack = codes "ACK"
name_text ReadData = codes "RDATA[0:31]"
name_text WriteData = codes "WDATA[0:31]"
name_text Ignored = codes "ignored"
name_text Switch = codes "JTAG to SWD"
name_text Junk = codes "junk"
name_text Cut = codes "cut"
name_text Reset = codes "line reset"
name_text Idle = codes "idle"
name_text Skip = codes "skip"

-- the class of a box, which the style of the drawing gives its colour
unfoldable pub shade_class : Shade → List ℕ
shade_class Host = codes "h"
shade_class Target = codes "t"
shade_class Undriven = codes "u"
shade_class Wrong = codes "w"
shade_class Unknown = codes "n"
shade_class Hidden = codes "n"

-- ---- waves: each bit is 12 units wide

-- a piece of a path, n times
unfoldable pub times : ℕ → List ℕ → List ℕ
times zero piece = []
times (suc n) piece = times n piece ++ piece

-- a period of SWCLK: low, and high from the middle on
unfoldable pub clock_piece : List ℕ
clock_piece = codes "h6v-16h6v16"

-- SWDIO high, low, and between them where no level is drawn
unfoldable pub level_piece : Bool → List ℕ
level_piece true = codes "V48h12"
level_piece false = codes "V64h12"

unfoldable pub between_piece : List ℕ
between_piece = codes "V56h12"

-- a break in a wave, two bits wide
unfoldable pub break_piece : List ℕ
break_piece = codes "h6l3,-6l6,12l3,-6h6"

unfoldable pub wave : List Bool → List ℕ
wave [] = []
wave (b ∷ bits) = level_piece b ++ wave bits

-- the wave of SWDIO in a field
abbrev pub field_wave : Shade → TxBits → List ℕ
field_wave Host bits = wave (tx_bits_of bits)
field_wave Target bits = wave (tx_bits_of bits)
field_wave Undriven bits = times bits.len between_piece
field_wave Wrong bits = wave (tx_bits_of bits)
field_wave Unknown bits = wave (tx_bits_of bits)
field_wave Hidden bits = times bits.len between_piece

abbrev pub waves : List Field → List ℕ
waves [] = []
waves (f ∷ fields) = field_wave f.shade f.bits ++ waves fields

-- ---- boxes

-- the left edge of a bit
abbrev pub box_left_edge : ℕ → ℕ
box_left_edge at = 64 + 12 * at

-- a box over `width` units from `x` on
unfoldable pub rect_text : ℕ → ℕ → Shade → List ℕ
rect_text x width shade =
    codes "<rect x='" ++ decimal x ++ codes "' y='74' width='" ++ decimal width ++ codes "' height='50' class='"
    ++ shade_class shade ++ codes "'/>"

-- a text at `x`, in the element that `start` and `rest` begin
unfoldable pub label_text : List ℕ → ℕ → List ℕ → List ℕ → List ℕ
label_text start x rest text = start ++ decimal x ++ rest ++ text ++ codes "</text>"

-- a text that is centred at `x`, below the top of a box or above its bottom
abbrev pub top_text : ℕ → List ℕ → List ℕ
top_text x text = label_text (codes "<text x='") x (codes "' y='88' class='m'>") text

abbrev pub bottom_text : ℕ → List ℕ → List ℕ
bottom_text x text = label_text (codes "<text x='") x (codes "' y='120' class='m'>") text

-- a text that is written upwards, for a narrow box
abbrev pub turned_text : ℕ → List ℕ → List ℕ
turned_text x text = label_text (codes "<text transform='translate(") x (codes ",110)rotate(-90)'>") text

-- a name over `len` bits, centred at `x`
abbrev pub box_title : ℕ → ℕ → List ℕ → List ℕ
box_title x len name = if nat_lt len 3 then turned_text (x + 3) name else top_text x name

-- a box over `len` bits from the bit `at` on, with its name and its value, and a line feed
unfoldable pub box_text : ℕ → ℕ → Shade → List ℕ → List ℕ → List ℕ
box_text at len shade name value =
    rect_text (box_left_edge at) (12 * len) shade ++ box_title (box_left_edge at + 6 * len) len name
    ++ bottom_text (box_left_edge at + 6 * len) value ++ 10 ∷ []

-- an acknowledgement by its number, or its bits
unfoldable pub ack_value : TxBits → List ℕ
ack_value bits =
    if bits.bits == 1 then codes "OK" else if bits.bits == 2 then codes "WAIT" else
    if bits.bits == 4 then codes "FAULT" else map trace_digit (tx_bits_of bits)

-- the value in a field's box: the word, the name of the acknowledgement, or the bits
unfoldable pub value_text : Name → TxBits → List ℕ
value_text Start bits = map trace_digit (tx_bits_of bits)
value_text Port bits = map trace_digit (tx_bits_of bits)
value_text Direction bits = map trace_digit (tx_bits_of bits)
value_text Address bits = map trace_digit (tx_bits_of bits)
value_text Parity bits = map trace_digit (tx_bits_of bits)
value_text Stop bits = map trace_digit (tx_bits_of bits)
value_text Park bits = map trace_digit (tx_bits_of bits)
value_text Turnaround bits = []
value_text Ack bits = ack_value bits
value_text ReadData bits = hex8 (bits.bits % 2 ^ 32)
value_text WriteData bits = hex8 (bits.bits % 2 ^ 32)
value_text Ignored bits = []
value_text Switch bits = map trace_digit (tx_bits_of bits)
value_text Junk bits = map trace_digit (tx_bits_of bits)
value_text Cut bits = map trace_digit (tx_bits_of bits)
value_text Reset bits = map trace_digit (tx_bits_of bits)
value_text Idle bits = map trace_digit (tx_bits_of bits)
value_text Skip bits = map trace_digit (tx_bits_of bits)

abbrev pub field_box : ℕ → Field → List ℕ
field_box at f = box_text at f.bits.len f.shade (name_text f.name) (value_text f.name f.bits)

-- the boxes of fields, from the bit `at` on
abbrev pub boxes : ℕ → List Field → List ℕ
boxes at [] = []
boxes at (f ∷ fields) = field_box at f ++ boxes (at + f.bits.len) fields

-- their number of bits, from the bit `at` on
abbrev pub strip_end_bit : ℕ → List Field → ℕ
strip_end_bit at [] = at
strip_end_bit at (f ∷ fields) = strip_end_bit (at + f.bits.len) fields
