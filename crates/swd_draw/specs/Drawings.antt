-- A whole drawing. It is this project's choice.
use Rattle.std.specs.Prelude.{ℕ, zero, suc, ◌+◌, ◌-◌, ◌*◌, ◌^◌, min, Bool, List, [], ◌∷◌, ◌++◌, length, take, codes}
use Rattle.std.specs.Fmt.{decimal}
use Rattle.swd_resync.specs.declared.part.Part.{Part}
use Rattle.swd_draw.specs.Marks.{shade_class}
use Rattle.swd_draw.specs.Rows.{drawing_rows}
use Rattle.swd_draw.specs.declared.drawing.DrawnForm.{DrawnForm}
use Rattle.swd_draw.specs.declared.field.Shade.{Shade}
use Rattle.swd_draw.specs.declared.field.Shade.TheVariants.{Host, Target, Undriven, Wrong, Unknown}

-- ---- which parts are drawn

-- the most parts of a drawing are those of its form, at most 1,000
abbrev pub most_drawn_of : DrawnForm → ℕ
most_drawn_of form = min form.items 1000

-- the first parts are drawn
abbrev pub drawn : ℕ → List Part → List Part
drawn most parts = take most parts

-- the number of the others, at most 2^64 - 1
abbrev pub drawing_left_out : ℕ → List Part → ℕ
drawing_left_out most parts = min (length parts - most) (2 ^ 64 - 1)

-- ---- the text

-- the opening of the document
unfoldable pub opening : ℕ → List ℕ
opening height =
    codes "<svg xmlns='http://www.w3.org/2000/svg' version='1.1' width='672' height='" ++ decimal height
    ++ codes "' viewBox='0 0 672 " ++ decimal height ++ codes "'>" ++ 10 ∷ []

-- fonts, lines, and the colour of each class of boxes
unfoldable pub style_text : List ℕ
style_text =
    codes "<style type='text/css'>text{font-family:monospace;font-size:9px}.l{font-size:12px}"
    ++ codes ".m{text-anchor:middle}path{fill:none;stroke:#000}rect{stroke:#000}"
    ++ codes ".h{fill:#cfe2f3}.t{fill:#d9ead3}.u{fill:#ccc}.w{fill:#f4a6a0}.n{fill:#fff}"
    ++ codes ".p{fill:#fff;stroke:none}</style><rect width='672' height='100%' class='p'/>" ++ 10 ∷ []

-- the number of items, and how many of the trace are left out
unfoldable pub caption_end : ℕ → List ℕ
caption_end zero = codes ". The trace ends here.</text>"
caption_end (suc n) = codes ". Items left out: " ++ decimal (suc n) ++ codes ".</text>"

unfoldable pub caption : ℕ → ℕ → List ℕ
caption count left_out =
    codes "<text x='10' y='18' class='l'>Items drawn: " ++ decimal count ++ caption_end left_out

-- the meaning of a colour
unfoldable pub key_text : ℕ → Shade → List ℕ → List ℕ
key_text x shade meaning =
    codes "<rect x='" ++ decimal x ++ codes "' y='28' width='12' height='12' class='" ++ shade_class shade
    ++ codes "'/><text x='" ++ decimal (x + 18) ++ codes "' y='37'>" ++ meaning ++ codes "</text>"

unfoldable pub legend : List ℕ
legend =
    key_text 10 Host (codes "driven by the host")
    ++ key_text 142 Target (codes "driven by the target")
    ++ key_text 286 Undriven (codes "turnaround: not driven")
    ++ key_text 440 Wrong (codes "wrong parity")
    ++ key_text 546 Unknown (codes "not known") ++ 10 ∷ []

-- the beginning of a drawing of `count` parts
unfoldable pub head : ℕ → ℕ → List ℕ
head count left_out = opening (72 + 140 * count) ++ style_text ++ caption count left_out ++ legend

unfoldable pub end_text : List ℕ
end_text = codes "</svg>" ++ 10 ∷ []

-- the drawing of these parts, with names of registers or not, where so many others are left out
abbrev pub drawing_of : Bool → List Part → ℕ → List ℕ
drawing_of names parts left_out = head (length parts) left_out ++ drawing_rows names [] parts ++ end_text

-- the drawing of the parts of a trace or a capture: of the first of them
abbrev pub drawing : DrawnForm → List Part → List ℕ
drawing form parts =
    drawing_of form.names (drawn (most_drawn_of form) parts) (drawing_left_out (most_drawn_of form) parts)
