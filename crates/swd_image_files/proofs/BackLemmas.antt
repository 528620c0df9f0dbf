-- The records of a written file, one after the other, are read back: for `LawLemmas`.
use Rattle.std.proofs.Common.{◌≡◌, ℕ, zero, suc, ◌+◌, ◌-◌, ◌*◌, ◌/◌, ◌%◌, ◌^◌, ◌<◌, ◌≤◌, List, [], ◌∷◌, ◌++◌, length}
use Rattle.std.proofs.Common.{All, ap, ap₂, refl, sym, ◌∙◌, true, false, arith, cond, Ok, Err, take, drop, min, eqb}
use Rattle.std.proofs.Common.{inl, inr, append_assoc}
use Rattle.std.specs.Prelude.{Result, ◌&&◌}
use Rattle.std.proofs.lemmas.Bool.{cases_eq, cases_lt, eq-eqb, ne_eqb, le-leb, or_left, or_right}
use Rattle.std.proofs.lemmas.List.{length-drop, length-take-le, take_all, take-append-drop}
use Rattle.std.proofs.lemmas.List.Elements.{All-cons, All-drop, All-nil, All-take}
use Rattle.swd_image_files.specs.declared.fault.ImageFileFault.{ImageFileFault}
use Rattle.swd_image_files.specs.declared.fault.LineFlaw.{LineFlaw}
use Rattle.swd_image_files.specs.declared.fault.LineFlaw.TheVariants.{AfterEnd, Range}
use Rattle.swd_image_files.specs.declared.kind.RecordKind.{RecordKind}
use Rattle.swd_image_files.specs.declared.kind.RecordKind.TheVariants.{Data, Base}
use Rattle.swd_image_files.specs.declared.kind.RecordFormat.{RecordFormat}
use Rattle.swd_image_files.specs.declared.kind.RecordFormat.TheVariants.{Intel, Motorola}
use Rattle.swd_image_files.specs.declared.place.RecordState.{RecordState}
use Rattle.swd_image_files.specs.Files.{image_file_after_lines}
use Rattle.swd_image_files.specs.Images.{ImageFileContents, image_file_add_data}
use Rattle.swd_image_files.specs.Lines.{is_image_file_blank_line, image_file_lines}
use Rattle.swd_image_files.specs.Places.{image_file_after_data, image_file_after_kind, image_file_after_line}
use Rattle.swd_image_files.specs.Places.{image_file_after_record, image_file_after_typed, image_file_data_fits}
use Rattle.swd_image_files.specs.Places.{image_file_next_number, image_file_with_data, image_file_with_kind}
use Rattle.swd_image_files.specs.Places.{image_file_with_line, image_file_with_record, image_file_with_typed}
use Rattle.swd_image_files.specs.Records.{image_file_record_bytes, image_file_record_kind}
use Rattle.swd_image_files.specs.Texts.{image_file_base_lines, image_file_data_count, image_file_data_line}
use Rattle.swd_image_files.specs.Texts.{image_file_data_lines, image_file_end_line, hex_record_line, srec_line}
use Rattle.swd_image_files.proofs.DigitLemmas.{IsImageFileByte, IsAboveImageLineEnd}
use Rattle.swd_image_files.proofs.FileLemmas.{image_file_valid_line_step}
use Rattle.swd_image_files.proofs.ImageLemmas.{image_file_add_twice, image_file_add_no_bytes}
use Rattle.swd_image_files.proofs.KindLemmas.{hex_record_base_kind, hex_record_data_kind, hex_record_field}
use Rattle.swd_image_files.proofs.KindLemmas.{srec_data_kind, srec_field}
use Rattle.swd_image_files.proofs.TextLemmas.{image_file_next_data_line, image_file_no_data_line}
use Rattle.swd_image_files.proofs.WrittenLemmas.{image_file_first_line, hex_record_all, hex_record_line_high}
use Rattle.swd_image_files.proofs.WrittenLemmas.{hex_record_read_back, srec_all, srec_line_high, srec_read_back}

-- addresses count from this base, and there was no end record
pub record IsImageFilePlaceAt (place : RecordState) (base : ℕ) : Type 0 where
  pub offset : place.offset ≡ 0
  pub based : place.base ≡ base
  pub wraps : place.wraps ≡ false
  pub ended : place.ended ≡ false

after_says : (records : RecordFormat) (place : RecordState) (line all : List ℕ) (kind : RecordKind)
    → is_image_file_blank_line line ≡ false → place.ended ≡ false → image_file_record_bytes records line ≡ Ok all
    → image_file_record_kind records all ≡ Ok kind
    → image_file_after_line records place line ≡ image_file_after_kind place kind all
after_says records place line all kind blank ended bytes says =
    let same : Result RecordState LineFlaw = Ok place in
    let late : Result RecordState LineFlaw = Err AfterEnd in
    ap₂ (λ b e. cond b same (cond e late (image_file_after_record records place
    (image_file_record_bytes records line)))) blank ended ∙ ap (image_file_after_record records place) bytes
    ∙ ap (image_file_after_typed place all) says

with_says : (records : RecordFormat) (place : RecordState) (line all : List ℕ) (kind : RecordKind)
    (old : ImageFileContents)
    → is_image_file_blank_line line ≡ false → place.ended ≡ false → image_file_record_bytes records line ≡ Ok all
    → image_file_record_kind records all ≡ Ok kind
    → image_file_with_line records place line old ≡ image_file_with_kind place kind all old
with_says records place line all kind old blank ended bytes says =
    ap₂ (λ b e. cond b old (cond e old (image_file_with_record records place (image_file_record_bytes records line)
    old))) blank ended ∙ ap (λ r. image_file_with_record records place r old) bytes
    ∙ ap (λ r. image_file_with_typed place all r old) says

after_plain : (place : RecordState) (base addr len : ℕ) → IsImageFilePlaceAt place base → base + addr + len ≤ 2 ^ 32
    → image_file_after_data place addr len ≡ Ok (record place { records = image_file_next_number place.records })
after_plain place base addr len at below =
    let good : Result RecordState LineFlaw = Ok (record place { records = image_file_next_number place.records }) in
    let bad : Result RecordState LineFlaw = Err Range in
    let offset = at.offset in
    let based = at.based in
    let whole : place.offset + place.base ≡ base = omega arith in
    let first : image_file_data_fits (base + addr) len ≡ true =
    or_right (eqb len 0) _ (le-leb (base + addr + len) (2 ^ 32) below) in
    let second : image_file_data_fits base (len - len) ≡ true =
    or_left (eqb (len - len) 0) _ (eq-eqb (len - len) 0 (omega arith)) in
    ap₂ (λ b w. cond (image_file_data_fits (b + addr) (cond w (min (65536 - addr) len) len)
    && image_file_data_fits b (len - cond w (min (65536 - addr) len) len)) good bad) whole at.wraps
    ∙ ap₂ (λ x y. cond (x && y) good bad) first second

with_plain : (place : RecordState) (base addr : ℕ) (bytes : List ℕ) (old : ImageFileContents)
    → IsImageFilePlaceAt place base
    → image_file_with_data place addr bytes old ≡ image_file_add_data old (base + addr) bytes
with_plain place base addr bytes old at =
    let offset = at.offset in
    let based = at.based in
    let len = length bytes in
    let whole : place.offset + place.base ≡ base = omega arith in
    let left = length-drop len bytes in
    let none : length (drop len bytes) ≡ 0 = omega (arith, left) in
    ap₂ (λ b w. image_file_add_data (image_file_add_data old (b + addr)
    (take (cond w (min (65536 - addr) len) len) bytes)) b
    (drop (cond w (min (65536 - addr) len) len) bytes)) whole at.wraps
    ∙ image_file_add_no_bytes (image_file_add_data old (base + addr) (take len bytes)) base (drop len bytes) none
    ∙ ap (image_file_add_data old (base + addr)) (take_all len bytes (omega arith))

-- a line that leads to a place and an image
one_step : (records : RecordFormat) (place after : RecordState) (old new : ImageFileContents) (number : ℕ)
    (line rest : List ℕ)
    → All IsAboveImageLineEnd line → 0 < length line → image_file_after_line records place line ≡ Ok after
    → image_file_with_line records place line old ≡ new
    → image_file_after_lines records place old number (image_file_lines (line ++ 10 ∷ rest))
    ≡ image_file_after_lines records after new (image_file_next_number number) (image_file_lines rest)
one_step records place after old new number line rest high some ok with =
    ap (image_file_after_lines records place old number) (image_file_first_line line rest high some)
    ∙ image_file_valid_line_step records place after old number line (image_file_lines rest) ok
    ∙ ap (λ o. image_file_after_lines records after o (image_file_next_number number) (image_file_lines rest)) with

-- the base at this upper half of an address
abbrev base_up : RecordFormat → ℕ → ℕ
base_up Intel upper = 65536 * upper
base_up Motorola upper = 0

-- a line leads from a place to one with this base
record Leads (records : RecordFormat) (place : RecordState) (base : ℕ) (old new : ImageFileContents) (number : ℕ)
    (text rest : List ℕ) : Type 0 where
  after : RecordState
  line : ℕ
  at : IsImageFilePlaceAt after base
  same : image_file_after_lines records place old number (image_file_lines (text ++ rest))
      ≡ image_file_after_lines records after new line (image_file_lines rest)

data_step : (records : RecordFormat) (place : RecordState) (addr : ℕ) (bytes rest : List ℕ) (old : ImageFileContents)
    (number : ℕ)
    → IsImageFilePlaceAt place (base_up records (addr / 65536)) → length bytes ≤ 16 → All IsImageFileByte bytes
    → 0 < length bytes
    → addr + length bytes ≤ 2 ^ 32
    → Leads records place (base_up records (addr / 65536)) old (image_file_add_data old addr bytes) number
    (image_file_data_line records addr bytes ++ 10 ∷ []) rest
data_step Intel place addr bytes rest old number at short all some below =
    let base = 65536 * (addr / 65536) in
    let line = hex_record_line (addr % 65536) 0 bytes in
    let full = hex_record_all (addr % 65536) 0 bytes in
    let after : RecordState = record place { records = image_file_next_number place.records } in
    let whole : base + addr % 65536 ≡ addr = omega arith in
    let read = hex_record_read_back (addr % 65536) 0 bytes (omega arith) (omega arith) short all in
    let says = hex_record_data_kind (addr % 65536) bytes in
    let holds = hex_record_field (addr % 65536) bytes in
    let ok = after_says Intel place line full (Data (addr % 65536) 4) refl at.ended read says
    ∙ ap (λ d. image_file_after_data place (addr % 65536) (length d)) holds
    ∙ after_plain place base (addr % 65536) (length bytes) at (omega arith) in
    let with = with_says Intel place line full (Data (addr % 65536) 4) old refl at.ended read says
    ∙ ap (λ d. image_file_with_data place (addr % 65536) d old) holds
    ∙ with_plain place base (addr % 65536) bytes old at ∙ ap (λ a. image_file_add_data old a bytes) whole in
    record {
      after = after;
      line = image_file_next_number number;
      at = record { offset = at.offset; based = at.based; wraps = at.wraps; ended = at.ended };
      same = ap (λ t. image_file_after_lines Intel place old number (image_file_lines t))
          (append_assoc line (10 ∷ []) rest) ∙ one_step Intel place after old (image_file_add_data old addr bytes)
          number line rest (hex_record_line_high (addr % 65536) 0 bytes (omega arith) (omega arith) short all)
          (omega arith) ok with;
    }
data_step Motorola place addr bytes rest old number at short all some below =
    let line = srec_line addr bytes in
    let full = 3 ∷ srec_all addr bytes in
    let after : RecordState = record place { records = image_file_next_number place.records } in
    let read = srec_read_back addr bytes (omega arith) short all in
    let says = srec_data_kind addr bytes in
    let holds = srec_field addr bytes in
    let whole : 0 + addr ≡ addr = omega arith in
    let ok = after_says Motorola place line full (Data addr 6) refl at.ended read says
    ∙ ap (λ d. image_file_after_data place addr (length d)) holds
    ∙ after_plain place 0 addr (length bytes) at (omega arith) in
    let with = with_says Motorola place line full (Data addr 6) old refl at.ended read says
    ∙ ap (λ d. image_file_with_data place addr d old) holds ∙ with_plain place 0 addr bytes old at
    ∙ ap (λ a. image_file_add_data old a bytes) whole in
    record {
      after = after;
      line = image_file_next_number number;
      at = record { offset = at.offset; based = at.based; wraps = at.wraps; ended = at.ended };
      same = ap (λ t. image_file_after_lines Motorola place old number (image_file_lines t))
          (append_assoc line (10 ∷ []) rest) ∙ one_step Motorola place after old (image_file_add_data old addr bytes)
          number line rest (srec_line_high addr bytes (omega arith) short all) (omega arith) ok with;
    }

base_step : (records : RecordFormat) (place : RecordState) (upper addr : ℕ) (rest : List ℕ) (old : ImageFileContents)
    (number : ℕ) → IsImageFilePlaceAt place (base_up records upper) → addr < 2 ^ 32
    → Leads records place (base_up records (addr / 65536)) old old number
    (image_file_base_lines records upper (addr / 65536)) rest
base_step Motorola place upper addr rest old number at small = record {
  after = place;
  line = number;
  at = at;
  same = refl;
}
base_step Intel place upper addr rest old number at small =
    let new = addr / 65536 in
    let bytes : List ℕ = new / 256 ∷ new % 256 ∷ [] in
    let line = hex_record_line 0 4 bytes in
    let full = hex_record_all 0 4 bytes in
    let after : RecordState = record place { base = 65536 * new; wraps = false } in
    let none : List ℕ = [] in
    let all : All IsImageFileByte bytes = All-cons IsImageFileByte (new / 256) (new % 256 ∷ []) (omega arith)
    (All-cons IsImageFileByte (new % 256) [] (omega arith) (All-nil IsImageFileByte)) in
    let read = hex_record_read_back 0 4 bytes (omega arith) (omega arith) (omega arith) all in
    let says = hex_record_base_kind new in
    elim (cases_eq upper new) [
      | inl e ↦ record {
        after = place;
        line = number;
        at = record {
          offset = at.offset;
          based = at.based ∙ ap (λ n. 65536 * n) e;
          wraps = at.wraps;
          ended = at.ended;
        };
        same = ap (λ b. image_file_after_lines Intel place old number
            (image_file_lines (cond b none (line ++ 10 ∷ []) ++ rest))) (eq-eqb upper new e);
      }
      | inr n ↦ record {
        after = after;
        line = image_file_next_number number;
        at = record { offset = at.offset; based = refl; wraps = refl; ended = at.ended };
        same = ap (λ b. image_file_after_lines Intel place old number
            (image_file_lines (cond b none (line ++ 10 ∷ []) ++ rest))) (ne_eqb upper new n)
            ∙ ap (λ t. image_file_after_lines Intel place old number (image_file_lines t))
            (append_assoc line (10 ∷ []) rest) ∙ one_step Intel place after old old number line rest
            (hex_record_line_high 0 4 bytes (omega arith) (omega arith) (omega arith) all) (omega arith)
            (after_says Intel place line full (Base (65536 * new) false) refl at.ended read says)
            (with_says Intel place line full (Base (65536 * new) false) old refl at.ended read says);
      }
    ]

-- the end record, and the end of the file
end_step : (records : RecordFormat) (place : RecordState) (old : ImageFileContents) (number : ℕ)
    → image_file_after_line records place (image_file_end_line records) ≡ Ok (record place { ended = true })
    → image_file_with_line records place (image_file_end_line records) old ≡ old
    → image_file_after_lines records place old number (image_file_end_line records ∷ [] ∷ []) ≡ Ok old
end_step records place old number ok with =
    let image : ImageFileContents → Result ImageFileContents ImageFileFault = λ i. Ok i in
    image_file_valid_line_step records place (record place { ended = true }) old number (image_file_end_line records)
    ([] ∷ []) ok ∙ ap image with

end_back : (records : RecordFormat) (place : RecordState) (base : ℕ) (old : ImageFileContents) (number : ℕ)
    → IsImageFilePlaceAt place base
    → image_file_after_lines records place old number (image_file_lines (image_file_end_line records ++ 10 ∷ []))
    ≡ Ok old
end_back Intel place base old number at =
    let good : Result RecordState LineFlaw = Ok (record place { ended = true }) in
    let late : Result RecordState LineFlaw = Err AfterEnd in
    end_step Intel place old number (ap (λ e. cond e late good) at.ended) (ap (λ e. cond e old old) at.ended)
end_back Motorola place base old number at =
    let good : Result RecordState LineFlaw = Ok (record place { ended = true }) in
    let late : Result RecordState LineFlaw = Err AfterEnd in
    end_step Motorola place old number (ap (λ e. cond e late good) at.ended) (ap (λ e. cond e old old) at.ended)

-- a record has 1 to 16 of the bytes
record IsCount (len k : ℕ) : Type 0 where
  some : 1 ≤ k
  few : k ≤ 16
  within : k ≤ len

counts : (records : RecordFormat) (addr : ℕ) (bytes : List ℕ) → 0 < length bytes
    → IsCount (length bytes) (image_file_data_count records addr bytes)
counts Intel addr bytes some = record { some = omega arith; few = omega arith; within = omega arith }
counts Motorola addr bytes some = record { some = omega arith; few = omega arith; within = omega arith }

no_lines : (records : RecordFormat) (most upper addr : ℕ) (bytes : List ℕ) (place : RecordState)
    (old : ImageFileContents) (number : ℕ) → length bytes ≡ 0 → IsImageFilePlaceAt place (base_up records upper)
    → image_file_after_lines records place old number
    (image_file_lines (image_file_data_lines records most upper addr bytes ++ (image_file_end_line records ++ 10 ∷ [])))
    ≡ Ok (image_file_add_data old addr bytes)
no_lines records most upper addr bytes place old number none at =
    let image : ImageFileContents → Result ImageFileContents ImageFileFault = λ i. Ok i in
    ap (λ t. image_file_after_lines records place old number
    (image_file_lines (t ++ (image_file_end_line records ++ 10 ∷ []))))
    (image_file_no_data_line records most upper addr bytes none)
    ∙ end_back records place (base_up records upper) old number at
    ∙ ap image (sym (image_file_add_no_bytes old addr bytes none))

-- the lines of an image lead to it
pub image_file_data_read_back : (records : RecordFormat) (most upper addr : ℕ) (bytes : List ℕ) (place : RecordState)
    (old : ImageFileContents) (number : ℕ) → length bytes ≤ most → All IsImageFileByte bytes
    → addr + length bytes ≤ 2 ^ 32 → IsImageFilePlaceAt place (base_up records upper)
    → image_file_after_lines records place old number
    (image_file_lines (image_file_data_lines records most upper addr bytes ++ (image_file_end_line records ++ 10 ∷ [])))
    ≡ Ok (image_file_add_data old addr bytes)
image_file_data_read_back records zero upper addr bytes place old number enough all below at =
    no_lines records zero upper addr bytes place old number (omega arith) at
image_file_data_read_back records (suc most) upper addr bytes place old number enough all below at =
    elim (cases_lt 0 (length bytes)) [
      | inr none ↦ no_lines records (suc most) upper addr bytes place old number (omega arith) at
      | inl some ↦
          (let k = image_file_data_count records addr bytes in
          let counted = counts records addr bytes some in
          let one = counted.some in
          let few = counted.few in
          let within = counted.within in
          let chunk = take k bytes in
          let rest = drop k bytes in
          let taken : length chunk ≡ k = length-take-le k bytes within in
          let dropped = length-drop k bytes in
          let base = image_file_base_lines records upper (addr / 65536) in
          let line = image_file_data_line records addr chunk ++ 10 ∷ [] in
          let end = image_file_end_line records ++ 10 ∷ [] in
          let others = image_file_data_lines records most (addr / 65536) (addr + k) rest in
          let image : ImageFileContents → Result ImageFileContents ImageFileFault = λ i. Ok i in
          let b = base_step records place upper addr (line ++ (others ++ end)) old number at (omega arith) in
          let d = data_step records b.after addr chunk (others ++ end) old b.line b.at (omega (arith, taken, few))
          (All-take IsImageFileByte k bytes all) (omega (arith, taken, one)) (omega (arith, taken, within)) in
          let r = image_file_data_read_back records most (addr / 65536) (addr + k) rest d.after
          (image_file_add_data old addr chunk) d.line
          (omega (arith, dropped, one)) (All-drop IsImageFileByte k bytes all) (omega (arith, dropped, within)) d.at in
          ap (λ t. image_file_after_lines records place old number (image_file_lines (t ++ end)))
          (image_file_next_data_line records most upper addr bytes some)
          ∙ ap (λ t. image_file_after_lines records place old number (image_file_lines t))
          (append_assoc (base ++ line) others end ∙ append_assoc base line (others ++ end))
          ∙ b.same ∙ d.same ∙ r
          ∙ ap image
          (ap (λ n. image_file_add_data (image_file_add_data old addr chunk) (addr + n) rest) (sym taken)
          ∙ image_file_add_twice old addr chunk rest (omega (arith, taken, one))
          ∙ ap (image_file_add_data old addr) (take-append-drop k bytes)))
    ]
