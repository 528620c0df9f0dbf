-- Data that is added to an image joins its last range or begins another: for `reading.rt`, and reading files back.
use Rattle.std.proofs.Common.{◌≡◌, ◌≢◌, ℕ, ◌+◌, ◌<◌, ◌≤◌, ◌^◌, List, [], ◌∷◌, ◌++◌, length, cond, true, false, ap, refl}
use Rattle.std.proofs.Common.{arith, All, eqb, sym, subst, inl, inr, ◌⊎◌, ◌∙◌, ap₂, append_assoc, Ok, Err}
use Rattle.std.proofs.lemmas.List.{append-nil, length-append}
use Rattle.std.proofs.lemmas.Bool.{eq-eqb, ne_eqb, cases_eq, cases_lt, eqb-true, leb-true, or_cases}
use Rattle.std.proofs.lemmas.List.Elements.{All-cons, All-head, All-tail, All-nil}
use Rattle.std.specs.Prelude.{◌==◌, nat_le, Result, OnOk, is_err}
use Rattle.swd_image_files.specs.Places.{image_file_data_fits}
use Rattle.swd_image_files.specs.declared.image.Range.{Range}
use Rattle.swd_image_files.specs.Images.{ImageFileContents, image_file_add_data, image_file_ranges_joined}
use Rattle.swd_image_files.specs.Images.{image_file_range}
use Rattle.swd_image_files.specs.Overlaps.{IsSoundImageRange}

-- a range that continues the last one
pub image_file_range_extends : (ranges : List Range) (last : Range) (addr len : ℕ) → last.addr + last.len ≡ addr
    → image_file_ranges_joined (ranges ++ last ∷ []) addr len ≡ ranges ++ image_file_range last.addr (last.len + len)
    ∷ []
image_file_range_extends [] last addr len e =
    ap (λ b. cond b (image_file_range last.addr (last.len + len) ∷ []) (last ∷ image_file_range addr len ∷ []))
    (eq-eqb (last.addr + last.len) addr e)
image_file_range_extends (first ∷ []) last addr len e =
    ap (λ l. first ∷ l) (image_file_range_extends [] last addr len e)
image_file_range_extends (first ∷ next ∷ ranges) last addr len e =
    ap (λ l. first ∷ l) (image_file_range_extends (next ∷ ranges) last addr len e)

-- a range that doesn't
pub image_file_range_appended : (ranges : List Range) (last : Range) (addr len : ℕ) → last.addr + last.len ≢ addr
    → image_file_ranges_joined (ranges ++ last ∷ []) addr len ≡ (ranges ++ last ∷ []) ++ image_file_range addr len ∷ []
image_file_range_appended [] last addr len n =
    ap (λ b. cond b (image_file_range last.addr (last.len + len) ∷ []) (last ∷ image_file_range addr len ∷ []))
    (ne_eqb (last.addr + last.len) addr n)
image_file_range_appended (first ∷ []) last addr len n =
    ap (λ l. first ∷ l) (image_file_range_appended [] last addr len n)
image_file_range_appended (first ∷ next ∷ ranges) last addr len n =
    ap (λ l. first ∷ l) (image_file_range_appended (next ∷ ranges) last addr len n)

one_sound : (addr len : ℕ) → 0 < len → addr + len ≤ 2 ^ 32 → All IsSoundImageRange (image_file_range addr len ∷ [])
one_sound addr len some fits =
    All-cons IsSoundImageRange (image_file_range addr len) [] (record { some = some; fits = fits })
    (All-nil IsSoundImageRange)

last_sound : (last : Range) (addr len : ℕ) → IsSoundImageRange last → 0 < len → addr + len ≤ 2 ^ 32
    → (last.addr + last.len ≡ addr) ⊎ (last.addr + last.len ≢ addr)
    → All IsSoundImageRange (image_file_ranges_joined (last ∷ []) addr len)
last_sound last addr len sound some fits (inl e) =
    let all = one_sound last.addr (last.len + len) (omega arith) (omega arith) in
    subst (All IsSoundImageRange) (sym (image_file_range_extends [] last addr len e)) all
last_sound last addr len sound some fits (inr n) =
    subst (All IsSoundImageRange) (sym (image_file_range_appended [] last addr len n))
    (All-cons IsSoundImageRange last (image_file_range addr len ∷ []) sound (one_sound addr len some fits))

-- the ranges stay sound
pub image_file_ranges_stay_sound : (ranges : List Range) (addr len : ℕ) → All IsSoundImageRange ranges → 0 < len
    → addr + len ≤ 2 ^ 32 → All IsSoundImageRange (image_file_ranges_joined ranges addr len)
image_file_ranges_stay_sound [] addr len all some image_file_data_fits = one_sound addr len some image_file_data_fits
image_file_ranges_stay_sound (last ∷ []) addr len all some fits =
    last_sound last addr len (All-head IsSoundImageRange last [] all) some fits (cases_eq (last.addr + last.len) addr)
image_file_ranges_stay_sound (first ∷ next ∷ ranges) addr len all some fits =
    All-cons IsSoundImageRange first (image_file_ranges_joined (next ∷ ranges) addr len)
    (All-head IsSoundImageRange first (next ∷ ranges) all)
    (image_file_ranges_stay_sound (next ∷ ranges) addr len (All-tail IsSoundImageRange first (next ∷ ranges) all)
    some fits)

-- what some bytes add to an image
pub image_file_add_bytes : (old : ImageFileContents) (addr : ℕ) (bytes : List ℕ) → 0 < length bytes
    → image_file_add_data old addr bytes
    ≡ record { ranges = image_file_ranges_joined old.ranges addr (length bytes); bytes = old.bytes ++ bytes }
image_file_add_bytes old addr bytes some =
    let n : eqb (length bytes) 0 ≡ false = ne_eqb (length bytes) 0 (λ e. omega arith) in
    ap (λ b. cond b old (record {
      ranges = image_file_ranges_joined old.ranges addr (length bytes);
      bytes = old.bytes ++ bytes;
    })) n

-- what no bytes add
pub image_file_add_no_bytes : (old : ImageFileContents) (addr : ℕ) (bytes : List ℕ) → length bytes ≡ 0
    → image_file_add_data old addr bytes ≡ old
image_file_add_no_bytes old addr bytes none =
    ap (λ b. cond b old (record {
      ranges = image_file_ranges_joined old.ranges addr (length bytes);
      bytes = old.bytes ++ bytes;
    }))
    (eq-eqb (length bytes) 0 none)

-- bytes below 2^32, if there are some
pub image_file_bytes_fit : (addr len : ℕ) → image_file_data_fits addr len ≡ true → 0 < len → addr + len ≤ 2 ^ 32
image_file_bytes_fit addr len fine some = elim (or_cases (len == 0) (nat_le (addr + len) (2 ^ 32)) fine) [
  | inl none ↦ (let e = eqb-true len 0 none in absurd (omega arith))
  | inr below ↦ leb-true (addr + len) (2 ^ 32) below
]

-- the ranges of an image stay sound
pub image_file_add_sound : (old : ImageFileContents) (addr : ℕ) (bytes : List ℕ) → All IsSoundImageRange old.ranges
    → image_file_data_fits addr (length bytes) ≡ true
    → All IsSoundImageRange (image_file_add_data old addr bytes).ranges
image_file_add_sound old addr bytes all fine = elim (cases_lt 0 (length bytes)) [
  | inl some ↦ subst (λ (o : ImageFileContents). All IsSoundImageRange o.ranges)
      (sym (image_file_add_bytes old addr bytes some))
      (image_file_ranges_stay_sound old.ranges addr (length bytes) all some
      (image_file_bytes_fit addr (length bytes) fine some))
  | inr none ↦ subst (λ (o : ImageFileContents). All IsSoundImageRange o.ranges)
      (sym (image_file_add_no_bytes old addr bytes (let e : length bytes ≡ 0 = omega arith in e))) all
]

joined_skip : (first : Range) (ranges : List Range) (addr len : ℕ) → 0 < length ranges
    → image_file_ranges_joined (first ∷ ranges) addr len ≡ first ∷ image_file_ranges_joined ranges addr len
joined_skip first [] addr len some = absurd (omega arith)
joined_skip first (next ∷ ranges) addr len some = refl

joined_some : (ranges : List Range) (addr len : ℕ) → 0 < length (image_file_ranges_joined ranges addr len)
joined_some [] addr len = omega arith
joined_some (last ∷ []) addr len =
    elim (last.addr + last.len == addr) as
    (λ b. 0 < length (cond b (image_file_range last.addr (last.len + len) ∷ [])
    (last ∷ image_file_range addr len ∷ []))) [ true ↦ omega arith | false ↦ omega arith ]
joined_some (first ∷ next ∷ ranges) addr len = omega arith

-- two ranges, of which the second continues the first, join as one does
pub image_file_join_twice : (ranges : List Range) (addr first second : ℕ)
    → image_file_ranges_joined (image_file_ranges_joined ranges addr first) (addr + first) second
    ≡ image_file_ranges_joined ranges addr (first + second)
image_file_join_twice [] addr first second =
    image_file_range_extends [] (image_file_range addr first) (addr + first) second refl
image_file_join_twice (last ∷ []) addr first second = elim (cases_eq (last.addr + last.len) addr) [
  | inl e ↦
      (let total : last.len + first + second ≡ last.len + (first + second) = omega arith in
      let longer : last.addr + (last.len + first) ≡ addr + first = omega arith in
      ap (λ l. image_file_ranges_joined l (addr + first) second) (image_file_range_extends [] last addr first e)
      ∙ image_file_range_extends [] (image_file_range last.addr (last.len + first)) (addr + first) second longer
      ∙ ap (λ n. image_file_range last.addr n ∷ []) total
      ∙ sym (image_file_range_extends [] last addr (first + second) e))
  | inr n ↦
      (ap (λ l. image_file_ranges_joined l (addr + first) second) (image_file_range_appended [] last addr first n)
      ∙ ap (λ l. last ∷ l) (image_file_range_extends [] (image_file_range addr first) (addr + first) second refl)
      ∙ sym (image_file_range_appended [] last addr (first + second) n))
]
image_file_join_twice (front ∷ next ∷ ranges) addr first second =
    joined_skip front (image_file_ranges_joined (next ∷ ranges) addr first) (addr + first) second
    (joined_some (next ∷ ranges) addr first) ∙ ap (λ l. front ∷ l)
    (image_file_join_twice (next ∷ ranges) addr first second)

-- bytes that follow each other are added as one piece
pub image_file_add_twice : (old : ImageFileContents) (addr : ℕ) (first second : List ℕ) → 0 < length first
    → image_file_add_data (image_file_add_data old addr first) (addr + length first) second
    ≡ image_file_add_data old addr (first ++ second)
image_file_add_twice old addr first [] some =
    ap (λ l. image_file_add_data old addr l) (sym (append-nil first))
image_file_add_twice old addr first (byte ∷ second) some =
    let rest : List ℕ = byte ∷ second in
    let both = length-append first rest in
    let one : ImageFileContents = record {
      ranges = image_file_ranges_joined old.ranges addr (length first);
      bytes = old.bytes ++ first;
    } in
    ap (λ (o : ImageFileContents). image_file_add_data o (addr + length first) rest)
    (image_file_add_bytes old addr first some) ∙ image_file_add_bytes one (addr + length first) rest (omega arith)
    ∙ ap₂ (λ r b. let image : ImageFileContents = record { ranges = r; bytes = b } in image)
    (image_file_join_twice old.ranges addr (length first) (length rest)
    ∙ ap (image_file_ranges_joined old.ranges addr) (sym both)) (append_assoc old.bytes first rest)
    ∙ sym (image_file_add_bytes old addr (first ++ rest) (omega (arith, both)))

-- what holds of a result that is no error
pub image_file_result_ok : {T E : Type 0} (r : Result T E) (P : Type 0) → OnOk r P → is_err r ≡ false → P
image_file_result_ok (Ok value) P holds fine = holds
image_file_result_ok (Err fault) P holds fine = absurd cc
