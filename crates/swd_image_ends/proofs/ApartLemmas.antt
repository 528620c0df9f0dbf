-- Pieces of which no two have an address, loaded one after the other: none of them changes a byte of another.
use Rattle.std.proofs.Common.{◌≡◌, ◌+◌, ◌-◌, ◌<◌, ◌≤◌, ◌⊎◌, ℕ, zero, suc, List, [], ◌∷◌, ◌++◌, length, take, drop}
use Rattle.std.proofs.Common.{get_or, refl, sym, ap, ap₂, subst, arith, ◌∙◌, inl, inr, cond}
use Rattle.std.proofs.lemmas.Bool.{cases_lt, lt-ltb, le-leb}
use Rattle.std.proofs.lemmas.Bool.Decides.{nat_tests}
use Rattle.std.proofs.lemmas.List.Sums.{sum_by-cons}
use Rattle.std.specs.Prelude.{◌&&◌}
use Rattle.swd_image_files.specs.declared.image.Range.{Range}
use Rattle.swd_image_files.specs.Images.{ImageFileBytes, image_file_pieces}
use Rattle.swd_image_files.specs.Overlaps.{image_range_has, image_range_times}
use Rattle.swd_image_ends.specs.Laws.{LoadKeepsEachPiece}
use Rattle.swd_image_ends.specs.Pieces.{loaded_piece_byte, loaded_pieces_byte}

-- ONE PIECE
-- an address is none of a piece
abbrev IsOutside : ℕ → ImageFileBytes → Type 0
IsOutside at piece = (at < piece.addr) ⊎ (piece.addr + length piece.bytes ≤ at)

piece_inside : (piece : ImageFileBytes) (old at : ℕ) → piece.addr ≤ at → at < piece.addr + length piece.bytes
    → loaded_piece_byte piece old at ≡ get_or piece.bytes (at - piece.addr) 0
piece_inside piece old at low high = grind (arith, nat_tests)

piece_outside : (piece : ImageFileBytes) (old at : ℕ) → IsOutside at piece → loaded_piece_byte piece old at ≡ old
piece_outside piece old at (inl low) = grind (arith, nat_tests)
piece_outside piece old at (inr high) = grind (arith, nat_tests)

-- a piece has at most the addresses of its range
short : (n : ℕ) (bytes : List ℕ) → length (take n bytes) ≤ n
short zero bytes = omega arith
short (suc n) [] = omega arith
short (suc n) (byte ∷ bytes) = let s = short n bytes in omega (arith, s)

has_one : (at : ℕ) (range : Range) → range.addr ≤ at → at < range.addr + range.len → image_range_has at range ≡ 1
has_one at range low high =
    ap₂ (λ a b. cond (a && b) 1 0) (le-leb range.addr at low) (lt-ltb at (range.addr + range.len) high)

beside : (at : ℕ) (range : Range) (bytes : List ℕ) → image_range_has at range ≡ 0
    → (at < range.addr) ⊎ (range.addr + length (take range.len bytes) ≤ at)
beside at range bytes none = elim (cases_lt at range.addr) [
  | inl below ↦ inl below
  | inr above ↦ elim (cases_lt at (range.addr + range.len)) [
    | inl within ↦ absurd (let one = has_one at range above within in omega (arith, one, none))
    | inr past ↦ inr (let s = short range.len bytes in omega (arith, s))
  ]
]

-- SEVERAL PIECES
-- if no range has an address, the pieces leave its byte
all_beside : (ranges : List Range) (bytes : List ℕ) (old at : ℕ) → image_range_times ranges at ≡ 0
    → loaded_pieces_byte (image_file_pieces ranges bytes) old at ≡ old
all_beside [] bytes old at none = refl
all_beside (range ∷ ranges) bytes old at none =
    let e = sum_by-cons (image_range_has at) range ranges in
    let here : image_range_has at range ≡ 0 = omega (arith, e, none) in
    let later : image_range_times ranges at ≡ 0 = omega (arith, e, none) in
    let piece : ImageFileBytes = record { addr = range.addr; bytes = take range.len bytes } in
    all_beside ranges (drop range.len bytes) (loaded_piece_byte piece old at) at later
    ∙ piece_outside piece old at (beside at range bytes here)

-- if at most one range has it, the byte is that of the piece that has it
kept : (ranges : List Range) (bytes : List ℕ) (old at : ℕ) → image_range_times ranges at ≤ 1
    → (before after : List ImageFileBytes) (piece : ImageFileBytes)
    → image_file_pieces ranges bytes ≡ before ++ (piece ∷ after)
    → piece.addr ≤ at → at < piece.addr + length piece.bytes
    → loaded_pieces_byte (image_file_pieces ranges bytes) old at ≡ get_or piece.bytes (at - piece.addr) 0
kept [] bytes old at few [] after piece is low high = absurd cc
kept [] bytes old at few (first ∷ before) after piece is low high = absurd cc
kept (range ∷ ranges) bytes old at few [] after piece is low high =
    let own : ImageFileBytes = record { addr = range.addr; bytes = take range.len bytes } in
    let same : own ≡ piece = cc in
    let low' : own.addr ≤ at = subst (λ (p : ImageFileBytes). p.addr ≤ at) (sym same) low in
    let high' : at < own.addr + length own.bytes =
    subst (λ (p : ImageFileBytes). at < p.addr + length p.bytes) (sym same) high in
    let s = short range.len bytes in
    let one = has_one at range low' (omega (arith, high', s)) in
    let e = sum_by-cons (image_range_has at) range ranges in
    let later : image_range_times ranges at ≡ 0 = omega (arith, e, one, few) in
    all_beside ranges (drop range.len bytes) (loaded_piece_byte own old at) at later
    ∙ subst (λ (p : ImageFileBytes). loaded_piece_byte own old at ≡ get_or p.bytes (at - p.addr) 0) same
    (piece_inside own old at low' high')
kept (range ∷ ranges) bytes old at few (first ∷ before) after piece is low high =
    let own : ImageFileBytes = record { addr = range.addr; bytes = take range.len bytes } in
    let e = sum_by-cons (image_range_has at) range ranges in
    let tail : image_file_pieces ranges (drop range.len bytes) ≡ before ++ (piece ∷ after) = cc in
    kept ranges (drop range.len bytes) (loaded_piece_byte own old at) at (omega (arith, e, few)) before after piece tail
    low high

-- THE LAW
pub loaded_pieces_keep_each : LoadKeepsEachPiece
loaded_pieces_keep_each ranges bytes m n apart loaded before after piece is k low =
    let at : ℕ = piece.addr + k in
    let place : at - piece.addr ≡ k = omega arith in
    loaded.bytes_are at
    ∙ kept ranges bytes _ at (apart at) before after piece is (omega arith) (omega arith)
    ∙ ap (λ i. get_or piece.bytes i 0) place
