-- Laws of sequences, and of levels as bytes.
use Rattle.std.proofs.Common.{◌≡◌, ℕ, zero, suc, ◌+◌, ◌-◌, ◌/◌, ◌%◌, ◌^◌, ◌<◌, ◌≤◌, Bool, true, false, List, []}
use Rattle.std.proofs.Common.{◌∷◌, ◌++◌, length, map, drop, take, Option, Some, None, refl, sym, ap, ◌∙◌, subst, arith}
use Rattle.std.proofs.Common.{length-append, append_assoc, append-nil, inl, inr}
use Rattle.std.specs.Prelude.{◌==◌, replicate, slice_index, min, if◌then◌else◌}
use Rattle.swd_bits.specs.Bits.{bits_number}
use Rattle.swd_dap.specs.Sequences.{dap_byte_of, dap_bytes_of}
use Rattle.swd_sequences.specs.Going.{SequenceClock, SequenceClocksGoBy}
use Rattle.swd_dap_probe.specs.declared.shape.Items.TheVariants.{Sequences}
use Rattle.swd_dap_probe.specs.Shapes.{dap_bytes_for, dap_shape, dap_samples, dap_clocks, dap_item_shape}
use Rattle.swd_dap_probe.specs.Sequences.{Samples, Drives, dap_bits, dap_level_bytes, dap_sequence_at}
use Rattle.swd_dap_probe.specs.Sequences.{dap_sequence_drives, dap_sequence_told}
use Rattle.swd_dap_probe.specs.Moves.{DapSampled}
use Rattle.swd_dap_probe.specs.Sequences.{DapLevelsSampled}
use Rattle.swd_dap_probe.proofs.ClockLemmas.{clocks_append}
use Rattle.std.proofs.lemmas.List.{take_all, drop_all, replicate-append-replicate, length-replicate}
use Rattle.std.proofs.Math.Seq.{take-append_seam, drop-append_seam}
use Rattle.std.proofs.lemmas.Bool.{cases_lt}

-- the bits that are left
pub bits_next : (bytes : List ℕ) (count place : ℕ) → place < count
    → map Some (dap_bits bytes place (count - place))
    ≡ Some (slice_index bytes (place / 8) / 2 ^ (place % 8) % 2 == 1)
    ∷ map Some (dap_bits bytes (place + 1) (count - (place + 1)))
bits_next bytes count place l =
    let n = count - (place + 1) in
    let e : count - place ≡ suc n = omega arith in
    ap (λ k. map Some (dap_bits bytes place k)) e

-- none is left once all went by
pub bits_none : (bytes : List ℕ) (count place : ℕ) → count ≤ place
    → map Some (dap_bits bytes place (count - place)) ≡ []
bits_none bytes count place l =
    let e : count - place ≡ 0 = omega arith in
    ap (λ k. map Some (dap_bits bytes place k)) e

-- all are left at first
pub bits_all : (bytes : List ℕ) (count : ℕ)
    → map Some (dap_bits bytes 0 (count - 0)) ≡ map Some (dap_bits bytes 0 count)
bits_all bytes count =
    let e : count - 0 ≡ count = omega arith in
    ap (λ k. map Some (dap_bits bytes 0 k)) e

-- a byte is the number of its eight bits
byte_number : (bits : List Bool) → dap_byte_of bits ≡ bits_number (take 8 bits)
byte_number [] = refl
byte_number (a ∷ []) = omega arith
byte_number (a ∷ b ∷ []) = omega arith
byte_number (a ∷ b ∷ c ∷ []) = omega arith
byte_number (a ∷ b ∷ c ∷ d ∷ []) = omega arith
byte_number (a ∷ b ∷ c ∷ d ∷ e ∷ []) = omega arith
byte_number (a ∷ b ∷ c ∷ d ∷ e ∷ f ∷ []) = omega arith
byte_number (a ∷ b ∷ c ∷ d ∷ e ∷ f ∷ g ∷ []) = omega arith
byte_number (a ∷ b ∷ c ∷ d ∷ e ∷ f ∷ g ∷ h ∷ rest) = omega arith

-- the first byte of levels, and those behind it
bytes_step : (first rest : List Bool) → (dap_byte_of (first ++ rest) ≡ bits_number first)
    → drop 8 (first ++ rest) ≡ rest → (length (first ++ rest) + 7) / 8 ≡ suc ((length rest + 7) / 8)
    → dap_level_bytes (first ++ rest) ≡ bits_number first ∷ dap_level_bytes rest
bytes_step first rest a b e =
    ap (λ k. dap_bytes_of k (first ++ rest)) e
    ∙ ap (λ x. x ∷ dap_bytes_of ((length rest + 7) / 8) (drop 8 (first ++ rest))) a
    ∙ ap (λ x. bits_number first ∷ dap_bytes_of ((length rest + 7) / 8) x) b

pub level_bytes_full : (first rest : List Bool) → 8 ≡ length first
    → dap_level_bytes (first ++ rest) ≡ bits_number first ∷ dap_level_bytes rest
level_bytes_full first rest e =
    let t : take 8 (first ++ rest) ≡ first
    = subst (λ k. take k (first ++ rest) ≡ first) (sym e) (take-append_seam first rest) in
    let d : drop 8 (first ++ rest) ≡ rest
    = subst (λ k. drop k (first ++ rest) ≡ rest) (sym e) (drop-append_seam first rest) in
    let long : length (first ++ rest) ≡ length first + length rest = length-append first rest in
    let many : (length (first ++ rest) + 7) / 8 ≡ suc ((length rest + 7) / 8) = omega (arith, long, e) in
    bytes_step first rest (byte_number (first ++ rest) ∙ ap bits_number t) d many

pub level_bytes_last : (first rest : List Bool) → 0 < length first → length first ≤ 8 → length rest ≡ 0
    → dap_level_bytes (first ++ rest) ≡ bits_number first ∷ dap_level_bytes rest
level_bytes_last first (x ∷ rest) some few e = absurd (cc)
level_bytes_last first [] some few e =
    let a : first ++ [] ≡ first = append-nil first in
    let t : take 8 (first ++ []) ≡ first = ap (take 8) a ∙ take_all 8 first few in
    let d : drop 8 (first ++ []) ≡ [] = ap (drop 8) a ∙ drop_all 8 first few in
    let long : length (first ++ []) ≡ length first = ap length a in
    let many : (length (first ++ []) + 7) / 8 ≡ suc (0 + 7 / 8) = omega (arith, long) in
    bytes_step first [] (byte_number (first ++ []) ∙ ap bits_number t) d many

-- of levels that are left, eight at most are a byte
pub level_bytes_next : (left now : ℕ) (first rest : List Bool) → 0 < left → now ≡ min left 8 → length first ≡ now
    → length rest ≡ left - now → dap_level_bytes (first ++ rest) ≡ bits_number first ∷ dap_level_bytes rest
level_bytes_next left now first rest some is a b =
    elim (cases_lt left 8) [
      | inl l ↦ level_bytes_last first rest (omega (arith, some, is, a, l)) (omega (arith, is, a, l))
          (omega (arith, is, a, b, l))
      | inr l ↦ level_bytes_full first rest (omega (arith, is, a, l))
    ]

-- as many levels as clocks
pub clocks_length : {L : Type 0} (clock : SequenceClock L) (drives : List (Option Bool)) (levels : List Bool) (s t : L)
    → SequenceClocksGoBy clock drives levels s t → length levels ≡ length drives
clocks_length clock [] [] s t h = refl
clocks_length clock [] (l ∷ levels) s t h = absurd h
clocks_length clock (d ∷ drives) [] s t h = absurd h
clocks_length clock (d ∷ drives) (l ∷ levels) s t h =
    let e : length levels ≡ length drives = clocks_length clock drives levels h.0 t h.2 in
    omega (arith, e)

-- If the levels that are left are sampled from here, all of them have been sampled, and their bytes appended.
pub record BytesLead {L : Type 0} (clock : SequenceClock L) (count : ℕ) (before now : List ℕ) (seen : List Bool)
    (s0 t : L) : Type 0 where
  pub levels : List Bool
  pub goes : SequenceClocksGoBy clock (replicate count None) levels s0 t
  pub is : before ++ dap_level_bytes levels ≡ now ++ dap_level_bytes seen

abbrev pub AllBytesLead : {L : Type 0} → SequenceClock L → ℕ → List ℕ → ℕ → List ℕ → L → L → Type 0
AllBytesLead {L} clock count before left now s0 s = (seen : List Bool) (t : L)
    → SequenceClocksGoBy clock (replicate left None) seen s t → BytesLead clock count before now seen s0 t

-- before the first byte
pub bytes_lead_first : {L : Type 0} (clock : SequenceClock L) (count : ℕ) (before : List ℕ) (s : L)
    → AllBytesLead clock count before count before s s
bytes_lead_first clock count before s seen t h = record { levels = seen; goes = h; is = refl }

-- one byte more
pub bytes_lead_next : {L : Type 0} (clock : SequenceClock L) (count : ℕ) (before : List ℕ) (left now : ℕ)
    (was becomes : List ℕ) (number : ℕ) (s0 s m : L) → 0 < left → now ≡ min left 8
    → DapSampled clock now number s m → becomes ≡ was ++ number ∷ []
    → AllBytesLead clock count before left was s0 s → AllBytesLead clock count before (left - now) becomes s0 m
bytes_lead_next clock count before left now was becomes number s0 s m some is one put leads seen t h =
    let first = one.levels in
    let sum : now + (left - now) ≡ left = omega (arith, is) in
    let both : replicate now None ++ replicate (left - now) None ≡ replicate left None
    = replicate-append-replicate now (left - now) None ∙ ap (λ k. replicate k None) sum in
    let goes = subst (λ x. SequenceClocksGoBy clock x (first ++ seen) s t) both
    (clocks_append clock (replicate now None) (replicate (left - now) None) first seen s m t one.goes h) in
    let all = leads (first ++ seen) t goes in
    let long : length seen ≡ left - now = clocks_length clock (replicate (left - now) None) seen m t h
    ∙ length-replicate (left - now) None in
    let bytes = level_bytes_next left now first seen some is one.long long in
    let e : was ++ (bits_number first ∷ dap_level_bytes seen) ≡ becomes ++ dap_level_bytes seen
    = ap (λ x. was ++ (x ∷ dap_level_bytes seen)) (sym one.is)
    ∙ sym (append_assoc was (number ∷ []) (dap_level_bytes seen))
    ∙ ap (λ x. x ++ dap_level_bytes seen) (sym put) in
    record { levels = all.levels; goes = all.goes; is = all.is ∙ ap (λ x. was ++ x) bytes ∙ e }

-- once no level is left
pub bytes_lead_last : {L : Type 0} (clock : SequenceClock L) (count : ℕ) (before now : List ℕ) (left : ℕ) (s0 s : L)
    → left ≤ 0 → AllBytesLead clock count before left now s0 s → DapLevelsSampled clock count before now s0 s
bytes_lead_last clock count before now left s0 s none leads =
    let e : 0 ≡ left = omega (arith, none) in
    let all = leads [] s (subst (λ k. SequenceClocksGoBy clock (replicate k None) [] s s) e refl) in
    record {
      levels = all.levels;
      long = clocks_length clock (replicate count None) all.levels s0 s all.goes ∙ length-replicate count None;
      goes = all.goes;
      told = sym (append-nil now) ∙ sym all.is;
    }

-- levels fill as many bytes as they need
pub length-dap_bytes_of : (n : ℕ) (bits : List Bool) → length (dap_bytes_of n bits) ≡ n
length-dap_bytes_of zero bits = refl
length-dap_bytes_of (suc n) bits =
    let e : length (dap_bytes_of n (drop 8 bits)) ≡ n = length-dap_bytes_of n (drop 8 bits) in
    omega (arith, e)

told_short_by : {L : Type 0} (clock : SequenceClock L) (b : Bool) (clocks : ℕ) (bits levels : List Bool) (s t : L)
    → SequenceClocksGoBy clock (dap_sequence_drives (if b then Samples clocks else Drives bits)) levels s t
    → length (dap_sequence_told (if b then Samples clocks else Drives bits) levels)
    ≤ (if b then dap_shape 1 (dap_bytes_for clocks) else dap_shape (1 + dap_bytes_for clocks) 0).reply
told_short_by clock true clocks bits levels s t h =
    let e : length levels ≡ clocks =
    clocks_length clock (replicate clocks None) levels s t h ∙ length-replicate clocks None in
    let f : length (dap_level_bytes levels) ≡ (length levels + 7) / 8
    = length-dap_bytes_of ((length levels + 7) / 8) levels in
    omega (arith, e, f)
told_short_by clock false clocks bits levels s t h = omega arith

-- what is told of a sequence has as many bytes as its shape says
pub told_short : {L : Type 0} (clock : SequenceClock L) (bytes : List ℕ) (levels : List Bool) (s t : L)
    → SequenceClocksGoBy clock (dap_sequence_drives (dap_sequence_at bytes)) levels s t
    → length (dap_sequence_told (dap_sequence_at bytes) levels) ≤ (dap_item_shape Sequences bytes).reply
told_short clock bytes levels s t h = told_short_by clock (dap_samples (slice_index bytes 0))
    (dap_clocks (slice_index bytes 0)) (dap_bits (drop 1 bytes) 0 (dap_clocks (slice_index bytes 0))) levels s t h
