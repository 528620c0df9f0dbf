-- The bytes of words that were read, and those of the memory.
use Rattle.std.proofs.Common.{◌≡◌, ◌+◌, ◌*◌, ◌/◌, ◌%◌, ◌<◌, ◌≤◌, ◌^◌, ℕ, zero, suc, refl, ap, arith, add-one, ◌∙◌}
use Rattle.std.proofs.Common.{List, [], ◌∷◌, ◌++◌, length, get_or, inl, inr}
use Rattle.std.specs.Int.{w32, to_le_bytes}
use Rattle.std.specs.Ordering.{nat_cmp}
use Rattle.std.specs.FinMap.{FinMap}
use Rattle.swd_port.specs.PlainMemory.{PlainMemory}
use Rattle.swd_port.specs.PlainBus.{plain_of}
use Rattle.swd_port.specs.PlainBus.{IsPlain, plain_words_of}
use Rattle.swd_run.specs.declared.limits.Limits.{Limits}
use Rattle.swd_port.specs.declared.wire.Wire.{Ghosts}
use Rattle.swd_image.proofs.CallLemmas.{calls_rest}
use Rattle.swd_host.specs.Reports.{IsAtRest}
use Rattle.swd_image.specs.Bytes.{image_byte_in, image_bytes_at, image_bytes_of, image_word_in, image_word_of}
use Rattle.swd_image.specs.Bytes.{image_words_at}
use Rattle.swd_image.specs.Dumps.{Dumps}
use Rattle.swd_image.specs.Lists.{image_dump_list, image_word_count}
use Rattle.swd_image.specs.Sessions.{ReadsAs}
use Rattle.swd_image.proofs.ImageLemmas.{image_word_count_cases}
use Rattle.swd_image.proofs.LoadLemmas.{image_reads_are_reads, has_read, image_reads_from_memory}

-- the last of `count + 1` bytes of consecutive words is the byte at its place in the word that contains it
pub dump_bytes_next : (words : List ℕ) (place count : ℕ)
    → image_bytes_of words place (count + 1)
    ≡ image_bytes_of words place count ++ image_byte_in (get_or words ((place + count) / 4) 0) (place + count) ∷ []
dump_bytes_next words place count = ap (image_bytes_of words place) (add-one count) ∙ by place count
  where
    by : (place count : ℕ) → image_bytes_of words place (suc count)
        ≡ image_bytes_of words place count ++ image_byte_in (get_or words ((place + count) / 4) 0) (place + count) ∷ []
    by place zero = let e : place ≡ place + zero = omega arith in
        ap (λ p. image_byte_in (get_or words (p / 4) 0) p ∷ []) e
    by place (suc count) = let e : place + 1 + count ≡ place + suc count = omega arith in
        ap (λ l. image_byte_in (get_or words (place / 4) 0) place ∷ l) (by (place + 1) count
        ∙ ap (λ p. image_bytes_of words (place + 1) count ++ image_byte_in (get_or words (p / 4) 0) p ∷ []) e)

-- `count` bytes of consecutive words are as many
pub dump_bytes_length : (words : List ℕ) (place count : ℕ) → length (image_bytes_of words place count) ≡ count
dump_bytes_length words place zero = refl
dump_bytes_length words place (suc count) = ap suc (dump_bytes_length words (place + 1) count)

-- there is a word for each byte of a range
pub dump_words_enough : (addr count : ℕ) → 0 < count → addr % 4 + count ≤ 4 * image_word_count addr count
dump_words_enough addr count some = elim (image_word_count_cases addr count) [
  | inl none ↦ (let z = none.0 in absurd (omega (arith, z)))
  | inr many ↦ (let z = many.1 in omega (arith, z))
]

word_there : (words : FinMap nat_cmp ℕ) (at count k : ℕ) → k < count
    → get_or (image_words_at words at count) k 0 ≡ image_word_in words (at + 4 * k)
word_there words at zero k low = absurd (omega arith)
word_there words at (suc count) zero low = let e : at ≡ at + 4 * zero = omega arith in ap (image_word_in words) e
word_there words at (suc count) (suc k) low =
    let e : at + 4 + 4 * k ≡ at + 4 * suc k = omega arith in
    word_there words (at + 4) count k (omega arith) ∙ ap (image_word_in words) e

-- the bytes of the words are the memory's
memory_bytes : (m : PlainMemory) (first many place addr count : ℕ) → first % 4 ≡ 0 → addr ≡ first + place
    → (0 < count → place + count ≤ 4 * many)
    → image_bytes_of (image_words_at m.words first many) place count ≡ image_bytes_at m addr count
memory_bytes m first many place addr zero aligned is few = refl
memory_bytes m first many place addr (suc count) aligned is few =
    let enough : place + suc count ≤ 4 * many = few (omega arith) in
    let word : get_or (image_words_at m.words first many) (place / 4) 0 ≡ image_word_in m.words (image_word_of addr) =
    word_there m.words first many (place / 4) (omega (arith, enough))
    ∙ (let e : first + 4 * (place / 4) ≡ image_word_of addr = omega (arith, aligned, is) in
    ap (image_word_in m.words) e) in
    let same : place % 4 ≡ addr % 4 = omega (arith, aligned, is) in
    ap (λ w. image_byte_in w place ∷ image_bytes_of (image_words_at m.words first many) (place + 1) count) word
    ∙ ap (λ i. get_or (to_le_bytes w32 (image_word_in m.words (image_word_of addr))) i 0
    ∷ image_bytes_of (image_words_at m.words first many) (place + 1) count) same
    ∙ ap (λ l. image_byte_in (image_word_in m.words (image_word_of addr)) addr ∷ l)
    (memory_bytes m first many (place + 1) (addr + 1) count aligned (omega (arith, is)) (λ some. omega (
      arith,
      enough,
    )))

module _ {W : Type 0} (wire : Ghosts W) (limits : Limits) (addr count : ℕ)
    (s t : W) where
  -- what was read is a dump
  pub dumped : (bytes words : List ℕ) → addr + count ≤ 2 ^ 32
      → ReadsAs wire limits (image_dump_list addr count) words s t
      → bytes ≡ image_bytes_of words (addr % 4) count
      → Dumps wire limits addr count bytes s t
  dumped bytes words fits reads are =
      let first : ℕ = image_word_of addr in
      let many : ℕ = image_word_count addr count in
      let read = λ (law : wire.lawful t) (rest : IsAtRest (wire.port s)) (plain : IsPlain (wire.port s).target.memory).
      has_read wire limits s t (image_dump_list addr count) words (image_reads_are_reads first many)
      reads law rest plain in
      record {
        fits = fits;
        words = words;
        reads = reads;
        are = are;
        memory = λ law rest plain. are
            ∙ ap (λ l. image_bytes_of l (addr % 4) count)
            ((read law rest plain).words_are
            ∙ image_reads_from_memory (plain_words_of (wire.port s).target.memory) first many)
            ∙ memory_bytes (plain_of (wire.port s).target.memory) first many (addr % 4) addr count (omega arith)
            (omega arith)
            (dump_words_enough addr count);
        same = λ law rest plain. (read law rest plain).same;
        plain = λ law rest plain. (read law rest plain).plain;
        rests = λ law rest. calls_rest wire limits s t (image_dump_list addr count) reads.answers
            reads.calls law rest;
      }
