use Rattle.std.proofs.Common.{◌≡◌, ℕ, ◌+◌, ◌-◌, ◌*◌, ◌/◌, ◌%◌, ◌^◌, ◌<◌, ◌∷◌, [], take, sym, ap, arith, ◌∙◌, bit_and}
use Rattle.std.proofs.lemmas.List.{take_at}
use Rattle.std.proofs.lemmas.Nat.{and_mask, shr_split, pow_pos}
use Rattle.std.proofs.Math.Nat.{mod-lt}
use Rattle.swd_bits.specs.Bits.{low_bits, odd}
use Rattle.swd_bits.specs.Wire.{phase}
use Rattle.swd_bits.proofs.BitsLemmas.{low_bits-cat, length-low_bits, low_bits_injective}
use Rattle.swd_bits.specs.Phases.{data_phase_number, data_phase_word}
use Rattle.swd_bits.proofs.PhaseLemmas.{data_phase_gives_word, no_data_phase_no_word}
use Rattle.swd_bits.proofs.data_phase.word_of.Goals as goal

-- the first bits of a number with a high part
low_part : (m n v : ℕ) → take m (low_bits (m + n) v) ≡ low_bits m (v % 2 ^ m)
low_part m n v =
    let parts : v / 2 ^ m * 2 ^ m + v % 2 ^ m ≡ v = shr_split v (m) in
    let small : v % 2 ^ m < 2 ^ m = mod-lt v (pow_pos m) in
    ap (λ x. take m (low_bits (m + n) x)) (sym parts) ∙ ap (take m) (low_bits-cat m n (v / 2 ^ m) (v % 2 ^ m) small)
    ∙ take_at (low_bits m (v % 2 ^ m)) (low_bits n (v / 2 ^ m)) m (length-low_bits m (v % 2 ^ m))

-- a phase tells its word
word_is : (word sent : ℕ) → word < 2 ^ 32 → phase word ≡ low_bits 33 sent → word ≡ sent % 2 ^ 32
unfolding phase
word_is word sent h e =
    low_bits_injective 32 word (sent % 2 ^ 32) h (omega arith)
    (sym (take_at (low_bits 32 word) (odd (low_bits 32 word) ∷ []) 32 (length-low_bits 32 word)) ∙ ap (take 32) e
    ∙ low_part 32 1 sent)

no_other : (sent made : ℕ) → sent < 2 ^ 33 → made < 2 ^ 33 → low_bits 33 made ≡ phase (bit_and sent (2 ^ 32 - 1))
    → (made ≡ sent → ⊥) →
    (word : ℕ) → word < 2 ^ 32 → phase word ≡ low_bits 33 sent → ⊥
no_other sent made h k f g word j e =
    let n : bit_and sent (2 ^ 32 - 1) ≡ word = and_mask sent 32 ∙ sym (word_is word sent j e) in
    g (low_bits_injective 33 made sent k h (f ∙ ap phase n ∙ e))

pub returns-then-data_bits-sent-clause-number : goal.returns-then-data_bits-sent-clause-number
returns-then-data_bits-sent-clause-number c =
    let small : bit_and c.args.sent (2 ^ 32 - 1) < 2 ^ 32 = rw (and_mask c.args.sent 32) (omega arith) in
    let same : c.args.sent ≡ data_phase_number (bit_and c.args.sent (2 ^ 32 - 1)) =
    sym c.if-data_bits-sent.true ∙ c.data_bits.ensures.number in
    sym (data_phase_gives_word (bit_and c.args.sent (2 ^ 32 - 1)) small) ∙ ap data_phase_word (sym same)

pub returns-else-data_bits-sent-clause-number : goal.returns-else-data_bits-sent-clause-number
returns-else-data_bits-sent-clause-number c =
    sym (no_data_phase_no_word c.args.sent c.requires
    (no_other c.args.sent c.data_bits.result c.requires c.data_bits.ensures.bound c.data_bits.ensures.bits
    c.if-data_bits-sent.false))

pub returns-else-data_bits-sent-clause-none : goal.returns-else-data_bits-sent-clause-none
returns-else-data_bits-sent-clause-none c =
    no_other c.args.sent c.data_bits.result c.requires c.data_bits.ensures.bound c.data_bits.ensures.bits
    c.if-data_bits-sent.false

pub returns-then-data_bits-sent-clause-only : goal.returns-then-data_bits-sent-clause-only
returns-then-data_bits-sent-clause-only c = λ other h e. word_is other c.args.sent h e ∙ sym (and_mask c.args.sent 32)
