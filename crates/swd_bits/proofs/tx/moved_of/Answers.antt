use Rattle.std.proofs.Common.{◌≡◌, ◌+◌, Bool, true, false, not, List, [], ◌∷◌, ◌++◌, length, refl, ap, ◌∙◌, arith}
use Rattle.std.proofs.lemmas.List.{append-nil}
use mir.Val.{bool_byte}
use Rattle.swd_bits.specs.Bits.{low_bits}
use Rattle.swd_bits.specs.BitLists.{tx_bits_of}
use Rattle.swd_bits.specs.Transactions.{moved_data_phase}
use Rattle.swd_bits.proofs.BitsLemmas.{length-low_bits}
use Rattle.swd_bits.proofs.TxLemmas.{tx_bits_one_bit}
use Rattle.swd_bits.proofs.tx.moved_of.Goals as goal

none : (bits : List Bool) → length bits ≡ 0 → bits ≡ []
none [] h = refl
none (b ∷ bits) h = absurd (omega arith)

-- a read's phase comes before the turnaround, a write's after it
parted : (read : Bool) (before phase after : List Bool) → length before ≡ bool_byte (not read)
    → length after + bool_byte (not read) ≡ 1 →
    (u : Bool) × (before ++ (phase ++ after) ≡ moved_data_phase read u phase)
parted true before phase after b a =
    let h : length before ≡ 0 = b in
    let one : length after ≡ 1 = omega arith in
    let u = tx_bits_one_bit after one in
    (u.0, ap (λ x. x ++ (phase ++ after)) (none before h) ∙ ap (λ x. phase ++ x) u.1)
parted false before phase after b a =
    let one : length before ≡ 1 = b in
    let h : length after ≡ 0 = omega arith in
    let u = tx_bits_one_bit before one in (
      u.0,
      ap (λ x. x ++ (phase ++ after)) u.1 ∙ ap (λ x. u.0 ∷ (phase ++ x)) (none after h)
          ∙ ap (λ x. u.0 ∷ x) (append-nil phase),
    )

pub returns : goal.returns
returns c =
    let skipped = c.from.result in
    let before = low_bits skipped c.split.result.0 in
    let after = tx_bits_of c.split-phase.result.1 in
    let skips : skipped ≡ bool_byte (not c.args.read) = c.from.ensures in
    let b : length before ≡ skipped = length-low_bits skipped c.split.result.0 in
    let a : length after ≡ c.split-phase.result.1.len = length-low_bits c.split-phase.result.1.len
    c.split-phase.result.1.bits in
    let first = c.split.ensures.len in
    let second = c.split-phase.ensures.len in
    let l = c.requires.len in
    let p = parted c.args.read before (low_bits 33 c.split-phase.result.0) after (b ∙ skips) (omega arith) in (
      c.phase_in-word.ensures.word,
      p.0,
      c.split.ensures.bits ∙ ap (λ x. before ++ x) c.split-phase.ensures.bits ∙ p.1
          ∙ ap (moved_data_phase c.args.read p.0) c.phase_in-word.ensures.bits,
    )
