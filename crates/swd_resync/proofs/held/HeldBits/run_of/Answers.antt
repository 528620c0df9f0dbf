use Rattle.std.proofs.Common.{◌≡◌, ℕ, ◌-◌, ◌^◌, ◌<◌, ◌≤◌, Bool, true, false, replicate, refl, sym, subst, arith}
use lib.Count.{count_trailing_zeros}
use Rattle.swd_bits.specs.Bits.{low_bits}
use Rattle.swd_trace.proofs.NumberLemmas.{decoder_zeros_at_front, decoder_ones_at_front, decoder_zeros_most}
use Rattle.swd_trace.proofs.NumberLemmas.{decoder_ones_most}
use Rattle.swd_resync.proofs.QueueLemmas.{resync_queue_wider, resync_window_run, resync_window_first_bit}
use Rattle.swd_resync.proofs.held.HeldBits.run_of.Goals as goal
use Rattle.swd_resync.proofs.held.HeldBits.run_of.Goals.{then-bit, else-bit}

equal : (bit : Bool) (bits others n : ℕ) → (bit ≡ true → others ≡ 2 ^ 64 - 1 - bits) → (bit ≡ false → others ≡ bits)
    → bits < 2 ^ 64 → n ≤ count_trailing_zeros 64 others → low_bits n bits ≡ replicate n bit
equal true bits others n f g h c =
    decoder_ones_at_front 64 n bits h (subst (λ m. n ≤ count_trailing_zeros 64 m) (f refl) c)
equal false bits others n f g h c = decoder_zeros_at_front 64 n bits
    (subst (λ m. n ≤ count_trailing_zeros 64 m) (g refl) c)

first : (bit : Bool) (bits others : ℕ) → (bit ≡ true → others ≡ 2 ^ 64 - 1 - bits) → (bit ≡ false → others ≡ bits)
    → bits < 2 ^ 64 → low_bits 1 bits ≡ replicate 1 bit → 1 ≤ count_trailing_zeros 64 others
first true bits others f g h r =
    subst (λ m. 1 ≤ count_trailing_zeros 64 m) (sym (f refl)) (decoder_ones_most 64 1 bits h (omega arith) r)
first false bits others f g h r =
    subst (λ m. 1 ≤ count_trailing_zeros 64 m) (sym (g refl)) (decoder_zeros_most 64 1 bits (omega arith) r)

not_both : {A : Type 0} (bit : Bool) → bit ≡ true → bit ≡ false → A
not_both true e f = absurd cc
not_both false e f = absurd cc

pub returns-clause-run : goal.returns-clause-run
returns-clause-run c =
    let w = c.window-window.result in
    let f = c.window-window.ensures.first in
    let most : w.len ≤ 50 = c.window-window.ensures.most in
    let fits : w.bits < 2 ^ 64 = resync_queue_wider w.len 64 w.bits c.window-window.ensures.spelled (omega arith) in
    let n = c.min.result in
    let few : n ≤ count_trailing_zeros 64 c.if-bit.others = omega arith in
    let same : low_bits n w.bits ≡ replicate n c.args.bit =
    elim c.if-bit.branch [
      | then-bit b ↦ equal c.args.bit w.bits c.if-bit.others n (λ e. b.others-is)
          (λ e. not_both c.args.bit b.if-bit.true e) fits few
      | else-bit b ↦ equal c.args.bit w.bits c.if-bit.others n (λ e. not_both c.args.bit e b.if-bit.false)
          (λ e. b.others-is) fits few
    ] in
    resync_window_run w.len w.bits n c.args.bit f.0 _ f.1 (omega arith) same

pub returns-clause-some : goal.returns-clause-some
returns-clause-some c = λ back e.
    let w = c.window-window.result in
    let f = c.window-window.ensures.first in
    let most : w.len ≤ 50 = c.window-window.ensures.most in
    let fits : w.bits < 2 ^ 64 = resync_queue_wider w.len 64 w.bits c.window-window.ensures.spelled (omega arith) in
    let s = resync_window_first_bit w.len w.bits c.args.bit f.0 _ back f.1 f.2 e in
    let some : 0 < w.len = s.0 in
    let few : 1 ≤ count_trailing_zeros 64 c.if-bit.others =
    elim c.if-bit.branch [
      | then-bit b ↦ first c.args.bit w.bits c.if-bit.others (λ e. b.others-is)
          (λ e. not_both c.args.bit b.if-bit.true e) fits s.1
      | else-bit b ↦ first c.args.bit w.bits c.if-bit.others (λ e. not_both c.args.bit e b.if-bit.false)
          (λ e. b.others-is) fits s.1
    ] in
    omega arith
