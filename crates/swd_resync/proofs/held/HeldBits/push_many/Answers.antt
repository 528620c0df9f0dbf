use Rattle.std.proofs.Common.{◌≡◌, ℕ, zero, suc, ◌-◌, ◌/◌, ◌%◌, ◌≤◌, true, false, [], ◌∷◌, ◌++◌, replicate, refl, sym}
use Rattle.std.proofs.Common.{ap, ◌∙◌, arith}
use Rattle.std.specs.Prelude.{◌==◌}
use lib.Count.{count_trailing_zeros}
use Rattle.swd_bits.specs.Bits.{low_bits}
use Rattle.swd_trace.proofs.NumberLemmas.{decoder_zeros_at_front, decoder_zeros_most}
use Rattle.swd_trace.proofs.GrammarLemmas.{decoder_first_bit_is_one}
use Rattle.swd_resync.specs.Holding.{resync_held}
use Rattle.swd_resync.proofs.QueueLemmas.{resync_queue_lowest_bit}
use Rattle.swd_resync.proofs.held.HeldBits.push_many.Goals as goal
use Rattle.swd_resync.proofs.held.HeldBits.push_many.Goals.{else-queue-eq0-via-then-queue-eq0+else-bits-eq0}
use Rattle.swd_resync.proofs.held.HeldBits.push_many.Goals.{else-queue-eq0-via-else-queue-eq0}

-- an even number begins with a zero
even_zero : (v : ℕ) → v % 2 ≡ 0 → 1 ≤ count_trailing_zeros 64 v
even_zero v e = decoder_zeros_most 64 1 v (omega arith) (resync_queue_lowest_bit v ∙ ap (λ d. (d == 1) ∷ []) e)

-- an odd one with no zero
odd_none : (n v : ℕ) → v % 2 ≡ 1 → low_bits n v ≡ replicate n false → n ≡ 0
odd_none zero v e r = refl
odd_none (suc n) v e r =
    let f : true ∷ low_bits (suc n - 1) (v / 2) ≡ false ∷ replicate n false =
    sym (decoder_first_bit_is_one (suc n) v (omega arith) e) ∙ r in
    absurd cc

pub returns-then-bits-eq0-clause-bits : goal.returns-then-bits-eq0-clause-bits
returns-then-bits-eq0-clause-bits c =
    let n = c.min-taken-then-bits-eq0.result in
    let few : n ≤ count_trailing_zeros 64 c.args.bits = omega arith in
    c.with_more_zeros-self.ensures.bits
    ∙ ap (λ x. resync_held c.args.self.now ++ x) (sym (decoder_zeros_at_front 64 n c.args.bits few))

pub returns-then-bits-eq0-clause-some : goal.returns-then-bits-eq0-clause-some
returns-then-bits-eq0-clause-some c =
    let some : 1 ≤ count_trailing_zeros 64 c.args.bits = even_zero c.args.bits c.if-bits-eq0.true in
    let any = c.requires.some in
    omega arith

pub returns-then-bits-eq0-clause-many : goal.returns-then-bits-eq0-clause-many
returns-then-bits-eq0-clause-many c =
    let many : 92 ≤ c.args.self.now.queue.front_len = omega (arith, c.if-queue-lt-FRONT_BITS.false) in
    let none : c.args.self.now.queue.back_len ≡ 0 = c.if-queue-eq0.true in
    let short : c.args.self.now.queue.front_len ≤ 92 = c.args.self.now.holds.queue.front_short in
    let within = c.requires.within in
    record {
      front = λ h. absurd (omega arith);
      run = λ e n h r.
          let most : n ≤ count_trailing_zeros 64 c.args.bits = decoder_zeros_most 64 n c.args.bits (omega arith) r in
          omega arith;
      one = λ e f. absurd (omega (arith, c.if-bits-eq0.true));
      back = λ h. absurd (omega arith);
    }

pub returns-clause-many : goal.returns-clause-many
returns-clause-many c =
    let many : 92 ≤ c.args.self.now.queue.front_len = omega (arith, c.if-queue-lt-FRONT_BITS.false) in
    let short : c.args.self.now.queue.front_len ≤ 92 = c.args.self.now.holds.queue.front_short in
    let taken = c.min-taken-2.ensures in
    record {
      front = λ h. absurd (omega arith);
      run = λ e n h r. elim c.else-queue-eq0.branch [
        | else-queue-eq0-via-then-queue-eq0+else-bits-eq0 w ↦
            let odd : c.args.bits % 2 ≡ 1 = omega (arith, w.if-bits-eq0.false) in
            let none : n ≡ 0 = odd_none n c.args.bits odd r in
            omega arith
        | else-queue-eq0-via-else-queue-eq0 w ↦ absurd (omega (arith, w.if-queue-eq0.false))
      ];
      one = λ e f. omega arith;
      back = λ h. omega arith;
    }
