use Rattle.std.proofs.Common.{◌≡◌, ℕ, ◌*◌, ◌-◌, ◌%◌, ◌^◌, ◌<◌, ◌++◌, ap, ◌∙◌, arith, bit_and}
use Rattle.swd_bits.specs.Bits.{low_bits}
use Rattle.swd_trace.specs.Held.{decoder_rest}
use Rattle.swd_trace.proofs.NumberLemmas.{decoder_bits_masked, decoder_bits_mod, decoder_bits_one_bit}
use Rattle.swd_trace.proofs.RunLemmas.{decoder_bits_no_item}
use Rattle.swd_trace.proofs.decoder.Decoder.take_bits.Goals as goal

low_masked : (n v : ℕ) → n < 64 → low_bits n (bit_and v (1 * 2 ^ n % 2 ^ 64 - 1)) ≡ low_bits n v
low_masked n v h = ap (low_bits n) (decoder_bits_masked n v h) ∙ decoder_bits_mod n v

pub returns-then-self-ge-MOVED_BITS-clause-law : goal.returns-then-self-ge-MOVED_BITS-clause-law
returns-then-self-ge-MOVED_BITS-clause-law c = λ more. c.take.ensures.law more
    ∙ ap (decoder_rest c.args.self.now) (decoder_bits_one_bit c.args.bits more)

pub returns-then-self-ge-MOVED_BITS-clause-read : goal.returns-then-self-ge-MOVED_BITS-clause-read
returns-then-self-ge-MOVED_BITS-clause-read c = λ before items h.
    decoder_bits_no_item (decoder_rest c.args.self.now) (decoder_rest c.take.new.self) before (low_bits 1 c.args.bits)
    items (returns-then-self-ge-MOVED_BITS-clause-law c) h

pub returns-then-self-gt0-clause-read : goal.returns-then-self-gt0-clause-read
returns-then-self-gt0-clause-read c = λ before items h.
    decoder_bits_no_item (decoder_rest c.args.self.now) (decoder_rest c.continue_run.new.self) before
    (low_bits c.continue_run.result c.args.bits) items c.continue_run.ensures.law h

pub returns-clause-law : goal.returns-clause-law
returns-clause-law c = λ more.
    let few : c.min-taken.result < 64 = omega arith in
    c.append_bits.ensures.law more
    ∙ ap (λ x. decoder_rest c.args.self.now (x ++ more)) (low_masked c.min-taken.result c.args.bits few)

pub returns-clause-read : goal.returns-clause-read
returns-clause-read c = λ before items h.
    decoder_bits_no_item (decoder_rest c.args.self.now) (decoder_rest c.append_bits.new.self) before
    (low_bits c.min-taken.result c.args.bits) items (returns-clause-law c) h

pub returns-then-self-gt0-clause-many : goal.returns-then-self-gt0-clause-many
returns-then-self-gt0-clause-many c =
    record { run = λ p n h e. c.continue_run.ensures.many n h e; alone = λ e p. absurd (omega arith) }
