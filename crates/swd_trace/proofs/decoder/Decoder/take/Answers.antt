use Rattle.std.proofs.Common.{◌≡◌, ◌≢◌, ◌<◌, ◌≤◌, ◌++◌, ◌∷◌, [], replicate, ap, arith}
use Rattle.swd_trace.specs.Reading.{reading}
use Rattle.swd_trace.proofs.HoldingLemmas.{decoder_holds_pushed_bit, decoder_bit_pushed_before, decoder_run_one_longer}
use Rattle.swd_trace.proofs.HoldingLemmas.{decoder_equal_bits, decoder_unequal_bits}
use Rattle.swd_trace.specs.Held.{decoder_rest}
use Rattle.swd_trace.proofs.RunLemmas.{decoder_bits_no_item}
use Rattle.swd_trace.proofs.decoder.Decoder.take.Goals as goal
use Rattle.swd_trace.proofs.decoder.Decoder.take.Goals.{else-self-gt0-via-then-self-gt0+else-self-bit}
use Rattle.swd_trace.proofs.decoder.Decoder.take.Goals.{else-self-gt0-via-else-self-gt0}

pub invariant_of-self-else-self-gt0 : goal.invariant_of-self-else-self-gt0
invariant_of-self-else-self-gt0 c =
    let ended : 0 < c.args.self.now.run → c.args.self.now.one ≢ c.args.bit = λ p.
    elim c.else-self-gt0.branch [
      | else-self-gt0-via-then-self-gt0+else-self-bit w ↦ decoder_unequal_bits _ _ w.if-self-bit.false
      | else-self-gt0-via-else-self-gt0 w ↦
          (let none : c.args.self.now.run ≤ 0 = omega (arith, w.if-self-gt0.false) in absurd (omega arith))
    ] in
    record {
      holds = decoder_holds_pushed_bit c.args.self.now.mode c.args.self.now.one c.args.self.now.run c.args.self.now.len
          c.args.self.now.bits c.args.self.now.next c.args.self.now.fed
          c.from.result c.args.bit c.args.self.now.holds c.requires.settled ended c.from.ensures;
    }

pub returns-then-self-bit-clause-law : goal.returns-then-self-bit-clause-law
returns-then-self-bit-clause-law c = λ more.
    let ran = c.args.self.now.holds.ran c.if-self-gt0.true in
    let last : c.args.self.now.next ≡ 1 = ran.0 in
    let settled : c.args.self.now.len < c.args.self.now.next = c.requires.settled in
    decoder_run_one_longer c.args.self.now.mode c.args.self.now.one c.args.bit c.args.self.now.run c.args.self.now.len
    c.args.self.now.bits more (omega arith) (decoder_equal_bits _ _ c.if-self-bit.true)

pub returns-else-self-gt0-clause-law : goal.returns-else-self-gt0-clause-law
returns-else-self-gt0-clause-law c = λ more.
    let stage : c.args.self.now.next ≤ 50 = c.args.self.now.holds.stage in
    let settled : c.args.self.now.len < c.args.self.now.next = c.requires.settled in
    ap (λ x. reading c.args.self.now.mode (replicate c.args.self.now.run c.args.self.now.one ++ x))
    (decoder_bit_pushed_before c.args.self.now.len c.args.self.now.bits c.from.result c.args.bit more
    c.args.self.now.holds.whole (omega arith) c.from.ensures)

pub returns-then-self-bit-clause-read : goal.returns-then-self-bit-clause-read
returns-then-self-bit-clause-read c = λ bits items h.
    decoder_bits_no_item (decoder_rest c.args.self.now) _ bits (c.args.bit ∷ []) items
    (returns-then-self-bit-clause-law c) h

pub returns-else-self-gt0-clause-read : goal.returns-else-self-gt0-clause-read
returns-else-self-gt0-clause-read c = λ bits items h.
    decoder_bits_no_item (decoder_rest c.args.self.now) _ bits (c.args.bit ∷ []) items
    (returns-else-self-gt0-clause-law c) h
