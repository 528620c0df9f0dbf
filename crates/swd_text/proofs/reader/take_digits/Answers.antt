use Rattle.std.proofs.Common.{◌≡◌, ◌+◌, ◌++◌, length, refl, arith}
use Rattle.std.proofs.lemmas.List.{length-append}
use Rattle.swd_bits.specs.Bits.{low_bits}
use Rattle.swd_bits.proofs.BitsLemmas.{length-low_bits}
use Rattle.swd_text.proofs.DigitLemmas.{text_digits_taken}
use Rattle.swd_text.proofs.reader.take_digits.Goals as goal

pub returns-clause-taken : goal.returns-clause-taken
returns-clause-taken g c = λ start seen h.
    let n = c.take_bits.result in
    let next = low_bits n c.digits_of-digits.result.bits in
    let count = h.count in
    let len : length (h.bits ++ next) ≡ length h.bits + length next = length-append h.bits next in
    let more : length next ≡ n = length-low_bits n c.digits_of-digits.result.bits in
    record {
      bits = h.bits ++ next;
      reads = text_digits_taken seen c.args.text.now h.bits c.args.reader.now.scan c.args.reader.now.scan n
          c.from.result c.digits_of-digits.result.bits c.requires.outside refl c.from.ensures
          (c.digits_of-digits.ensures.bits n c.take_bits.ensures.most) h.reads;
      goes = g.met.S.BitSink.led_on start _ _ h.bits next h.goes c.take_bits.ensures.led;
      count = omega arith;
      counted = omega arith;
    }
