use Rattle.std.proofs.Common.{◌≡◌, ◌+◌, ◌-◌, ◌^◌, min, [], ◌∷◌, ◌++◌, length, sym, ◌∙◌, subst, arith}
use Rattle.std.proofs.lemmas.List.{length-append}
use Rattle.swd_bits.proofs.ScanLemmas.{scan_bits_passed_byte, scan_bits_one_more, scan_bits_first_bad_byte}
use Rattle.swd_bits.proofs.ScanLemmas.{scan_bits_read_all}
use Rattle.swd_text.specs.Sinks.{TextStopsAt}
use Rattle.swd_text.proofs.SinkLemmas.{text_result_ok, text_result_err, sink_unmoved}
use Rattle.swd_text.proofs.reader.take_byte.Goals as goal

pub returns-in-Passed-clause-ok : goal.returns-in-Passed-clause-ok
returns-in-Passed-clause-ok g c = λ start seen h. record {
  bits = h.bits;
  reads = scan_bits_passed_byte seen h.bits c.args.reader.now.scan c.byte.new.self c.args.byte c.in-Passed.ensures.sign
      c.in-Passed.ensures.comment h.reads;
  goes = h.goes;
  count = h.count;
  counted = h.counted;
}

pub returns-in-Bad-clause-err : goal.returns-in-Bad-clause-err
returns-in-Bad-clause-err g c = λ start seen h. (
  (
    c.saturating_add.ensures,
    λ more. scan_bits_first_bad_byte seen more h.bits c.args.reader.now.scan c.args.byte c.in-Bad.ensures.sign h.reads,
  ),
  (
    h.bits,
    record { has = scan_bits_read_all seen h.bits c.args.reader.now.scan h.reads; counted = h.counted },
    h.goes,
  ),
)

pub returns-in-Bit-clause-ok : goal.returns-in-Bit-clause-ok
returns-in-Bit-clause-ok g c = text_result_ok c.take_one.result
    (λ took start seen h.
    let count = h.count in
    let fed = took.1 in
    let few = took.2 in
    let len : length (h.bits ++ c.in-Bit.bit ∷ []) ≡ length h.bits + 1 = length-append h.bits (c.in-Bit.bit ∷ []) in
    record {
      bits = h.bits ++ c.in-Bit.bit ∷ [];
      reads = scan_bits_one_more seen h.bits c.args.reader.now.scan c.take_one.new.reader.scan c.in-Bit.bit c.args.byte
          c.in-Bit.ensures.sign (c.take_one.ensures.scan ∙ c.in-Bit.ensures.comment) h.reads;
      goes = g.met.S.BitSink.led_on start _ _ h.bits (c.in-Bit.bit ∷ []) h.goes took.0;
      count = omega arith;
      counted = omega arith;
    })
    c.take_one.ensures.ok

pub returns-in-Bit-clause-err : goal.returns-in-Bit-clause-err
returns-in-Bit-clause-err g c = text_result_err c.take_one.result
    (λ fault long start seen h.
    let reader = c.args.reader.now in
    let place = min (reader.place + c.args.index) (2 ^ 64 - 1) in
    let count = h.count in
    let full = long.1 in
    let len : length (h.bits ++ c.in-Bit.bit ∷ []) ≡ length h.bits + 1 = length-append h.bits (c.in-Bit.bit ∷ []) in (
      subst (λ f. TextStopsAt f place seen c.args.byte) (sym long.0) (record {
        bits = h.bits ++ c.in-Bit.bit ∷ [];
        comment = c.byte.new.self;
        reads = scan_bits_one_more seen h.bits reader.scan c.byte.new.self c.in-Bit.bit c.args.byte
            c.in-Bit.ensures.sign c.in-Bit.ensures.comment h.reads;
        long = omega arith;
      }),
      (
        h.bits,
        record { has = scan_bits_read_all seen h.bits reader.scan h.reads; counted = h.counted },
        sink_unmoved (g.S.BitSink.led start h.bits) reader.sink c.take_one.new.reader.sink c.args.writer.now
            c.take_one.new.writer long.2 long.3 h.goes,
      ),
    ))
    c.take_one.ensures.long
