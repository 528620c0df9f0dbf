use Rattle.std.proofs.Common.{◌≡◌, ℕ, ◌+◌, ◌-◌, ◌/◌, ◌%◌, ◌^◌, ◌<◌, Bool, List, ◌++◌, length, ap, ◌∙◌, arith}
use Rattle.swd_bits.specs.Bits.{low_bits}
use Rattle.swd_bits.proofs.BitsLemmas.{length-low_bits}
use Rattle.swd_trace.specs.Stands.{Begun, stands}
use Rattle.swd_trace.proofs.GrammarLemmas.{decoder_front_few_bits, decoder_first_bit_is_one, decoder_request_in_bits}
use Rattle.swd_trace.proofs.GrammarLemmas.{decoder_parity_bit_broken, decoder_after_six_bits, decoder_stop_bit_broken}
use Rattle.swd_trace.proofs.GrammarLemmas.{decoder_after_stop_bit, decoder_park_bit_broken, decoder_after_park_bit}
use Rattle.swd_trace.proofs.GrammarLemmas.{decoder_awaits_stop_bit, decoder_awaits_park_bit, decoder_bits_left_length}
use Rattle.swd_trace.proofs.grammar.front_of.Goals as goal

few : (len v : ℕ) → 0 < len → len < 6 → v % 2 ≡ 1 → (more : List Bool) → length (low_bits len v) + length more < 6
    → stands (low_bits len v ++ more) ≡ Begun
few len v h k e more s =
    let l : length (low_bits len v) ≡ len = length-low_bits len v in
    let m : length (low_bits (len - 1) (v / 2) ++ more) ≡ len - 1 + length more =
    decoder_bits_left_length 1 len (v / 2) more in
    ap (λ x. stands (x ++ more)) (decoder_first_bit_is_one len v h e) ∙ decoder_front_few_bits
    (low_bits (len - 1) (v / 2) ++ more) (omega arith)

pub returns-then-len-lt6 : goal.returns-then-len-lt6
returns-then-len-lt6 c =
    let l : length (low_bits c.args.len c.args.bits) ≡ c.args.len = length-low_bits c.args.len c.args.bits in
    (omega arith, omega arith, few c.args.len c.args.bits c.requires.some c.if-len-lt6.true c.requires.started)

pub returns-then-bits-eq1 : goal.returns-then-bits-eq1
returns-then-bits-eq1 c = decoder_parity_bit_broken c.args.len c.args.bits c.if-len-lt6.false c.requires.started
    c.if-bits-eq1.true

pub returns-then-len-lt7 : goal.returns-then-len-lt7
returns-then-len-lt7 c =
    let l : length (low_bits c.args.len c.args.bits) ≡ c.args.len = length-low_bits c.args.len c.args.bits in (
      omega arith,
      omega arith,
      λ more s.
          let m = decoder_bits_left_length 6 c.args.len (c.args.bits / 2 ^ 6) more in
          decoder_after_six_bits c.args.len c.args.bits c.if-len-lt6.false c.requires.started c.if-bits-eq1.false more
          ∙ decoder_awaits_stop_bit (decoder_request_in_bits c.args.bits)
          (low_bits (c.args.len - 6) (c.args.bits / 2 ^ 6) ++ more) (omega arith),
    )

pub returns-then-bits-eq1-2 : goal.returns-then-bits-eq1-2
returns-then-bits-eq1-2 c =
    decoder_stop_bit_broken c.args.len c.args.bits c.if-len-lt7.false
    (decoder_after_six_bits c.args.len c.args.bits c.if-len-lt6.false c.requires.started c.if-bits-eq1.false)
    c.if-bits-eq1-2.true

pub returns-then-len-lt8 : goal.returns-then-len-lt8
returns-then-len-lt8 c =
    let l : length (low_bits c.args.len c.args.bits) ≡ c.args.len = length-low_bits c.args.len c.args.bits in
    let seven = decoder_after_stop_bit c.args.len c.args.bits c.if-len-lt7.false
    (decoder_after_six_bits c.args.len c.args.bits c.if-len-lt6.false c.requires.started c.if-bits-eq1.false)
    c.if-bits-eq1-2.false in (
      omega arith,
      omega arith,
      λ more s.
          let m = decoder_bits_left_length 7 c.args.len (c.args.bits / 2 ^ 7) more in
          seven more ∙ decoder_awaits_park_bit (decoder_request_in_bits c.args.bits)
          (low_bits (c.args.len - 7) (c.args.bits / 2 ^ 7) ++ more) (omega arith),
    )

pub returns-then-bits-eq0 : goal.returns-then-bits-eq0
returns-then-bits-eq0 c =
    let seven = decoder_after_stop_bit c.args.len c.args.bits c.if-len-lt7.false
    (decoder_after_six_bits c.args.len c.args.bits c.if-len-lt6.false c.requires.started c.if-bits-eq1.false)
    c.if-bits-eq1-2.false in
    decoder_park_bit_broken c.args.len c.args.bits c.if-len-lt8.false seven c.if-bits-eq0.true

pub front_of_request-requires-clause-request : goal.front_of_request-requires-clause-request
front_of_request-requires-clause-request c =
    let seven = decoder_after_stop_bit c.args.len c.args.bits c.if-len-lt7.false
    (decoder_after_six_bits c.args.len c.args.bits c.if-len-lt6.false c.requires.started c.if-bits-eq1.false)
    c.if-bits-eq1-2.false in (
      decoder_request_in_bits c.args.bits,
      decoder_after_park_bit c.args.len c.args.bits c.if-len-lt8.false seven
          c.if-bits-eq0.false,
    )
