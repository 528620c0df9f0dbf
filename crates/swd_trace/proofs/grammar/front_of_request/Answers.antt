use Rattle.std.proofs.Common.{◌≡◌, ◌-◌, ◌/◌, ◌^◌, ◌≤◌, ◌++◌, length, ap, ◌∙◌, sym, arith}
use Rattle.swd_bits.specs.Bits.{low_bits}
use Rattle.swd_bits.proofs.BitsLemmas.{length-low_bits}
use Rattle.swd_trace.specs.Stands.{Whole, stand_tx_len}
use Rattle.swd_trace.proofs.GrammarLemmas.{decoder_awaits_ack, decoder_bits_left_length, decoder_ack_number}
use Rattle.swd_trace.proofs.GrammarLemmas.{decoder_tx_len_least, decoder_tx_len_most, decoder_tx_begun_by_len}
use Rattle.swd_trace.proofs.GrammarLemmas.{decoder_tx_whole_by_len, decoder_finds_spelled_tx, decoder_found_tx_spelled}
use Rattle.swd_trace.proofs.grammar.front_of_request.Goals as goal

pub returns-then-len-lt-UNACKNOWLEDGED_BITS : goal.returns-then-len-lt-UNACKNOWLEDGED_BITS
returns-then-len-lt-UNACKNOWLEDGED_BITS c =
    let l : length (low_bits c.args.len c.args.bits) ≡ c.args.len = length-low_bits c.args.len c.args.bits in (
      omega arith,
      omega arith,
      λ more s.
          let m = decoder_bits_left_length 8 c.args.len (c.args.bits / 2 ^ 8) more in
          c.requires.request.1 more
          ∙ decoder_awaits_ack c.requires.request.0 (low_bits (c.args.len - 8) (c.args.bits / 2 ^ 8) ++ more)
          (omega arith),
    )

pub returns-then-len-whole : goal.returns-then-len-whole
returns-then-len-whole c =
    let l : length (low_bits c.args.len c.args.bits) ≡ c.args.len = length-low_bits c.args.len c.args.bits in
    let w : c.whole_len-whole.result ≡ stand_tx_len (decoder_ack_number c.args.bits) = c.whole_len-whole.ensures in
    let m : stand_tx_len (decoder_ack_number c.args.bits) ≤ 46 =
    decoder_tx_len_most (decoder_ack_number c.args.bits) in (
      omega arith,
      omega arith,
      λ more s.
          decoder_tx_begun_by_len c.requires.request.0 c.args.len c.args.bits c.requires.request.1
          c.if-len-lt-UNACKNOWLEDGED_BITS.false more (omega arith),
    )

pub returns-in-Some : goal.returns-in-Some
returns-in-Some c =
    let w : c.whole_len-whole.result ≡ stand_tx_len (decoder_ack_number c.args.bits) = c.whole_len-whole.ensures in
    let m : 12 ≤ stand_tx_len (decoder_ack_number c.args.bits) =
    decoder_tx_len_least (decoder_ack_number c.args.bits) in (
      decoder_finds_spelled_tx c.args.len c.args.bits c.whole_len-whole.result c.in-Some.tx c.if-len-whole.false
          (omega arith) c.in-Some.ensures.found,
      omega arith,
    )

pub returns-in-None : goal.returns-in-None
returns-in-None c =
    let w : c.whole_len-whole.result ≡ stand_tx_len (decoder_ack_number c.args.bits) = c.whole_len-whole.ensures in
    let r = decoder_tx_whole_by_len c.requires.request.0 c.args.len c.args.bits c.requires.request.1
    c.if-len-lt-UNACKNOWLEDGED_BITS.false (omega arith) in
    absurd (c.in-None.ensures.none r.0
    (decoder_found_tx_spelled c.args.len c.args.bits c.whole_len-whole.result r.0 c.if-len-whole.false (omega arith)
    (r.1 ∙ ap (Whole r.0) (sym w))))
