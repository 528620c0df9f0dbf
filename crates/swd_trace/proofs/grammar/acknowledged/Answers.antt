use Rattle.std.proofs.Common.{◌%◌, ◌^◌, ◌<◌, ◌≤◌, refl, ap, ◌∙◌, arith}
use Rattle.std.proofs.lemmas.Nat.{pow_pos}
use Rattle.swd_bits.specs.Bits.{low_bits}
use Rattle.swd_trace.proofs.NumberLemmas.{decoder_bits_masked, decoder_bits_mod}
use Rattle.swd_trace.proofs.FoundLemmas.{found_tx_at_front, found_tx_front_has_ack}
use Rattle.swd_trace.proofs.grammar.acknowledged.Goals as goal

pub returns : goal.returns
returns c =
    let v = c.args.bits in
    let n = c.whole_len-len.result in
    let front = found_tx_at_front c.in-Some.field-0 v (v % 256) n refl c.in-Some.ensures.found c.whole_len-len.ensures
    in
    let short : n ≤ 46 = front.short in
    let some : 12 ≤ n = front.some in
    let few : n < 64 = omega arith in
    let positive : 0 < 2 ^ n = pow_pos n in
    let small : v % 2 ^ n < 2 ^ n = omega arith in
    record {
      whole = rw (decoder_bits_masked n v few) small;
      short = short;
      some = omega arith;
      same = ap (low_bits n) (decoder_bits_masked n v few) ∙ decoder_bits_mod n v;
      tx = front.tx;
      spells = front.spells;
      acknowledged = found_tx_front_has_ack n _ front.tx front.spells c.if-len-eq-UNACKNOWLEDGED_BITS.false;
    }
