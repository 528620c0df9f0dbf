use Rattle.std.proofs.Common.{◌-◌, ◌≤◌, arith}
use Rattle.std.proofs.lemmas.Nat.{one_shl}
use Rattle.swd_trace.proofs.NumberLemmas.{decoder_last_zero_bit}
use Rattle.swd_trace.proofs.decoder.Decoder.before_ones.Goals as goal

pub returns-clause-within : goal.returns-clause-within
returns-clause-within c =
    let d = c.args.self.now in
    let short : d.len ≤ 50 = d.holds.short in
    rw (one_shl d.len 64 (omega arith)) ((decoder_last_zero_bit d.len d.bits (omega arith) d.holds.whole).0)

pub returns-clause-zero : goal.returns-clause-zero
returns-clause-zero c =
    let d = c.args.self.now in
    let short : d.len ≤ 50 = d.holds.short in
    rw (one_shl d.len 64 (omega arith)) ((decoder_last_zero_bit d.len d.bits (omega arith) d.holds.whole).1)
