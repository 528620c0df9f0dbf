use Rattle.std.proofs.Common.{◌<◌, ◌≤◌, ◌-◌, ◌++◌, ◌/◌, ◌^◌, ◌∷◌, replicate, refl, ap, sym, ◌∙◌, arith}
use lib.Count.{count_trailing_zeros}
use Rattle.swd_bits.specs.Bits.{low_bits}
use Rattle.swd_trace.specs.declared.item.Item.TheVariants.{Idle}
use Rattle.swd_trace.specs.Reading.{reading}
use Rattle.swd_trace.proofs.NumberLemmas.{decoder_bits_low_zeros}
use Rattle.swd_trace.proofs.HeldLemmas.{decoder_holds_fewer_bits}
use Rattle.swd_trace.proofs.BitsStepLemmas.{item_after_empty_run, decoder_idle_item, decoder_idle_zero_count}
use Rattle.swd_trace.proofs.decoder.Decoder.idle.Goals as goal

pub pack-requires-clause-same : goal.pack-requires-clause-same
pack-requires-clause-same c = ap (low_bits c.args.self.now.len) c.if-self-eq0.true ∙ decoder_bits_low_zeros
    c.args.self.now.len

pub overflow_sub-self : goal.overflow_sub-self
overflow_sub-self c =
    let short : c.args.self.now.len ≤ 50 = c.args.self.now.holds.short in
    let some : 0 < c.args.self.now.bits = omega arith in
    let z = decoder_idle_zero_count c.args.self.now.bits c.args.self.now.len c.requires.first (omega arith) some
    c.args.self.now.holds.whole in
    let within : count_trailing_zeros 64 c.args.self.now.bits < c.args.self.now.len = z.1 in
    omega arith

pub invariant_of-self : goal.invariant_of-self
invariant_of-self c =
    let short : c.args.self.now.len ≤ 50 = c.args.self.now.holds.short in
    let some : 0 < c.args.self.now.bits = omega arith in
    let z = decoder_idle_zero_count c.args.self.now.bits c.args.self.now.len c.requires.first (omega arith) some
    c.args.self.now.holds.whole in
    let within : count_trailing_zeros 64 c.args.self.now.bits < c.args.self.now.len = z.1 in
    record {
      holds = decoder_holds_fewer_bits c.args.self.now.mode c.args.self.now.mode c.args.self.now.one c.args.self.now.run
          c.args.self.now.len c.args.self.now.bits c.args.self.now.next c.args.self.now.fed
          (count_trailing_zeros 64 c.args.self.now.bits) c.args.self.now.holds c.requires.run (omega arith);
    }

pub returns : goal.returns
returns c =
    let short : c.args.self.now.len ≤ 50 = c.args.self.now.holds.short in
    let some : 0 < c.args.self.now.bits = omega arith in
    let zeros = count_trailing_zeros 64 c.args.self.now.bits in
    let z = decoder_idle_zero_count c.args.self.now.bits c.args.self.now.len c.requires.first (omega arith) some
    c.args.self.now.holds.whole in
    let positive : 0 < count_trailing_zeros 64 c.args.self.now.bits = z.0 in
    let within : count_trailing_zeros 64 c.args.self.now.bits < c.args.self.now.len = z.1 in
    record {
      law = λ more.
          item_after_empty_run c.args.self.now.mode c.args.self.now.mode c.args.self.now.one c.args.self.now.run
          (Idle zeros) (low_bits c.args.self.now.len c.args.self.now.bits ++ more)
          (low_bits (c.args.self.now.len - zeros) (c.args.self.now.bits / 2 ^ zeros) ++ more) c.requires.run
          (decoder_idle_item c.args.self.now.mode c.args.self.now.len c.args.self.now.bits c.requires.mode
          c.requires.first (omega arith) some c.args.self.now.holds.whole more)
          ∙ ap (λ n. Idle n ∷ reading c.args.self.now.mode
          (replicate c.args.self.now.run c.args.self.now.one
          ++ (low_bits (c.args.self.now.len - zeros) (c.args.self.now.bits / 2 ^ zeros) ++ more)))
          (sym c.from.ensures);
      fewer = omega arith;
      fed = refl;
    }
