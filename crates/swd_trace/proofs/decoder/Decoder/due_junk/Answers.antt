use Rattle.std.proofs.Common.{◌-◌, ◌*◌, ◌/◌, ◌%◌, ◌<◌, ◌≤◌, ◌^◌, ◌++◌, List, Bool, map, replicate, bit_and}
use Rattle.std.proofs.Common.{ap, sym, ◌∙◌, append_assoc, refl, arith}
use Rattle.std.proofs.lemmas.Nat.{pow_pos}
use Rattle.swd_bits.specs.Bits.{low_bits}
use Rattle.swd_trace.specs.declared.item.Item.{Item}
use Rattle.swd_trace.specs.declared.item.Item.TheVariants.{Junk}
use Rattle.swd_trace.specs.Reading.{reading}
use Rattle.swd_trace.proofs.NumberLemmas.{decoder_bits_mod, decoder_bits_masked}
use Rattle.swd_trace.proofs.HeldLemmas.{decoder_holds_fewer_bits}
use Rattle.swd_trace.proofs.BitsStepLemmas.{decoder_junk_items}
use Rattle.swd_trace.proofs.decoder.Decoder.due_junk.Goals as goal

pub invariant_of-self : goal.invariant_of-self
invariant_of-self c =
    let d = c.args.self.now in
    let none = c.if-self-gt0.false in
    record {
      holds = decoder_holds_fewer_bits d.mode d.mode d.one d.run d.len d.bits d.next d.fed c.before_ones-count.result
          d.holds (omega arith) c.before_ones-count.ensures.within;
    }

pub returns-clause-junk : goal.returns-clause-junk
returns-clause-junk c =
    let d = c.args.self.now in
    let n = c.before_ones-count.result in
    let none = c.if-self-gt0.false in
    let some = c.if-count-eq0.false in
    let positive : 0 < n = omega arith in
    let within : n ≤ d.len = c.before_ones-count.ensures.within in
    let short : d.len ≤ 50 = d.holds.short in
    let power : 0 < 2 ^ n = pow_pos n in
    let small : d.bits % 2 ^ n < 2 ^ n = omega arith in
    let after : List Bool → List Item = λ more.
    reading d.mode (replicate d.run d.one ++ (low_bits (d.len - n) (d.bits / 2 ^ n) ++ more)) in
    record {
      whole = rw (decoder_bits_masked n d.bits (omega arith)) small;
      short = omega arith;
      law = λ more. decoder_junk_items d.mode d.one d.run d.len d.bits n c.in-Lost.is (omega arith) short positive
          (c.before_ones-count.ensures.zero positive) more
          ∙ ap (λ bits. map Junk bits ++ after more)
          (sym (ap (low_bits n) (decoder_bits_masked n d.bits (omega arith)) ∙ decoder_bits_mod n d.bits));
      fewer = omega arith;
      fed = refl;
    }

pub returns-clause-read : goal.returns-clause-read
returns-clause-read c = λ bits items h more.
    let d = c.args.self.now in
    let n = c.before_ones-count.result in
    let junk = map Junk (low_bits n (bit_and d.bits (1 * 2 ^ n % 2 ^ 64 - 1))) in
    let gives = returns-clause-junk c in
    append_assoc items junk (reading d.mode (replicate d.run d.one
    ++ (low_bits (d.len - n) (d.bits / 2 ^ n) ++ more))) ∙ ap (λ x. items ++ x) (sym (gives.law more)) ∙ h more
