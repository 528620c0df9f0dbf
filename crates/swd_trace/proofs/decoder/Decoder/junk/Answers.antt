use Rattle.std.proofs.Common.{◌-◌, ◌++◌, ◌/◌, ◌%◌, refl, arith}
use Rattle.std.specs.Prelude.{◌==◌}
use Rattle.swd_bits.specs.Bits.{low_bits}
use Rattle.swd_trace.specs.declared.item.Item.TheVariants.{Junk}
use Rattle.swd_trace.specs.declared.mode.Mode.TheVariants.{Lost}
use Rattle.swd_trace.proofs.HeldLemmas.{decoder_holds_fewer_bits}
use Rattle.swd_trace.proofs.BitsStepLemmas.{item_after_empty_run}
use Rattle.swd_trace.proofs.decoder.Decoder.junk.Goals as goal

pub invariant_of-self : goal.invariant_of-self
invariant_of-self c = record {
  holds = decoder_holds_fewer_bits c.args.self.now.mode Lost c.args.self.now.one c.args.self.now.run c.args.self.now.len
      c.args.self.now.bits c.args.self.now.next c.args.self.now.fed 1
      c.args.self.now.holds c.requires.run c.requires.some;
}

pub returns : goal.returns
returns c = record {
  law = λ more. item_after_empty_run c.args.self.now.mode Lost c.args.self.now.one c.args.self.now.run
      (Junk (c.args.self.now.bits % 2 == 1))
      (low_bits c.args.self.now.len c.args.self.now.bits ++ more)
      (low_bits (c.args.self.now.len - 1) (c.args.self.now.bits / 2) ++ more) c.requires.run
      (c.requires.first more);
  fewer = omega arith;
  fed = refl;
}
