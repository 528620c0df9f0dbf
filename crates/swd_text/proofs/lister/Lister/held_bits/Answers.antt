use Rattle.std.proofs.Common.{◌≡◌, ◌+◌, ◌^◌, ◌<◌, ◌++◌, length, sym, ap, ◌∙◌, arith}
use Rattle.swd_bits.specs.Bits.{low_bits}
use Rattle.swd_bits.proofs.BitsLemmas.{length-low_bits}
use Rattle.swd_trace.specs.Held.{decoder_fed}
use Rattle.swd_text.proofs.ListerLemmas.{decode_text_takes_bits}
use Rattle.swd_text.proofs.lister.Lister.held_bits.Goals as goal

pub returns-clause-takes : goal.returns-clause-takes
returns-clause-takes g c =
    let lister = c.args.self.now in
    let n = c.take_bits-taken.result in
    let next = low_bits n c.args.bits in
    let len : length next ≡ n = length-low_bits n c.args.bits in
    let fed : decoder_fed c.take_bits-taken.new.self ≡ decoder_fed lister.decoder + length next =
    c.take_bits-taken.ensures.fed ∙ ap (λ k. decoder_fed lister.decoder + k) (sym len) in
    let few : decoder_fed lister.decoder + length next < 2 ^ 64 = omega arith in
    let puts = c.put_due.ensures.puts in
    record {
      lists = λ start before items h. puts.lists start (before ++ next) items
          (decode_text_takes_bits g.W.Write.contents start lister.decoder c.take_bits-taken.new.self c.args.block.now
          before items next c.take_bits-taken.ensures.law fed few h);
      settled = c.put_due.ensures.settled;
      fed = puts.fed ∙ c.take_bits-taken.ensures.fed;
      same = puts.same;
    }
