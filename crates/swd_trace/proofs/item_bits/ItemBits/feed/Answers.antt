use Rattle.std.proofs.Common.{◌≡◌, ◌+◌, ◌-◌, ◌/◌, ◌^◌, ◌<◌, ◌≤◌, ◌++◌, length, replicate, ap, ◌∙◌, arith}
use Rattle.swd_bits.specs.Bits.{low_bits}
use Rattle.swd_trace.specs.Held.{decoder_rest}
use Rattle.swd_trace.proofs.ItemBitsLemmas.{item_bits_left_count, item_bits_run_split, item_bits_rest_split}
use Rattle.swd_trace.proofs.item_bits.ItemBits.feed.Goals as goal

pub take_bits-taken-requires-clause-some : goal.take_bits-taken-requires-clause-some
take_bits-taken-requires-clause-some c =
    let b = c.args.self.now in
    let some : 0 < length (replicate b.run b.one ++ low_bits b.len b.bits) = c.requires.some in
    omega (arith, item_bits_left_count b.run b.len b.bits b.one)

pub take_bits-taken-requires-clause-room : goal.take_bits-taken-requires-clause-room
take_bits-taken-requires-clause-room c =
    let b = c.args.self.now in
    let room : c.args.decoder.now.fed + length (replicate b.run b.one ++ low_bits b.len b.bits) < 2 ^ 64 =
    c.requires.room in
    omega (arith, item_bits_left_count b.run b.len b.bits b.one)

pub returns-then-self-gt0-clause-law : goal.returns-then-self-gt0-clause-law
returns-then-self-gt0-clause-law c = λ more.
    let b = c.args.self.now in
    c.take_run.ensures.law ((replicate (b.run - c.take_run.result) b.one ++ low_bits b.len b.bits) ++ more)
    ∙ ap (decoder_rest c.args.decoder.now)
    (item_bits_run_split c.take_run.result b.run b.len b.bits b.one more c.take_run.ensures.most)

pub returns-else-self-gt0-clause-law : goal.returns-else-self-gt0-clause-law
returns-else-self-gt0-clause-law c = λ more.
    let b = c.args.self.now in
    let n = c.take_bits-taken.result in
    c.take_bits-taken.ensures.law ((replicate b.run b.one ++ low_bits (b.len - n) (b.bits / 2 ^ n)) ++ more)
    ∙ ap (decoder_rest c.args.decoder.now)
    (item_bits_rest_split n b.run b.len b.bits b.one more c.if-self-gt0.false c.take_bits-taken.ensures.most)

pub returns-else-self-gt0-clause-fewer : goal.returns-else-self-gt0-clause-fewer
returns-else-self-gt0-clause-fewer c =
    let b = c.args.self.now in
    let n = c.take_bits-taken.result in
    let some : 0 < n = c.take_bits-taken.ensures.some in
    let most : n ≤ b.len = c.take_bits-taken.ensures.most in
    omega (
      arith,
      item_bits_left_count b.run b.len b.bits b.one,
      item_bits_left_count b.run (b.len - n) (b.bits / 2 ^ n) b.one,
    )

pub returns-else-self-gt0-clause-fed : goal.returns-else-self-gt0-clause-fed
returns-else-self-gt0-clause-fed c =
    let b = c.args.self.now in
    let n = c.take_bits-taken.result in
    let most : n ≤ b.len = c.take_bits-taken.ensures.most in
    let fed : c.take_bits-taken.new.self.fed ≡ c.args.decoder.now.fed + n = c.take_bits-taken.ensures.fed in
    omega (
      arith,
      item_bits_left_count b.run b.len b.bits b.one,
      item_bits_left_count b.run (b.len - n) (b.bits / 2 ^ n) b.one,
    )
