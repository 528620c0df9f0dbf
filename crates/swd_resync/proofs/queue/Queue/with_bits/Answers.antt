use Rattle.std.proofs.Common.{◌≡◌, ◌+◌, ◌-◌, ◌*◌, ◌/◌, ◌%◌, ◌^◌, ◌<◌, ◌≤◌, ap, ◌∙◌, sym, subst, arith, bit_or}
use Rattle.std.proofs.lemmas.Nat.{pow_pos}
use Rattle.std.proofs.Math.Nat.{mod-lt}
use Rattle.swd_trace.proofs.NumberLemmas.{decoder_bits_shifted_lt}
use Rattle.swd_resync.proofs.QueueLemmas.{resync_queue_mask, resync_queue_join_lt, resync_queue_back_moved}
use Rattle.swd_resync.proofs.QueueLemmas.{resync_queue}
use Rattle.swd_resync.proofs.queue.Queue.with_bits.Goals as goal

pub returns-clause-queue : goal.returns-clause-queue
returns-clause-queue c =
    let n = c.min-count.result in
    let few : n ≤ c.args.self.back_len = omega arith in
    let short : c.args.self.back_len ≤ 63 = c.requires.queue.back_short in
    let room : c.args.self.front_len ≤ 92 = c.requires.queue.front_short in
    let moved : c.from.result ≡ c.args.self.back % 2 ^ n =
    c.from.ensures ∙ resync_queue_mask 64 n c.args.self.back (omega arith) in
    let low : c.from.result < 2 ^ n = subst (λ v. v < 2 ^ n) (sym moved) (mod-lt c.args.self.back (pow_pos n)) in
    record {
      front_whole = resync_queue_join_lt 128 c.args.self.front_len n c.from.result c.args.self.front low
          c.requires.queue.front_whole (omega arith);
      front_short = omega arith;
      back_whole = decoder_bits_shifted_lt n c.args.self.back_len c.args.self.back few c.requires.queue.back_whole;
      back_short = omega arith;
    }

pub returns-clause-bits : goal.returns-clause-bits
returns-clause-bits c =
    let n = c.min-count.result in
    let short : c.args.self.back_len ≤ 63 = c.requires.queue.back_short in
    let room : c.args.self.front_len ≤ 92 = c.requires.queue.front_short in
    let moved : c.from.result ≡ c.args.self.back % 2 ^ n =
    c.from.ensures ∙ resync_queue_mask 64 n c.args.self.back (omega arith) in
    ap (λ v. resync_queue (c.args.self.front_len + n)
    (bit_or (v * 2 ^ c.args.self.front_len % 2 ^ 128) c.args.self.front) 0
    (c.args.self.back_len - n) (c.args.self.back / 2 ^ n)) moved
    ∙ resync_queue_back_moved c.args.self.front_len c.args.self.front c.args.self.zeros n c.args.self.back_len
    c.args.self.back c.requires.queue.front_whole (omega arith) (omega arith) (omega arith)
