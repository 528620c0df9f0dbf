use Rattle.std.proofs.Common.{◌≤◌, ◌∙◌, ◌≡◌, arith}
use Rattle.swd_trace.proofs.NumberLemmas.{decoder_bits_shifted_lt}
use Rattle.swd_resync.proofs.QueueLemmas.{resync_queue_drop}
use Rattle.swd_resync.proofs.queue.Queue.shifted.Goals as goal

pub with_zeros-requires : goal.with_zeros-requires
with_zeros-requires c =
    let room : c.args.self.front_len ≤ 92 = c.requires.held.queue.front_short in
    record {
      front_whole = decoder_bits_shifted_lt c.args.count c.args.self.front_len c.args.self.front c.requires.within
          c.requires.held.queue.front_whole;
      front_short = omega arith;
      back_whole = c.requires.held.queue.back_whole;
      back_short = c.requires.held.queue.back_short;
    }

pub returns-clause-bits : goal.returns-clause-bits
returns-clause-bits c =
    c.with_run.ensures.bits ∙ c.with_bits.ensures.bits ∙ c.with_zeros.ensures.bits
    ∙ resync_queue_drop c.args.self.front_len c.args.self.front c.args.count c.args.self.zeros c.args.self.back_len
    c.args.self.back c.requires.within

pub returns-then-others-eq0-2-clause-bits : goal.returns-then-others-eq0-2-clause-bits
returns-then-others-eq0-2-clause-bits c =
    resync_queue_drop c.args.self.front_len c.args.self.front c.args.count c.args.self.zeros c.args.self.back_len
    c.args.self.back c.requires.within

pub returns-then-others-eq0-2-clause-held : goal.returns-then-others-eq0-2-clause-held
returns-then-others-eq0-2-clause-held c =
    let room : c.args.self.front_len ≤ 92 = c.requires.held.queue.front_short in
    let run : c.args.self.zeros ≡ 0 = c.if-others-eq0.true in
    let none : c.args.self.back_len ≡ 0 = c.if-others-eq0-2.true in
    record {
      queue = record {
        front_whole = decoder_bits_shifted_lt c.args.count c.args.self.front_len c.args.self.front c.requires.within
            c.requires.held.queue.front_whole;
        front_short = omega arith;
        back_whole = c.requires.held.queue.back_whole;
        back_short = c.requires.held.queue.back_short;
      };
      full = λ h. absurd (omega arith);
      ends = c.requires.held.ends;
    }
