use Rattle.std.proofs.Common.{◌≡◌, ◌-◌, ◌/◌, ◌^◌, ◌≤◌, ap, ◌∙◌, arith}
use Rattle.std.specs.Prelude.{min}
use lib.Count.{count_trailing_zeros}
use Rattle.swd_trace.proofs.NumberLemmas.{decoder_bits_shifted_lt}
use Rattle.swd_resync.proofs.QueueLemmas.{resync_queue_run_found, resync_queue_run_ends, resync_queue}
use Rattle.swd_resync.proofs.queue.Queue.with_run.Goals as goal

pub returns-clause-bits : goal.returns-clause-bits
returns-clause-bits c =
    let n = c.min-count.result in
    let most : n ≡ min (count_trailing_zeros 64 c.args.self.back) c.args.self.back_len = c.min-count.ensures in
    ap (λ z. resync_queue c.args.self.front_len c.args.self.front z (c.args.self.back_len - n)
    (c.args.self.back / 2 ^ n)) c.from.ensures
    ∙ resync_queue_run_found c.args.self.front_len c.args.self.front c.args.self.zeros n c.args.self.back_len
    c.args.self.back (omega arith) (omega arith) (omega arith)

pub returns-clause-held : goal.returns-clause-held
returns-clause-held c =
    let n = c.min-count.result in
    let most : n ≡ min (count_trailing_zeros 64 c.args.self.back) c.args.self.back_len = c.min-count.ensures in
    let few : n ≤ c.args.self.back_len = omega arith in
    let short : c.args.self.back_len ≤ 63 = c.requires.queue.back_short in
    let same : c.from.result ≡ n = c.from.ensures in
    record {
      queue = record {
        front_whole = c.requires.queue.front_whole;
        front_short = c.requires.queue.front_short;
        back_whole = decoder_bits_shifted_lt n c.args.self.back_len c.args.self.back few c.requires.queue.back_whole;
        back_short = omega arith;
      };
      full = λ h. c.requires.full (omega arith);
      ends = λ h. resync_queue_run_ends c.args.self.back_len c.args.self.back n c.requires.queue.back_whole short most
          h;
    }
