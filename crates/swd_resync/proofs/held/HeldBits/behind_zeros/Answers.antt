use Rattle.std.proofs.Common.{◌<◌, ◌≤◌, ap, ◌∙◌, arith, subst, sym, ◌^◌}
use Rattle.swd_resync.proofs.QueueLemmas.{resync_queue_past_all_zeros, resync_queue_past_zeros, resync_queue}
use Rattle.swd_resync.proofs.held.HeldBits.behind_zeros.Goals as goal

pub invariant_of-result : goal.invariant_of-result
invariant_of-result c =
    let short : c.args.self.now.queue.back_len ≤ 63 = c.args.self.now.holds.queue.back_short in
    record {
      holds = record {
        queue = record {
          front_whole = subst (λ v. v < 2 ^ c.args.self.now.queue.back_len) (sym c.from.ensures)
              c.args.self.now.holds.queue.back_whole;
          front_short = omega arith;
          back_whole = omega arith;
          back_short = omega arith;
        };
        full = λ h. absurd (omega arith);
        ends = λ h. absurd (omega arith);
      };
    }

pub returns-then-self-eq0 : goal.returns-then-self-eq0
returns-then-self-eq0 c =
    let q = c.args.self.now.queue in
    ap (λ v. resync_queue q.back_len v 0 0 0) c.from.ensures
    ∙ resync_queue_past_all_zeros q.front_len q.front q.zeros q.back_len q.back c.if-self-eq0.true
    c.args.self.now.holds.ends

pub shifted-requires-clause-within : goal.shifted-requires-clause-within
shifted-requires-clause-within c =
    let q = c.args.self.now.queue in
    let short : q.front_len ≤ 92 = c.args.self.now.holds.queue.front_short in
    (resync_queue_past_zeros q.front_len q.front q.zeros q.back_len q.back (omega arith)
    (omega (arith, c.if-self-eq0.false)) c.args.self.now.holds.queue.front_whole).0

pub returns : goal.returns
returns c =
    let q = c.args.self.now.queue in
    let short : q.front_len ≤ 92 = c.args.self.now.holds.queue.front_short in
    c.shifted.ensures.bits
    ∙ (resync_queue_past_zeros q.front_len q.front q.zeros q.back_len q.back (omega arith)
    (omega (arith, c.if-self-eq0.false)) c.args.self.now.holds.queue.front_whole).1
