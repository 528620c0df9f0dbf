use Rattle.std.proofs.Common.{◌≡◌, ◌<◌, ◌≤◌, true, arith}
use Rattle.swd_resync.proofs.QueueLemmas.{resync_queue_push_front, resync_queue_push_lt, resync_queue_push_zero}
use Rattle.swd_resync.proofs.QueueLemmas.{resync_queue_push_back, resync_queue_push_odd, resync_queue_none_behind}
use Rattle.swd_resync.proofs.queue.Queue.with.Goals as goal
use Rattle.swd_resync.proofs.queue.Queue.with.Goals.{else-self-eq0-via-then-self-eq0+else-not-bit}
use Rattle.swd_resync.proofs.queue.Queue.with.Goals.{else-self-eq0-via-else-self-eq0}

pub returns-then-self-lt-FRONT_BITS-clause-bits : goal.returns-then-self-lt-FRONT_BITS-clause-bits
returns-then-self-lt-FRONT_BITS-clause-bits c =
    let q = c.args.self in
    resync_queue_push_front q.front_len q.front q.zeros q.back_len q.back c.from.result c.args.bit
    c.requires.held.queue.front_whole
    c.if-self-lt-FRONT_BITS.true (resync_queue_none_behind q c.requires.held.full c.if-self-lt-FRONT_BITS.true)
    c.from.ensures

pub returns-then-self-lt-FRONT_BITS-clause-held : goal.returns-then-self-lt-FRONT_BITS-clause-held
returns-then-self-lt-FRONT_BITS-clause-held c =
    let q = c.args.self in
    let short : q.front_len < 92 = c.if-self-lt-FRONT_BITS.true in
    let none = resync_queue_none_behind q c.requires.held.full short in
    record {
      queue = record {
        front_whole = resync_queue_push_lt 128 q.front_len q.front c.from.result c.args.bit
            c.requires.held.queue.front_whole (omega arith) c.from.ensures;
        front_short = omega arith;
        back_whole = c.requires.held.queue.back_whole;
        back_short = c.requires.held.queue.back_short;
      };
      full = λ h. absurd (omega arith);
      ends = c.requires.held.ends;
    }

pub returns-then-not-bit-clause-bits : goal.returns-then-not-bit-clause-bits
returns-then-not-bit-clause-bits c =
    let q = c.args.self in
    resync_queue_push_zero q.front_len q.front q.zeros q.back_len q.back c.args.bit c.if-self-eq0.true c.if-not-bit.true

pub returns-else-self-eq0-clause-bits : goal.returns-else-self-eq0-clause-bits
returns-else-self-eq0-clause-bits c =
    let q = c.args.self in
    resync_queue_push_back q.front_len q.front q.zeros q.back_len q.back c.from-else-self-eq0.result c.args.bit
    c.requires.held.queue.back_whole c.requires.room c.from-else-self-eq0.ensures

pub returns-else-self-eq0-clause-held : goal.returns-else-self-eq0-clause-held
returns-else-self-eq0-clause-held c =
    let q = c.args.self in
    let room : q.back_len < 63 = c.requires.room in
    let short : q.front_len ≤ 92 = c.requires.held.queue.front_short in
    let most : 92 ≤ q.front_len = c.if-self-lt-FRONT_BITS.false in
    let one : q.back_len ≡ 0 → c.args.bit ≡ true = λ none. elim c.else-self-eq0.branch [
      | else-self-eq0-via-then-self-eq0+else-not-bit w ↦ w.if-not-bit.false
      | else-self-eq0-via-else-self-eq0 w ↦ absurd (omega (arith, w.if-self-eq0.false))
    ] in
    record {
      queue = record {
        front_whole = c.requires.held.queue.front_whole;
        front_short = short;
        back_whole = resync_queue_push_lt 64 q.back_len q.back c.from-else-self-eq0.result c.args.bit
            c.requires.held.queue.back_whole (omega arith) c.from-else-self-eq0.ensures;
        back_short = omega arith;
      };
      full = λ h. omega arith;
      ends = λ h. resync_queue_push_odd q.back_len q.back c.from-else-self-eq0.result c.args.bit
          c.requires.held.queue.back_whole room c.from-else-self-eq0.ensures c.requires.held.ends one;
    }
