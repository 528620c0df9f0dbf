use Rattle.std.proofs.Common.{◌<◌, ◌≤◌, refl, arith}
use Rattle.swd_resync.proofs.HoldLemmas.{resync_held_back_room, resync_if_none_weaker}
use Rattle.swd_resync.proofs.decoder.CaptureDecoder.due.Goals as goal

pub returns-clause-settled : goal.returns-clause-settled
returns-clause-settled c = resync_if_none_weaker c.next.result _ _
    (λ e. resync_held_back_room c.next.new.self.held.queue c.next.new.self.held.holds (e.near refl)) c.next.ensures.none

pub returns-clause-held : goal.returns-clause-held
returns-clause-held c = resync_if_none_weaker c.next.result _ _
    (λ e.
    let q = c.next.new.self.held.queue in
    let few : q.back_len < 50 = resync_held_back_room q c.next.new.self.held.holds (e.near refl) in
    let short : q.front_len ≤ 92 = c.next.new.self.held.holds.queue.front_short in
    omega arith) c.next.ensures.none
