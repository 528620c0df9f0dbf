use Rattle.std.proofs.Common.{ℕ, ◌<◌, List, [], length, take, subst}
use Rattle.std.specs.Io.KnownBytes.{Appends}
use Rattle.swd_remote.proofs.WayLemmas.{remote_outgoing_sent, remote_outgoing_cut_short, remote_outgoing_broken}
use Rattle.swd_remote.proofs.WayLemmas.{remote_outgoing_to_carries, remote_outgoing_of_carries}
use Rattle.swd_remote.proofs.outgoing.Outgoing.flush.Goals as goal

pub returns-in-Ok-clause-whole : goal.returns-in-Ok-clause-whole
returns-in-Ok-clause-whole g c = λ yes start text h.
    let contents = g.W.Write.contents in
    let old = c.args.self.now in
    let gone = subst (Appends (contents old.writer) (contents c.send.new.writer)) c.as_slice.ensures.value
    c.in-Ok.ensures.ok in
    let after = remote_outgoing_sent contents start old
    (record old { writer = c.send.new.writer; held = c.clear.new.self }) text
    gone c.clear.ensures (remote_outgoing_to_carries contents old.failed start old text c.if-self.false h) in (
      after.0,
      remote_outgoing_of_carries contents old.failed start
          (record old { writer = c.send.new.writer; held = c.clear.new.self }) text c.if-self.false after.1,
    )

pub returns-in-Err-clause-keeps : goal.returns-in-Err-clause-keeps
returns-in-Err-clause-keeps g c = λ start text h.
    let contents = g.W.Write.contents in
    let old = c.args.self.now in
    let k = c.in-Err.field-0.sent in
    let short = subst (λ (x : List ℕ). k < length x) c.as_slice.ensures.value c.in-Err.ensures.err.0 in
    let gone = subst (λ (x : List ℕ). Appends (contents old.writer) (contents c.send.new.writer) (take k x))
    c.as_slice.ensures.value c.in-Err.ensures.err.1 in
    remote_outgoing_broken start (contents c.send.new.writer) text []
    (remote_outgoing_cut_short contents start (contents c.send.new.writer) old text k short gone
    (remote_outgoing_to_carries contents old.failed start old text c.if-self.false h))
