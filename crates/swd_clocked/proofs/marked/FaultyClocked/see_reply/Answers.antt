use Rattle.swd_clocked.proofs.Marks.{clocked_mark_legal}
use Rattle.swd_clocked.proofs.Whole.{reply_cycles_seen}
use Rattle.swd_clocked.proofs.marked.FaultyClocked.see_reply.Goals as goal

pub returns-clause-sees : goal.returns-clause-sees
returns-clause-sees g c =
    let old = c.args.self.now in
    rw (c.from.ensures, c.from-2.ensures, c.from-3.ensures)
    (reply_cycles_seen g.D.Device.bus old c.cycle_now.new.self c.cycle_now-first.new.self c.cycle_now-second.new.self
    c.cycle_now-third.new.self
    c.cycle_now.result c.cycle_now-first.result c.cycle_now-second.result c.cycle_now-third.result
    (clocked_mark_legal old.mark old.legal) c.cycle_now.ensures.cycles c.cycle_now-first.ensures.cycles
    c.cycle_now-second.ensures.cycles c.cycle_now-third.ensures.cycles)
