use Rattle.std.proofs.Common.{sym, ap, subst, ◌∙◌}
use Rattle.swd_clocked.specs.Frames.{IsRisingFrame, rising_frame_ones}
use Rattle.swd_clocked.proofs.Frames.{one_cycle_rises, rising_frame_after_one}
use Rattle.swd_clocked.proofs.Marks.{clocked_mark_legal}
use Rattle.swd_clocked.proofs.Whole.{one_cycle_step}
use Rattle.swd_clocked.proofs.marked.FaultyClocked.send_one.Goals as goal

pub returns-clause-leads : goal.returns-clause-leads
returns-clause-leads g c =
    let old = c.args.self.now in
    let x = one_cycle_step g.D.Device.bus c.args.drive c.cycle_now.result old c.cycle_now.new.self
    (clocked_mark_legal old.mark old.legal)
    c.requires.frame old.clocked.place c.requires.heard c.requires.one c.requires.quiet c.cycle_now.ensures.cycles in
    record {
      rises = one_cycle_rises g.D.Device.bus old.clocked c.cycle_now.new.self.clocked x.bit c.requires.frame
          old.clocked.place x.cycles;
      keeps = x.keeps;
      heard = x.heard;
    }

pub returns-clause-frame : goal.returns-clause-frame
returns-clause-frame g c =
    let old = c.args.self.now in
    let x = one_cycle_step g.D.Device.bus c.args.drive c.cycle_now.result old c.cycle_now.new.self
    (clocked_mark_legal old.mark old.legal)
    c.requires.frame old.clocked.place c.requires.heard c.requires.one c.requires.quiet c.cycle_now.ensures.cycles in
    let r = rising_frame_after_one g.D.Device.bus old.clocked.frame x.bit old.clocked.target old.clocked.waits
    c.cycle_now.new.self.clocked
    c.requires.frame old.clocked.place x.cycles in
    subst IsRisingFrame (sym r.is) r.rising

pub returns-clause-rise : goal.returns-clause-rise
returns-clause-rise g c =
    let old = c.args.self.now in
    let x = one_cycle_step g.D.Device.bus c.args.drive c.cycle_now.result old c.cycle_now.new.self
    (clocked_mark_legal old.mark old.legal)
    c.requires.frame old.clocked.place c.requires.heard c.requires.one c.requires.quiet c.cycle_now.ensures.cycles in
    let r = rising_frame_after_one g.D.Device.bus old.clocked.frame x.bit old.clocked.target old.clocked.waits
    c.cycle_now.new.self.clocked
    c.requires.frame old.clocked.place x.cycles in
    ap rising_frame_ones r.is ∙ r.less
