use Rattle.std.proofs.Common.{None, refl}
use Rattle.swd_dap_probe.proofs.ClockLemmas.{clocks_lead_first, clocks_lead_next, clocks_lead_last}
use Rattle.swd_dap_probe.proofs.ClockLemmas.{alike_next, alike_none, alike_all}
use Rattle.swd_dap_probe.proofs.clocks.release.Goals as goal

pub loop-place-init : goal.loop-place-init
loop-place-init g c = clocks_lead_first g.L.ProbeLine.clocks _ _ c.args.line.now (alike_all c.args.count None)

pub loop-place-preserved : goal.loop-place-preserved
loop-place-preserved g c =
    let l = c.loop-place in
    clocks_lead_next g.L.ProbeLine.clocks _ _ _ None c.clock.result c.args.line.now l.line c.clock.new.self
    (alike_next c.args.count l.place None c.loop-place-test.true) c.clock.ensures l.invariant

pub returns : goal.returns
returns g c =
    let l = c.loop-place in
    let h = clocks_lead_last g.L.ProbeLine.clocks _ _ c.args.line.now l.line
    (alike_none c.args.count l.place None c.loop-place-test.false) l.invariant in
    record { seen = h.0; clocks = h.1; samples = refl }
