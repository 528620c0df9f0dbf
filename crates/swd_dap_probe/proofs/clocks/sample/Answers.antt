use Rattle.std.proofs.Common.{◌≡◌, ◌<◌, ◌+◌, ◌*◌, ◌^◌, ◌%◌, sym, subst, ap, arith}
use Rattle.swd_bits.specs.Bits.{bit}
use Rattle.swd_dap_probe.proofs.ClockLemmas.{AllLevelsLead, levels_lead_first, levels_lead_next, levels_lead_last}
use Rattle.swd_dap_probe.proofs.ClockLemmas.{level_above, level_bound}
use Rattle.swd_dap_probe.proofs.clocks.sample.Goals as goal

pub loop-place-init : goal.loop-place-init
loop-place-init g c = record {
  bound = omega arith;
  leads = levels_lead_first g.L.ProbeLine.clocks c.args.count c.args.line.now;
}

pub loop-place-preserved : goal.loop-place-preserved
loop-place-preserved g c =
    let l = c.loop-place in
    let level = c.clock-level.result in
    let few : l.place < 64 = omega (arith, c.requires, c.loop-place-test.true) in
    let e : l.levels + bit level * 2 ^ l.place ≡ l.levels + c.from.result * 2 ^ l.place % 2 ^ 64
    = ap (λ x. l.levels + x) (sym (level_above l.place level c.from.result few c.from.ensures)) in
    record {
      bound = subst (λ x. x < 2 ^ (l.place + 1)) e (level_bound l.place l.levels level l.invariant.bound);
      leads = subst (λ x. AllLevelsLead g.L.ProbeLine.clocks c.args.count (l.place + 1) x c.args.line.now
          c.clock-level.new.self) e
          (levels_lead_next g.L.ProbeLine.clocks c.args.count l.place l.levels level c.args.line.now l.line
          c.clock-level.new.self c.loop-place-test.true c.clock-level.ensures l.invariant.leads);
    }

pub returns-clause-levels : goal.returns-clause-levels
returns-clause-levels g c =
    let l = c.loop-place in
    let done : l.place ≡ c.args.count = omega (arith, l.auto.place-end, c.loop-place-test.false) in
    let all = levels_lead_last g.L.ProbeLine.clocks c.args.count l.levels c.args.line.now l.line
    (subst (λ k. AllLevelsLead g.L.ProbeLine.clocks c.args.count k l.levels c.args.line.now l.line) done
    l.invariant.leads) in
    record {
      levels = all.levels;
      long = let e = all.long in omega (arith, e);
      goes = all.goes;
      is = let e = all.is in omega (arith, e);
    }
