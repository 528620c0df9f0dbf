use Rattle.std.proofs.Common.{◌≡◌, ◌+◌, ◌∷◌, [], length, ap, arith, ◌∙◌, length-append}
use Rattle.swd_dap_probe.proofs.SequenceLemmas.{bytes_lead_first, bytes_lead_next, bytes_lead_last}
use Rattle.swd_dap_probe.proofs.sequences.sample_bytes.Goals as goal

pub loop-left-init : goal.loop-left-init
loop-left-init g c = record {
  few = c.requires.count;
  room = c.requires.room;
  leads = bytes_lead_first g.L.ProbeLine.clocks c.args.count c.args.reply.now.items c.args.line.now;
}

pub loop-left-preserved : goal.loop-left-preserved
loop-left-preserved g c =
    let l = c.loop-left in
    let now = c.min-now.result in
    let put = c.put.ensures in
    let long : length c.put.new.reply.items ≡ length l.reply.items + 1
    = ap length put ∙ length-append l.reply.items (c.sample-levels.result ∷ []) in
    record {
      few = omega (arith, l.invariant.few);
      room = omega (arith, long, l.invariant.room, c.loop-left-test.true, c.min-now.ensures);
      leads = bytes_lead_next g.L.ProbeLine.clocks c.args.count c.args.reply.now.items l.left now l.reply.items
          c.put.new.reply.items c.sample-levels.result c.args.line.now l.line c.sample-levels.new.line
          c.loop-left-test.true c.min-now.ensures c.sample-levels.ensures.levels put l.invariant.leads;
    }

pub returns : goal.returns
returns g c =
    let l = c.loop-left in
    bytes_lead_last g.L.ProbeLine.clocks c.args.count c.args.reply.now.items l.reply.items l.left c.args.line.now l.line
    c.loop-left-test.false l.invariant.leads
