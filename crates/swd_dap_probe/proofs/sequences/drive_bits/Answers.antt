use Rattle.std.proofs.Common.{◌≡◌, ◌/◌, ◌%◌, ◌^◌, Some, subst}
use Rattle.std.specs.Prelude.{◌==◌, slice_index}
use Rattle.swd_dap_probe.proofs.ClockLemmas.{clocks_lead_first, clocks_lead_next, clocks_lead_last}
use Rattle.swd_dap_probe.proofs.SequenceLemmas.{bits_next, bits_none, bits_all}
use Rattle.swd_dap_probe.proofs.sequences.drive_bits.Goals as goal

pub loop-place-init : goal.loop-place-init
loop-place-init g c = clocks_lead_first g.L.ProbeLine.clocks _ _ c.args.line.now
    (bits_all c.args.bytes.now c.args.count)

pub loop-place-preserved : goal.loop-place-preserved
loop-place-preserved g c =
    let l = c.loop-place in
    let bytes = c.args.bytes.now in
    let e : c.from.result ≡ l.place / 8 = c.from.ensures in
    let one = subst (λ x. g.L.ProbeLine.clocks (Some (slice_index bytes x / 2 ^ (l.place % 8) % 2 == 1)) c.clock.result
    l.line c.clock.new.self) e c.clock.ensures in
    clocks_lead_next g.L.ProbeLine.clocks _ _ _ _ c.clock.result c.args.line.now l.line c.clock.new.self
    (bits_next bytes c.args.count l.place c.loop-place-test.true) one l.invariant

pub returns : goal.returns
returns g c =
    let l = c.loop-place in
    clocks_lead_last g.L.ProbeLine.clocks _ _ c.args.line.now l.line
    (bits_none c.args.bytes.now c.args.count l.place c.loop-place-test.false) l.invariant
