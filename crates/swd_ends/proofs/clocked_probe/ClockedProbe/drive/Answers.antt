use Rattle.std.proofs.Common.{◌%◌, [], ◌∷◌, Some, refl, subst}
use Rattle.std.specs.Prelude.{◌==◌}
use Rattle.swd_ends.specs.ClockedProbes.{ClockedProbeCycles, clocked_probe_target}
use Rattle.swd_ends.proofs.ClockLemmas.{clocked_probe_next_driven, clocked_probe_no_driven, clocked_probe_all_driven}
use Rattle.swd_ends.proofs.ClockLemmas.{clocked_probe_one_cycle, clocked_probe_no_cycle}
use Rattle.swd_ends.proofs.clocked_probe.ClockedProbe.drive.Goals as goal

pub loop-place-init : goal.loop-place-init
loop-place-init g c =
    record {
      leads = λ seen t h. (
        seen,
        subst (λ x. ClockedProbeCycles g.D.Device.bus x seen (clocked_probe_target c.args.self.now) t)
            (clocked_probe_all_driven c.args.count c.args.bits) h,
      );
      waits = refl;
    }

pub loop-place-preserved : goal.loop-place-preserved
loop-place-preserved g c =
    let l = c.loop-place in
    record {
      leads = λ seen t h.
          l.invariant.leads (c.cycle.result ∷ seen) t
          (clocked_probe_one_cycle g.D.Device.bus _ _ (Some (l.rest % 2 == 1)) c.cycle.result seen l.self.target
          c.cycle.new.self t
          (clocked_probe_next_driven c.args.count l.place l.rest c.loop-place-test.true)
          (record {
            cycle = c.cycle.ensures.cycles;
            cycles = c.cycle.ensures.count;
            contended =
                c.cycle.ensures.contended;
          }) h);
      waits = l.invariant.waits;
    }

pub returns : goal.returns
returns g c =
    let l = c.loop-place in
    let h = l.invariant.leads [] l.self.target
    (clocked_probe_no_cycle g.D.Device.bus _ l.self.target
    (clocked_probe_no_driven c.args.count l.place l.rest c.loop-place-test.false)) in
    (h.0, h.1, l.invariant.waits)
