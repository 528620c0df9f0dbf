use Rattle.std.proofs.Common.{◌≡◌, [], ◌∷◌, ◌++◌, ◌+◌, ◌-◌, None, take, refl, subst, ap, ◌∙◌, append_assoc}
use Rattle.std.specs.Prelude.{replicate}
use Rattle.swd_ends.specs.ClockedProbes.{ClockedProbeCycles, clocked_probe_target, clocked_probe_waiting}
use Rattle.swd_ends.proofs.ClockLemmas.{clocked_probe_next_alike, clocked_probe_none_alike, clocked_probe_all_alike}
use Rattle.swd_ends.proofs.ClockLemmas.{clocked_probe_one_cycle, clocked_probe_no_cycle, clocked_probe_take_twice}
use Rattle.swd_ends.proofs.ClockLemmas.{clocked_probe_levels_wait}
use Rattle.swd_ends.proofs.clocked_probe.ClockedProbe.sample.Goals as goal

pub loop-place-init : goal.loop-place-init
loop-place-init g c = λ seen t h. (
  seen,
  subst (λ x. ClockedProbeCycles g.D.Device.bus x seen (clocked_probe_target c.args.self.now) t)
      (clocked_probe_all_alike c.args.count None) h,
  refl,
)

pub loop-place-preserved : goal.loop-place-preserved
loop-place-preserved g c = λ seen t h.
    let l = c.loop-place in
    let level = c.cycle-level.result in
    let was = clocked_probe_waiting l.self in
    let more = subst (λ x. ClockedProbeCycles g.D.Device.bus (replicate (c.args.count - (l.place + 1)) None) seen x t)
    c.keep.ensures.target h in
    let all = l.invariant (level ∷ seen) t
    (clocked_probe_one_cycle g.D.Device.bus _ _ None level seen l.self.target c.cycle-level.new.self t
    (clocked_probe_next_alike c.args.count l.place None c.loop-place-test.true)
    (record {
      cycle = c.cycle-level.ensures.cycles;
      cycles = c.cycle-level.ensures.count;
      contended =
          c.cycle-level.ensures.contended;
    }) more) in
    let kept : take 64 (clocked_probe_waiting c.keep.new.self ++ seen) ≡ take 64 (was ++ level ∷ seen)
    = ap (λ x. take 64 (x ++ seen)) c.keep.ensures.waits ∙ clocked_probe_take_twice 64 (was ++ level ∷ []) seen
    ∙ ap (take 64) (append_assoc was (level ∷ []) seen) in
    (all.0, all.1, kept ∙ all.2)

pub returns : goal.returns
returns g c =
    let l = c.loop-place in
    let h = l.invariant [] l.self.target
    (clocked_probe_no_cycle g.D.Device.bus _ l.self.target
    (clocked_probe_none_alike c.args.count l.place None c.loop-place-test.false)) in
    record {
      seen = h.0;
      clocks = h.1;
      waits = clocked_probe_levels_wait l.self.sampled l.self.levels l.self.few ∙ h.2;
    }
