use Rattle.std.proofs.Common.{◌≡◌, ℕ, Option, inl, sym, ap, subst, ◌∙◌}
use Rattle.swd_port.specs.Port.{Target as State}
use Rattle.swd_port.specs.Moving.{Arrives, Damaged, port_arrival_of}
use Rattle.swd_target.specs.Simulations.{Simulation, simulation_accepted}
use Rattle.swd_target.specs.declared.target.Target.{Target}
use Rattle.swd_target.specs.Elsewhere.{bus_itself, target_over_device}
use Rattle.swd_target.specs.Targets.{target_state, target_simulation}
use Rattle.swd_target.specs.Requests.{TargetTransfers, DataComes}
use Rattle.swd_target.proofs.ElsewhereLemmas.{late_quirk_arrival, simulation_placed, quirks_kept_by_accepting}
use Rattle.swd_target.proofs.target.Target.arrive.Goals as goal

pub returns-in-Some-clause-comes : goal.returns-in-Some-clause-comes
returns-in-Some-clause-comes g c =
    let s = c.args.self.now in
    let t = c.accept.new.self in
    let word = c.in-Some.word in
    let found = sym c.word_of.ensures.number ∙ c.in-Some.is in
    let comes : DataComes g.D.Device.bus (Arrives c.args.register word) s t = record {
      later = subst (λ (x : State). TargetTransfers x (target_state g.D.Device.bus t)) c.write.ensures.state
          c.accept.ensures.effect;
      undone = λ e. absurd cc;
      exact = c.accept.ensures.exact ∙ ap simulation_accepted c.write.ensures.exact;
      elsewhere = λ m late.
          let kept : c.write.new.self.quirks.late ≡ s.quirks.late = ap (λ (x : Simulation). x.quirks.late)
          c.write.ensures.exact in
          let last : t ≡ c.write.new.self = c.accept.ensures.late (kept ∙ late) in (
            ap (λ (x : Target _). target_state bus_itself (target_over_device m x)) last
                ∙ ap (λ (x : State). record x { memory = m }) c.write.ensures.state,
            ap (λ (x : Target _). target_simulation bus_itself (target_over_device m x)) last
                ∙ (ap (simulation_placed m) c.write.ensures.exact
                ∙ sym (late_quirk_arrival (Arrives c.args.register word)
                (target_simulation bus_itself (target_over_device m s))
                late)),
          );
    } in
    subst (λ (o : Option ℕ). DataComes g.D.Device.bus (port_arrival_of c.args.register o) s t) (sym found) comes

pub returns-in-None-clause-comes : goal.returns-in-None-clause-comes
returns-in-None-clause-comes g c =
    let s = c.args.self.now in
    let t = c.refuse_write.new.self in
    let found = sym c.word_of.ensures.number ∙ c.in-None.is in
    let comes : DataComes g.D.Device.bus Damaged s t = record {
      later = inl c.refuse_write.ensures.state;
      undone = λ e. c.refuse_write.ensures.state;
      exact = c.refuse_write.ensures.exact;
      elsewhere = λ m late. (
        ap (λ (x : State). record x { memory = m }) c.refuse_write.ensures.state,
        ap (simulation_placed m)
            c.refuse_write.ensures.exact,
      );
    } in
    subst (λ (o : Option ℕ). DataComes g.D.Device.bus (port_arrival_of c.args.register o) s t) (sym found) comes

pub returns-in-Some-clause-quirks : goal.returns-in-Some-clause-quirks
returns-in-Some-clause-quirks g c =
    ap (λ (x : Simulation). x.quirks) c.accept.ensures.exact
    ∙ (quirks_kept_by_accepting (target_simulation g.D.Device.bus c.write.new.self) ∙ ap (λ (x : Simulation). x.quirks)
    c.write.ensures.exact)

pub returns-in-Some-clause-quiet : goal.returns-in-Some-clause-quiet
returns-in-Some-clause-quiet g c = λ late.
    let kept = ap (λ (x : Simulation). x.quirks.late) c.write.ensures.exact in
    ap (λ (x : Target _). x.device) (c.accept.ensures.late (kept ∙ late)) ∙ c.write.ensures.device

pub returns-in-None-clause-quiet : goal.returns-in-None-clause-quiet
returns-in-None-clause-quiet g c = λ late. c.refuse_write.ensures.device
