use Rattle.std.proofs.Common.{ap, refl, sym}
use Rattle.swd_port.specs.Port.{Target as State}
use Rattle.swd_target.specs.Simulations.{Simulation}
use Rattle.swd_target.proofs.ElsewhereLemmas.{simulation_placed}
use Rattle.swd_clocked.specs.Clocks.{clocked_over}
use Rattle.swd_c.specs.Targets.{CApiNumbers}
use Rattle.swd_c.proofs.Targets.{c_api_fields_elsewhere}
use Rattle.swd_c.proofs.target.swd_target_new.Goals as goal

pub returns : goal.returns
returns c =
    let made = c.new.result in
    let has : CApiNumbers c.fields.result made = record {
      has = sym c.fields.ensures;
      late = ap (λ (s : Simulation). s.quirks.late) c.new.ensures.exact;
      unidentified = ap (λ (s : Simulation). s.quirks.idr) c.new.ensures.exact;
    } in
    record {
      new = λ m. (
        clocked_over m made,
        c_api_fields_elsewhere m c.fields.result made has,
        refl,
        record {
          state = ap (λ (s : State). record s { memory = m }) c.new.ensures.state;
          exact = ap (simulation_placed m) c.new.ensures.exact;
          frame = c.new.ensures.frame;
          held = c.new.ensures.held;
          cycles = c.new.ensures.cycles;
        },
      );
    }
