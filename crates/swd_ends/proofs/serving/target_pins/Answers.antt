use Rattle.std.proofs.Common.{ap, subst, sym, ◌∙◌}
use Rattle.swd_target.specs.Simulations.{Simulation}
use Rattle.swd_target.specs.declared.plan.Plan.{Plan}
use Rattle.swd_target.specs.Plans.{plan_marks, plan_tally}
use Rattle.swd_clocked.specs.declared.clocked.Clocked.{Clocked}
use Rattle.swd_clocked.specs.declared.marked.FaultyClocked.{FaultyClocked}
use Rattle.swd_clocked.specs.Clocks.{clocked_state, clocked_quirks}
use Rattle.swd_ends.specs.Serving.{IsTargetEndMade}
use Rattle.swd_ends.proofs.serving.target_pins.Goals as goal

pub returns-clause-made : goal.returns-clause-made
returns-clause-made g c =
    let target = c.new-target.ensures in
    let marks = c.args.plan.items in
    let bus = g.D.Device.bus in
    let differs = c.with_buffer.ensures in
    let clocked = differs.clocked in
    let made : IsTargetEndMade bus (bus c.args.device) marks c.args.idr c.args.buffers c.with_buffer.result = record {
      state = ap (λ (x : Clocked _). clocked_state bus x) clocked ∙ target.state;
      choices = ap (λ (x : Clocked _). clocked_quirks x) clocked
          ∙ ap (λ (s : Simulation). s.quirks) target.exact;
      frame = ap (λ (x : Clocked _). x.frame) clocked ∙ target.frame;
      unseen = differs.unseen ∙ target.unseen;
      plan = ap (λ (x : Plan _). plan_marks x) differs.keeps.plan ∙ target.plan;
      asked = ap (λ (x : Plan _). (plan_tally x).asked) differs.keeps.plan ∙ target.requests;
      cycles = ap (λ (x : Clocked _). x.cycles) clocked ∙ target.cycles;
      buffered = differs.buffers;
      given_up = differs.given_up ∙ target.given_up;
    } in
    subst (λ (t : FaultyClocked _ _). IsTargetEndMade bus (bus c.args.device) marks c.args.idr c.args.buffers t)
    (sym c.new.ensures.target)
    made

pub returns-clause-rests : goal.returns-clause-rests
returns-clause-rests g c =
    let pins = c.new.ensures in
    record {
      clock = pins.clock;
      level = pins.level;
      drives = pins.drives;
      seen = pins.seen;
      kept = pins.trace;
    }
