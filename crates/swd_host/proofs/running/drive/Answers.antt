use Rattle.swd_host.proofs.Words.{sym, ap, refl, ◌∙◌, is_some, subst, EngineGoesWithPort}
use Rattle.swd_host.proofs.Going.{engine_goes_refl, engine_goes_trans}
use Rattle.swd_host.proofs.Working.{engine_works_refl, engine_works_trans}
use Rattle.swd_host.specs.Calls.{EngineTurns}
use Rattle.swd_host.proofs.Making.{host_calls_none, host_calls_append, engine_turns_trans}
use Rattle.swd_host.proofs.running.drive.Goals as goal

pub loop-outcome-init : goal.loop-outcome-init
loop-outcome-init g c = record {
  due = c.requires;
  works = engine_works_refl _;
  goes = λ lawful. (lawful, engine_goes_refl _ _);
  plan = refl;
  made = host_calls_none g.W.Wire.notes _ _ refl;
}

pub loop-outcome-preserved : goal.loop-outcome-preserved
loop-outcome-preserved g c =
    let on = ap is_some (sym c.finished.ensures ∙ c.in_default.is) in
    record {
      due = c.turn.ensures.due;
      works = engine_works_trans _ c.loop-outcome.engine _ on c.loop-outcome.invariant.works c.turn.ensures.works;
      goes = λ lawful. (
          let late = c.turn.ensures.goes lawful in
          let soon = c.loop-outcome.invariant.goes (c.announce.ensures.lawful late.0) in
          let on_from = subst
          (λ s. EngineGoesWithPort c.loop-outcome.engine s c.turn.new.engine (g.W.Wire.port c.turn.new.wire))
          c.announce.ensures.port late.1 in
          (soon.0, engine_goes_trans _ c.loop-outcome.engine _ _ _ _ on soon.1 on_from));
      plan = c.turn.ensures.plan ∙ c.announce.ensures.plan ∙ c.loop-outcome.invariant.plan;
      made = host_calls_append g.W.Wire.notes (λ calls. EngineTurns c.args.engine.now calls c.loop-outcome.engine)
          (λ calls. EngineTurns c.loop-outcome.engine calls c.turn.new.engine) _ _ _ _
          (engine_turns_trans _ c.loop-outcome.engine _) c.loop-outcome.invariant.made
          (λ calls kept. c.turn.ensures.made calls (c.announce.ensures.notes calls kept));
    }
