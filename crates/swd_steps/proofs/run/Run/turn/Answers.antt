use Rattle.std.proofs.Common.{arith, ap, length, length-append, refl, sym, subst}
use Rattle.swd_host.specs.Engines.{EngineHasCue}
use Rattle.swd_host.specs.declared.outcome.End.TheVariants.{All}
use Rattle.swd_steps.specs.declared.run.Stage.TheVariants.{Ended}
use Rattle.swd_steps.specs.Runs.{SteppedMakesCall, stepped_answer_list, stepped_run_cue}
use Rattle.swd_steps.proofs.Stepping.{engine_turns, stepped_idle_makes_call, stepped_two_outcomes_drive}
use Rattle.swd_steps.proofs.run.Run.turn.Goals as goal

pub returns-in-Between-clause-turns : goal.returns-in-Between-clause-turns
returns-in-Between-clause-turns g c =
    subst (λ l. EngineHasCue (λ cue. SteppedMakesCall cue c.args.seen (g.L.Accesses.list c.args.accesses.now)
    c.args.self.now l (record c.args.self.now { stage = Ended All }))
    (stepped_run_cue c.args.self.now)) (sym c.of.ensures)
    (stepped_idle_makes_call (g.L.Accesses.list c.args.accesses.now) c.args.self.now c.args.seen c.in-Between.is
    c.requires.cue)

pub returns : goal.returns
returns g c = record {
  turns = engine_turns (g.L.Accesses.list c.args.accesses.now) c.args.self.now
      (record c.args.self.now { engine = c.next.new.self }) c.follow-first.new.self c.follow-second.new.self c.args.seen
      c.follow-first.result c.follow-second.result _ refl
      refl
      c.follow-first.ensures.follows c.follow-second.ensures.follows c.of-2.ensures c.in_default.not-Between
      c.requires.cue c.next.ensures;
  counted = omega (
    arith,
    c.follow-first.ensures.counted,
    c.follow-second.ensures.counted,
    ap length c.of-2.ensures,
    length-append (stepped_answer_list c.follow-first.result) (stepped_answer_list c.follow-second.result),
  );
  drives = stepped_two_outcomes_drive (record c.args.self.now { engine = c.next.new.self }) c.follow-first.new.self
      c.follow-second.new.self c.follow-first.ensures.same c.follow-first.ensures.calm
      c.follow-second.ensures.same c.follow-second.ensures.drives c.follow-second.ensures.driven;
}
