use Rattle.std.proofs.Common.{arith, sym, subst}
use Rattle.swd_host.specs.Engines.{EngineHasCue}
use Rattle.swd_steps.specs.Runs.{SteppedExtends, SteppedMakesCall, stepped_answers}
use Rattle.swd_steps.proofs.Stepping.{stepped_call_extends_run, stepped_too_few_after}
use Rattle.swd_steps.proofs.run.Run.next.Goals as goal

pub returns-in-Some-refusal-clause-refused : goal.returns-in-Some-refusal-clause-refused
returns-in-Some-refusal-clause-refused g c = c.in-Some-refusal.ensures.some c.args.reply

pub returns-then-next-count-clause-refused : goal.returns-then-next-count-clause-refused
returns-then-next-count-clause-refused g c =
    let list = g.L.Accesses.list c.args.accesses.now in
    stepped_too_few_after list c.args.self.now c.turn-came.new.self c.in-Some.cue c.in-Some-seen.seen
    (stepped_answers c.turn-came.result)
    (subst (EngineHasCue (λ cue. SteppedMakesCall cue c.in-Some-seen.seen list c.args.self.now
    (stepped_answers c.turn-came.result) c.turn-came.new.self)) (sym c.in-Some.ensures.cue) c.turn-came.ensures.turns)
    (omega (arith, c.if-next-count.true, c.count.ensures))

pub returns-clause-goes : goal.returns-clause-goes
returns-clause-goes g c =
    let list = g.L.Accesses.list c.args.accesses.now in
    subst (EngineHasCue (λ cue. SteppedExtends cue c.args.reply list c.args.self.now
    (stepped_answers c.turn-came.result) c.turn-came.new.self)) c.in-Some.ensures.cue
    (stepped_call_extends_run list c.args.self.now c.turn-came.new.self c.in-Some.cue c.args.reply c.in-Some-seen.seen
    (stepped_answers c.turn-came.result) c.in_default-refusal.ensures.none c.in-Some-seen.ensures.some.0
    (subst (EngineHasCue (λ cue. SteppedMakesCall cue c.in-Some-seen.seen list c.args.self.now
    (stepped_answers c.turn-came.result) c.turn-came.new.self)) (sym c.in-Some.ensures.cue) c.turn-came.ensures.turns)
    c.turn-came.ensures.drives)
