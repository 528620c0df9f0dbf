use Rattle.swd_host.proofs.Words.{ap, arith, [], false, subst, ◌∙◌, ◌++◌, engine_report}
use Rattle.std.proofs.Common.{rules}
use Rattle.swd_host.proofs.Alone.{opening_closes, list_closes, engine_closes_equal}
use Rattle.swd_host.proofs.Runs.{opening_stops, list_fits, host_run_equal_report}
use Rattle.swd_host.specs.Calls.{EngineTurns}
use Rattle.swd_host.specs.Stages.{EngineListCalls}
use Rattle.swd_host.proofs.Making.{host_calls_weaken, host_calls_append}
use Rattle.swd_host.proofs.SendingTurns.{opening_counts, opening_stop_sent}
use Rattle.swd_host.proofs.SendingRuns.{engine_requests_small, engine_report_matches, list_confirms}
use Rattle.swd_host.specs.Confirming.{HostConfirms}
use Rattle.swd_host.proofs.running.conduct_to.Goals as goal

pub returns-in-Err-clause-fits : goal.returns-in-Err-clause-fits
returns-in-Err-clause-fits g c = λ lawful.
    let opened = c.open.ensures.goes lawful in (
      opened.0,
      λ rest.
          host_run_equal_report _ _ _ _ _ _ _ _ (c.ending.ensures _)
          (opening_stops c.args.engine.bursts c.args.accesses.now c.args.engine.tries c.args.engine c.open.new.engine
          (g.K.AnswerSink.taken c.args.sink.now)
          (g.W.Wire.port c.args.wire.now) (g.W.Wire.port c.open.new.wire) (search rules) c.requires.new
          opened.1 c.open.ensures.due c.requires.none rest c.in-Err.end c.in-Err.ensures.finished),
    )

pub returns-clause-fits : goal.returns-clause-fits
returns-clause-fits g c = λ lawful.
    let does = c.perform-ended.ensures.does lawful in
    let opened = c.open.ensures.goes does.0 in (
      opened.0,
      λ rest.
          host_run_equal_report _ _ _ _ _ _ _ _ (c.ending-2.ensures _)
          (list_fits c.args.engine.bursts c.args.accesses.now c.args.engine.tries c.args.engine c.open.new.engine
          (g.K.AnswerSink.taken c.args.sink.now)
          (g.W.Wire.port c.args.wire.now) (g.W.Wire.port c.open.new.wire) (search rules) c.requires.new
          opened.1 c.open.ensures.due c.requires.none rest c.perform-ended.new.engine
          (g.K.AnswerSink.taken c.perform-ended.new.sink) c.perform-ended.result
          (g.W.Wire.port c.perform-ended.new.wire) c.in_default.ensures.finished does.1 c.requires.accepted.1),
    )

pub returns-in-Err-clause-closes : goal.returns-in-Err-clause-closes
returns-in-Err-clause-closes g c =
    engine_closes_equal 0 _ _ _ _ _ _ ((c.ending.ensures _) ∙ ap (λ l. engine_report l c.open.new.engine c.in-Err.end)
    c.requires.none)
    (opening_closes c.args.engine.bursts false c.args.engine.tries c.args.engine c.open.new.engine (search rules)
    c.requires.new c.open.ensures.works c.args.accesses.now c.in-Err.end _ c.in-Err.ensures.finished c.open.ensures.due)

pub returns-clause-closes : goal.returns-clause-closes
returns-clause-closes g c =
    let p = c.perform-ended.ensures.performs in
    engine_closes_equal 0 _ _ _ _ _ _ ((c.ending-2.ensures _)
    ∙ ap (λ l. engine_report l c.perform-ended.new.engine c.perform-ended.result)
    (p.added ∙ ap (λ l. l ++ p.answers) c.requires.none))
    (list_closes c.args.engine.bursts false c.args.engine.tries c.args.engine c.open.new.engine (search rules)
    c.requires.new c.open.ensures.works c.args.accesses.now c.perform-ended.new.engine c.perform-ended.result _
    (g.K.AnswerSink.taken c.args.sink.now) (g.K.AnswerSink.taken c.perform-ended.new.sink) p)

pub returns-in-Err-clause-told : goal.returns-in-Err-clause-told
returns-in-Err-clause-told g c = host_calls_weaken g.W.Wire.notes _ _ _ _
    (λ calls turns. engine_report_matches c.args.accesses.now [] c.open.new.engine c.in-Err.end _ calls
    ((c.ending.ensures _) ∙ ap (λ l. engine_report l c.open.new.engine c.in-Err.end) c.requires.none)
    (engine_requests_small 0 _ c.args.accesses.now c.args.engine.tries _ _ (omega arith) c.requires.accepted.0
    (search rules) (returns-in-Err-clause-closes g c))
    (opening_stop_sent c.args.accesses.now c.args.engine.bursts false c.args.engine.tries c.args.engine
    c.open.new.engine c.in-Err.end calls c.requires.new turns c.in-Err.ensures.finished)) c.open.ensures.made

pub returns-clause-told : goal.returns-clause-told
returns-clause-told g c = host_calls_append g.W.Wire.notes (λ calls. EngineTurns c.args.engine calls c.open.new.engine)
    (EngineListCalls c.args.accesses.now c.open.new.engine c.perform-ended.new.engine
    (g.K.AnswerSink.taken c.args.sink.now) (g.K.AnswerSink.taken c.perform-ended.new.sink) c.perform-ended.result) _ _ _
    _ (λ early late turns tells. engine_report_matches c.args.accesses.now tells.answers c.perform-ended.new.engine
    c.perform-ended.result _ (late ++ early)
    ((c.ending-2.ensures _) ∙ ap (λ l. engine_report l c.perform-ended.new.engine c.perform-ended.result)
    (tells.added ∙ ap (λ l. l ++ tells.answers) c.requires.none))
    (engine_requests_small 0 _ c.args.accesses.now c.args.engine.tries _ _ (omega arith) c.requires.accepted.0
    (search rules) (returns-clause-closes g c))
    (tells.ends early (opening_counts c.args.accesses.now c.args.engine.bursts false c.args.engine.tries c.args.engine
    c.open.new.engine early c.requires.new turns c.in_default.ensures.finished)))
    c.open.ensures.made c.perform-ended.ensures.told

pub returns-in-Err-clause-confirms : goal.returns-in-Err-clause-confirms
returns-in-Err-clause-confirms g c = host_calls_weaken g.W.Wire.notes _ _ _ _
    (λ calls turns. subst (λ b. HostConfirms b calls) c.open.ensures.works.bursts
    (opening_stop_sent c.args.accesses.now c.args.engine.bursts false c.args.engine.tries c.args.engine
    c.open.new.engine c.in-Err.end calls c.requires.new turns c.in-Err.ensures.finished).confirms) c.open.ensures.made

pub returns-clause-confirms : goal.returns-clause-confirms
returns-clause-confirms g c =
    host_calls_append g.W.Wire.notes (λ calls. EngineTurns c.args.engine calls c.open.new.engine)
    (EngineListCalls c.args.accesses.now c.open.new.engine c.perform-ended.new.engine
    (g.K.AnswerSink.taken c.args.sink.now) (g.K.AnswerSink.taken c.perform-ended.new.sink) c.perform-ended.result) _ _ _
    _ (λ early late turns tells. list_confirms c.args.accesses.now c.args.engine.bursts c.open.new.engine
    c.perform-ended.new.engine _ _ c.perform-ended.result early late c.open.ensures.works.bursts
    (opening_counts c.args.accesses.now c.args.engine.bursts false c.args.engine.tries c.args.engine
    c.open.new.engine early c.requires.new turns c.in_default.ensures.finished) tells)
    c.open.ensures.made c.perform-ended.ensures.told
