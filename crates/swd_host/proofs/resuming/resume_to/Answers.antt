use Rattle.swd_host.proofs.Words.{ap, ◌∙◌, ◌++◌, [], refl, subst, sym, length, drop, resume_report, true, EngineDoes}
use Rattle.swd_host.proofs.Words.{EnginePerforms, engine_report}
use Rattle.std.proofs.Common.{arith}
use Rattle.std.proofs.lemmas.List.{append-nil}
use Rattle.swd_host.specs.Fields.{host_report_to}
use Rattle.swd_host.specs.Tasks.{resumed_bursts}
use Rattle.swd_host.proofs.Alone.{opening_closes, list_closes}
use Rattle.swd_host.proofs.Resumed.{resume_stops, resume_performs, resumed_equal_report, resumed_rest_slice}
use Rattle.swd_host.proofs.Resumed.{resumed_continues}
use Rattle.swd_host.specs.Calls.{EngineTurns}
use Rattle.swd_host.specs.Sent.{HostCalls}
use Rattle.swd_host.specs.Stages.{EngineListCalls}
use Rattle.swd_host.proofs.Making.{host_calls_weaken, host_calls_append}
use Rattle.swd_host.proofs.SendingTurns.{opening_counts, opening_stop_sent}
use Rattle.swd_host.proofs.SendingRuns.{resumed_requests_small, resumed_report_sent, list_confirms}
use Rattle.swd_host.specs.Confirming.{HostConfirms}
use Rattle.swd_host.proofs.resuming.resume_to.Goals as goal

pub returns-in-Err-clause-continues : goal.returns-in-Err-clause-continues
returns-in-Err-clause-continues g c =
    let before = g.K.AnswerSink.taken c.args.sink.now in
    let earlier = host_report_to before c.args.earlier in
    resumed_continues c.args.bursts c.args.accesses.now c.args.tries
    (engine_report before c.open.new.engine c.in-Err.end) earlier _ [] _ c.requires.reported
    (c.since.ensures before before (omega arith) ∙ ap (λ x. resume_report x earlier) (c.ending.ensures before))
    (sym (append-nil before))
    (opening_closes (resumed_bursts c.args.bursts) true c.args.tries c.resuming-engine.result c.open.new.engine
    c.ranges.tries.fits c.resuming-engine.ensures.again c.open.ensures.works _ c.in-Err.end _
    c.in-Err.ensures.finished c.open.ensures.due)

pub returns-clause-continues : goal.returns-clause-continues
returns-clause-continues g c =
    let before = g.K.AnswerSink.taken c.args.sink.now in
    let after = g.K.AnswerSink.taken c.perform-ended.new.sink in
    let earlier = host_report_to before c.args.earlier in
    let rest = drop (length before) c.args.accesses.now in
    let p : EnginePerforms rest c.open.new.engine c.perform-ended.new.engine before after c.perform-ended.result
    (g.W.Wire.port c.perform-ended.new.wire).link.due =
    subst (λ rest. EnginePerforms rest c.open.new.engine c.perform-ended.new.engine before after c.perform-ended.result
    (g.W.Wire.port c.perform-ended.new.wire).link.due)
    (resumed_rest_slice c.count-answered.result (length before) c.args.accesses.now c.count-answered.ensures
    c.requires.reported)
    c.perform-ended.ensures.performs in
    resumed_continues c.args.bursts c.args.accesses.now c.args.tries
    (engine_report after c.perform-ended.new.engine c.perform-ended.result) earlier
    _ p.answers _ c.requires.reported
    (c.since-2.ensures before after (omega (arith, c.count.ensures, c.count-answered.ensures))
    ∙ ap (λ x. resume_report x earlier) (c.ending-2.ensures after))
    p.added
    (list_closes (resumed_bursts c.args.bursts) true c.args.tries c.resuming-engine.result c.open.new.engine
    c.ranges.tries.fits c.resuming-engine.ensures.again c.open.ensures.works rest c.perform-ended.new.engine
    c.perform-ended.result _
    before after p)

pub returns-in-Err-clause-fits : goal.returns-in-Err-clause-fits
returns-in-Err-clause-fits g c = λ lawful.
    let before = g.K.AnswerSink.taken c.args.sink.now in
    let earlier = host_report_to before c.args.earlier in
    let opened = c.open.ensures.goes lawful in (
      opened.0,
      λ known.
          resumed_equal_report c.args.bursts c.args.accesses.now c.args.tries earlier _ _ _ _
          (c.since.ensures before before (omega arith) ∙ ap (λ x. resume_report x earlier) (c.ending.ensures before))
          (resume_stops c.args.bursts c.args.accesses.now c.args.tries earlier c.resuming-engine.result
          c.open.new.engine before (g.W.Wire.port c.args.wire.now) (g.W.Wire.port c.open.new.wire) c.ranges.tries.fits
          c.resuming-engine.ensures.again c.requires.accepted.1 c.requires.reported known opened.1 c.open.ensures.due
          refl c.in-Err.end c.in-Err.ensures.finished),
    )

pub returns-clause-fits : goal.returns-clause-fits
returns-clause-fits g c = λ lawful.
    let before = g.K.AnswerSink.taken c.args.sink.now in
    let after = g.K.AnswerSink.taken c.perform-ended.new.sink in
    let earlier = host_report_to before c.args.earlier in
    let does = c.perform-ended.ensures.does lawful in
    let opened = c.open.ensures.goes does.0 in (
      opened.0,
      λ known.
          resumed_equal_report c.args.bursts c.args.accesses.now c.args.tries earlier _ _ _ _
          (c.since-2.ensures before after (omega (arith, c.count.ensures, c.count-answered.ensures))
          ∙ ap (λ x. resume_report x earlier) (c.ending-2.ensures after))
          (resume_performs c.args.bursts c.args.accesses.now c.args.tries earlier c.resuming-engine.result
          c.open.new.engine before (g.W.Wire.port c.args.wire.now) (g.W.Wire.port c.open.new.wire) c.ranges.tries.fits
          c.resuming-engine.ensures.again c.requires.accepted.1 c.requires.reported known opened.1 c.open.ensures.due
          refl c.perform-ended.result c.perform-ended.new.engine
          after (g.W.Wire.port c.perform-ended.new.wire) c.in_default.ensures.finished
          (subst (λ rest. EngineDoes rest c.open.new.engine c.perform-ended.new.engine before after
          c.perform-ended.result (g.W.Wire.port c.open.new.wire) (g.W.Wire.port c.perform-ended.new.wire))
          (resumed_rest_slice c.count-answered.result (length before) c.args.accesses.now c.count-answered.ensures
          c.requires.reported)
          does.1)),
    )

pub returns-in-Err-clause-told : goal.returns-in-Err-clause-told
returns-in-Err-clause-told g c =
    let before = g.K.AnswerSink.taken c.args.sink.now in
    let earlier = host_report_to before c.args.earlier in
    host_calls_weaken g.W.Wire.notes _ _ _ _
    (λ calls turns. resumed_report_sent (drop (length before) c.args.accesses.now) earlier
    (host_report_to before c.ending.result) _ [] c.open.new.engine c.in-Err.end calls
    (c.since.ensures before before (omega arith))
    (c.ending.ensures before ∙ ap (λ l. engine_report l c.open.new.engine c.in-Err.end) (sym (append-nil before)))
    (resumed_requests_small c.args.bursts c.args.accesses.now c.args.tries earlier _ _ c.requires.accepted.0
    c.ranges.tries.fits
    (returns-in-Err-clause-continues g c))
    (opening_stop_sent (drop (length before) c.args.accesses.now) (resumed_bursts c.args.bursts) true c.args.tries
    c.resuming-engine.result c.open.new.engine c.in-Err.end calls c.resuming-engine.ensures.again turns
    c.in-Err.ensures.finished))
    c.open.ensures.made

pub returns-clause-told : goal.returns-clause-told
returns-clause-told g c =
    let before = g.K.AnswerSink.taken c.args.sink.now in
    let after = g.K.AnswerSink.taken c.perform-ended.new.sink in
    let earlier = host_report_to before c.args.earlier in
    let rest = drop (length before) c.args.accesses.now in
    let tells : HostCalls g.W.Wire.notes (EngineListCalls rest c.open.new.engine c.perform-ended.new.engine before after
    c.perform-ended.result) c.open.new.wire c.perform-ended.new.wire =
    subst (λ rest. HostCalls g.W.Wire.notes
    (EngineListCalls rest c.open.new.engine c.perform-ended.new.engine before after
    c.perform-ended.result) c.open.new.wire c.perform-ended.new.wire)
    (resumed_rest_slice c.count-answered.result (length before) c.args.accesses.now c.count-answered.ensures
    c.requires.reported)
    c.perform-ended.ensures.told in
    host_calls_append g.W.Wire.notes (λ calls. EngineTurns c.resuming-engine.result calls c.open.new.engine)
    (EngineListCalls rest c.open.new.engine c.perform-ended.new.engine before after c.perform-ended.result) _ _ _ _
    (λ early late turns tells. resumed_report_sent rest earlier (host_report_to after c.ending-2.result) _ tells.answers
    c.perform-ended.new.engine c.perform-ended.result (late ++ early)
    (c.since-2.ensures before after (omega (arith, c.count.ensures, c.count-answered.ensures)))
    (c.ending-2.ensures after ∙ ap (λ l. engine_report l c.perform-ended.new.engine c.perform-ended.result) tells.added)
    (resumed_requests_small c.args.bursts c.args.accesses.now c.args.tries earlier _ _ c.requires.accepted.0
    c.ranges.tries.fits
    (returns-clause-continues g c))
    (tells.ends early (opening_counts rest (resumed_bursts c.args.bursts) true c.args.tries c.resuming-engine.result
    c.open.new.engine early c.resuming-engine.ensures.again turns c.in_default.ensures.finished)))
    c.open.ensures.made tells

pub returns-in-Err-clause-confirms : goal.returns-in-Err-clause-confirms
returns-in-Err-clause-confirms g c =
    let rest = drop (length (g.K.AnswerSink.taken c.args.sink.now)) c.args.accesses.now in
    host_calls_weaken g.W.Wire.notes _ _ _ _
    (λ calls turns. subst (λ b. HostConfirms b calls)
    (c.open.ensures.works.bursts ∙ c.resuming-engine.ensures.again.bursts)
    (opening_stop_sent rest (resumed_bursts c.args.bursts) true c.args.tries
    c.resuming-engine.result c.open.new.engine c.in-Err.end calls c.resuming-engine.ensures.again turns
    c.in-Err.ensures.finished).confirms)
    c.open.ensures.made

pub returns-clause-confirms : goal.returns-clause-confirms
returns-clause-confirms g c =
    let before = g.K.AnswerSink.taken c.args.sink.now in
    let after = g.K.AnswerSink.taken c.perform-ended.new.sink in
    let rest = drop (length before) c.args.accesses.now in
    let tells : HostCalls g.W.Wire.notes (EngineListCalls rest c.open.new.engine c.perform-ended.new.engine before after
    c.perform-ended.result) c.open.new.wire c.perform-ended.new.wire =
    subst (λ rest. HostCalls g.W.Wire.notes
    (EngineListCalls rest c.open.new.engine c.perform-ended.new.engine before after
    c.perform-ended.result) c.open.new.wire c.perform-ended.new.wire)
    (resumed_rest_slice c.count-answered.result (length before) c.args.accesses.now c.count-answered.ensures
    c.requires.reported)
    c.perform-ended.ensures.told in
    host_calls_append g.W.Wire.notes (λ calls. EngineTurns c.resuming-engine.result calls c.open.new.engine)
    (EngineListCalls rest c.open.new.engine c.perform-ended.new.engine before after c.perform-ended.result) _ _ _ _
    (λ early late turns tells. list_confirms rest (resumed_bursts c.args.bursts) c.open.new.engine
    c.perform-ended.new.engine _ _ c.perform-ended.result early late
    (c.open.ensures.works.bursts ∙ c.resuming-engine.ensures.again.bursts)
    (opening_counts rest (resumed_bursts c.args.bursts) true c.args.tries c.resuming-engine.result
    c.open.new.engine early c.resuming-engine.ensures.again turns c.in_default.ensures.finished) tells)
    c.open.ensures.made tells
