use Rattle.std.proofs.Common.{rules}
use Rattle.swd_host.proofs.Listed.{list_report_closes, list_report_sent, list_runs_within, list_sent_confirms}
use Rattle.swd_host.proofs.Making.{host_calls_weaken}
use Rattle.swd_host.proofs.listing.conduct_open.Goals as goal

pub returns-clause-closes : goal.returns-clause-closes
returns-clause-closes g c =
    list_report_closes c.args.bursts c.args.tries c.args.accesses.now c.opened-engine.result
    c.perform-ended.new.engine (g.K.AnswerSink.taken c.args.sink.now)
    (g.K.AnswerSink.taken c.perform-ended.new.sink) c.perform-ended.result _ c.opened-engine.ensures.opened
    (c.ending.ensures _) _ c.perform-ended.ensures.performs

pub returns-clause-fits : goal.returns-clause-fits
returns-clause-fits g c = λ lawful.
    let does = c.perform-ended.ensures.does lawful in (
      does.0,
      list_runs_within c.args.bursts c.args.tries c.args.accesses.now c.opened-engine.result
          c.perform-ended.new.engine (g.K.AnswerSink.taken c.args.sink.now)
          (g.K.AnswerSink.taken c.perform-ended.new.sink) c.perform-ended.result _ c.opened-engine.ensures.opened
          (c.ending.ensures _) _ _ c.requires.accepted.1 does.1,
    )

pub returns-clause-told : goal.returns-clause-told
returns-clause-told g c = host_calls_weaken g.W.Wire.notes _ _ _ _
    (list_report_sent c.args.bursts c.args.tries c.args.accesses.now c.opened-engine.result
    c.perform-ended.new.engine (g.K.AnswerSink.taken c.args.sink.now)
    (g.K.AnswerSink.taken c.perform-ended.new.sink) c.perform-ended.result _ c.opened-engine.ensures.opened
    (c.ending.ensures _) _ c.requires.accepted.0 (search rules) (returns-clause-closes g c))
    c.perform-ended.ensures.told

pub returns-clause-confirms : goal.returns-clause-confirms
returns-clause-confirms g c = host_calls_weaken g.W.Wire.notes _ _ _ _
    (list_sent_confirms c.args.bursts c.args.tries c.args.accesses.now c.opened-engine.result
    c.perform-ended.new.engine (g.K.AnswerSink.taken c.args.sink.now)
    (g.K.AnswerSink.taken c.perform-ended.new.sink) c.perform-ended.result _ c.opened-engine.ensures.opened
    (c.ending.ensures _)) c.perform-ended.ensures.told
