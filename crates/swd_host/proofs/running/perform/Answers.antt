use Rattle.swd_host.proofs.Words.{ap, arith, ◌∙◌, ◌++◌, ◌∷◌, [], refl, sym}
use Rattle.std.proofs.lemmas.List.{append_assoc, append-nil}
use Rattle.swd_host.proofs.Lists.{host_list_follower}
use Rattle.swd_host.proofs.Ends.{engine_stopped_state}
use Rattle.swd_host.proofs.Alone.{opened_engine_stays, access_performs, answered_stays, engine_performs_all}
use Rattle.swd_host.proofs.Alone.{engine_stop_not_all, engine_start_not_all}
use Rattle.swd_host.proofs.Performing.{opened_engine_stands, access_does, answered_stands, all_does}
use Rattle.swd_host.proofs.Making.{host_calls_none, host_calls_append}
use Rattle.swd_host.proofs.SendingRuns.{engine_sent_answered, engine_sent_stopped, engine_sent_all}
use Rattle.swd_host.proofs.running.perform.Goals as goal

pub loop-index-init : goal.loop-index-init
loop-index-init g c = record {
  added = record { part = []; whole = sym (append-nil (g.K.AnswerSink.taken c.args.sink.now)) };
  stays = opened_engine_stays c.args.accesses.now c.args.engine.now (g.W.Wire.port c.args.wire.now) c.requires.opened
      c.requires.due;
  stands = λ lawful. (
    lawful,
    opened_engine_stands c.args.accesses.now c.args.engine.now (g.W.Wire.port c.args.wire.now)
        c.requires.opened c.requires.due,
  );
  told = host_calls_none g.W.Wire.notes _ _ (λ past counts. counts);
  room = omega (arith, c.requires.room);
  most = omega arith;
  keeps = g.met.K.AnswerSink.keeps_all _;
  plan = refl;
}

pub returns-in-Err-clause-performs : goal.returns-in-Err-clause-performs
returns-in-Err-clause-performs g c =
    let works = c.access.ensures.works in
    let at = engine_stopped_state c.access.new.engine.state c.access.new.engine.task c.in-Err.end
    c.in-Err.ensures.finished in
    access_performs c.loop-index.index c.args.accesses.now c.args.engine.now c.loop-index.engine works.0
    c.access.new.engine c.loop-index.invariant.added.part (g.W.Wire.port c.loop-index.wire)
    (g.W.Wire.port c.access.new.wire) _ _ c.loop-index.invariant.stays works.1 works.2 c.in-Err.end
    c.loop-index-test.true c.access.ensures.due at
    (engine_stop_not_all works.0 _ c.in-Err.end works.2 (engine_start_not_all _ _ c.loop-index.engine works.0 works.1)
    at)
    (g.K.AnswerSink.taken c.args.sink.now) (g.K.AnswerSink.taken c.loop-index.sink) c.loop-index.invariant.added.whole

pub returns-in-Err-clause-does : goal.returns-in-Err-clause-does
returns-in-Err-clause-does g c = λ lawful.
    let late = c.access.ensures.goes lawful in
    let soon = c.loop-index.invariant.stands late.0 in (
      soon.0,
      access_does c.loop-index.index c.args.accesses.now c.args.engine.now c.loop-index.engine late.1.0
          c.access.new.engine c.loop-index.invariant.added.part (g.W.Wire.port c.args.wire.now)
          (g.W.Wire.port c.loop-index.wire) (g.W.Wire.port c.access.new.wire) _ _ c.requires.opened
          (omega (arith, c.requires.few)) c.loop-index-test.true soon.1 late.1.1
          late.1.2 c.access.ensures.due (g.K.AnswerSink.taken c.args.sink.now)
          (g.K.AnswerSink.taken c.loop-index.sink) c.in-Err.end
          c.loop-index.invariant.added.whole (host_list_follower _ _ _ c.following-following.ensures)
          c.in-Err.ensures.finished,
    )

pub loop-index-preserved : goal.loop-index-preserved
loop-index-preserved g c =
    let v = c.loop-index.invariant in
    let works = c.access.ensures.works in
    let stays = answered_stays c.loop-index.index c.args.accesses.now c.args.engine.now c.loop-index.engine works.0
    c.access.new.engine v.added.part (g.W.Wire.port c.loop-index.wire)
    (g.W.Wire.port c.access.new.wire) _ _ v.stays works.1 works.2 c.in-Ok.answer
    (v.added.part ++ c.in-Ok.answer ∷ []) refl c.access.ensures.due
    (host_list_follower _ _ _ c.following-following.ensures) c.in-Ok.ensures.finished in
    record {
      added = record {
        part = v.added.part ++ c.in-Ok.answer ∷ [];
        whole = c.take.ensures.taken ∙ (ap (λ x. x ++ c.in-Ok.answer ∷ []) v.added.whole
            ∙ append_assoc (g.K.AnswerSink.taken c.args.sink.now) v.added.part (c.in-Ok.answer ∷ []));
      };
      stays = stays;
      stands = λ lawful. (
          let late = c.access.ensures.goes lawful in
          let soon = v.stands late.0 in (
            soon.0,
            answered_stands c.loop-index.index c.args.accesses.now c.args.engine.now c.loop-index.engine late.1.0
                c.access.new.engine v.added.part (g.W.Wire.port c.args.wire.now) (g.W.Wire.port c.loop-index.wire)
                (g.W.Wire.port c.access.new.wire) _ _ c.requires.opened (omega (arith, c.requires.few))
                c.loop-index-test.true
                soon.1 late.1.1 late.1.2 c.access.ensures.due c.in-Ok.answer (v.added.part ++ c.in-Ok.answer ∷ []) refl
                c.in-Ok.ensures.finished stays,
          ));
      told = host_calls_append g.W.Wire.notes _ _ _ _ _ _
          (engine_sent_answered c.loop-index.index c.args.accesses.now c.args.engine.now c.loop-index.engine
          c.access.new.engine v.added.part (g.W.Wire.port c.loop-index.wire) _ _ v.stays c.loop-index-test.true
          (host_list_follower _ _ _ c.following-following.ensures) c.in-Ok.answer c.in-Ok.ensures.finished)
          v.told c.access.ensures.made;
      room = omega (arith, v.room, c.take.ensures.most);
      most = omega (arith, v.most, c.take.ensures.most);
      keeps = g.met.K.AnswerSink.keeps_on _ _ _ v.keeps c.take.ensures.keeps;
      plan = c.access.ensures.plan ∙ v.plan;
    }

pub returns-clause-performs : goal.returns-clause-performs
returns-clause-performs g c =
    engine_performs_all c.loop-index.index c.args.accesses.now c.args.engine.now c.loop-index.engine
    c.loop-index.invariant.added.part (g.W.Wire.port c.loop-index.wire) _ c.loop-index.invariant.stays (omega arith)
    c.idle.ensures.due (g.K.AnswerSink.taken c.args.sink.now) (g.K.AnswerSink.taken c.loop-index.sink)
    c.loop-index.invariant.added.whole

pub returns-clause-does : goal.returns-clause-does
returns-clause-does g c = λ lawful.
    let late = c.idle.ensures.step lawful in
    let soon = c.loop-index.invariant.stands late.0 in (
      soon.0,
      all_does c.loop-index.index c.args.accesses.now c.args.engine.now c.loop-index.engine
          c.loop-index.invariant.added.part (g.W.Wire.port c.args.wire.now) (g.W.Wire.port c.loop-index.wire)
          c.requires.opened
          (omega arith) soon.1 (g.K.AnswerSink.taken c.args.sink.now) (g.K.AnswerSink.taken c.loop-index.sink)
          (g.W.Wire.port c.idle.new.wire) c.loop-index.invariant.added.whole late.1,
    )

pub returns-in-Err-clause-told : goal.returns-in-Err-clause-told
returns-in-Err-clause-told g c =
    let works = c.access.ensures.works in
    let at = engine_stopped_state c.access.new.engine.state c.access.new.engine.task c.in-Err.end
    c.in-Err.ensures.finished in
    host_calls_append g.W.Wire.notes _ _ _ _ _ _
    (engine_sent_stopped c.loop-index.index c.args.accesses.now c.args.engine.now c.loop-index.engine
    c.access.new.engine
    c.loop-index.invariant.added.part (g.W.Wire.port c.loop-index.wire) _ _ c.loop-index.invariant.stays
    c.loop-index-test.true (host_list_follower _ _ _ c.following-following.ensures) c.in-Err.end at
    (engine_stop_not_all works.0 _ c.in-Err.end works.2 (engine_start_not_all _ _ c.loop-index.engine works.0 works.1)
    at)
    (g.K.AnswerSink.taken c.args.sink.now) (g.K.AnswerSink.taken c.loop-index.sink) c.loop-index.invariant.added.whole)
    c.loop-index.invariant.told c.access.ensures.made

pub returns-clause-told : goal.returns-clause-told
returns-clause-told g c = host_calls_append g.W.Wire.notes _ _ _ _ _ _
    (engine_sent_all c.loop-index.index c.args.accesses.now c.args.engine.now c.loop-index.engine
    c.loop-index.invariant.added.part (g.W.Wire.port c.loop-index.wire) c.loop-index.invariant.stays (omega arith)
    (g.K.AnswerSink.taken c.args.sink.now) (g.K.AnswerSink.taken c.loop-index.sink) c.loop-index.invariant.added.whole)
    c.loop-index.invariant.told c.idle.ensures.made
