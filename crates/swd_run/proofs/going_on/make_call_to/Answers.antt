use Rattle.std.proofs.Common.{◌≡◌, ◌∙◌, ℕ, List, [], ◌∷◌, ◌++◌, Result, Ok, Err, length, refl, sym, ap}
use Rattle.std.proofs.Common.{◌≤◌, subst, arith}
use Rattle.std.specs.Prelude.{OnErr}
use Rattle.std.proofs.lemmas.List.{length-append}
use Rattle.swd_port.specs.declared.access.Access.{Access}
use Rattle.swd_port.specs.declared.access.Answer.{Answer}
use Rattle.swd_host.specs.declared.task.Bursts.{Bursts}
use Rattle.swd_host.specs.Again.{ResumeCloses, ResumeReportsCalls, ResumesOver}
use Rattle.swd_host.specs.Plain.{AreHostAccesses}
use Rattle.swd_host.specs.Sent.{HostCalls}
use Rattle.swd_host.specs.Fields.{host_report_to}
use Rattle.swd_script.specs.Readers.{script_batch_listed}
use Rattle.swd_run.specs.declared.going_on.Stop.{Stop}
use Rattle.swd_run.specs.GoingOn.{ran, resumed, script_resumed_bursts, script_stop_of}
use Rattle.swd_run.specs.Sessions.{batch_bursts, unresumed}
use Rattle.swd_run.proofs.going_on.make_call_to.Goals as goal

-- what holds anyway
on_err : {X E P : Type 0} (answer : Result X E) → P → OnErr answer P
on_err (Ok x) p = tt
on_err (Err e) p = p

pub loop-done-init : goal.loop-done-init
loop-done-init g c =
    let ensures = c.begin-ending.ensures in
    let number = ensures.closes.number in
    let room = c.requires.room in
    let most = ensures.most in
    record {
      number = number;
      room = omega (arith, room, most);
      plan = ensures.plan;
      went = (
        [],
        refl,
        g.met.K.RunSink.answers_follow c.args.sink.now c.begin-ending.new.sink ensures.keeps,
        ran ensures.plan ensures.closes ensures.fits ensures.told,
      );
    }

pub returns-in_err-stop-clause-refused : goal.returns-in_err-stop-clause-refused
returns-in_err-stop-clause-refused g c =
    let (stops, count, follows, went) = c.loop-done.invariant.went in
    let low = c.loop-done-test.true in
    on_err c.from_residual.result (unresumed went c.in-Lost.is (omega (arith, count, low)))

pub resume_to-ending-requires-clause-accepted : goal.resume_to-ending-requires-clause-accepted
resume_to-ending-requires-clause-accepted g c =
    subst (λ (l : List Access). (length l ≤ 65536) × AreHostAccesses l) (sym c.as_slice-accesses.ensures.value)
    c.begin-ending.ensures.accepted

pub loop-done-preserved : goal.loop-done-preserved
loop-done-preserved g c =
    let batch = script_batch_listed c.args.batch.now in
    let tries = c.args.options.limits.tries in
    let kind = script_resumed_bursts (batch_bursts c.args.options.limits.bursts batch) in
    let (stops, count, follows, went) = c.loop-done.invariant.went in
    let before = g.K.AnswerSink.taken c.loop-done.sink in
    let earlier = host_report_to before c.loop-done.ending in
    let told = host_report_to (g.K.AnswerSink.taken c.resume_to-ending.new.sink) c.resume_to-ending.result in
    let start = c.loop-done.wire in
    let end = c.resume_to-ending.new.wire in
    let list = c.as_slice-accesses.ensures.value in
    let again : c.resumed_bursts-bursts.result ≡ kind =
    c.resumed_bursts-bursts.ensures ∙ ap script_resumed_bursts c.bursts_of.ensures.kind in
    let taken = c.in_ok-stop.ensures.taken in
    let ensures = c.resume_to-ending.ensures in
    let continues : ResumeCloses kind batch.accesses tries earlier told (g.W.Wire.port end).link.due =
    subst (λ (l : List Answer). ResumeCloses kind batch.accesses tries (host_report_to l c.loop-done.ending) told
    (g.W.Wire.port end).link.due) taken (subst (λ (l : List Access). ResumeCloses kind l tries
    (host_report_to (g.K.AnswerSink.taken c.stop.new.self) c.loop-done.ending) told (g.W.Wire.port end).link.due) list
    (subst (λ (b : Bursts). ResumeCloses b c.as_slice-accesses.result.now tries
    (host_report_to (g.K.AnswerSink.taken c.stop.new.self) c.loop-done.ending) told (g.W.Wire.port end).link.due) again
    ensures.continues)) in
    let plan = ensures.plan ∙ c.loop-done.invariant.plan in
    let stop : Stop = record {
      answered = c.count.result;
      begun = c.loop-done.ending.begun;
      requests =
          c.loop-done.ending.requests;
    } in
    let stop_is : stop ≡ script_stop_of earlier = ap (λ (n : ℕ). record {
      answered = n;
      begun = c.loop-done.ending.begun;
      requests = c.loop-done.ending.requests;
    }) c.count.ensures in
    let further = g.met.K.RunSink.follows_on c.loop-done.sink c.stop.new.self c.resume_to-ending.new.sink
    (stop ∷ []) [] c.in_ok-stop.ensures.follows
    (g.met.K.RunSink.answers_follow c.stop.new.self c.resume_to-ending.new.sink ensures.keeps) in
    let longer = length-append stops (script_stop_of earlier ∷ []) in
    let room = c.loop-done.invariant.room in
    let stop_most = c.in_ok-stop.ensures.most in
    let most = ensures.most in
    record {
      number = continues.number;
      room = omega (arith, room, stop_most, most);
      plan = plan;
      went = (
        stops ++ script_stop_of earlier ∷ [],
        omega (arith, count, longer),
        subst (λ (s : Stop). g.K.RunSink.follows c.args.sink.now (stops ++ s ∷ []) c.resume_to-ending.new.sink) stop_is
            (g.met.K.RunSink.follows_on c.args.sink.now c.loop-done.sink c.resume_to-ending.new.sink stops (stop ∷ [])
            follows further),
        resumed went c.in-Lost.is plan continues
            (subst (λ (l : List Answer). g.W.Wire.lawful end → g.W.Wire.lawful start
            × ResumesOver kind batch.accesses tries (host_report_to l c.loop-done.ending) told (g.W.Wire.port start)
            (g.W.Wire.port end)) taken
            (subst (λ (l : List Access). g.W.Wire.lawful end → g.W.Wire.lawful start
            × ResumesOver kind l tries (host_report_to (g.K.AnswerSink.taken c.stop.new.self) c.loop-done.ending) told
            (g.W.Wire.port start) (g.W.Wire.port end)) list
            (subst (λ (b : Bursts). g.W.Wire.lawful end → g.W.Wire.lawful start
            × ResumesOver b c.as_slice-accesses.result.now tries
            (host_report_to (g.K.AnswerSink.taken c.stop.new.self) c.loop-done.ending) told
            (g.W.Wire.port start) (g.W.Wire.port end)) again ensures.fits)))
            (subst (λ (l : List Answer). HostCalls g.W.Wire.notes (ResumeReportsCalls batch.accesses
            (host_report_to l c.loop-done.ending) told) start end) taken
            (subst (λ (l : List Access). HostCalls g.W.Wire.notes (ResumeReportsCalls l
            (host_report_to (g.K.AnswerSink.taken c.stop.new.self) c.loop-done.ending) told) start end) list
            ensures.told)),
      );
    }
