use Rattle.std.proofs.Common.{◌≡◌, ◌∙◌, Bool, true, false, Option, None, Some, sym, subst, arith}
use Rattle.std.specs.Prelude.{IfNone, IfSome}
use Rattle.swd_script.specs.Laws.{IsScriptUntil}
use Rattle.swd_script.specs.Readers.{script_batch_listed}
use Rattle.swd_run.specs.Sessions.{script_run_of}
use Rattle.swd_run.specs.Unfoldings.{asks_again}
use Rattle.swd_run.proofs.SessionLemmas.{due_then}
use Rattle.swd_run.proofs.UnfoldingLemmas.{until_reread_ended_all, asking_first, asking_more, cut_first, cut_later}
use Rattle.swd_run.proofs.UnfoldingLemmas.{until_is_not_none, performed}
use Rattle.swd_run.proofs.performing.perform.Goals as goal

-- what holds anyway
if_none : {X P : Type 0} (answer : Option X) → P → IfNone answer P
if_none None p = p
if_none (Some x) p = tt

apart : {P : Type 0} (b : Bool) → b ≡ false → b ≡ true → P
apart b e f = absurd cc

pub returns-in_err-last-clause-cut : goal.returns-in_err-last-clause-cut
returns-in_err-last-clause-cut g c =
    if_none c.from_residual.result
    (cut_first g.W.Wire c.args.options.opened c.args.options.limits
    (script_batch_listed c.args.batch.now)
    c.args.wire.now c.requires.batch c.make_call.new.wire c.in_err-last.ensures.refused
    (λ plain. absurd (until_is_not_none (sym c.requires.until ∙ plain))))

pub loop-runs-init : goal.loop-runs-init
loop-runs-init g c =
    let waits = subst (λ x. IfSome x (λ until. IsScriptUntil until (script_batch_listed c.args.batch.now)))
    c.requires.until c.requires.batch.waits in
    record {
      asking = asking_first g.W.Wire c.args.options.opened c.args.options.limits
          (script_batch_listed c.args.batch.now) c.args.wire.now c.args.until (script_run_of c.in_ok-last.last)
          c.make_call.new.wire c.in_ok-last.ensures.goes;
      low = waits.some;
      plan = c.in_ok-last.ensures.plan;
    }

-- the word came, or the run didn't end `All`, or it was a bus error
pub returns-then-not-asks_again-clause-performs : goal.returns-then-not-asks_again-clause-performs
returns-then-not-asks_again-clause-performs g c =
    performed g.W.Wire c.args.options.opened c.args.options.limits
    (script_batch_listed c.args.batch.now) c.args.wire.now c.args.until c.loop-runs.runs
    (script_run_of c.loop-runs.last) c.loop-runs.wire
    c.loop-runs.invariant.asking c.requires.until c.loop-runs.invariant.low
    (λ asked. apart (asks_again c.args.until (script_run_of c.loop-runs.last))
    (sym c.asks_again.ensures ∙ c.if-not-asks_again.true) asked)

pub make_call-requires-in-loop-runs-clause-due : goal.make_call-requires-in-loop-runs-clause-due
make_call-requires-in-loop-runs-clause-due g c =
    let asked = sym c.asks_again.ensures ∙ c.if-not-asks_again.false in
    let asking = c.loop-runs.invariant.asking in
    due_then g.W.Wire c.args.options.limits c.args.wire.now
    (script_batch_listed c.args.batch.now) (script_run_of c.loop-runs.last) asking.between c.loop-runs.wire
    (until_reread_ended_all c.args.until (script_run_of c.loop-runs.last) asked) asking.goes

pub returns-in_err-last-2-clause-cut : goal.returns-in_err-last-2-clause-cut
returns-in_err-last-2-clause-cut g c =
    if_none c.from_residual-in_err-last-2.result
    (cut_later g.W.Wire c.args.options.opened c.args.options.limits
    (script_batch_listed c.args.batch.now)
    c.args.wire.now c.args.until c.loop-runs.runs (script_run_of c.loop-runs.last) c.loop-runs.wire
    c.loop-runs.invariant.asking c.requires.until (sym c.asks_again.ensures ∙ c.if-not-asks_again.false)
    c.loop-runs-test.true c.make_call-in-loop-runs.new.wire c.in_err-last-2.ensures.refused)

pub loop-runs-preserved : goal.loop-runs-preserved
loop-runs-preserved g c =
    let low = c.loop-runs-test.true in
    record {
      asking = asking_more g.W.Wire c.args.options.opened c.args.options.limits
          (script_batch_listed c.args.batch.now) c.args.wire.now c.args.until c.loop-runs.runs
          (script_run_of c.loop-runs.last) c.loop-runs.wire c.loop-runs.invariant.asking
          (sym c.asks_again.ensures ∙ c.if-not-asks_again.false)
          (script_run_of c.in_ok-last-2.last) c.make_call-in-loop-runs.new.wire c.in_ok-last-2.ensures.goes;
      low = omega (arith, low);
      plan = c.in_ok-last-2.ensures.plan ∙ c.loop-runs.invariant.plan;
    }

-- the last read that is allowed
pub returns-clause-performs : goal.returns-clause-performs
returns-clause-performs g c =
    let low = c.loop-runs.invariant.low in
    let high = c.loop-runs-test.false in
    let most : c.loop-runs.runs ≡ c.args.until.most = omega (arith, low, high) in
    let all = performed g.W.Wire c.args.options.opened c.args.options.limits
    (script_batch_listed c.args.batch.now) c.args.wire.now c.args.until c.loop-runs.runs
    (script_run_of c.loop-runs.last)
    c.loop-runs.wire c.loop-runs.invariant.asking c.requires.until low (λ asked. most) in
    (all.0, all.1, all.2 ∙ most, all.3)
