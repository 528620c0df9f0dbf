use Rattle.std.proofs.Common.{◌≡◌, ◌+◌, ◌-◌, ◌<◌, ◌≤◌, suc, true, false, ◌++◌, length, drop, subst, sym, ap, ◌∙◌, arith}
use Rattle.std.proofs.lemmas.List.{drop-append-le}
use Rattle.swd_resync.specs.Parts.{before_pair}
use Rattle.swd_resync.specs.Holding.{resync_held, IsResyncNear}
use Rattle.swd_resync.proofs.JudgeLemmas.{judged_before_pair_next, judged_near_behind}
use Rattle.swd_resync.proofs.judge.+bits_before_pair.Goals as goal

pub returns-in-Some-true-clause-judges : goal.returns-in-Some-true-clause-judges
returns-in-Some-true-clause-judges t c = λ more may.
    judged_before_pair_next c.args.over c.args.count (resync_held c.args.held.now ++ more) true
    (omega (arith, c.if-count-eq0.false)) (c.in-Some-true.ensures more may ∙ c.in-Some-true.field-0-test)

pub returns-in-None-bits_before_pair-clause-judges : goal.returns-in-None-bits_before_pair-clause-judges
returns-in-None-bits_before_pair-clause-judges t c =
    let some : 0 < c.args.count = omega (arith, c.if-count-eq0.false) in
    let j = c.in-None-bits_before_pair.ensures.judges in (
      j.0,
      judged_near_behind 1 (46 + (c.args.count - 1)) (46 + c.args.count) (resync_held c.args.held.now) (omega arith)
          (subst (IsResyncNear (46 + (c.args.count - 1))) c.without.ensures.bits j.1),
    )

pub returns-in-Some-clause-judges : goal.returns-in-Some-clause-judges
returns-in-Some-clause-judges t c = λ more may.
    let some : 0 < c.args.count = omega (arith, c.if-count-eq0.false) in
    let held : c.args.count ≤ length (resync_held c.args.held.now) = c.requires.held in
    let rest : drop 1 (resync_held c.args.held.now ++ more) ≡ drop 1 (resync_held c.args.held.now) ++ more =
    drop-append-le 1 (resync_held c.args.held.now) more (omega arith) in
    let others : before_pair c.args.over (c.args.count - 1) (drop 1 (resync_held c.args.held.now ++ more))
    ≡ c.in-Some.before = ap (before_pair c.args.over (c.args.count - 1)) (rest
    ∙ ap (λ x. x ++ more) (sym c.without.ensures.bits)) ∙ c.in-Some.ensures.judges more may in
    let one : suc c.in-Some.before ≡ c.in-Some.before + 1 = omega arith in
    judged_before_pair_next c.args.over c.args.count (resync_held c.args.held.now ++ more) false some
    (c.in-Some-false.ensures more may ∙ c.in-Some-false.field-0-test) ∙ ap suc others ∙ one
