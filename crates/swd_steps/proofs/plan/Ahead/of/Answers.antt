use Rattle.std.proofs.Common.{arith, ap, sym, subst, ◌∙◌, ◌≡◌, ◌+◌, drop, take, List}
use Rattle.std.proofs.lemmas.List.{length-set}
use Rattle.swd_port.specs.declared.access.Access.{Access}
use Rattle.swd_steps.proofs.Planning.{ahead_all, ahead_more, ahead_past}
use Rattle.swd_steps.proofs.plan.Ahead.of.Goals as goal

pub returns-in_default-clause-taken : goal.returns-in_default-clause-taken
returns-in_default-clause-taken g c =
    let list : List Access = g.L.Accesses.list c.args.accesses.now in
    let short = ahead_past list (c.args.current + 1 + c.loop-place.place)
    (λ a is. c.in_default.not-Some a (c.access.ensures ∙ is)) in
    subst (λ n. take n c.loop-place.ahead.accesses ≡ take 517 (drop (c.args.current + 1) list))
    (sym c.loop-place.invariant.count)
    (c.loop-place.invariant.taken ∙ ahead_all list (c.args.current + 1) c.loop-place.place
    (omega (arith, c.loop-place-test.true)) short)

pub loop-place-preserved : goal.loop-place-preserved
loop-place-preserved g c = record {
  count = ap (λ n. n + 1) c.loop-place.invariant.count;
  room = length-set c.loop-place.ahead.accesses c.loop-place.place c.in-Some.access ∙ c.loop-place.invariant.room;
  taken = ahead_more c.loop-place.ahead.accesses (g.L.Accesses.list c.args.accesses.now) (c.args.current + 1)
      c.loop-place.place c.in-Some.access (omega (arith, c.loop-place-test.true, c.loop-place.invariant.room))
      (sym c.access.ensures ∙ c.in-Some.is) c.loop-place.invariant.taken;
}
