use Rattle.std.proofs.Common.{sym, subst, arith}
use Rattle.swd_checker.specs.Reaching.{NearNarrows}
use Rattle.swd_checker.proofs.NearLemmas.{near_collected_none, near_collected_some, near_collected_rest}
use Rattle.swd_checker.proofs.NearLemmas.{near_narrowed, near_narrowed_one}
use Rattle.swd_checker.proofs.near.Near.among.Goals as goal
use Rattle.swd_checker.proofs.near.Near.among.Goals.{in-Some, in-None}

pub loop-place-preserved : goal.loop-place-preserved
loop-place-preserved c = elim c.match-at_among.branch [
  | in-Some w ↦ near_collected_some c.args.self c.args.words c.loop-place.place c.loop-place.places c.loop-place.count
      c.loop-place.last w.in-Some.word c.at_among.result c.match-at_among.places c.match-at_among.count
      c.match-at_among.last (omega arith) w.in-Some.is c.at_among.ensures w.places-is w.count-is w.last-is
      c.loop-place.invariant
  | in-None w ↦ near_collected_rest c.args.self c.args.words c.loop-place.place c.loop-place.places c.loop-place.count
      c.loop-place.last c.at_among.result c.match-at_among.places c.match-at_among.count c.match-at_among.last
      w.in-None.is c.at_among.ensures w.places-is w.count-is w.last-is c.loop-place.invariant
]

pub loop-place-init : goal.loop-place-init
loop-place-init c = near_collected_none c.args.self c.args.words

pub returns-in-1-clause-exact : goal.returns-in-1-clause-exact
returns-in-1-clause-exact c = subst (NearNarrows c.args.self c.args.words) (sym c.of.ensures.exact)
    (near_narrowed_one c.args.self c.args.words c.loop-place.place c.loop-place.places c.loop-place.count
    c.loop-place.last (omega arith) c.loop-place.invariant)

pub returns-in_default-clause-exact : goal.returns-in_default-clause-exact
returns-in_default-clause-exact c = near_narrowed c.args.self c.args.words c.loop-place.place c.loop-place.places
    c.loop-place.count c.loop-place.last (omega arith) c.loop-place.invariant
