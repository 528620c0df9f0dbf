use Rattle.std.proofs.Common.{◌≡◌, ◌+◌, length}
use Rattle.std.specs.Prelude.{drop, take}
use Rattle.swd_steps.proofs.plan.Ahead.of.Given as goal

abbrev pub invariant-loop-place : goal.invariant-loop-place
invariant-loop-place g l = record {
  count : l.ahead.count ≡ l.place;
  room : length l.ahead.accesses ≡ 517;
  taken : take l.place l.ahead.accesses ≡ take l.place (drop (l.current + 1) (g.L.Accesses.list l.accesses));
}
