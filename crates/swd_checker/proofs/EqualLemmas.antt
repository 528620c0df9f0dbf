-- What the derived comparison says of the integers of a checker. For `CheckerFields::checker`.
use Rattle.std.proofs.Common.{◌≡◌, ◌==◌, ◌&&◌, ◌∙◌, ℕ, Bool, true, false, ap, sym, refl, eq-eqb, List}
use Rattle.std.proofs.lemmas.Bool.{eqb-true}
use lib.Pointwise.{pointwise, pointwise_decides}
use Rattle.swd_checker.specs.declared.checker.fields.CheckerFields.{CheckerFields}
use Rattle.swd_checker.specs.declared.fields.HeldFields.{HeldFields}
use Rattle.swd_checker.specs.declared.fields.IntervalFields.{IntervalFields}
use Rattle.swd_checker.specs.declared.fields.WorldFields.{WorldFields}
use Rattle.swd_checker.specs.contracts.checker.fields.CheckerFieldsPartialEq.TheImpl.{ghosts as of_checker}
use Rattle.swd_checker.specs.contracts.fields.HeldFieldsPartialEq.TheImpl.{ghosts as of_held}
use Rattle.swd_checker.specs.contracts.fields.IntervalFieldsPartialEq.TheImpl.{ghosts as of_tar}
use Rattle.swd_checker.specs.contracts.fields.WorldFieldsPartialEq.TheImpl.{ghosts as of_world}

both : (a b : Bool) → (a && b) ≡ true → (a ≡ true) × (b ≡ true)
both true true e = (refl, refl)
both true false e = absurd cc
both false b e = absurd cc

same_number : (n : ℕ) → (n == n) ≡ true
same_number n = eq-eqb n n refl

abbrev held_tail_2 : HeldFields → HeldFields → Bool
held_tail_2 v w = v.kind == w.kind

abbrev held_tail_1 : HeldFields → HeldFields → Bool
held_tail_1 v w = (v.word == w.word) && held_tail_2 v w

held_same : (v w : HeldFields) → of_held.eq v w ≡ true → v ≡ w
held_same v w e =
    let g0 = both (v.places == w.places) (held_tail_1 v w) e in
    let g1 = both (v.word == w.word) (held_tail_2 v w) g0.1 in
    λ i. record {
      places = eqb-true v.places w.places g0.0 i;
      word = eqb-true v.word w.word g1.0 i;
      kind = eqb-true v.kind w.kind g1.1 i;
    }

abbrev tar_tail_2 : IntervalFields → IntervalFields → Bool
tar_tail_2 v w = v.known == w.known

abbrev tar_tail_1 : IntervalFields → IntervalFields → Bool
tar_tail_1 v w = (v.more == w.more) && tar_tail_2 v w

tar_same : (v w : IntervalFields) → of_tar.eq v w ≡ true → v ≡ w
tar_same v w e =
    let g0 = both (v.first == w.first) (tar_tail_1 v w) e in
    let g1 = both (v.more == w.more) (tar_tail_2 v w) g0.1 in
    λ i. record {
      first = eqb-true v.first w.first g0.0 i;
      more = eqb-true v.more w.more g1.0 i;
      known = eqb-true v.known w.known g1.1 i;
    }

abbrev world_tail_14 : WorldFields → WorldFields → Bool
world_tail_14 v w = v.awaits == w.awaits

abbrev world_tail_13 : WorldFields → WorldFields → Bool
world_tail_13 v w = (v.pending == w.pending) && world_tail_14 v w

abbrev world_tail_12 : WorldFields → WorldFields → Bool
world_tail_12 v w = (v.increments == w.increments) && world_tail_13 v w

abbrev world_tail_11 : WorldFields → WorldFields → Bool
world_tail_11 v w = (v.bank0 == w.bank0) && world_tail_12 v w

abbrev world_tail_10 : WorldFields → WorldFields → Bool
world_tail_10 v w = (v.mem_ap == w.mem_ap) && world_tail_11 v w

abbrev world_tail_9 : WorldFields → WorldFields → Bool
world_tail_9 v w = (v.system == w.system) && world_tail_10 v w

abbrev world_tail_8 : WorldFields → WorldFields → Bool
world_tail_8 v w = (v.debug == w.debug) && world_tail_9 v w

abbrev world_tail_7 : WorldFields → WorldFields → Bool
world_tail_7 v w = (v.read_ok == w.read_ok) && world_tail_8 v w

abbrev world_tail_6 : WorldFields → WorldFields → Bool
world_tail_6 v w = (v.write_error == w.write_error) && world_tail_7 v w

abbrev world_tail_5 : WorldFields → WorldFields → Bool
world_tail_5 v w = (v.sticky_error == w.sticky_error) && world_tail_6 v w

abbrev world_tail_4 : WorldFields → WorldFields → Bool
world_tail_4 v w = (v.reset == w.reset) && world_tail_5 v w

abbrev world_tail_3 : WorldFields → WorldFields → Bool
world_tail_3 v w = of_tar.eq v.tar w.tar && world_tail_4 v w

abbrev world_tail_2 : WorldFields → WorldFields → Bool
world_tail_2 v w = of_held.eq v.last_returned w.last_returned && world_tail_3 v w

abbrev world_tail_1 : WorldFields → WorldFields → Bool
world_tail_1 v w = of_held.eq v.buffer w.buffer && world_tail_2 v w

world_same : (v w : WorldFields) → of_world.eq v w ≡ true → v ≡ w
world_same v w e =
    let g0 = both (v.faults == w.faults) (world_tail_1 v w) e in
    let g1 = both (of_held.eq v.buffer w.buffer) (world_tail_2 v w) g0.1 in
    let g2 = both (of_held.eq v.last_returned w.last_returned) (world_tail_3 v w) g1.1 in
    let g3 = both (of_tar.eq v.tar w.tar) (world_tail_4 v w) g2.1 in
    let g4 = both (v.reset == w.reset) (world_tail_5 v w) g3.1 in
    let g5 = both (v.sticky_error == w.sticky_error) (world_tail_6 v w) g4.1 in
    let g6 = both (v.write_error == w.write_error) (world_tail_7 v w) g5.1 in
    let g7 = both (v.read_ok == w.read_ok) (world_tail_8 v w) g6.1 in
    let g8 = both (v.debug == w.debug) (world_tail_9 v w) g7.1 in
    let g9 = both (v.system == w.system) (world_tail_10 v w) g8.1 in
    let g10 = both (v.mem_ap == w.mem_ap) (world_tail_11 v w) g9.1 in
    let g11 = both (v.bank0 == w.bank0) (world_tail_12 v w) g10.1 in
    let g12 = both (v.increments == w.increments) (world_tail_13 v w) g11.1 in
    let g13 = both (v.pending == w.pending) (world_tail_14 v w) g12.1 in
    λ i. record {
      faults = eqb-true v.faults w.faults g0.0 i;
      buffer = held_same v.buffer w.buffer g1.0 i;
      last_returned = held_same v.last_returned w.last_returned g2.0 i;
      tar = tar_same v.tar w.tar g3.0 i;
      reset = eqb-true v.reset w.reset g4.0 i;
      sticky_error = eqb-true v.sticky_error w.sticky_error g5.0 i;
      write_error = eqb-true v.write_error w.write_error g6.0 i;
      read_ok = eqb-true v.read_ok w.read_ok g7.0 i;
      debug = eqb-true v.debug w.debug g8.0 i;
      system = eqb-true v.system w.system g9.0 i;
      mem_ap = eqb-true v.mem_ap w.mem_ap g10.0 i;
      bank0 = eqb-true v.bank0 w.bank0 g11.0 i;
      increments = eqb-true v.increments w.increments g12.0 i;
      pending = eqb-true v.pending w.pending g13.0 i;
      awaits = eqb-true v.awaits w.awaits g13.1 i;
    }

world_equal : (w : WorldFields) → of_world.eq w w ≡ true
world_equal w = simp same_number

world_decides : (v w : WorldFields) → (of_world.eq v w ≡ true → v ≡ w) × (v ≡ w → of_world.eq v w ≡ true)
world_decides v w = (world_same v w, λ e. ap (of_world.eq v) (sym e) ∙ world_equal v)

worlds_equal : (ws : List WorldFields) → pointwise of_world.eq ws ws ≡ true
worlds_equal ws = (pointwise_decides world_decides ws ws).1 refl

worlds_same : (vs ws : List WorldFields) → pointwise of_world.eq vs ws ≡ true → vs ≡ ws
worlds_same vs ws = (pointwise_decides world_decides vs ws).0

-- fields that are equal by it are the same,
abbrev checker_tail_16 : CheckerFields → CheckerFields → Bool
checker_tail_16 v w = v.is_crowded == w.is_crowded

abbrev checker_tail_15 : CheckerFields → CheckerFields → Bool
checker_tail_15 v w = (v.rule == w.rule) && checker_tail_16 v w

abbrev checker_tail_14 : CheckerFields → CheckerFields → Bool
checker_tail_14 v w = (v.stray == w.stray) && checker_tail_15 v w

abbrev checker_tail_13 : CheckerFields → CheckerFields → Bool
checker_tail_13 v w = (v.in_gap == w.in_gap) && checker_tail_14 v w

abbrev checker_tail_12 : CheckerFields → CheckerFields → Bool
checker_tail_12 v w = (v.has_began == w.has_began) && checker_tail_13 v w

abbrev checker_tail_11 : CheckerFields → CheckerFields → Bool
checker_tail_11 v w = (v.clean == w.clean) && checker_tail_12 v w

abbrev checker_tail_10 : CheckerFields → CheckerFields → Bool
checker_tail_10 v w = (v.opening == w.opening) && checker_tail_11 v w

abbrev checker_tail_9 : CheckerFields → CheckerFields → Bool
checker_tail_9 v w = (v.overfull == w.overfull) && checker_tail_10 v w

abbrev checker_tail_8 : CheckerFields → CheckerFields → Bool
checker_tail_8 v w = (v.count == w.count) && checker_tail_9 v w

abbrev checker_tail_7 : CheckerFields → CheckerFields → Bool
checker_tail_7 v w = (v.select == w.select) && checker_tail_8 v w

abbrev checker_tail_6 : CheckerFields → CheckerFields → Bool
checker_tail_6 v w = (v.crowded == w.crowded) && checker_tail_7 v w

abbrev checker_tail_5 : CheckerFields → CheckerFields → Bool
checker_tail_5 v w = (v.broken == w.broken) && checker_tail_6 v w

abbrev checker_tail_4 : CheckerFields → CheckerFields → Bool
checker_tail_4 v w = (v.gaps == w.gaps) && checker_tail_5 v w

abbrev checker_tail_3 : CheckerFields → CheckerFields → Bool
checker_tail_3 v w = (v.faults_before == w.faults_before) && checker_tail_4 v w

abbrev checker_tail_2 : CheckerFields → CheckerFields → Bool
checker_tail_2 v w = (v.began == w.began) && checker_tail_3 v w

abbrev checker_tail_1 : CheckerFields → CheckerFields → Bool
checker_tail_1 v w = of_held.eq v.identification w.identification && checker_tail_2 v w

-- fields that are equal are the same
pub checker_fields_same : (v w : CheckerFields) → of_checker.eq v w ≡ true → v ≡ w
checker_fields_same v w e =
    let g0 = both (pointwise of_world.eq v.worlds w.worlds) (checker_tail_1 v w) e in
    let g1 = both (of_held.eq v.identification w.identification) (checker_tail_2 v w) g0.1 in
    let g2 = both (v.began == w.began) (checker_tail_3 v w) g1.1 in
    let g3 = both (v.faults_before == w.faults_before) (checker_tail_4 v w) g2.1 in
    let g4 = both (v.gaps == w.gaps) (checker_tail_5 v w) g3.1 in
    let g5 = both (v.broken == w.broken) (checker_tail_6 v w) g4.1 in
    let g6 = both (v.crowded == w.crowded) (checker_tail_7 v w) g5.1 in
    let g7 = both (v.select == w.select) (checker_tail_8 v w) g6.1 in
    let g8 = both (v.count == w.count) (checker_tail_9 v w) g7.1 in
    let g9 = both (v.overfull == w.overfull) (checker_tail_10 v w) g8.1 in
    let g10 = both (v.opening == w.opening) (checker_tail_11 v w) g9.1 in
    let g11 = both (v.clean == w.clean) (checker_tail_12 v w) g10.1 in
    let g12 = both (v.has_began == w.has_began) (checker_tail_13 v w) g11.1 in
    let g13 = both (v.in_gap == w.in_gap) (checker_tail_14 v w) g12.1 in
    let g14 = both (v.stray == w.stray) (checker_tail_15 v w) g13.1 in
    let g15 = both (v.rule == w.rule) (checker_tail_16 v w) g14.1 in
    λ i. record {
      worlds = worlds_same v.worlds w.worlds g0.0 i;
      identification = held_same v.identification w.identification g1.0 i;
      began = eqb-true v.began w.began g2.0 i;
      faults_before = eqb-true v.faults_before w.faults_before g3.0 i;
      gaps = eqb-true v.gaps w.gaps g4.0 i;
      broken = eqb-true v.broken w.broken g5.0 i;
      crowded = eqb-true v.crowded w.crowded g6.0 i;
      select = eqb-true v.select w.select g7.0 i;
      count = eqb-true v.count w.count g8.0 i;
      overfull = eqb-true v.overfull w.overfull g9.0 i;
      opening = eqb-true v.opening w.opening g10.0 i;
      clean = eqb-true v.clean w.clean g11.0 i;
      has_began = eqb-true v.has_began w.has_began g12.0 i;
      in_gap = eqb-true v.in_gap w.in_gap g13.0 i;
      stray = eqb-true v.stray w.stray g14.0 i;
      rule = eqb-true v.rule w.rule g15.0 i;
      is_crowded = eqb-true v.is_crowded w.is_crowded g15.1 i;
    }

-- and fields are equal to themselves
pub checker_fields_equal : (fields : CheckerFields) → of_checker.eq fields fields ≡ true
checker_fields_equal fields = simp (same_number, worlds_equal)
