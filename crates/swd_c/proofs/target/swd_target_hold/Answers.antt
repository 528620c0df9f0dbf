use Rattle.std.proofs.Common.{ap, refl, sym, ◌∙◌}
use Rattle.swd_target.specs.declared.quirks.Quirks.{Quirks}
use Rattle.swd_clocked.specs.Clocks.{clocked_over}
use Rattle.swd_clocked.proofs.ElsewhereLemmas.{clocked_wait_elsewhere}
use Rattle.swd_c.specs.Targets.{CApiNumbers}
use Rattle.swd_c.proofs.Targets.{c_api_fields_elsewhere, c_api_is_over_a_bus}
use Rattle.swd_c.proofs.target.swd_target_hold.Goals as goal

pub returns-clause-holds : goal.returns-clause-holds
returns-clause-holds c = λ yes m.
    let before = c.in-Some.now in
    let after = c.hold.new.self in
    let had = c.in-Some.ensures.same.0 in
    let has : CApiNumbers c.fields.result after = record {
      has = sym c.fields.ensures;
      late = ap (λ (q : Quirks). q.late) c.hold.ensures.quirks ∙ had.late;
      unidentified = ap (λ (q : Quirks). q.idr) c.hold.ensures.quirks ∙ had.unidentified;
    } in (
      clocked_over m before,
      c_api_fields_elsewhere m c.args.target.now before had,
      refl,
      (
        clocked_over m after,
        c_api_fields_elsewhere m c.fields.result after has,
        refl,
        record { holds = clocked_wait_elsewhere m _ before after c.hold.ensures.holds; cycles = c.hold.ensures.cycles },
      ),
    )

pub returns-clause-refused : goal.returns-clause-refused
returns-clause-refused c = λ none. absurd (c_api_is_over_a_bus c.args.target.now c.in-Some.now c.in-Some.ensures.same.0
    none)
