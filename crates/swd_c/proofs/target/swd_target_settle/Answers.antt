use Rattle.std.proofs.Common.{ap, refl, sym, ◌∙◌}
use Rattle.swd_port.specs.PlainBus.{bus_of}
use Rattle.swd_port.specs.Completion.{memory_after_pending}
use Rattle.swd_target.specs.Elsewhere.{bus_itself}
use Rattle.swd_target.specs.declared.quirks.Quirks.{Quirks}
use Rattle.swd_clocked.specs.Clocks.{clocked_over}
use Rattle.swd_clocked.proofs.ElsewhereLemmas.{clocked_settles_elsewhere}
use Rattle.swd_c.specs.Targets.{CApiNumbers}
use Rattle.swd_c.proofs.Targets.{c_api_bus_after_answer, c_api_buses_are_alike, c_api_fields_elsewhere}
use Rattle.swd_c.proofs.target.swd_target_settle.Goals as goal

pub returns-clause-settles : goal.returns-clause-settles
returns-clause-settles c = λ yes a m told.
    let before = c.in-Some-target_over.now in
    let after = c.settle.new.self in
    let old = c.args.target.now in
    let had = c.in-Some-target_over.ensures.same.0 in
    let here = c.in-Some-target_over.ensures.same.1 in
    let found = c.in-Some.ensures in
    let same = c_api_buses_are_alike old before c.args.kind c.args.word a found.0 m c.in-Some.memory had here told
    found.1 in
    let last = memory_after_pending before.target.pending before.target.tar.word m in
    let has : CApiNumbers c.fields.result after = record {
      has = sym c.fields.ensures;
      late = ap (λ (q : Quirks). q.late) c.settle.ensures.quirks ∙ had.late;
      unidentified = ap (λ (q : Quirks). q.idr) c.settle.ensures.quirks ∙ had.unidentified;
    } in (
      clocked_over m before,
      c_api_fields_elsewhere m old before had,
      refl,
      (
        clocked_over last after,
        c_api_fields_elsewhere last c.fields.result after has,
        c_api_bus_after_answer old before c.args.kind c.args.word a m had told,
        record {
          settles = clocked_settles_elsewhere bus_of bus_itself m last before after same refl c.settle.ensures.settles;
          cycles = c.settle.ensures.cycles;
        },
      ),
    )

pub returns-clause-refused : goal.returns-clause-refused
returns-clause-refused c = λ none.
    let before = c.in-Some-target_over.now in
    let bus = bus_of before.target.device in
    absurd (none (clocked_over bus before) c.in-Some.ensures.0 (bus_of c.in-Some.memory)
    (c_api_fields_elsewhere bus c.args.target.now before c.in-Some-target_over.ensures.same.0) c.in-Some.ensures.1)
