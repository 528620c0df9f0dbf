use Rattle.std.proofs.Common.{◌≡◌, ◌==◌, Bool, true, false, Option, List, [], ◌∷◌, length, ap, refl, sym, subst, ◌∙◌}
use Rattle.std.proofs.Common.{arith}
use Rattle.swd_bits.specs.Bits.{bit}
use Rattle.swd_port.specs.PlainMemory.{PlainMemory}
use Rattle.swd_port.specs.Bus.{Bus}
use Rattle.swd_port.specs.PlainBus.{bus_of}
use Rattle.swd_port.specs.declared.access.Transfer.{Transfer}
use Rattle.swd_target.specs.Elsewhere.{IsUntouched, bus_itself}
use Rattle.swd_target.specs.declared.quirks.Quirks.{Quirks}
use Rattle.swd_clocked.specs.declared.fields.ClockedFields.{ClockedFields}
use Rattle.swd_clocked.specs.Clocks.{ClocksOneCycle, clocked_device, clocked_over}
use Rattle.swd_clocked.proofs.ElsewhereLemmas.{clocked_step_elsewhere}
use Rattle.swd_c.specs.Targets.{CApiNumbers, c_api_drive, c_api_ready_memory}
use Rattle.swd_c.proofs.Targets.{c_api_none_wanted_pending, c_api_fields_elsewhere, c_api_word_at_tar_is_ready}
use Rattle.swd_c.proofs.Targets.{c_api_caller_word_is_ready, c_api_is_over_a_bus}
use Rattle.swd_c.proofs.target.swd_target_cycle.Goals as goal

nothing : (xs : List Transfer) → (length xs == 0) ≡ true → xs ≡ []
nothing [] e = refl
nothing (x ∷ xs) e = grind arith

bit_back : (b : Bool) → (bit b == 1) ≡ b
bit_back true = refl
bit_back false = refl

pub returns-then-not-is_empty-clause-wants : goal.returns-then-not-is_empty-clause-wants
returns-then-not-is_empty-clause-wants c = λ yes.
    let before = c.in-Some.now in
    let after = c.cycle-line.new.self in
    let line = c.cycle-line.result in
    let clocks : ClocksOneCycle bus_of (c_api_drive c.args.drive) line before after =
    subst (λ (d : Option Bool). ClocksOneCycle bus_of d line before after) c.driven.ensures
    c.cycle-line.ensures.clocks in (
      before,
      c.in-Some.ensures.same.0,
      c.in-Some.ensures.same.1 ∙ c.window.ensures,
      (
        after,
        line,
        clocks,
        λ none.
            let empty : c.log.result.now ≡ [] = c.log.ensures
            ∙ (ap (λ (b : Bus). b.log) (sym c.memory.ensures) ∙ none) in
            let is : c.is_empty.result ≡ true = c.is_empty.ensures
            ∙ ap (λ (xs : List Transfer). length xs == 0) empty in
            let not_is : c.is_empty.result ≡ false = c.if-not-is_empty.true in
            cc,
      ),
    )

pub returns-clause-clocks : goal.returns-clause-clocks
returns-clause-clocks c = λ yes m there.
    let before = c.in-Some.now in
    let after = c.cycle-line.new.self in
    let line = c.cycle-line.result in
    let old = c.args.target.now in
    let had = c.in-Some.ensures.same.0 in
    let here : clocked_device before ≡ c_api_ready_memory old = c.in-Some.ensures.same.1 ∙ c.window.ensures in
    let clocks : ClocksOneCycle bus_of (c_api_drive c.args.drive) line before after =
    subst (λ (d : Option Bool). ClocksOneCycle bus_of d line before after) c.driven.ensures
    c.cycle-line.ensures.clocks in
    let empty : (after.target.device).log ≡ [] = ap (λ (b : Bus). b.log) c.memory.ensures
    ∙ (sym c.log.ensures ∙ nothing c.log.result.now (sym c.is_empty.ensures ∙ c.if-not-is_empty.false)) in
    let untouched : IsUntouched bus_of before.target after.target = record {
      late = had.late;
      ready = c_api_word_at_tar_is_ready old before had here;
      log = empty ∙ sym (ap (λ (m : PlainMemory). m.log) here);
    } in
    let has : CApiNumbers c.fields.result after =
    record {
      has = sym c.fields.ensures;
      late = ap (λ (q : Quirks). q.late) c.cycle-line.ensures.quirks
          ∙ had.late;
      unidentified = ap (λ (q : Quirks). q.idr) c.cycle-line.ensures.quirks
          ∙ had.unidentified;
    } in
    let told : (c.from.result == 1) ≡ line = ap (λ n. n == 1) c.from.ensures ∙ bit_back line in (
      clocked_over m before,
      c_api_fields_elsewhere m old before had,
      refl,
      (
        clocked_over m after,
        c_api_fields_elsewhere m c.fields.result after has,
        refl,
        record {
          clocks = subst (λ (b : Bool). ClocksOneCycle bus_itself (c_api_drive c.args.drive) b
              (clocked_over m before) (clocked_over m after)) (sym told)
              (clocked_step_elsewhere bus_of bus_itself m (c_api_drive c.args.drive) line before after untouched
              (λ held. c_api_caller_word_is_ready old before m had
              (there (ap (λ (f : ClockedFields). f.waits) (sym had.has) ∙ ap bit held))) clocks);
          cycles = c.cycle-line.ensures.cycles;
        },
      ),
    )

pub returns-then-not-is_empty-clause-pending : goal.returns-then-not-is_empty-clause-pending
returns-then-not-is_empty-clause-pending c = λ yes none.
    let before = c.in-Some.now in
    let old = c.args.target.now in
    let had = c.in-Some.ensures.same.0 in
    let here : clocked_device before ≡ c_api_ready_memory old = c.in-Some.ensures.same.1 ∙ c.window.ensures in
    let still = c.cycle-line.ensures.quiet had.late (c_api_none_wanted_pending old before had none) in
    let empty : c.log.result.now ≡ [] = c.log.ensures
    ∙ (ap (λ (b : Bus). b.log) (sym c.memory.ensures) ∙ ap (λ (m : PlainMemory). m.log) (still ∙ here)) in
    let is : c.is_empty.result ≡ true = c.is_empty.ensures ∙ ap (λ (xs : List Transfer). length xs == 0) empty in
    let not_is : c.is_empty.result ≡ false = c.if-not-is_empty.true in
    cc

pub returns-then-not-is_empty-clause-refused : goal.returns-then-not-is_empty-clause-refused
returns-then-not-is_empty-clause-refused c = λ none. absurd (c_api_is_over_a_bus c.args.target.now c.in-Some.now
    c.in-Some.ensures.same.0 none)

pub returns-clause-refused : goal.returns-clause-refused
returns-clause-refused c = λ none. absurd (c_api_is_over_a_bus c.args.target.now c.in-Some.now
    c.in-Some.ensures.same.0 none)
