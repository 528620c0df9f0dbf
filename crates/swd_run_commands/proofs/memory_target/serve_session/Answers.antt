use Rattle.std.proofs.Common.{◌∙◌, ℕ, Result, ap, refl, subst, sym}
use Rattle.swd_port.specs.PlainMemory.{PlainMemory}
use Rattle.swd_port.specs.PlainBus.{bus_of, plain_of}
use Rattle.swd_clocked.specs.Marked.{marked_clocked_state}
use Rattle.swd_bitbang.specs.Traces.{is_pins_trace_cut_off}
use Rattle.swd_run_commands.specs.MemoryTargets.{IsTargetCommandStatus}
use Rattle.swd_run_commands.specs.Targets.{IsSessionWhole}
use Rattle.swd_console.specs.MemoryFiles.{CommandWritesBack}
use Rattle.swd_run_commands.proofs.ServedLemmas.{target_command_status_map}
use Rattle.swd_run_commands.proofs.memory_target.serve_session.Goals as goal

pub returns-in-Ok : goal.returns-in-Ok
returns-in-Ok g c =
    let served = c.serve_host-served in
    let wrote = c.write_back.result in
    let back = c.args.session.back in (
      g.F.Made.Write.contents c.write_back.new.to.file,
      record {
        served = served.result.served;
        cut = served.result.is_cut_off;
        after = served.result.pins;
        session = served.ensures;
        wrote = wrote;
        written = subst (λ (m : PlainMemory). CommandWritesBack m back.memory.now.base back.count wrote
            (g.F.Made.Write.contents back.file) (g.F.Made.Write.contents c.write_back.new.to.file))
            (sym (ap plain_of c.memory-after.ensures) ∙ ap (λ t. plain_of (marked_clocked_state bus_of t).memory)
            c.target-2.ensures)
            c.write_back.ensures;
        is = subst (λ (w : Result (Unit {0}) ℕ). IsTargetCommandStatus served.result.served
            (IsSessionWhole served.result.is_cut_off served.result.pins) w c.served_status.result)
            (sym c.in-Ok.is) (target_command_status_map served.result.served _ _ _
            (λ none. let whole = c.missing_of-missing.ensures none in
            (ap is_pins_trace_cut_off (sym c.trace.ensures) ∙ whole.0, whole.1))
            c.served_status.ensures);
      },
    )

pub returns : goal.returns
returns g c =
    let served = c.serve_host-served in
    let wrote = c.write_back.result in
    let back = c.args.session.back in (
      g.F.Made.Write.contents c.write_back.new.to.file,
      record {
        served = served.result.served;
        cut = served.result.is_cut_off;
        after = served.result.pins;
        session = served.ensures;
        wrote = wrote;
        written = subst (λ (m : PlainMemory). CommandWritesBack m back.memory.now.base back.count wrote
            (g.F.Made.Write.contents back.file) (g.F.Made.Write.contents c.write_back.new.to.file))
            (sym (ap plain_of c.memory-after.ensures) ∙ ap (λ t. plain_of (marked_clocked_state bus_of t).memory)
            c.target-2.ensures)
            c.write_back.ensures;
        is = subst (λ (w : Result (Unit {0}) ℕ). IsTargetCommandStatus served.result.served
            (IsSessionWhole served.result.is_cut_off served.result.pins) w c.in-Err.status) (sym c.in-Err.is)
            refl;
      },
    )
