use Rattle.std.proofs.Common.{◌∙◌, None, ap, refl, subst, sym}
use Rattle.swd_port.specs.PlainBus.{plain_of}
use Rattle.swd_image_ends.specs.Pieces.{pieces_to_load}
use Rattle.swd_image_commands.specs.Images.{command_status_compared, command_status_in, command_status_of_image}
use Rattle.swd_image_commands.specs.Reports.{command_reports_held}
use Rattle.swd_image_commands.specs.Simulated.{IsSimulatedCommandStatus, IsWrittenBackFor, simulated_back_held}
use Rattle.swd_image_commands.proofs.SimulatedLemmas.{pieces_command_simulated}
use Rattle.swd_image_commands.proofs.simulated_command.pieces_over.Goals as goal

pub make_calls-answer-requires : goal.make_calls-answer-requires
make_calls-answer-requires g c = c.requires.rests.due

pub returns-in-Ok : goal.returns-in-Ok
returns-in-Ok g c = λ action base count is.
    let made = c.make_calls-answer in
    let held = command_reports_held g.F.Made.Write.contents g.E.Write.contents in
    let wrote = c.write_back_to.result in
    let old = simulated_back_held g.F.Made.Write.contents c.args.back.now in
    let new = simulated_back_held g.F.Made.Write.contents c.write_back_to.new.back in
    pieces_command_simulated c.args.image.now c.limits_of.result c.action_of-action.result action
    (pieces_to_load c.args.whole.now) c.args.bench made.new.wire made.result (held c.image_reports.result)
    (held made.new.self.report) c.limits_of.ensures (c.action_of-action.ensures action base count is) c.requires.rests
    (c.image_reports.ensures ∙ c.requires.named) made.ensures.came base count c.pieces_status.result wrote
    old new (subst (λ m. IsWrittenBackFor action m base count wrote old new) (sym (ap plain_of c.memory-2.ensures))
    (c.write_back_to.ensures action base count is))
    (subst (λ w. IsSimulatedCommandStatus (command_status_of_image command_status_compared None made.result) w
    c.pieces_status.result) (sym c.in-Ok.is)
    (c.pieces_status.ensures ∙ ap (command_status_in command_status_compared) c.reached-answer.ensures))

pub returns : goal.returns
returns g c = λ action base count is.
    let made = c.make_calls-answer in
    let held = command_reports_held g.F.Made.Write.contents g.E.Write.contents in
    let wrote = c.write_back_to.result in
    let old = simulated_back_held g.F.Made.Write.contents c.args.back.now in
    let new = simulated_back_held g.F.Made.Write.contents c.write_back_to.new.back in
    pieces_command_simulated c.args.image.now c.limits_of.result c.action_of-action.result action
    (pieces_to_load c.args.whole.now) c.args.bench made.new.wire made.result (held c.image_reports.result)
    (held made.new.self.report) c.limits_of.ensures (c.action_of-action.ensures action base count is) c.requires.rests
    (c.image_reports.ensures ∙ c.requires.named) made.ensures.came base count c.in-Err.status wrote
    old new (subst (λ m. IsWrittenBackFor action m base count wrote old new) (sym (ap plain_of c.memory-2.ensures))
    (c.write_back_to.ensures action base count is))
    (subst (λ w. IsSimulatedCommandStatus (command_status_of_image command_status_compared None made.result) w
    c.in-Err.status) (sym c.in-Err.is) refl)
