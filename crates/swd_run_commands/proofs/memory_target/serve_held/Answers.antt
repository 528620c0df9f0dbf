use Rattle.std.proofs.Common.{◌/◌, inr, length, subst}
use Rattle.swd_image_ends.specs.Memories.{ImageEndHasRoom}
use Rattle.swd_run_commands.specs.MemoryTargets.{ServesBytes}
use Rattle.swd_run_commands.proofs.memory_target.serve_held.Goals as goal

pub returns : goal.returns
returns g c =
    subst (λ l. ServesBytes g.row.A.Denot c.serve_session.result (g.I.Read.remaining c.args.input.now)
    (g.I.Read.remaining c.serve_session.new.input) (g.O.Write.contents c.args.output.now)
    (g.O.Write.contents c.serve_session.new.output) c.args.target.now.idr c.args.target.now.buffers
    c.args.target.now.packet_size
    c.args.held.memory.now.base l
    c.args.held.marks.items)
    c.as_slice-slice.ensures.value (inr (
      c.target_pins-pins.result,
      c.empty_trace-trace.result,
      record {
        memory = c.in-Some.words;
        words = c.in-Some.ensures.words;
        room = subst (λ n. ImageEndHasRoom (length c.as_slice-slice.result.now / 4) n c.in-Some.words)
            c.session_room-room.ensures c.in-Some.ensures.room;
        made = c.target_pins-pins.ensures.made;
        rests = c.target_pins-pins.ensures.rests;
      },
      g.F.Made.Write.contents c.in-Ok.opened.file,
      c.serve_session.ensures.0,
      c.serve_session.ensures.1,
    ))
