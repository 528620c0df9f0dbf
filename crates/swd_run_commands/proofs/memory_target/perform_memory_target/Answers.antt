use Rattle.std.proofs.Common.{inr, subst}
use Rattle.swd_image_ends.specs.Memories.{AreImageEndWholeWords}
use Rattle.swd_run_commands.specs.MemoryTargets.{ServesBytes}
use Rattle.swd_run_commands.proofs.memory_target.perform_memory_target.Goals as goal

pub returns-in-Ok : goal.returns-in-Ok
returns-in-Ok g c =
    let held = c.in-Ok.held in
    let same = c.in-Ok.ensures.memory in (
      c.in-Ok.ensures.text.0,
      inr (
        held.bytes.items,
        c.in-Ok.ensures.text.1,
        subst (λ m. AreImageEndWholeWords m.base held.bytes.items) same held.whole,
        held.marks.items,
        c.in-Ok.ensures.legal,
        c.in-Ok.ensures.none,
        subst (λ m. ServesBytes g.row.A.Denot c.serve_held.result (g.I.Read.remaining c.args.input.now)
            (g.I.Read.remaining c.serve_held.new.input) (g.O.Write.contents c.args.output.now)
            (g.O.Write.contents c.serve_held.new.output) c.args.target.now.idr c.args.target.now.buffers
            c.args.target.now.packet_size
            m.base held.bytes.items held.marks.items)
            same
            c.serve_held.ensures,
      ),
    )
