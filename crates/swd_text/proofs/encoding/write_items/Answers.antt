use Rattle.std.proofs.Common.{rules, [], refl}
use Rattle.std.proofs.KnownBytes.{Appends-nil}
use Rattle.std.specs.Io.KnownBytes.{Appends}
use Rattle.swd_io.specs.Blocks.{OutputStopped}
use Rattle.swd_trace.specs.Texts.{trace_text}
use Rattle.swd_text.proofs.encoding.write_items.Goals as goal

pub returns-in-Ok : goal.returns-in-Ok
returns-in-Ok g c =
    let start = g.W.Write.contents c.args.writer.now in
    let text = trace_text c.args.items.now in
    let gone : Appends start (g.W.Write.contents c.flush.new.self.writer.now) text =
    (c.in-Ok.ensures.ok start text
    (c.put_items.ensures.sends start [] (c.new-block.ensures.sends start [] (Appends-nil start) refl))).0 in
    search rules

pub returns-in-Err : goal.returns-in-Err
returns-in-Err g c =
    let start = g.W.Write.contents c.args.writer.now in
    let text = trace_text c.args.items.now in
    let stopped : OutputStopped c.in-Err.written start (g.W.Write.contents c.flush.new.self.writer.now) text =
    c.in-Err.ensures.err start text
    (c.put_items.ensures.sends start [] (c.new-block.ensures.sends start [] (Appends-nil start) refl)) in
    search rules
