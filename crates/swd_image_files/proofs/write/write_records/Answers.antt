use Rattle.std.proofs.Common.{rules, [], refl}
use Rattle.std.proofs.KnownBytes.{Appends-nil}
use Rattle.std.specs.Io.KnownBytes.{Appends}
use Rattle.swd_io.specs.Blocks.{BlockBufferSends, OutputStopped}
use Rattle.swd_image_files.specs.Texts.{image_file_of_records}
use Rattle.swd_image_files.proofs.write.write_records.Goals as goal

pub returns-in-Ok : goal.returns-in-Ok
returns-in-Ok g c =
    let start = g.W.Write.contents c.args.writer.now in
    let file = image_file_of_records c.args.records c.args.addr c.args.bytes.now in
    let put : BlockBufferSends g.W.Write.contents start c.put_records.new.block file =
    c.put_records.ensures.sends start [] (c.new-block.ensures.sends start [] (Appends-nil start) refl) in
    let gone : Appends start (g.W.Write.contents c.flush.new.self.writer.now) file =
    (c.in-Ok.ensures.ok start file put).0 in
    search rules

pub returns-in-Err : goal.returns-in-Err
returns-in-Err g c =
    let start = g.W.Write.contents c.args.writer.now in
    let file = image_file_of_records c.args.records c.args.addr c.args.bytes.now in
    let put : BlockBufferSends g.W.Write.contents start c.put_records.new.block file =
    c.put_records.ensures.sends start [] (c.new-block.ensures.sends start [] (Appends-nil start) refl) in
    let stopped : OutputStopped c.in-Err.written start (g.W.Write.contents c.flush.new.self.writer.now) file =
    c.in-Err.ensures.err start file put in
    search rules
