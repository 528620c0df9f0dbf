use Rattle.std.proofs.Common.{◌∙◌, ◌≡◌, arith, length, subst, sym}
use Rattle.std.proofs.lemmas.List.{take_all}
use Rattle.std.specs.Io.KnownBytes.{Appends}
use Rattle.swd_image.specs.Bytes.{image_bytes_at}
use Rattle.swd_console.proofs.memory_file.write_back.Goals as goal

pub returns : goal.returns
returns g c =
    let contents = g.F.Made.Write.contents in
    let after = c.give_back-in-Err-finish_replacing in
    let whole = image_bytes_at c.args.after.now c.args.to.now.memory.now.base c.args.to.now.count in
    let same : contents after.new.file ≡ contents c.send.new.writer = after.ensures.same ∙ c.finish_replacing.ensures in
    let bytes : c.as_slice.result.now ≡ whole = c.as_slice.ensures.value ∙ c.in-Some.ensures in
    let sent : Appends (contents c.args.to.now.file) (contents after.new.file) whole =
    subst (λ old. Appends old (contents after.new.file) whole) c.begin_replacing.ensures
    (subst (λ new. Appends (contents c.begin_replacing.new.file) new whole) (sym same)
    (subst (λ l. Appends (contents c.begin_replacing.new.file) (contents c.send.new.writer) l) bytes
    c.in_default-send.ensures.ok)) in (
      after.ensures.status,
      length whole,
      subst (λ l. Appends (contents c.args.to.now.file) (contents after.new.file) l)
          (sym (take_all (length whole) whole (omega arith))) sent,
    )
