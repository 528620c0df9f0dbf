use Rattle.std.proofs.Common.{◌≡◌, ℕ, List, [], Option, Err, refl, ap, ◌∙◌, subst}
use Rattle.swd_io.specs.Blocks.{BlockBufferSends}
use Rattle.swd_io.specs.declared.block.Block.{Block}
use Rattle.swd_resync.specs.declared.part.Part.{Part}
use Rattle.swd_text.specs.Outputs.{TextQueues}
use Rattle.swd_text.specs.Sinks.{LeadsSinkOn}
use Rattle.swd_text.specs.declared.fault.DecodeFault.{DecodeFault}
use Rattle.swd_text.specs.declared.fault.DecodeFault.TheVariants.{Text, Read, Write}
use Rattle.swd_capture_text.specs.declared.reading.Reading.{Reading}
use Rattle.swd_capture_text.specs.PartSinks.{PartsGoTo}
use Rattle.swd_capture_text.specs.Readings.{SourceDecides, SourceReadsAs}
use Rattle.swd_draw.specs.declared.kept.DrawnParts.{DrawnParts}
use Rattle.swd_draw.specs.Collecting.{DrawnHasTaken, KeepsDrawn, drawing_never_stops, drawn_kept_parts}
use Rattle.swd_draw.specs.Drawings.{drawing, drawing_of, drawn, most_drawn_of}
use Rattle.swd_draw.specs.declared.drawing.DrawnForm.{DrawnForm}
use Rattle.swd_draw.specs.Draws.{no_drawing}
use Rattle.swd_draw.proofs.drawing.draw_text.Goals as goal

-- the drawing of what is kept is that of all the parts
drawn_by : (form : DrawnForm) (parts shown : List Part) (left_out : ℕ) (k : DrawnParts)
    → KeepsDrawn (most_drawn_of form) parts k → shown ≡ drawn_kept_parts k → left_out ≡ k.left_out
    → drawing_of form.names shown left_out ≡ drawing form parts
drawn_by form parts shown left_out k h front others =
    ap (λ p. drawing_of form.names p left_out) (front ∙ h.first)
    ∙ ap (drawing_of form.names (drawn (most_drawn_of form) parts)) (others ∙ h.others)

unread : {W : Type 0} (contents : W → Option (List ℕ)) (reading : Reading) (form : DrawnForm) (fault : DecodeFault)
    (text left start : Option (List ℕ)) (before : DrawnParts × Unit {0}) (block : Block W)
    → PartsGoTo (LeadsSinkOn DrawnHasTaken) drawing_never_stops reading (Err fault) text left before tt
    → BlockBufferSends contents start block [] → TextQueues (SourceDecides reading) (SourceReadsAs reading) no_drawing
    (drawing form) contents (Err fault) text left start block
unread contents reading form (Text fault) text left start before block r none = (r.0, r.1, r.3, r.4, none)
unread contents reading form Read text left start before block r none = (r.0, r.1, r.3, r.4, none)
unread contents reading form (Write told) text left start before block r none = absurd r.5.2

pub returns-in-Err : goal.returns-in-Err
returns-in-Err g c = λ start none.
    let text = g.R.Read.remaining c.args.reader.now in
    let left = g.R.Read.remaining c.read_parts.new.reader in (
      unread g.W.Write.contents c.args.reading c.args.form c.in-Err.fault text left start (c.new.result, tt)
          c.args.block.now
          c.in-Err.ensures none,
      refl,
    )

pub returns-in-Ok : goal.returns-in-Ok
returns-in-Ok g c = λ start none.
    let r = c.in-Ok.ensures in
    let made = subst (λ (most : ℕ). KeepsDrawn most [] c.new.result) c.min-most.ensures c.new.ensures in
    let all = drawn_by c.args.form r.1 c.parts.result.now c.left_out.result c.in-Ok.kept
    (r.5 (most_drawn_of c.args.form) [] made) c.parts.ensures.parts c.left_out.ensures in (
      (
        r.0,
        r.1,
        r.2,
        r.3,
        r.4,
        subst (BlockBufferSends g.W.Write.contents start c.put_drawing.new.block) all
            (c.put_drawing.ensures.sends start none),
      ),
      c.put_drawing.ensures.writer,
    )
