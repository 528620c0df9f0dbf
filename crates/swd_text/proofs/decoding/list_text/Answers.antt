use Rattle.std.proofs.Common.{[], refl, ◌∙◌}
use Rattle.swd_trace.specs.Decided.{IsDecided}
use Rattle.swd_trace.specs.Reading.{reading_of}
use Rattle.swd_trace.specs.Texts.{listing}
use Rattle.swd_text.specs.Decoding.{BitsReadAs}
use Rattle.swd_text.specs.Listers.{ListerHasTaken, ListerStops}
use Rattle.swd_text.specs.Outputs.{OutputStart}
use Rattle.swd_text.proofs.ListerLemmas.{lister_takes_nothing, lister_decides}
use Rattle.swd_text.proofs.OutputLemmas.{text_queues_unread}
use Rattle.swd_text.proofs.decoding.list_text.Goals as goal

pub returns-in-Ok : goal.returns-in-Ok
returns-in-Ok g c = λ start empty.
    let contents = g.W.Write.contents in
    let old = c.args.block.now in
    let r = c.in-Ok.ensures in
    let bits = r.3.0 in
    let has = r.3.2 (record { from = start; name = old.writer.ghost_name }) []
    (lister_takes_nothing contents start c.new.result old c.new.ensures.law c.new.ensures.fed empty) in (
      (
        r.0,
        reading_of bits,
        r.1,
        r.2,
        (bits, r.3.1, refl),
        c.put_last.ensures.sends start bits has.items has.lists,
      ),
      c.put_last.ensures.writer ∙ has.same,
    )

pub returns-in-Err : goal.returns-in-Err
returns-in-Err g c = λ start empty.
    let contents = g.W.Write.contents in
    let old = c.args.block.now in
    let from : OutputStart = record { from = start; name = old.writer.ghost_name } in
    text_queues_unread IsDecided BitsReadAs listing listing contents (ListerHasTaken contents) (ListerStops contents)
    from from (λ state bits h. (h.items, lister_decides contents from state bits h, h.lists.sends, h.same))
    (λ state told bits h. (h.items, h.decided, h.cut, h.same)) c.in-Err.fault _ _ (c.new.result, old)
    c.read_text.new.writer
    (lister_takes_nothing contents start c.new.result old c.new.ensures.law c.new.ensures.fed empty) c.in-Err.ensures
