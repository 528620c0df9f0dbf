use Rattle.std.proofs.Common.{◌≡◌, ℕ, ◌<◌, Bool, true, false, List, [], ◌++◌, Option, sym, ap, ◌∙◌, subst, append_assoc}
use Rattle.std.proofs.Common.{take, length, arith}
use Rattle.std.proofs.lemmas.List.{append-nil}
use Rattle.swd_io.specs.Blocks.{BlockBufferSends, BlockBufferSendsBy}
use Rattle.swd_io.specs.declared.block.Block.{Block}
use Rattle.swd_io.proofs.BlockLemmas.{output_stopped_more}
use Rattle.swd_trace.specs.Texts.{item_text}
use Rattle.swd_trace.specs.ItemBytes.{item_bytes_left}
use Rattle.swd_text.proofs.encoding.put_item.Goals.{then-filled-eq0-via-then-filled-eq0}
use Rattle.swd_text.proofs.encoding.put_item.Goals.{then-filled-eq0-via-else-filled-eq0+then-has_failed}
use Rattle.swd_text.proofs.encoding.put_item.Goals as goal

-- a text in which the writer failed may be longer
stays : {W : Type 0} (contents : W → Option (List ℕ)) (flag : Bool) (start : Option (List ℕ)) (block : Block W)
    (all more : List ℕ) → flag ≡ true →
    BlockBufferSendsBy flag contents start block all → BlockBufferSendsBy flag contents start block (all ++ more)
stays contents true start block all more e h =
    output_stopped_more block.written start (contents block.writer.now) all more h
stays contents false start block all more e h = absurd cc

pub returns-then-filled-eq0-clause-sends : goal.returns-then-filled-eq0-clause-sends
returns-then-filled-eq0-clause-sends g c = λ start all h.
    let contents = g.W.Write.contents in
    let block = c.loop-bytes.block in
    let i = c.loop-bytes.invariant.sends start all h in
    let left = item_bytes_left c.loop-bytes.bytes in
    let whole : all ++ item_text c.args.item.now ≡ (all ++ i.0) ++ left = ap (λ x. all ++ x) i.1
    ∙ sym (append_assoc all i.0 left) in
    subst (BlockBufferSends contents start block) (sym whole) (elim c.then-filled-eq0.branch [
      | then-filled-eq0-via-then-filled-eq0 w ↦
          let room : c.fill-filled.result < length c.fill-filled.new.piece = omega (arith, w.if-filled-eq0.true) in
          let none : left ≡ [] =
          c.fill-filled.ensures.bytes
          ∙ ap (λ n. take n c.fill-filled.new.piece ++ item_bytes_left c.fill-filled.new.self) w.if-filled-eq0.true
          ∙ c.fill-filled.ensures.end room in
          subst (BlockBufferSends contents start block)
          (sym (ap (λ x. (all ++ i.0) ++ x) none ∙ append-nil (all ++ i.0))) i.2
      | then-filled-eq0-via-else-filled-eq0+then-has_failed w ↦
          stays contents block.failed start block (all ++ i.0) left (sym w.has_failed.ensures ∙ w.if-has_failed.true)
          i.2
    ])
