use Rattle.std.proofs.Common.{◌+◌, ◌-◌, ◌^◌, min, length, sym, ap, ◌∙◌}
use Rattle.swd_io.proofs.BlockLemmas.{block_buffer_flushed, block_buffer_cut_short, block_buffer_unfailed}
use Rattle.swd_io.proofs.BlockLemmas.{carried_block_buffer_sends}
use Rattle.swd_io.proofs.block.Block.send_held.Goals as goal

pub returns-in-Ok-clause-sends : goal.returns-in-Ok-clause-sends
returns-in-Ok-clause-sends g c = λ start all h.
    let contents = g.W.Write.contents in
    let block = c.args.self.now in
    let text = c.as_slice.ensures in
    carried_block_buffer_sends contents block.failed start _ all c.if-self.false
    (block_buffer_flushed contents start block _ all c.as_slice.result.now text c.in-Ok.ensures.ok
    c.clear.ensures.bytes (c.saturating_add-self.ensures
    ∙ ap (λ n. min (block.written + n) (2 ^ 64 - 1)) (c.len.ensures.bytes ∙ ap length (sym text)))
    (block_buffer_unfailed contents block.failed start block all c.if-self.false h))

pub returns-in-Err-clause-sends : goal.returns-in-Err-clause-sends
returns-in-Err-clause-sends g c = λ start all h.
    let contents = g.W.Write.contents in
    let block = c.args.self.now in
    block_buffer_cut_short contents start (contents c.send.new.writer) block all c.as_slice.result.now
    c.in-Err.unsent.sent _
    c.as_slice.ensures c.in-Err.ensures.err.0 c.in-Err.ensures.err.1 c.saturating_add-self-in-Err.ensures
    (block_buffer_unfailed contents block.failed start block all c.if-self.false h)
