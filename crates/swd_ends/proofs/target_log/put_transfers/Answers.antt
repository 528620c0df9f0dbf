use Rattle.std.proofs.Common.{[], ◌∷◌, ◌++◌, take, sym, ap, ◌∙◌, subst, append_assoc}
use Rattle.swd_io.specs.Blocks.{BlockBufferSends}
use Rattle.swd_ends.specs.TargetLogs.{live_log_lines}
use Rattle.swd_ends.proofs.LogLemmas.{live_log_line_next}
use Rattle.swd_ends.proofs.target_log.put_transfers.Goals as goal

pub loop-transfer-preserved : goal.loop-transfer-preserved
loop-transfer-preserved g c =
    let transfers = c.args.transfers.now in
    let i = c.loop-transfer.transfer-index in
    let line = c.as_bytes.ensures.value ∙ c.as_str.ensures.value ∙ c.transfer_line.ensures.bytes in
    record {
      sends = λ start all h.
          subst (BlockBufferSends g.W.Write.contents start c.put_line.new.self)
          (ap (λ x. (all ++ live_log_lines (take i transfers)) ++ (x ++ 10 ∷ [])) line
          ∙ append_assoc all (live_log_lines (take i transfers)) _
          ∙ ap (λ x. all ++ x) (sym (live_log_line_next transfers i _ c.loop-transfer-test.true)))
          (c.put_line.ensures.sends start (all ++ live_log_lines (take i transfers))
          (c.loop-transfer.invariant.sends start all h));
      writer = c.put_line.ensures.writer ∙ c.loop-transfer.invariant.writer;
    }
