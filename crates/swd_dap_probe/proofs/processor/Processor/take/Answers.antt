use Rattle.std.proofs.Common.{◌≡◌, length, sym, ◌∙◌, subst, arith}
use Rattle.std.specs.Prelude.{slice_index}
use Rattle.swd_dap_probe.specs.Packets.{DapTakes, IsDapReplyTo}
use Rattle.swd_dap_probe.proofs.ReplyLemmas.{takes_reply, copied_first}
use Rattle.swd_dap_probe.proofs.processor.Processor.take.Goals as goal

pub returns : goal.returns
returns g c =
    let items = c.answer.new.reply.items in
    let copied = c.copy_from_slice.new.self in
    let is : copied ≡ items = c.copy_from_slice.ensures.after ∙ c.as_slice.ensures.value in
    let n : c.len-2.result ≡ length items = c.len-2.ensures.value in
    let takes = c.answer.ensures.takes in
    let probe = c.args.self.now in
    let request = c.args.request.now in
    record {
      size = (omega (arith, n, c.answer.ensures.short), omega (arith, n, c.answer.ensures.short, probe.size.sized.1));
      takes = subst (λ x. DapTakes g.L.ProbeLine.clocks g.L.ProbeLine.resets request x probe c.answer.new.self)
          (sym (copied_first copied items _ c.len-2.result is n)) takes;
      answers = subst (λ x. IsDapReplyTo (slice_index request 0) x)
          (sym (copied_first copied items _ c.len-2.result is n))
          (takes_reply g.L.ProbeLine.clocks g.L.ProbeLine.resets request items probe c.answer.new.self takes);
    }
