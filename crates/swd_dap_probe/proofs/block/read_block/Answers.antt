use Rattle.std.proofs.Common.{◌≡◌, ◌+◌, ◌-◌, ◌∙◌, ◌++◌, [], ◌∷◌, suc, ap, subst, arith}
use Rattle.swd_dap_probe.specs.Transfers.{DapStepsMade, dap_block_read, dap_block_reads, dap_post, dap_run, Tells}
use Rattle.swd_dap_probe.proofs.StepLemmas.{StepsLead, does_then, does_stop, counts_next, counts_stop}
use Rattle.swd_dap_probe.proofs.block.read_block.Goals as goal

pub returns-then-value-ne-OK-clause-makes : goal.returns-then-value-ne-OK-clause-makes
returns-then-value-ne-OK-clause-makes g c = λ mask.
    let a = c.args in
    let run = dap_run 0 a.words.now.items mask in
    does_stop g.L.ProbeLine.clocks a.settings.now (dap_post a.request) (dap_block_reads a.request a.count)
    c.post-value.result run run a.line.now c.post-value.new.line
    (λ e. absurd (omega (arith, e, c.if-value-ne-OK.true))) (c.post-value.ensures.makes run)

pub loop-place-init : goal.loop-place-init
loop-place-init g c = record {
  room = omega arith;
  makes = λ mask value to t k.
      let a = c.args in
      let clock = g.L.ProbeLine.clocks in
      let settings = a.settings.now in
      let run = dap_run 0 a.words.now.items mask in
      let all : a.count - 0 ≡ a.count = omega arith in
      does_then clock settings (dap_post a.request) (dap_block_reads a.request a.count) c.post-value.result value run
      run
      to a.line.now c.post-value.new.line t (omega (arith, c.if-value-ne-OK.false)) (c.post-value.ensures.makes run)
      (subst (λ n. DapStepsMade clock settings (dap_block_reads a.request n) value run to c.post-value.new.line t) all
      k);
}

pub returns-then-value-ne-OK-2-clause-makes : goal.returns-then-value-ne-OK-2-clause-makes
returns-then-value-ne-OK-2-clause-makes g c = λ mask.
    let a = c.args in
    let l = c.loop-place in
    let clock = g.L.ProbeLine.clocks in
    let settings = a.settings.now in
    let next = c.read_word-value in
    let n = a.count - (l.place + 1) in
    let left : a.count - l.place ≡ suc n = omega (arith, c.loop-place-test.true) in
    let same : a.count - l.place - 1 ≡ n = omega arith in
    let steps = dap_post a.request ++ dap_block_reads a.request a.count in
    let from = dap_run 0 a.words.now.items mask in
    let run = dap_run l.place l.words.items mask in
    let to = dap_run l.place next.new.words.items mask in
    counts_stop clock settings steps from (Tells (dap_block_read a.request n) ∷ []) (dap_block_reads a.request n)
    next.result run to a.line.now l.line next.new.line (λ e. absurd (omega (arith, e, c.if-value-ne-OK-2.true)))
    (subst (λ r. DapStepsMade clock settings (Tells r ∷ []) next.result run to l.line next.new.line)
    (c.read_at.ensures ∙ ap (dap_block_read a.request) same) (next.ensures.makes l.place mask))
    (subst (λ k. StepsLead clock settings steps from (dap_block_reads a.request k) run a.line.now l.line) left
    (l.invariant.makes mask))

pub loop-place-preserved : goal.loop-place-preserved
loop-place-preserved g c = record {
  room = omega (arith, c.read_word-value.ensures.room, c.loop-place.invariant.room);
  makes = λ mask.
      let a = c.args in
      let l = c.loop-place in
      let clock = g.L.ProbeLine.clocks in
      let settings = a.settings.now in
      let next = c.read_word-value in
      let n = a.count - (l.place + 1) in
      let left : a.count - l.place ≡ suc n = omega (arith, c.loop-place-test.true) in
      let same : a.count - l.place - 1 ≡ n = omega arith in
      let steps = dap_post a.request ++ dap_block_reads a.request a.count in
      let from = dap_run 0 a.words.now.items mask in
      let run = dap_run l.place l.words.items mask in
      let to = dap_run l.place next.new.words.items mask in
      counts_next clock settings steps from (Tells (dap_block_read a.request n) ∷ []) (dap_block_reads a.request n)
      next.result l.place l.words.items next.new.words.items mask mask a.line.now l.line next.new.line
      (omega (arith, c.if-value-ne-OK-2.false))
      (subst (λ r. DapStepsMade clock settings (Tells r ∷ []) next.result run to l.line next.new.line)
      (c.read_at.ensures ∙ ap (dap_block_read a.request) same) (next.ensures.makes l.place mask))
      (subst (λ k. StepsLead clock settings steps from (dap_block_reads a.request k) run a.line.now l.line) left
      (l.invariant.makes mask));
}
