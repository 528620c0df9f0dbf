use Rattle.std.proofs.Common.{◌≡◌, ◌+◌, ◌-◌, ◌*◌, ◌∙◌, [], ◌∷◌, suc, sym, ap, subst, arith}
use Rattle.swd_dap_probe.specs.Plain.{dap_word}
use Rattle.swd_dap_probe.specs.Transfers.{DapStepsMade, dap_block_writes, dap_read_buffer, dap_run, Makes}
use Rattle.swd_dap_probe.proofs.StepLemmas.{StepsLead, does_make, counts_next, counts_stop}
use Rattle.swd_dap_probe.proofs.block.write_block.Goals as goal

pub returns-then-value-ne-OK : goal.returns-then-value-ne-OK
returns-then-value-ne-OK g c = record {
  makes = λ words mask.
      let a = c.args in
      let l = c.loop-place in
      let clock = g.L.ProbeLine.clocks in
      let settings = a.settings.now in
      let bytes = a.bytes.now in
      let t = c.persist.new.line in
      let value = c.value-value in
      let n = a.count - (l.place + 1) in
      let left : a.count - l.place ≡ suc n = omega (arith, c.loop-place-test.true) in
      let word : c.word_at-word.result ≡ dap_word bytes (4 * l.place)
      = c.word_at-word.ensures ∙ ap (λ k. dap_word bytes (4 * k)) c.from.ensures in
      let steps = dap_block_writes a.request bytes 0 a.count in
      let from = dap_run 0 words mask in
      let run = dap_run l.place words mask in
      counts_stop clock settings steps from (Makes a.request (dap_word bytes (4 * l.place)) ∷ [])
      (dap_block_writes a.request bytes (l.place + 1) n) value.result run run a.line.now l.line t
      (λ e. absurd (omega (arith, e, c.if-value-ne-OK.true)))
      (subst (λ w. DapStepsMade clock settings (Makes a.request w ∷ []) value.result run run l.line t) word
      (does_make clock settings a.request c.word_at-word.result c.persist.result value.result run l.line t value.ensures
      c.persist.ensures))
      (subst (λ k. StepsLead clock settings steps from (dap_block_writes a.request bytes l.place k) run a.line.now
      l.line)
      left (l.invariant words mask));
}

pub loop-place-preserved : goal.loop-place-preserved
loop-place-preserved g c = λ words mask.
    let a = c.args in
    let l = c.loop-place in
    let clock = g.L.ProbeLine.clocks in
    let settings = a.settings.now in
    let bytes = a.bytes.now in
    let t = c.persist.new.line in
    let value = c.value-value in
    let n = a.count - (l.place + 1) in
    let left : a.count - l.place ≡ suc n = omega (arith, c.loop-place-test.true) in
    let word : c.word_at-word.result ≡ dap_word bytes (4 * l.place)
    = c.word_at-word.ensures ∙ ap (λ k. dap_word bytes (4 * k)) c.from.ensures in
    let steps = dap_block_writes a.request bytes 0 a.count in
    let from = dap_run 0 words mask in
    let run = dap_run l.place words mask in
    counts_next clock settings steps from (Makes a.request (dap_word bytes (4 * l.place)) ∷ [])
    (dap_block_writes a.request bytes (l.place + 1) n) value.result l.place words words mask mask a.line.now l.line t
    (omega (arith, c.if-value-ne-OK.false))
    (subst (λ w. DapStepsMade clock settings (Makes a.request w ∷ []) value.result run run l.line t) word
    (does_make clock settings a.request c.word_at-word.result c.persist.result value.result run l.line t value.ensures
    c.persist.ensures))
    (subst (λ k. StepsLead clock settings steps from (dap_block_writes a.request bytes l.place k) run a.line.now l.line)
    left (l.invariant words mask))

pub returns : goal.returns
returns g c = record {
  makes = λ words mask.
      let a = c.args in
      let l = c.loop-place in
      let clock = g.L.ProbeLine.clocks in
      let settings = a.settings.now in
      let bytes = a.bytes.now in
      let t = c.persist-2.new.line in
      let value = c.value.result in
      let none : a.count - l.place ≡ 0 = omega (arith, c.loop-place-test.false) in
      let done : l.place ≡ a.count = omega (arith, l.auto.place-end, c.loop-place-test.false) in
      let run = dap_run l.place words mask in
      subst (λ k. DapStepsMade clock settings (dap_block_writes a.request bytes 0 a.count) value (dap_run 0 words mask)
      (dap_run k words mask) a.line.now t) done
      (l.invariant words mask value run t
      (subst (λ k. DapStepsMade clock settings (dap_block_writes a.request bytes l.place k) value run run l.line t)
      (sym none)
      (does_make clock settings dap_read_buffer 0 c.persist-2.result value run l.line t c.value.ensures
      c.persist-2.ensures)));
}
