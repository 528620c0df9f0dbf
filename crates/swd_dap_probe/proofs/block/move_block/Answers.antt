use Rattle.std.proofs.Common.{◌≡◌, ◌<◌, ◌-◌, ◌∙◌, [], drop, take, length, length-drop, sym, ap, subst, arith}
use Rattle.std.proofs.lemmas.List.{take_all}
use Rattle.swd_dap_probe.specs.Shapes.{dap_block_count}
use Rattle.swd_dap_probe.specs.Transfers.{DapStepsMade, dap_block_by, dap_block_steps, dap_block_writes, dap_run}
use Rattle.swd_dap_probe.proofs.StepLemmas.{block_reads, block_writes, transfer_value}
use Rattle.swd_dap_probe.proofs.block.move_block.Goals as goal

pub returns-then-asked-clause-makes : goal.returns-then-asked-clause-makes
returns-then-asked-clause-makes g c =
    let bytes = c.args.request.now in
    let asked = c.request_of-asked in
    let count = c.block_count-count in
    let done = c.read_block in
    let some : 0 < count.result = omega (arith, c.if-count-eq0.false) in
    let by : dap_block_steps bytes ≡ dap_block_by asked.result bytes count.result
    = ap (λ r. dap_block_by r bytes (dap_block_count bytes)) (sym asked.ensures)
    ∙ ap (λ n. dap_block_by asked.result bytes n) (sym count.ensures) in
    let steps = by ∙ block_reads asked.result bytes count.result some c.if-asked.true in (
      done.result.value,
      λ mask. subst (λ w. DapStepsMade g.L.ProbeLine.clocks c.args.settings.now (dap_block_steps bytes)
          done.result.value
          (dap_run 0 w mask) (dap_run done.result.count done.new.words.items mask) c.args.line.now done.new.line)
          c.requires.none
          (subst (λ x. DapStepsMade g.L.ProbeLine.clocks c.args.settings.now x done.result.value
          (dap_run 0 c.args.words.now.items mask) (dap_run done.result.count done.new.words.items mask) c.args.line.now
          done.new.line) (sym steps) (done.ensures.makes mask)),
      transfer_value (dap_block_count bytes) done.result.value (omega (arith, some, count.ensures)),
    )

pub returns-else-asked-clause-makes : goal.returns-else-asked-clause-makes
returns-else-asked-clause-makes g c =
    let bytes = c.args.request.now in
    let asked = c.request_of-asked in
    let count = c.block_count-count in
    let done = c.write_block in
    let some : 0 < count.result = omega (arith, c.if-count-eq0.false) in
    let by : dap_block_steps bytes ≡ dap_block_by asked.result bytes count.result
    = ap (λ r. dap_block_by r bytes (dap_block_count bytes)) (sym asked.ensures)
    ∙ ap (λ n. dap_block_by asked.result bytes n) (sym count.ensures) in
    let long : length (drop 5 bytes) ≡ length bytes - 5 = length-drop 5 bytes in
    let tail : take (length bytes - 5) (drop 5 bytes) ≡ drop 5 bytes
    = take_all (length bytes - 5) (drop 5 bytes) (omega (arith, long)) in
    let steps = by ∙ block_writes asked.result bytes count.result some c.if-asked.false in (
      done.result.value,
      λ mask. subst (λ w. DapStepsMade g.L.ProbeLine.clocks c.args.settings.now (dap_block_steps bytes)
          done.result.value
          (dap_run 0 [] mask) (dap_run done.result.count w mask) c.args.line.now done.new.line)
          (sym c.requires.none)
          (subst (λ x. DapStepsMade g.L.ProbeLine.clocks c.args.settings.now x done.result.value
          (dap_run 0 [] mask) (dap_run done.result.count [] mask) c.args.line.now done.new.line) (sym steps)
          (subst (λ b. DapStepsMade g.L.ProbeLine.clocks c.args.settings.now
          (dap_block_writes asked.result b 0 count.result) done.result.value (dap_run 0 [] mask)
          (dap_run done.result.count [] mask) c.args.line.now done.new.line) tail (done.ensures.makes [] mask))),
      transfer_value (dap_block_count bytes) done.result.value (omega (arith, some, count.ensures)),
    )
