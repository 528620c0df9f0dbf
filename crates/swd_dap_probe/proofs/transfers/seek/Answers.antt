use Rattle.std.proofs.Common.{◌+◌, ◌-◌, [], ◌∷◌, arith}
use Rattle.swd_dap_probe.specs.Transfers.{dap_post, dap_run, Seeks}
use Rattle.swd_dap_probe.proofs.StepLemmas.{does_stop, seeks_first, seeks_next, seeks_found, seeks_fail}
use Rattle.swd_dap_probe.proofs.transfers.seek.Goals as goal

pub returns-then-value-ne-OK : goal.returns-then-value-ne-OK
returns-then-value-ne-OK g c = record {
  makes = λ count words.
      let a = c.args in
      let run = dap_run count words a.mask in
      does_stop g.L.ProbeLine.clocks a.settings.now (dap_post a.request) (Seeks a.request a.wanted ∷ [])
      c.post-value.result run run a.line.now c.post-value.new.line
      (λ e. absurd (omega (arith, e, c.if-value-ne-OK.true))) (c.post-value.ensures.makes run);
}

pub loop-place-init : goal.loop-place-init
loop-place-init g c =
    let a = c.args in
    seeks_first g.L.ProbeLine.clocks a.settings.now a.request a.wanted a.mask (a.settings.now.matches + 1 - 0)
    c.post-value.result a.line.now c.post-value.new.line (omega arith) (omega (arith, c.if-value-ne-OK.false))
    c.post-value.ensures.makes

pub returns-in-Okay : goal.returns-in-Okay
returns-in-Okay g c =
    let a = c.args in
    let l = c.loop-place in
    let n = a.settings.now.matches + 1 - (l.place + 1) in
    record {
      makes = seeks_found g.L.ProbeLine.clocks a.settings.now a.request a.wanted a.mask n
          (a.settings.now.matches + 1 - l.place) c.in-Okay.word c.persist.result a.line.now l.line c.persist.new.line
          (omega (arith, c.loop-place-test.true, c.from-place-end.ensures)) c.in-Okay.is
          (omega (arith, c.if-word-mask.true)) c.persist.ensures l.invariant;
    }

pub returns-in_default : goal.returns-in_default
returns-in_default g c =
    let a = c.args in
    let l = c.loop-place in
    let n = a.settings.now.matches + 1 - (l.place + 1) in
    record {
      makes = seeks_fail g.L.ProbeLine.clocks a.settings.now a.request a.wanted a.mask n
          (a.settings.now.matches + 1 - l.place) c.value.result c.persist.result a.line.now l.line c.persist.new.line
          (omega (arith, c.loop-place-test.true, c.from-place-end.ensures)) c.value.ensures c.in_default.not-Okay
          c.persist.ensures l.invariant;
    }

pub loop-place-preserved : goal.loop-place-preserved
loop-place-preserved g c =
    let a = c.args in
    let l = c.loop-place in
    let n = a.settings.now.matches + 1 - (l.place + 1) in
    seeks_next g.L.ProbeLine.clocks a.settings.now a.request a.wanted a.mask n
    (a.settings.now.matches + 1 - l.place) c.in-Okay.word c.persist.result a.line.now l.line c.persist.new.line
    (omega (arith, c.loop-place-test.true, c.from-place-end.ensures)) c.in-Okay.is
    (λ e. absurd (omega (arith, e, c.if-word-mask.false))) c.persist.ensures l.invariant
