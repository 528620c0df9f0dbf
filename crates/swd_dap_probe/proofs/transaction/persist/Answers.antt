use Rattle.std.proofs.Common.{◌≡◌, sym, subst, add-one, arith}
use Rattle.swd_dap_probe.specs.Transactions.{DapWaits, DapTransaction}
use Rattle.swd_dap_probe.proofs.transaction.persist.Goals as goal

pub loop-place-preserved : goal.loop-place-preserved
loop-place-preserved g c =
    let clock = g.L.ProbeLine.clocks in
    let l = c.loop-place in
    let a = c.args in
    subst (λ n. DapWaits clock a.settings.now a.request a.word n a.line.now c.transact.new.line)
    (sym (add-one l.place)) (
      l.line,
      l.invariant,
      subst (λ x. DapTransaction clock a.settings.now a.request a.word x l.line c.transact.new.line) c.in-Wait.is
          c.transact.ensures,
    )

pub returns : goal.returns
returns g c =
    let l = c.loop-place in
    let done : l.place ≡ c.args.settings.now.retries = omega (arith, l.auto.place-end, c.loop-place-test.false) in
    record {
      waits = l.place;
      few = omega (arith, done);
      m = l.line;
      waited = l.invariant;
      last = c.transact-2.ensures;
      gives_up = λ e. done;
    }
