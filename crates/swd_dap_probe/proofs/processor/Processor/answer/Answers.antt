use Rattle.std.proofs.Common.{◌≡◌, ◌++◌, length, sym, ap, ◌∙◌, subst, refl, arith}
use Rattle.swd_dap_probe.specs.Packets.{DapTakes, performs, refuses}
use Rattle.swd_dap_probe.proofs.processor.Processor.answer.Goals as goal

pub returns-then-accepts : goal.returns-then-accepts
returns-then-accepts g c =
    let made = c.perform.ensures in
    let is : c.perform.new.reply.items ≡ made.told = made.is ∙ ap (λ x. x ++ made.told) c.requires in
    let taken = c.accepts.ensures.taken c.if-accepts.true in
    record {
      takes = subst (λ x. DapTakes g.L.ProbeLine.clocks g.L.ProbeLine.resets c.args.request.now x c.args.self.now
          c.perform.new.probe) (sym is) (performs taken made.holds);
      short = let long = ap length is in omega (arith, long, made.short, taken.fits);
    }

pub returns-else-accepts : goal.returns-else-accepts
returns-else-accepts g c =
    let refused = c.accepts.ensures.refused c.if-accepts.false in
    record {
      takes = refuses refused refl c.refuse.ensures.refusal;
      short = omega (arith, c.refuse.ensures.short);
    }
