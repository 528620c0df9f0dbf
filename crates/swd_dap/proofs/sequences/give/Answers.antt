use Rattle.std.proofs.Common.{List, ℕ, subst, take}
use Rattle.swd_dap.specs.Packets.{DapDoes}
use Rattle.swd_dap.proofs.sequences.give.Goals as goal

pub returns-in-Ok : goal.returns-in-Ok
returns-in-Ok g c = (
  take c.in-Ok.field-0 c.levels.new.reply,
  subst
      (λ (r : List ℕ). DapDoes g.P.Packets.exchanged r 3 (take c.in-Ok.field-0 c.levels.new.reply) c.args.packets.now
      c.levels.new.packets) c.give_request.ensures c.in-Ok.ensures.ok,
)
