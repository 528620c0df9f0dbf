use Rattle.std.proofs.Math.Logic.{∥∥₁_map}
use Rattle.swd_conform.proofs.run.ConformRun.may_ask.Goals as goal

pub returns-else-not-is_transfer : goal.returns-else-not-is_transfer
returns-else-not-is_transfer g c = λ allowed.
    ∥∥₁_map c.args.self.now.aimed (λ h is. c.allows.ensures c.args.self.now.noted.calls allowed h)
