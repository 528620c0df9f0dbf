use Rattle.std.proofs.Common.{inl, refl}
use Rattle.swd_target.proofs.bench.Bench.pass_now.Goals as goal

pub returns-clause-step : goal.returns-clause-step
returns-clause-step g c = (_, _, inl refl, record { after = refl }, inl refl)
