use Rattle.std.proofs.Common.{inl, refl}
use Rattle.swd_target.proofs.bench.Bench.take_now.Goals as goal

pub returns-clause-step : goal.returns-clause-step
returns-clause-step g c = (_, _, inl refl, record { gets = c.bits_on-bits.ensures; after = refl }, inl refl)
