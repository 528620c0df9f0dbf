use Rattle.std.proofs.Common.{false, refl, lit<, arith}
use Rattle.swd_bits.specs.Bits.{low_bits}
use Rattle.swd_trace.specs.declared.mode.Mode.TheVariants.{Synced}
use Rattle.swd_trace.proofs.HoldingLemmas.{decoder_holds_bits}
use Rattle.swd_trace.proofs.decoder.Decoder.new.Goals as goal

pub invariant_of-result : goal.invariant_of-result
invariant_of-result c = record { holds = decoder_holds_bits Synced false 0 0 0 (lit< tt) (omega arith) (omega arith) }

pub returns-clause-law : goal.returns-clause-law
unfolding low_bits
returns-clause-law c = λ more. refl

pub returns-clause-read : goal.returns-clause-read
unfolding low_bits
returns-clause-read c = λ more. refl
