use Rattle.std.proofs.Common.{◌≡◌, ◌<◌, ◌+◌, ◌++◌, replicate, Bool, true, false, ℕ, List, ap, ◌∙◌}
use Rattle.swd_bits.specs.Bits.{low_bits}
use Rattle.swd_trace.specs.declared.mode.Mode.TheVariants.{Synced}
use Rattle.swd_trace.specs.declared.decoder.Decoder.{Decoder}
use Rattle.swd_trace.specs.Reading.{reading}
use Rattle.swd_trace.specs.Held.{decoder_held, decoder_rest, IsDecoderSettled}
use Rattle.swd_trace.proofs.ExtendLemmas.{decoder_run_extended, decoder_idle_run_extended}
use Rattle.swd_trace.proofs.decoder.Decoder.extend_run.Goals as goal

zeros : (d : Decoder) (bit : Bool) (n count len : ℕ) → len ≡ d.len → bit ≡ false → IsDecoderSettled d → 0 < n
    → 0 < count → decoder_held d ≡ replicate n bit → (more : List Bool) →
    reading Synced (replicate (d.run + (len + count)) bit ++ (low_bits 0 0 ++ more)) ≡ decoder_rest d
    (replicate count bit ++ more)
zeros d true n count len l b s p q e more = absurd cc
zeros d false n count len l b s p q e more =
    ap (λ m. reading Synced (replicate (d.run + (m + count)) false ++ (low_bits 0 0 ++ more))) l
    ∙ decoder_idle_run_extended d n count s p q e more

pub returns-then-not-bit-clause-law : goal.returns-then-not-bit-clause-law
returns-then-not-bit-clause-law c =
    zeros c.args.self.now c.args.bit c.requires.run.0 c.args.count c.from.result c.from.ensures c.if-not-bit.true
    c.requires.settled c.requires.run.1 c.requires.some c.requires.run.2

pub returns-else-not-bit-clause-law : goal.returns-else-not-bit-clause-law
returns-else-not-bit-clause-law c = λ more.
    ap (λ m. reading c.args.self.now.mode
    (replicate (c.args.self.now.run + (m + c.args.count)) c.args.bit ++ (low_bits 0 0 ++ more))) c.from.ensures
    ∙ decoder_run_extended c.args.self.now.mode c.args.self.now.one c.args.bit c.args.self.now.run c.args.self.now.len
    c.args.self.now.bits c.requires.run.0 c.args.count c.requires.run.2 more
