-- The invariant of a decoder's fields.
use Rattle.std.specs.Prelude.{◌≡◌, ◌≢◌, ◌==◌, ℕ, ◌+◌, ◌%◌, ◌^◌, ◌<◌, ◌≤◌, Bool, false, List, ◌++◌, length}
use Rattle.swd_bits.specs.Bits.{low_bits}
use Rattle.swd_trace.specs.declared.mode.Mode.{Mode}
use Rattle.swd_trace.specs.declared.mode.Mode.TheVariants.{Synced}
use Rattle.swd_trace.specs.Reading.{reading}
use Rattle.swd_trace.specs.Decided.{DecidesNoItem}

-- A run of equal bits, `run` times `one`, and then `len` bits. After a run there is at most one bit, which
-- ends it. A run of zeros needs mode synced. Without a run, nothing is decided while these bits and later
-- ones are fewer than `next`.
pub record DecoderHolds (mode : Mode) (one : Bool) (run len bits next fed : ℕ) : Type 0 where
  pub whole : bits < 2 ^ len
  pub short : len ≤ 50
  pub stage : next ≤ 50
  pub counted : run + len ≤ fed
  pub ran : 0 < run → (next ≡ 1) × (len ≤ 1)
  pub ends : 0 < run → 0 < len → one ≢ (bits % 2 == 1)
  pub idle : 0 < run → one ≡ false → mode ≡ Synced
  pub quiet : run ≡ 0 → (more : List Bool) → len + length more < next
      → DecidesNoItem (λ after. reading mode (low_bits len bits ++ (more ++ after)))
