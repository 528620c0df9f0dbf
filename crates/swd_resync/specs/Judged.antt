-- What held bits decide.
use Rattle.std.specs.Prelude.{◌≡◌, ℕ, ◌<◌, ◌≤◌, Bool, true, false, List, [], ◌++◌, length, Option, Some, None}
use Rattle.swd_bits.specs.declared.tx.Tx.{Tx as Transaction}
use Rattle.swd_trace.specs.Reading.{whole_tx_item}
use Rattle.swd_trace.specs.declared.item.Item.TheVariants.{Tx}
use Rattle.swd_resync.specs.declared.overrun.Overrun.{Overrun}
use Rattle.swd_resync.specs.declared.judge.TxFate.{TxFate}
use Rattle.swd_resync.specs.declared.judge.TxFate.TheVariants.{Reported, OtherLength, Withdrawn}
use Rattle.swd_resync.specs.Parts.{ResyncStep, stretch_item, skip_bits, other_length_step, other_tx_len}
use Rattle.swd_resync.specs.Holding.{IsResyncNear}
use Rattle.swd_resync.specs.Sights.{SightMore}

-- a value is decided, whatever may follow; or more bits may follow, and few are held
abbrev pub Judges : {A : Type 0} → Bool → ℕ → (List Bool → A) → List Bool → Option A → Type 0
Judges ended most value bits (Some a) = (more : List Bool) → SightMore ended more → value (bits ++ more) ≡ a
Judges ended most value bits None = (ended ≡ false) × IsResyncNear most bits

-- if it is decided, a bit is held, or no bits follow
abbrev pub IsJudgedClear : {A : Type 0} → Bool → List Bool → Option A → Type 0
IsJudgedClear ended bits (Some a) = bits ≡ [] → ended ≡ true
IsJudgedClear ended bits None = Unit {0}

-- it is at most `most`
abbrev pub IsJudgedMost : ℕ → Option ℕ → Type 0
IsJudgedMost most (Some n) = n ≤ most
IsJudgedMost most None = Unit {0}

-- the step of a transaction of `len` bits in a stretch, by what becomes of it
abbrev pub stretch_tx_step : Overrun → Transaction → ℕ → TxFate → ResyncStep
stretch_tx_step over tx len Reported = stretch_item over (whole_tx_item tx len)
stretch_tx_step over tx len OtherLength = other_length_step over (Tx tx)
stretch_tx_step over tx len (Withdrawn n) = skip_bits over n

-- so many bits are removed, of those that there are
abbrev pub IsTxFate : Bool → Transaction → ℕ → List Bool → TxFate → Type 0
IsTxFate phases tx len bits Reported = Unit {0}
IsTxFate phases tx len bits OtherLength = other_tx_len phases ≤ length bits
IsTxFate phases tx len bits (Withdrawn n) = (0 < n) × (n ≤ len)
