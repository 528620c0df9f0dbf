-- What is seen at the front of some bits.
use Rattle.std.specs.Prelude.{◌≡◌, ◌≢◌, ℕ, ◌<◌, ◌≤◌, Bool, true, false, List, [], ◌∷◌, ◌++◌, length, replicate}
use Rattle.swd_bits.specs.BitLists.{tx_bits_of, IsWellFormedTxBits}
use Rattle.swd_bits.specs.declared.tx.Tx.{Tx as Transaction}
use Rattle.swd_trace.specs.declared.mode.Mode.TheVariants.{Synced}
use Rattle.swd_trace.specs.Reading.{whole_tx_item, cut_first_item, junk_first_item}
use Rattle.swd_resync.specs.declared.sight.Sight.{Sight}
use Rattle.swd_resync.specs.declared.sight.Sight.TheVariants.{Wait, End, Zero, Ones, Tx, Junk, Cut}
use Rattle.swd_resync.specs.Parts.{resync_first}

-- what may follow: nothing if the capture has ended
abbrev pub SightMore : Bool → List Bool → Type 0
SightMore ended more = ended ≡ true → more ≡ []

-- the first item is a transaction of `len` bits, whatever follows
pub record IsTxSight (over : Bool) (tx : Transaction) (len : ℕ) (bits : List Bool) : Type 0 where
  pub some : 12 ≤ len
  pub most : len ≤ 46
  pub fits : len ≤ length bits
  pub first : (more : List Bool) → resync_first over Synced (bits ++ more) ≡ whole_tx_item tx len

-- all of the bits are cut off if they end here
pub record IsCutSight (over : Bool) (bits : List Bool) : Type 0 where
  pub some : 0 < length bits
  pub few : length bits < 50
  pub first : resync_first over Synced bits ≡ cut_first_item bits

abbrev pub IsSight : Bool → Bool → Sight → List Bool → Type 0
IsSight over ended Wait bits = (ended ≡ false) × (length bits < 50)
IsSight over ended End bits = (ended ≡ true) × (bits ≡ [])
IsSight over ended Zero bits = (back : List Bool) × (bits ≡ false ∷ back)
IsSight over ended Ones bits = (back : List Bool) × (bits ≡ replicate 50 true ++ back)
IsSight over ended (Tx tx len) bits = IsTxSight over tx len bits
IsSight over ended Junk bits = (bits ≢ [])
    × ((more : List Bool) → resync_first over Synced (bits ++ more) ≡ junk_first_item true)
IsSight over ended (Cut off) bits = (ended ≡ true) × (bits ≡ tx_bits_of off) × IsWellFormedTxBits off
    × IsCutSight over bits
