-- What is left of DPIDR's word once a read may have returned these.
use Rattle.std.specs.Prelude.{ℕ, ◌≡◌, Bool, true, Option, Some, None}
use Rattle.swd_bits.specs.declared.tx.Tx.{Tx as Transaction}
use Rattle.swd_bits.specs.declared.tx.TxEnd.{TxEnd}
use Rattle.swd_bits.specs.declared.tx.TxEnd.TheVariants.{Moved}
use Rattle.swd_port.specs.Registers.{register_bit}
use Rattle.swd_checker.specs.declared.near.Near.{Near}
use Rattle.swd_checker.specs.declared.identification.Identification.{Identification}
use Rattle.swd_checker.specs.Described.{IsCheckedNear}
use Rattle.swd_checker.specs.Standing.{IsIdentified, checked_reads_dpidr}
use Rattle.swd_checker.specs.Exact.{IsNearSound}
use Rattle.swd_checker.specs.Reaching.{checked_near_seen, IsWordSound}

-- exactly the words that a data phase may have had, if there was one
abbrev pub IsMovedIn : TxEnd → Option Near → Type 0
IsMovedIn end None = (word : ℕ) (ok : Bool) → end ≡ Moved word ok → ⊥
IsMovedIn end (Some near) = (word : ℕ) × (ok : Bool) × (end ≡ Moved word ok) × (near ≡ checked_near_seen word ok)

-- the same of a read of DPIDR
abbrev pub IsReadIn : Transaction → Option Near → Type 0
IsReadIn tx None = checked_reads_dpidr tx.request.addr tx.request.ap tx.request.read ≡ true
    → IsMovedIn tx.result None
IsReadIn tx (Some near) = IsMovedIn tx.result (Some near)

-- those of these words that DPIDR's may be
pub record NearIdentifies (words : Near) (known : Identification) (near : Near) : Type 0 where
  pub sound : IsNearSound words → IsNearSound near
  pub each : (n : ℕ) → IsCheckedNear near n → IsIdentified known n × IsCheckedNear words n

-- the bit 0 of each is 1
pub record IsNearOdd (near : Near) : Type 0 where
  pub each : (n : ℕ) → IsCheckedNear near n → register_bit 0 n ≡ true

-- what DPIDR's word may be after a read that may have returned these
pub record IdentificationLeaves (words : Near) (known left : Identification) : Type 0 where
  pub sound : IsNearSound words → IsWordSound left.word
  pub each : (n : ℕ) → IsIdentified left n → IsIdentified known n × IsCheckedNear words n
