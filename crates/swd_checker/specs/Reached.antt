-- What has to be reached for each world that a part of a transaction adds.
use Rattle.std.specs.Prelude.{ℕ, ◌≡◌, ◌⊎◌, ◌<◌, ◌≤◌, ◌+◌, ◌*◌, ◌==◌, ◌&&◌, not, Bool, true, false, Some}
use Rattle.std.specs.Prelude.{is_some, if◌then◌else◌}
use Rattle.swd_bits.specs.declared.request.Request.{Request}
use Rattle.swd_port.specs.declared.register.Register.{Register}
use Rattle.swd_port.specs.declared.register.Register.TheVariants.{DpidrRead, AbortWrite, CtrlStatRead, CtrlStatWrite}
use Rattle.swd_port.specs.declared.register.Register.TheVariants.{SelectWrite, ResendRead, RdbuffRead, CswRead}
use Rattle.swd_port.specs.declared.register.Register.TheVariants.{CswWrite}
use Rattle.swd_port.specs.declared.register.Register.TheVariants.{TarRead, TarWrite, DrwRead, DrwWrite, ApOtherRead}
use Rattle.swd_port.specs.declared.register.Register.TheVariants.{ApOtherWrite}
use Rattle.swd_port.specs.declared.state.Reply.TheVariants.{Okay, Faults, Silent}
use Rattle.swd_port.specs.Registers.{register_bit, csw_of}
use Rattle.swd_port.specs.Answers.{is_exempt_register}
use Rattle.swd_port.specs.Asking.{is_port_posted}
use Rattle.swd_checker.specs.declared.near.Near.{Near}
use Rattle.swd_checker.specs.Worlds.{World, Power, Held, HeldWord, HeldCsw, HeldSeen, TransferRead, TransferWrite}
use Rattle.swd_checker.specs.Worlds.{TarUnknown, TarFrom, world_succeeded, world_failed, world_after_wait}
use Rattle.swd_checker.specs.Worlds.{world_after_fault, world_after_damage, world_confirmed}
use Rattle.swd_checker.specs.Described.{IsCheckedNear, checked_changed_at}
use Rattle.swd_checker.specs.Words.{IsCheckedStatus}
use Rattle.swd_checker.specs.Steps.{world_due, world_live, world_posted, world_selecting, world_cleared}
use Rattle.swd_checker.specs.Steps.{world_powered, world_written, checked_power_found}
use Rattle.swd_checker.specs.Exact.{IsTarSound}
use Rattle.swd_checker.specs.Reaching.{CheckedLink, WorldReaches, HeldNarrows, checked_near_of, checked_near_changed}

-- FAULT may be due, if the pending transfer was a bus error
abbrev pub MayFault : World → Request → Register → Type 0
MayFault w q r = (world_due w q ≡ Faults) ⊎ ((world_due w q ≡ Okay) × (is_exempt_register r ≡ false))

pub record WorldsRefuse (link : CheckedLink) (w : World) (q : Request) (r : Register) : Type 0 where
  pub refused : world_due w q ≡ Faults → WorldReaches link (world_after_fault r q.ap (world_succeeded w))
  pub failed : is_some w.pending ≡ true → MayFault w q r
      → WorldReaches link (world_after_fault r q.ap (world_failed w))

-- WAIT
abbrev pub WorldsDefer : CheckedLink → World → Request → Register → Type 0
WorldsDefer link w q r = world_due w q ≡ Okay → is_exempt_register r ≡ false
    → WorldReaches link (world_after_wait r w)

-- the world once OK was answered, before what the request does, where write data is awaited or not
abbrev pub world_accepted : Bool → Register → Bool → World → World
world_accepted awaits r ap w =
    record (if is_exempt_register r then w else world_confirmed ap w) { awaits = awaits }

-- after a read of TAR: each of its addresses
pub record WorldsPostTar (link : CheckedLink) (w : World) : Type 0 where
  pub sound : IsTarSound w.tar
  pub unknown : w.tar ≡ TarUnknown → WorldReaches link w
  pub each : (first more index : ℕ) → w.tar ≡ TarFrom first more → index ≤ more → WorldReaches link (record w {
    tar = TarFrom (first + 4 * index) 0;
    buffer = HeldSeen (checked_near_of (first + 4 * index));
  })

-- a read that returned the read buffer, of which this is known
pub record WorldsPostHeld (link : CheckedLink) (w : World) (r : Register) (held : Held) : Type 0 where
  pub csw : r ≡ CswRead → WorldReaches link (record (world_posted held w) { buffer = HeldCsw w.increments })
  pub tar : r ≡ TarRead → WorldsPostTar link (world_posted held w)
  pub drw : r ≡ DrwRead → WorldReaches link (record (world_posted held w) { pending = Some TransferRead })
  pub word : r ≡ ApOtherRead → WorldReaches link (record (world_posted held w) { buffer = HeldWord })
  pub error : r ≡ ApOtherRead → WorldReaches link (record (world_posted held w) { sticky_error = true })
  pub rdbuff : r ≡ RdbuffRead → WorldReaches link (world_posted held w)

-- OK to a request whose data wasn't seen, or that returns no word that is known
pub record WorldsReturnAny (link : CheckedLink) (w : World) (r : Register) : Type 0 where
  pub dpidr : r ≡ DpidrRead → WorldReaches link (world_live w)
  pub status : r ≡ CtrlStatRead → (debug system : Power) → checked_power_found w.debug false ≡ Some debug
      → checked_power_found w.system false ≡ Some system
      → WorldReaches link (record w { debug = debug; system = system })
  pub posted : is_port_posted r ≡ true → WorldsPostHeld link w r w.buffer
  pub other : is_port_posted r ≡ false → (r ≡ DpidrRead → ⊥) → (r ≡ CtrlStatRead → ⊥) → WorldReaches link w

-- a read of CTRL/STAT that found each power acknowledged, or late where that may be
abbrev pub WorldsFindAll : CheckedLink → World → Near → Bool → Type 0
WorldsFindAll link w seen may_be_late = (d s : Bool) (debug system : Power)
    → (may_be_late ≡ false → (d ≡ false) × (s ≡ false)) → checked_power_found w.debug d ≡ Some debug
    → checked_power_found w.system s ≡ Some system → (word : ℕ) → IsCheckedNear seen word
    → IsCheckedStatus (record w { debug = debug; system = system }) word
    → WorldReaches link (record w { debug = debug; system = system })

pub record WorldsReadStatus (link : CheckedLink) (w : World) (seen : Near) (may_be_late : Bool) : Type 0 where
  pub now : WorldsFindAll link w seen may_be_late
  pub failed : (is_some w.pending && not w.sticky_error) ≡ true
      → WorldsFindAll link (world_failed w) seen may_be_late

-- a read that returned one of these words
pub record WorldsReadSeen (link : CheckedLink) (w : World) (r : Register) (seen : Near) (ok : Bool) : Type 0 where
  pub status : r ≡ CtrlStatRead → WorldsReadStatus link w seen ok
  pub resend : r ≡ ResendRead → (held : Held) → HeldNarrows w.last_returned seen held
      → WorldReaches link (record w { last_returned = held })
  pub posted : is_port_posted r ≡ true → (held : Held) → HeldNarrows w.buffer seen held
      → WorldsPostHeld link w r held
  pub other : is_port_posted r ≡ false → (r ≡ CtrlStatRead → ⊥) → (r ≡ ResendRead → ⊥)
      → WorldsReturnAny link w r

-- a register whose write does nothing
pub record IsPassedWrite (r : Register) : Type 0 where
  pub abort : r ≡ AbortWrite → ⊥
  pub ctrl_stat : r ≡ CtrlStatWrite → ⊥
  pub select : r ≡ SelectWrite → ⊥
  pub csw : r ≡ CswWrite → ⊥
  pub tar : r ≡ TarWrite → ⊥
  pub drw : r ≡ DrwWrite → ⊥
  pub elsewhere : r ≡ ApOtherWrite → ⊥

-- a word that arrived at a write
pub record WorldsArriveAt (link : CheckedLink) (w : World) (r : Register) (word : ℕ) : Type 0 where
  pub abort : r ≡ AbortWrite → WorldReaches link (world_cleared word w)
  pub failed : r ≡ AbortWrite → (is_some w.pending && register_bit 2 word) ≡ true
      → WorldReaches link (world_cleared word (world_failed w))
  pub ctrl_stat : r ≡ CtrlStatWrite → WorldReaches link (world_powered word w)
  pub select : r ≡ SelectWrite → WorldReaches link (world_selecting word w)
  pub csw : r ≡ CswWrite
      → WorldReaches link (record (world_written w) { increments = (csw_of word).addr_inc == 1 })
  pub tar : r ≡ TarWrite → WorldReaches link (record (world_written w) { tar = TarFrom word 0 })
  pub drw : r ≡ DrwWrite → WorldReaches link (record (world_written w) { pending = Some TransferWrite })
  pub elsewhere : r ≡ ApOtherWrite → WorldReaches link (world_written w)
  pub error : r ≡ ApOtherWrite → WorldReaches link (record (world_written w) { sticky_error = true })
  pub passed : IsPassedWrite r → WorldReaches link w

-- a data phase with this word, after OK
pub record WorldsTransfer (link : CheckedLink) (w : World) (r : Register) (read clean : Bool) (word : ℕ) (ok : Bool)
    : Type 0 where
  pub written : read ≡ false → ok ≡ true → WorldsArriveAt link w r word
  pub damaged : read ≡ false → (ok ≡ true → clean ≡ false) → WorldReaches link (world_after_damage w)
  pub cured : read ≡ false → ok ≡ false → clean ≡ false → (place : ℕ) → place < 33
      → WorldsArriveAt link w r (checked_changed_at word place)
  pub whole : read ≡ true → ok ≡ true → WorldsReadSeen link w r (checked_near_of word) true
  pub changed : read ≡ true → ok ≡ false → clean ≡ false → WorldsReadSeen link w r (checked_near_changed word) false

abbrev pub WorldsMove : CheckedLink → World → Request → Register → Bool → ℕ → Bool → Type 0
WorldsMove link w q r clean word ok = world_due w q ≡ Okay
    → WorldsTransfer link (world_accepted false r q.ap w) r q.read clean word ok

-- OK that wasn't seen
abbrev pub WorldsLoseOkay : CheckedLink → World → Request → Register → Type 0
WorldsLoseOkay link w q r = world_due w q ≡ Okay → WorldsReturnAny link (world_accepted (not q.read) r q.ap w) r

-- a request that the target didn't see, or whose answer was damaged
pub record WorldsLoseAny (link : CheckedLink) (w : World) (q : Request) (r : Register) : Type 0 where
  pub nothing : WorldReaches link w
  pub faults : WorldsRefuse link w q r
  pub okays : WorldsLoseOkay link w q r

pub record WorldsLoseSeen (link : CheckedLink) (w : World) (q : Request) (r : Register) (clean : Bool) (seen : ℕ)
    : Type 0 where
  pub quiet : world_due w q ≡ Silent → seen ≡ 7 → WorldReaches link w
  pub lost : clean ≡ false → WorldsLoseAny link w q r
