-- A read of DRW or RDBUFF with right parity, in a world: there is one world after it.
use Rattle.std.specs.Prelude.{ℕ, ◌≡◌, Bool, false, Option, Some, None, unwrap_or}
use Rattle.swd_bits.specs.declared.request.Request.{Request}
use Rattle.swd_port.specs.declared.register.Register.{Register}
use Rattle.swd_port.specs.declared.register.Register.TheVariants.{DrwRead}
use Rattle.swd_port.specs.declared.state.Reply.TheVariants.{Okay}
use Rattle.swd_checker.specs.Worlds.{World, Held, Transfer, TransferRead, world_confirmed}
use Rattle.swd_checker.specs.Described.{CheckedHeld, IsCheckedNear}
use Rattle.swd_checker.specs.Exact.{IsNearSound}
use Rattle.swd_checker.specs.Reaching.{HeldNarrows, checked_near_of}
use Rattle.swd_checker.specs.Steps.{world_due, world_posted}

-- the transfer that is pending after a read
abbrev pub world_read_pending : Register → Option Transfer
world_read_pending DrwRead = Some TransferRead
world_read_pending r = None

-- after a read with OK that returned the read buffer, with this known of it
abbrev pub world_reading : Register → Bool → Held → World → World
world_reading r ap held w =
    record (world_posted held (record (world_confirmed ap w) { awaits = false })) { pending = world_read_pending r }

-- what is known of the read buffer once it was returned as this word
pub record WorldReturns (w : World) (q : Request) (word : ℕ) (held : Held) : Type 0 where
  pub okay : world_due w q ≡ Okay
  pub all : (value : Option ℕ) (filler : ℕ) → CheckedHeld (world_confirmed q.ap w).buffer value
      → IsCheckedNear (checked_near_of word) (unwrap_or value filler) → CheckedHeld held value
  pub exact : IsNearSound (checked_near_of word)
      → HeldNarrows (world_confirmed q.ap w).buffer (checked_near_of word) held
