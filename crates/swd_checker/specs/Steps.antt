-- What the worlds before a transaction have to do with the targets after it.
use Rattle.std.specs.Prelude.{ℕ, ◌≡◌, ◌&&◌, ◌==◌, not, Bool, true, false, Option, Some, None}
use Rattle.swd_bits.specs.declared.request.Request.{Request}
use Rattle.swd_port.specs.declared.register.Register.{Register}
use Rattle.swd_port.specs.declared.state.PowerUp.{PowerUp}
use Rattle.swd_port.specs.declared.register.Register.TheVariants.{CtrlStatRead}
use Rattle.swd_port.specs.declared.state.Reset.TheVariants.{Live}
use Rattle.swd_port.specs.declared.state.Reply.{Reply}
use Rattle.swd_port.specs.Port.{Target, port_register_where, port_selects_mem_ap}
use Rattle.swd_port.specs.Choices.{Choice}
use Rattle.swd_port.specs.Answers.{is_exempt_register, port_answer_by, is_port_unpowered, is_port_power_there}
use Rattle.swd_port.specs.Asking.{debug_up_after, power_up_after}
use Rattle.swd_port.specs.Registers.{register_bit, select_of}
use Rattle.swd_checker.specs.Worlds.{World, Held, HeldUnknown, Power, PowerOff, PowerUnseen, PowerLate, PowerSeen}
use Rattle.swd_checker.specs.Worlds.{is_checked_power_there, TransferWrite}
use Rattle.swd_checker.specs.Described.{IsWorldNow, WorldDescribes, CheckedPower}
use Rattle.swd_checker.specs.Words.{is_checked_power_on, is_checked_power_seen}

-- the register that a request names
abbrev pub world_register : World → Request → Register
world_register w q = port_register_where w.mem_ap w.bank0 q.ap q.read q.addr

-- the answer where nothing is pending, and no WAIT is asked for
abbrev pub world_due : World → Request → Reply
world_due w q = port_answer_by w.reset w.sticky_error w.write_error
    (is_port_unpowered q.ap (is_checked_power_there w.debug)) (world_register w q)

-- a write is pending, and the request can't wait for it
pub record MayGiveUp (w : World) (q : Request) : Type 0 where
  pub write : w.pending ≡ Some TransferWrite
  pub exempt : is_exempt_register (world_register w q) ≡ true

-- A world once OK was answered to a request, before what the request does. Where the request can be refused, nothing is
-- pending, and debug power is as it is after the OK.
pub record WorldAccepts (w : World) (r : Register) (c : Choice) (x : Target) : Type 0 where
  pub exempt : is_exempt_register r ≡ true → WorldDescribes w x
  pub confirmed : is_exempt_register r ≡ false
      → IsWorldNow w (record x { debug_up = debug_up_after c.debug_late r x.debug_up })
  pub settled : is_exempt_register r ≡ false → w.pending ≡ None

-- a power that is requested is found late, or isn't
abbrev pub is_found_late : Bool → Bool → PowerUp → Bool
is_found_late late on up = on && not (is_port_power_there (power_up_after late CtrlStatRead up))

-- DPIDR was read
abbrev pub world_live : World → World
world_live w = record w { reset = Live }

-- the read buffer was returned, with this known of it
abbrev pub world_posted : Held → World → World
world_posted held w = record w { read_ok = true; last_returned = held; buffer = HeldUnknown }

-- SELECT was written
abbrev pub world_selecting : ℕ → World → World
world_selecting word w = record w {
  mem_ap = port_selects_mem_ap (select_of word);
  bank0 = (select_of word).dpbanksel == 0;
}

-- ABORT was written
abbrev pub world_cleared : ℕ → World → World
world_cleared word w = record w {
  sticky_error = w.sticky_error && not (register_bit 2 word);
  write_error = w.write_error && not (register_bit 3 word);
}

-- a power after a read of CTRL/STAT found it late, or not
abbrev pub checked_power_found : Power → Bool → Option Power
checked_power_found PowerOff false = Some PowerOff
checked_power_found power false = Some PowerSeen
checked_power_found PowerUnseen true = Some PowerLate
checked_power_found PowerLate true = Some PowerLate
checked_power_found power true = None

-- a power whose request bit was written
abbrev pub checked_power_requested : Bool → Power
checked_power_requested true = PowerUnseen
checked_power_requested false = PowerOff

-- CTRL/STAT was written: its request bits
abbrev pub world_powered : ℕ → World → World
world_powered word w = record w {
  debug = checked_power_requested (register_bit 28 word);
  system = checked_power_requested (register_bit 30 word);
}

-- a word arrived at an access port
abbrev pub world_written : World → World
world_written w = record w { buffer = HeldUnknown; last_returned = HeldUnknown }

-- what was found of a power: its request bit, and its acknowledgement
pub record PowerFound (power : Power) (on : Bool) (up : PowerUp) : Type 0 where
  pub is : CheckedPower power on up
  pub asked : on ≡ is_checked_power_on power
  pub there : (on && is_port_power_there up) ≡ is_checked_power_seen power

abbrev pub IsPowerFound : Option Power → Bool → PowerUp → Type 0
IsPowerFound None on up = ⊥
IsPowerFound (Some power) on up = PowerFound power on up
