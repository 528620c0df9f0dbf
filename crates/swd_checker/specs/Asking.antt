-- A transaction's request in one of the worlds.
use Rattle.std.specs.Prelude.{◌≡◌, false, Option, Some, None}
use Rattle.swd_port.specs.declared.register.Register.{Register}
use Rattle.swd_port.specs.Port.{Target}
use Rattle.swd_port.specs.Choices.{Choice}
use Rattle.swd_port.specs.declared.state.Reply.TheVariants.{Okay}
use Rattle.swd_port.specs.Answers.{is_exempt_register}
use Rattle.swd_port.specs.Asking.{port_answer}
use Rattle.swd_checker.specs.declared.step.Asked.{Asked}
use Rattle.swd_checker.specs.Worlds.{World}
use Rattle.swd_checker.specs.Described.{WorldDescribes}
use Rattle.swd_checker.specs.Steps.{world_register, WorldAccepts}

-- the register is the one that the request names
pub record IsAskedBy (asked : Asked) : Type 0 where
  pub register : asked.register ≡ world_register asked.world asked.request

-- the same request, where the same may be damaged or lost
pub record IsAskedAlike (asked other : Asked) : Type 0 where
  pub request : asked.request ≡ other.request
  pub register : asked.register ≡ other.register
  pub clean : asked.clean ≡ other.clean

-- the request in a world once OK was answered to it
abbrev pub IsAskedAccepted : Option Asked → Register → Choice → Target → Type 0
IsAskedAccepted None r c x = ⊥
IsAskedAccepted (Some now) r c x = WorldAccepts now.world r c x

-- the world is the one once the target answered OK
abbrev pub IsAskedTo : Asked → World → Type 0
IsAskedTo asked w = (c : Choice) (x : Target) → IsAskedBy asked → WorldDescribes asked.world x
    → (is_exempt_register asked.register ≡ false → x.pending ≡ None) → port_answer x asked.request ≡ Okay
    → WorldAccepts w asked.register c x
