-- What the worlds hold to which those after a part of a transaction were added: the targets that it leads to.
use Rattle.std.specs.Prelude.{ℕ, ◌≡◌, not, Bool, true, false, None}
use Rattle.swd_bits.specs.declared.request.Request.{Request}
use Rattle.swd_port.specs.declared.register.Register.{Register}
use Rattle.swd_port.specs.declared.register.Register.TheVariants.{CtrlStatRead}
use Rattle.swd_port.specs.Port.{Target}
use Rattle.swd_port.specs.Choices.{Choice}
use Rattle.swd_port.specs.declared.state.Reply.TheVariants.{Okay, Faults}
use Rattle.swd_port.specs.Answers.{is_exempt_register}
use Rattle.swd_port.specs.Asking.{port_after_okay, port_after_fault, port_answer, port_value_in, ctrl_stat_word_in}
use Rattle.swd_port.specs.Asking.{is_port_posted}
use Rattle.swd_port.specs.Moving.{Arrives, Damaged, port_after_bits}
use Rattle.swd_checker.specs.declared.near.Near.{Near}
use Rattle.swd_checker.specs.declared.worlds.Worlds.{Worlds}
use Rattle.swd_checker.specs.Worlds.{World, Held}
use Rattle.swd_checker.specs.Described.{WorldDescribes, IsCheckedNear, CheckedHeld}
use Rattle.swd_checker.specs.Holding.{WorldsHold}
use Rattle.swd_checker.specs.Steps.{WorldAccepts, is_found_late}

-- no power is found late
pub record IsCheckedPrompt (c : Choice) : Type 0 where
  pub debug : c.debug_late ≡ false
  pub system : c.system_late ≡ false

-- OK to a request whose data wasn't seen. A power is found late only where the acknowledgement was seen.
abbrev pub WorldsReturn : Worlds → World → Register → Type 0
WorldsReturn v w r = (c : Choice) (x : Target) → WorldAccepts w r c x → (r ≡ CtrlStatRead → IsCheckedPrompt c)
    → WorldsHold v w.awaits (port_after_okay c r x)

-- a read that returns the read buffer, of which this is known
abbrev pub WorldsPost : Worlds → World → Register → Held → Type 0
WorldsPost v w r held = (c : Choice) (x : Target) → is_port_posted r ≡ true → WorldAccepts w r c x
    → CheckedHeld held x.buffer → WorldsHold v w.awaits (port_after_okay c r x)

-- a read that returns one of these words. Where one of its bits was changed, no power is found late.
abbrev pub WorldsRead : Worlds → World → Register → Near → Bool → Type 0
WorldsRead v w r seen parity_ok = (c : Choice) (x : Target) → WorldAccepts w r c x
    → (parity_ok ≡ false → IsCheckedPrompt c) → IsCheckedNear seen (port_value_in c r x)
    → WorldsHold v w.awaits (port_after_okay c r x)

-- a read of CTRL/STAT
abbrev pub WorldsFind : Worlds → World → Near → Choice → Target → Type 0
WorldsFind v w seen c x = WorldDescribes w x → IsCheckedNear seen (ctrl_stat_word_in c x)
    → WorldsHold v w.awaits (port_after_okay c CtrlStatRead x)

-- the same of a world in which STICKYERR is as it was read, where each power was found late or not
abbrev pub WorldsFindPowers : Worlds → World → Near → Choice → Target → Type 0
WorldsFindPowers v w seen c x = x.sticky_error ≡ w.sticky_error → WorldsFind v w seen c x

abbrev pub is_debug_late : Choice → Target → Bool
is_debug_late c x = is_found_late c.debug_late x.debug_power x.debug_up

abbrev pub is_system_late : Choice → Target → Bool
is_system_late c x = is_found_late c.system_late x.system_power x.system_up

-- a write's word that arrives, and one that arrives damaged
abbrev pub WorldsArrive : Worlds → World → Register → ℕ → Type 0
WorldsArrive v w r word = (refuses : Bool) (x : Target) → (is_exempt_register r ≡ false → w.pending ≡ None)
    → WorldDescribes w x → WorldsHold v w.awaits (port_after_bits refuses (Arrives r word) x)

abbrev pub WorldsDamage : Worlds → World → Type 0
WorldsDamage v w = (refuses : Bool) (x : Target) → WorldDescribes w x
    → WorldsHold v w.awaits (port_after_bits refuses Damaged x)

-- a request whose acknowledgement wasn't seen: the target did nothing, answered FAULT, or OK
pub record WorldsLose (v : Worlds) (w : World) (q : Request) (r : Register) : Type 0 where
  pub nothing : (x : Target) → WorldDescribes w x → WorldsHold v w.awaits x
  pub faults : (x : Target) → WorldDescribes w x → x.pending ≡ None → port_answer x q ≡ Faults
      → WorldsHold v w.awaits (port_after_fault r q.ap x)
  pub okays : (c : Choice) (x : Target) → WorldDescribes w x → (is_exempt_register r ≡ false → x.pending ≡ None)
      → port_answer x q ≡ Okay → IsCheckedPrompt c → WorldsHold v (not q.read) (port_after_okay c r x)
