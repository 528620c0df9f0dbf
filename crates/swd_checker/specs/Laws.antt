-- What worlds describe, step by step: the laws that `Checker` rests on.
use Rattle.std.specs.Prelude.{ℕ, ◌≡◌, ◌≢◌, ◌⊎◌, Bool, true, false, None, is_some}
use Rattle.swd_port.specs.declared.register.Register.{Register}
use Rattle.swd_port.specs.Bus.{Bus}
use Rattle.swd_port.specs.Port.{Port, Target}
use Rattle.swd_port.specs.Made.{port_made}
use Rattle.swd_port.specs.Leading.{PortLeads, port_line_awaits}
use Rattle.swd_port.specs.Completion.{PortCompletes}
use Rattle.swd_port.specs.Answers.{is_exempt_register}
use Rattle.swd_port.specs.Asking.{port_after_wait, port_after_fault, is_access_port_register, debug_up_after}
use Rattle.swd_port.specs.Moving.{Damaged, port_after_bits}
use Rattle.swd_checker.specs.Worlds.{World, world_succeeded, world_failed, world_after_reset, world_after_wait}
use Rattle.swd_checker.specs.Worlds.{world_after_fault, world_after_damage, world_made, world_confirmed}
use Rattle.swd_checker.specs.Described.{IsWorldNow, WorldDescribes}

-- a world describes a port: its target, and whether write data is awaited
pub record WorldDescribesPort (w : World) (s : Port) : Type 0 where
  pub target : WorldDescribes w s.target
  pub awaits : port_line_awaits s.link.line ≡ w.awaits

-- what a world describes, it still describes once the pending transfer takes effect
abbrev pub WorldAtCompletion : Type 0
WorldAtCompletion = (w : World) (s t : Port) → PortCompletes s t → WorldDescribesPort w s → WorldDescribesPort w t

-- idle cycles change nothing,
abbrev pub WorldAtIdle : Type 0
WorldAtIdle = (w : World) (s t : Port) → PortLeads s 0 t → WorldDescribesPort w s → WorldDescribesPort w t

-- and after a line reset
abbrev pub WorldAtReset : Type 0
WorldAtReset = (w : World) (ones : ℕ) (s t : Port) → ones ≢ 0 → PortLeads s ones t → WorldDescribesPort w s
    → WorldDescribesPort (world_after_reset w) t

-- WAIT changes READOK alone
abbrev pub WorldAtWait : Type 0
WorldAtWait = (w : World) (r : Register) (x : Target) → WorldDescribes w x
    → WorldDescribes (world_after_wait r w) (port_after_wait r x)

-- A target that answers FAULT has no transfer pending: it succeeded, or was a bus error.
abbrev pub WorldAtFault : Type 0
WorldAtFault = (w : World) (r : Register) (ap : Bool) (x : Target) → x.pending ≡ None → WorldDescribes w x
    → IsWorldNow (world_after_fault r ap (world_succeeded w)) (port_after_fault r ap x)
    ⊎ ((is_some w.pending ≡ true) × IsWorldNow (world_after_fault r ap (world_failed w)) (port_after_fault r ap x))

-- A write whose data arrives damaged sets WDATAERR alone.
abbrev pub WorldAtDamage : Type 0
WorldAtDamage = (w : World) (refuses : Bool) (x : Target) → WorldDescribes w x
    → WorldDescribes (world_after_damage w) (port_after_bits refuses Damaged x)

-- the reset state
abbrev pub WorldAtMade : Type 0
WorldAtMade = (identification : ℕ) (bus : Bus) → WorldDescribesPort world_made (port_made identification bus)

-- A target that answers OK to a request that can be refused has no transfer pending and STICKYERR clear, and an access
-- port that answers has power, which is acknowledged from then on.
abbrev pub WorldAtOkay : Type 0
WorldAtOkay = (w : World) (r : Register) (late : Bool) (x : Target) → is_exempt_register r ≡ false → x.pending ≡ None
    → x.sticky_error ≡ false → (is_access_port_register r ≡ true → x.debug_power ≡ true) → WorldDescribes w x
    → IsWorldNow (world_confirmed (is_access_port_register r) w)
    (record x { debug_up = debug_up_after late r x.debug_up })
