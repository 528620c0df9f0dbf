-- Laws of requests: what each changes, by its register and the flags.
use Rattle.std.specs.Prelude.{ℕ, ◌≡◌, ◌≢◌, ◌⊎◌, Bool, true, false, None}
use Rattle.swd_bits.specs.declared.request.Request.{Request}
use Rattle.swd_port.specs.declared.access.Access.{Access}
use Rattle.swd_port.specs.Bus.{Bus}
use Rattle.swd_port.specs.Port.{Port, Target, Register, DpidrRead, DrwRead, ApOtherRead, Unreset, Live}
use Rattle.swd_port.specs.Port.{port_register}
use Rattle.swd_port.specs.Answers.{is_exempt_register}
use Rattle.swd_port.specs.Completion.{PortCompletes}
use Rattle.swd_port.specs.Asking.{PortAsks, port_has_power}
use Rattle.swd_port.specs.GivingUp.{PortAsksKept}
use Rattle.swd_port.specs.Moves.{PortAround}
use Rattle.swd_port.specs.Outcomes.{PortSteady, PortUnmoved, PortIgnores, PortRefuses, PortAccepts, PortOkaySeen}
use Rattle.swd_port.specs.Outcomes.{PortWaitSeen, PortFaultSeen, PortNoneSeen}
use Rattle.swd_port.specs.Outcomes.{PortOkayOrLost, PortOkayWaitOrLost, PortFaultOrLost}
use Rattle.swd_port.specs.Transfers.{PortSent, PortSucceeded, PortFailed}

-- STICKYERR or WDATAERR is set
abbrev pub PortIsFlagged : Target → Type 0
PortIsFlagged x = (x.sticky_error ≡ true) ⊎ (x.write_error ≡ true)

-- debug power is on, if a request is for an access port
abbrev pub PortIsPowered : Bool → Target → Type 0
PortIsPowered ap x = ap ≡ true → port_has_power x ≡ true

-- a live target answers an exempt request OK, unless it is lost, where no write is given up before it
abbrev pub PortExemptRequest : Type 0
PortExemptRequest = (r : Register) (q : Request) (seen : ℕ) (s t : Port) → port_register s.target.select q ≡ r →
    is_exempt_register r ≡ true → s.target.reset ≡ Live → PortAsksKept s q seen t
    → PortAround (PortOkayOrLost r q.read seen) s t

-- the same without a pending transfer: exactly that
abbrev pub PortExemptAtRest : Type 0
PortExemptAtRest = (r : Register) (q : Request) (seen : ℕ) (s t : Port) → port_register s.target.select q ≡ r →
    is_exempt_register r ≡ true → s.target.reset ≡ Live → s.target.pending ≡ None → PortAsks s q seen t →
    PortOkayOrLost r q.read seen s t

-- a target that had a line reset answers a DPIDR read OK and is live after it, unless the request is lost
abbrev pub PortIdentificationRead : Type 0
PortIdentificationRead = (q : Request) (seen : ℕ) (s t : Port) → port_register s.target.select q ≡ DpidrRead →
    s.target.reset ≢ Unreset → PortAsksKept s q seen t → PortAround (PortOkayOrLost DpidrRead q.read seen) s t

abbrev pub PortIdentificationAtRest : Type 0
PortIdentificationAtRest = (q : Request) (seen : ℕ) (s t : Port) → port_register s.target.select q ≡ DpidrRead →
    s.target.reset ≢ Unreset → s.target.pending ≡ None → PortAsks s q seen t → PortOkayOrLost DpidrRead q.read seen s t

-- a live target with a flag set answers every other request FAULT, unless it is lost
abbrev pub PortFlaggedRequest : Type 0
PortFlaggedRequest = (r : Register) (q : Request) (seen : ℕ) (s t : Port) → port_register s.target.select q ≡ r →
    is_exempt_register r ≡ false → s.target.reset ≡ Live → PortIsFlagged s.target → PortAsks s q seen t →
    PortAround (PortFaultOrLost r q.ap seen) s t

abbrev pub PortFlaggedAtRest : Type 0
PortFlaggedAtRest = (r : Register) (q : Request) (seen : ℕ) (s t : Port) → port_register s.target.select q ≡ r →
    is_exempt_register r ≡ false → s.target.reset ≡ Live → s.target.pending ≡ None → PortIsFlagged s.target
    → PortAsks s q seen t → PortFaultOrLost r q.ap seen s t

-- a live target without debug power and without a pending transfer answers every AP access FAULT, unless it is lost
abbrev pub PortUnpoweredAtRest : Type 0
PortUnpoweredAtRest = (r : Register) (q : Request) (seen : ℕ) (s t : Port) → port_register s.target.select q ≡ r →
    is_exempt_register r ≡ false → s.target.reset ≡ Live → s.target.pending ≡ None → q.ap ≡ true →
    port_has_power s.target ≡ false → PortAsks s q seen t → PortFaultOrLost r q.ap seen s t

-- OK or WAIT, or FAULT if STICKYERR is set when the request is answered, unless it is lost
abbrev pub PortFreeOrFault : Register → Request → ℕ → Port → Port → Type 0
PortFreeOrFault r q seen s t =
    ((s.target.sticky_error ≡ false) × PortOkayWaitOrLost r q.read seen s t) ⊎
    ((s.target.sticky_error ≡ true) × PortFaultOrLost r q.ap seen s t)

-- A live target with WDATAERR clear that is powered for this request answers so. The pending transfer may set
-- STICKYERR.
abbrev pub PortFreeRequest : Type 0
PortFreeRequest = (r : Register) (q : Request) (seen : ℕ) (s t : Port) → port_register s.target.select q ≡ r →
    is_exempt_register r ≡ false → s.target.reset ≡ Live → s.target.write_error ≡ false → PortIsPowered q.ap s.target →
    PortAsks s q seen t → PortAround (PortFreeOrFault r q seen) s t

-- without a pending transfer or a flag: OK, WAIT or lost; a completion may follow
abbrev pub PortFreeAtRest : Type 0
PortFreeAtRest = (r : Register) (q : Request) (seen : ℕ) (s t : Port) → port_register s.target.select q ≡ r →
    is_exempt_register r ≡ false → s.target.reset ≡ Live → s.target.pending ≡ None → s.target.write_error ≡ false →
    s.target.sticky_error ≡ false → PortIsPowered q.ap s.target → PortAsks s q seen t →
    (b : Port) × PortOkayWaitOrLost r q.read seen s b × PortCompletes b t

-- the same for every request but a DRW read: exactly that
abbrev pub PortFreeExact : Type 0
PortFreeExact = (r : Register) (q : Request) (seen : ℕ) (s t : Port) → port_register s.target.select q ≡ r →
    is_exempt_register r ≡ false → r ≢ DrwRead → s.target.reset ≡ Live → s.target.pending ≡ None →
    s.target.write_error ≡ false → s.target.sticky_error ≡ false → PortIsPowered q.ap s.target → PortAsks s q seen t →
    PortOkayWaitOrLost r q.read seen s t

-- what is unchanged in all cases: at an exempt request, at a free one except a read of DRW or of an AP register
-- elsewhere, and at a refused one with power
abbrev pub PortUnmovedByExempt : Type 0
PortUnmovedByExempt = (r : Register) (read : Bool) (seen : ℕ) (s t : Port) → is_exempt_register r ≡ true →
    PortOkayOrLost r read seen s t → PortUnmoved s.target t.target

abbrev pub PortUnmovedByFree : Type 0
PortUnmovedByFree = (r : Register) (read : Bool) (seen : ℕ) (s t : Port) → r ≢ DrwRead → r ≢ ApOtherRead →
    PortOkayWaitOrLost r read seen s t → PortUnmoved s.target t.target

abbrev pub PortUnmovedByRefused : Type 0
PortUnmovedByRefused = (r : Register) (access : Bool) (seen : ℕ) (s t : Port) → PortIsPowered access s.target →
    PortFaultOrLost r access seen s t → PortUnmoved s.target t.target

-- a refused request doesn't change STICKYERR, unless it is an AP access without debug power
abbrev pub PortRefusedWithPower : Type 0
PortRefusedWithPower = (r : Register) (access : Bool) (s t : Port) → PortRefuses r access s t
    → PortIsPowered access s.target → t.target.sticky_error ≡ s.target.sticky_error

-- what a lost request keeps, whether it had its effect or not
abbrev pub PortLeftByLost : Register → Target → Target → Type 0
PortLeftByLost r x y = PortSteady x y × ((y.sticky_error ≡ x.sticky_error) ⊎ (r ≡ ApOtherRead))
    × ((y.pending ≡ x.pending) ⊎ (r ≡ DrwRead))

abbrev pub PortLostRequest : Type 0
PortLostRequest = (r : Register) (read : Bool) (s t : Port) →
    PortIgnores s t ⊎ PortAccepts r read None s t → PortLeftByLost r s.target t.target

-- a lost request had no effect, or that of the OK that confirms success, or that of the FAULT that shows a bus error
abbrev pub PortLostAfter : Access → Bus → Register → Request → Port → Port → Type 0
PortLostAfter access m r q s t =
    PortIgnores s t ⊎ ((PortSucceeded access m s.target × PortAccepts r q.read None s t)
    ⊎ (PortFailed access m s.target × PortRefuses r q.ap s t))

-- The result of a request that isn't exempt, after a transfer was sent, at a live target with WDATAERR clear that is
-- powered for it. OK confirms that the transfer was done, FAULT shows that it was a bus error, and WAIT shows neither.
pub data PortConfirms (a : Access) (m : Bus) (r : Register) (q : Request) (seen : ℕ) (s t : Port) : Type 0 where
  confirms_okay : PortSucceeded a m s.target → PortOkaySeen r q.read seen s t → PortConfirms a m r q seen s t
  confirms_wait : PortSent a m s.target → PortWaitSeen r seen s t → PortConfirms a m r q seen s t
  confirms_fault : PortFailed a m s.target → PortFaultSeen r q.ap seen s t → PortConfirms a m r q seen s t
  confirms_lost : PortSent a m s.target → PortNoneSeen seen s t → PortLostAfter a m r q s t
      → PortConfirms a m r q seen s t

abbrev pub PortConfirmingRequest : Type 0
PortConfirmingRequest = (access : Access) (m : Bus) (r : Register) (q : Request) (seen : ℕ) (s t : Port) →
    PortSent access m s.target → port_register s.target.select q ≡ r → is_exempt_register r ≡ false
    → s.target.reset ≡ Live → s.target.write_error ≡ false → PortIsPowered q.ap s.target → PortAsks s q seen t →
    PortAround (PortConfirms access m r q seen) s t
