-- What a world describes at first, and after OK to a request that can be refused.
use Rattle.std.proofs.Common.{◌≡◌, Bool, true, false, refl, sym, subst, arith, ◌∙◌}
use Rattle.std.specs.Prelude.{if◌then◌else◌}
use Rattle.swd_port.specs.declared.register.Register.{Register}
use Rattle.swd_port.specs.declared.register.Register.TheVariants.{DpidrRead, AbortWrite, CtrlStatRead, CtrlStatWrite}
use Rattle.swd_port.specs.declared.register.Register.TheVariants.{SelectWrite, ResendRead, RdbuffRead, DpOtherRead}
use Rattle.swd_port.specs.declared.register.Register.TheVariants.{DpIgnoredWrite, CswRead, CswWrite, TarRead, TarWrite}
use Rattle.swd_port.specs.declared.register.Register.TheVariants.{DrwRead, DrwWrite, ApOtherRead, ApOtherWrite}
use Rattle.swd_port.specs.declared.state.PowerUp.{PowerUp}
use Rattle.swd_port.specs.Port.{Target}
use Rattle.swd_port.specs.Answers.{is_exempt_register}
use Rattle.swd_port.specs.Asking.{is_access_port_register, debug_up_after}
use Rattle.swd_checker.specs.Worlds.{World, Power, PowerSeen, world_success_of, world_succeeded}
use Rattle.swd_checker.specs.Described.{CheckedPower, IsWorldNow, now, done, failed}
use Rattle.swd_checker.specs.Laws.{WorldAtMade, WorldAtOkay}
use Rattle.swd_checker.proofs.DescribedLemmas.{world_pends_nothing}

-- the law of the reset state
pub world_at_made : WorldAtMade
world_at_made identification bus = record {
  target = now (record {
    reset = refl;
    sticky_error = refl;
    write_error = refl;
    read_ok = refl;
    debug = refl;
    system = refl;
    mem_ap = refl;
    bank0 = refl;
    increments = refl;
    pending = refl;
    tar = (0, omega arith, refl);
    buffer = tt;
    last_returned = tt;
  });
  awaits = refl;
}

-- which registers show that debug power is there
powered : (r : Register) (late : Bool) (power : Power) (on : Bool) (up : PowerUp) → is_exempt_register r ≡ false
    → (is_access_port_register r ≡ true → on ≡ true) → CheckedPower power on up
    → CheckedPower (if is_access_port_register r then PowerSeen else power) on (debug_up_after late r up)
powered DpidrRead late power on up can on_there h = absurd (let e : true ≡ false = can in cc)
powered AbortWrite late power on up can on_there h = absurd (let e : true ≡ false = can in cc)
powered CtrlStatRead late power on up can on_there h = absurd (let e : true ≡ false = can in cc)
powered CtrlStatWrite late power on up can on_there h = h
powered SelectWrite late power on up can on_there h = h
powered ResendRead late power on up can on_there h = h
powered RdbuffRead late power on up can on_there h = h
powered DpOtherRead late power on up can on_there h = h
powered DpIgnoredWrite late power on up can on_there h = h
powered CswRead late power on up can on_there h = (on_there refl, refl)
powered CswWrite late power on up can on_there h = (on_there refl, refl)
powered TarRead late power on up can on_there h = (on_there refl, refl)
powered TarWrite late power on up can on_there h = (on_there refl, refl)
powered DrwRead late power on up can on_there h = (on_there refl, refl)
powered DrwWrite late power on up can on_there h = (on_there refl, refl)
powered ApOtherRead late power on up can on_there h = (on_there refl, refl)
powered ApOtherWrite late power on up can on_there h = (on_there refl, refl)

-- the same of the whole world
pub world_now_okays : (v : World) (r : Register) (late : Bool) (x : Target) → is_exempt_register r ≡ false
    → (is_access_port_register r ≡ true → x.debug_power ≡ true) → IsWorldNow v x
    → IsWorldNow (record v { debug = if is_access_port_register r then PowerSeen else v.debug })
    (record x { debug_up = debug_up_after late r x.debug_up })
world_now_okays v r late x can on h = record {
  reset = h.reset;
  sticky_error = h.sticky_error;
  write_error = h.write_error;
  read_ok = h.read_ok;
  debug = powered r late v.debug x.debug_power x.debug_up can on h.debug;
  system = h.system;
  mem_ap = h.mem_ap;
  bank0 = h.bank0;
  increments = h.increments;
  pending = h.pending;
  tar = h.tar;
  buffer = h.buffer;
  last_returned = h.last_returned;
}

-- the law of OK to a request that can be refused
pub world_at_okay : WorldAtOkay
world_at_okay w r late x can none clear on (now h) = world_now_okays (world_succeeded w) r late x can on
    (subst (λ p. IsWorldNow (world_success_of p w) x) (sym (world_pends_nothing w x none h)) h)
world_at_okay w r late x can none clear on (done pends h) = world_now_okays (world_succeeded w) r late x can on h
world_at_okay w r late x can none clear on (failed pends h) =
    absurd (let e : true ≡ false = sym h.sticky_error ∙ clear in cc)
