-- Worlds after a read of CTRL/STAT.
use Rattle.std.proofs.Common.{◌≡◌, ◌≢◌, ◌<◌, ◌/◌, ◌%◌, ◌^◌, ℕ, Bool, true, false, refl, sym, ap, arith}
use Rattle.std.proofs.Common.{◌∙◌, inl, inr}
use Rattle.std.specs.Prelude.{Option, Some, None, is_some, ◌&&◌, ◌==◌}
use Rattle.swd_bits.specs.Bits.{bit}
use Rattle.swd_port.specs.Registers.{register_bit, ctrl_stat_read}
use Rattle.swd_port.specs.declared.state.PowerUp.{PowerUp}
use Rattle.swd_port.specs.declared.state.PowerUp.TheVariants.{Unseen, Late, Seen}
use Rattle.swd_port.specs.declared.register.Register.TheVariants.{CtrlStatRead}
use Rattle.swd_port.specs.Port.{Target}
use Rattle.swd_port.specs.Choices.{Choice}
use Rattle.swd_port.specs.Answers.{is_port_power_there}
use Rattle.swd_port.specs.Asking.{port_after_okay, power_up_after, ctrl_stat_word_in}
use Rattle.swd_port.proofs.StatusLaws.{ctrl_stat_word_reads}
use Rattle.swd_checker.specs.Worlds.{World, Transfer, Power, PowerOff, PowerUnseen, PowerLate, PowerSeen}
use Rattle.swd_checker.specs.Worlds.{world_success_of, world_failed}
use Rattle.swd_checker.specs.Described.{IsWorldNow, WorldDescribes, now, done, failed, CheckedPower}
use Rattle.swd_checker.specs.Words.{IsCheckedStatus}
use Rattle.swd_checker.specs.Steps.{is_found_late, checked_power_found, PowerFound, IsPowerFound}
use Rattle.swd_checker.specs.StepLaws.{WorldFindsPower, WorldAtStatus, WorldShowsSticky, WorldAtSticky}
use Rattle.swd_checker.proofs.ReadLemmas.{world_describes_map}

-- POWERS
off_found : (b late : Bool) (up : PowerUp) → b ≡ is_found_late late false up
    → IsPowerFound (checked_power_found PowerOff b) false up
off_found false late up e = record { is = refl; asked = refl; there = refl }
off_found true late up e = absurd (let f : true ≡ false = e in cc)

seen_found : (power : Power) → (power ≢ PowerOff) → (b : Bool) → b ≡ false
    → IsPowerFound (checked_power_found power b) true Seen
seen_found PowerOff some b e = absurd (some refl)
seen_found PowerUnseen some false e = record { is = (refl, refl); asked = refl; there = refl }
seen_found PowerLate some false e = record { is = (refl, refl); asked = refl; there = refl }
seen_found PowerSeen some false e = record { is = (refl, refl); asked = refl; there = refl }
seen_found PowerUnseen some true e = absurd (cc)
seen_found PowerLate some true e = absurd (cc)
seen_found PowerSeen some true e = absurd (cc)

late_found : (power : Power) → (power ≢ PowerOff) → (power ≢ PowerSeen) → (b : Bool) → b ≡ true
    → IsPowerFound (checked_power_found power b) true Late
late_found PowerOff some other b e = absurd (some refl)
late_found PowerSeen some other b e = absurd (other refl)
late_found PowerUnseen some other true e = record { is = (refl, refl); asked = refl; there = refl }
late_found PowerLate some other true e = record { is = (refl, refl); asked = refl; there = refl }
late_found PowerUnseen some other false e = absurd (cc)
late_found PowerLate some other false e = absurd (cc)

found_on : (power : Power) (b late : Bool) (up : PowerUp) → CheckedPower power true up
    → b ≡ is_found_late late true up
    → IsPowerFound (checked_power_found power b) true (power_up_after late CtrlStatRead up)
found_on PowerOff b late up h e = absurd (let f : true ≡ false = h in cc)
found_on PowerUnseen b false Unseen h e = seen_found PowerUnseen (λ f. cc) b e
found_on PowerUnseen b true Unseen h e = late_found PowerUnseen (λ f. cc) (λ f. cc) b e
found_on PowerUnseen b late Late h e = absurd (h.1 refl)
found_on PowerUnseen b late Seen h e = seen_found PowerUnseen (λ f. cc) b e
found_on PowerLate b late Unseen h e = absurd (let f : Unseen ≡ Late = h.1 in cc)
found_on PowerLate b late Seen h e = absurd (let f : Seen ≡ Late = h.1 in cc)
found_on PowerLate b false Late h e = seen_found PowerLate (λ f. cc) b e
found_on PowerLate b true Late h e = late_found PowerLate (λ f. cc) (λ f. cc) b e
found_on PowerSeen b late Unseen h e = absurd (let f : Unseen ≡ Seen = h.1 in cc)
found_on PowerSeen b late Late h e = absurd (let f : Late ≡ Seen = h.1 in cc)
found_on PowerSeen b late Seen h e = seen_found PowerSeen (λ f. cc) b e

-- what a read of CTRL/STAT finds of a power that a world describes
pub world_power_found : WorldFindsPower
world_power_found power b late true up h e = found_on power b late up h e
world_power_found PowerOff b late false up h e = off_found b late (power_up_after late CtrlStatRead up) e
world_power_found PowerUnseen b late false up h e = absurd (let f : false ≡ true = h.0 in cc)
world_power_found PowerLate b late false up h e = absurd (let f : false ≡ true = h.0 in cc)
world_power_found PowerSeen b late false up h e = absurd (let f : false ≡ true = h.0 in cc)

-- THE WORD
bit_small : (b : Bool) → bit b < 2
bit_small true = omega arith
bit_small false = omega arith

bit_is_one : (b : Bool) → (bit b == 1) ≡ b
bit_is_one true = refl
bit_is_one false = refl

asked_bits : (others : ℕ) (a b d e f g h : Bool)
    → (register_bit 28 (ctrl_stat_read others a b d e f g h) ≡ e)
    × (register_bit 30 (ctrl_stat_read others a b d e f g h) ≡ g)
asked_bits others a b d e f g h =
    let p5 = bit_small a in
    let p6 = bit_small b in
    let p7 = bit_small d in
    let p28 = bit_small e in
    let p29 = bit_small (e && f) in
    let p30 = bit_small g in
    let p31 = bit_small (g && h) in
    let debug : ctrl_stat_read others a b d e f g h / 2 ^ 28 % 2 ≡ bit e = omega arith in
    let system : ctrl_stat_read others a b d e f g h / 2 ^ 30 % 2 ≡ bit g = omega arith in
    (ap (λ x. x == 1) debug ∙ bit_is_one e, ap (λ x. x == 1) system ∙ bit_is_one g)

-- what a world that describes a target has of it, whether or not its transfer took effect
pub record WorldShares (w : World) (x : Target) : Type 0 where
  pub read_ok : x.read_ok ≡ w.read_ok
  pub write_error : x.write_error ≡ w.write_error
  pub debug : CheckedPower w.debug x.debug_power x.debug_up
  pub system : CheckedPower w.system x.system_power x.system_up

shares_success : (w : World) (pending : Option Transfer) (x : Target) → IsWorldNow (world_success_of pending w) x
    → WorldShares w x
shares_success w None x h =
    record { read_ok = h.read_ok; write_error = h.write_error; debug = h.debug; system = h.system }
shares_success w (Some transfer) x h =
    record { read_ok = h.read_ok; write_error = h.write_error; debug = h.debug; system = h.system }

-- a world that describes a target has these of it
pub world_shares : (w : World) (x : Target) → WorldDescribes w x → WorldShares w x
world_shares w x (now h) =
    record { read_ok = h.read_ok; write_error = h.write_error; debug = h.debug; system = h.system }
world_shares w x (done pends h) = shares_success w w.pending x h
world_shares w x (failed pends h) =
    record { read_ok = h.read_ok; write_error = h.write_error; debug = h.debug; system = h.system }

status_shows : (w : World) (c : Choice) (x : Target) (debug system : Power) → WorldDescribes w x
    → x.sticky_error ≡ w.sticky_error
    → PowerFound debug x.debug_power (power_up_after c.debug_late CtrlStatRead x.debug_up)
    → PowerFound system x.system_power (power_up_after c.system_late CtrlStatRead x.system_up)
    → IsCheckedStatus (record w { debug = debug; system = system }) (ctrl_stat_word_in c x)
status_shows w c x debug system h sticky d s =
    let shares : WorldShares w x = world_shares w x h in
    let reads = ctrl_stat_word_reads c.others x.sticky_error x.read_ok x.write_error
    x.debug_power (is_port_power_there (power_up_after c.debug_late CtrlStatRead x.debug_up))
    x.system_power (is_port_power_there (power_up_after c.system_late CtrlStatRead x.system_up)) in
    let asked = asked_bits c.others x.sticky_error x.read_ok x.write_error
    x.debug_power (is_port_power_there (power_up_after c.debug_late CtrlStatRead x.debug_up))
    x.system_power (is_port_power_there (power_up_after c.system_late CtrlStatRead x.system_up)) in
    record {
      sticky_error = reads.sticky_bit ∙ sticky;
      read_ok = reads.ok_bit ∙ shares.read_ok;
      write_error = reads.write_bit ∙ shares.write_error;
      debug = asked.0 ∙ d.asked;
      debug_there = reads.debug_bit ∙ d.there;
      system = asked.1 ∙ s.asked;
      system_there = reads.system_bit ∙ s.there;
    }

-- after CTRL/STAT was read
pub world_now_finds : (v : World) (c : Choice) (x : Target) (debug system : Power)
    → CheckedPower debug x.debug_power (power_up_after c.debug_late CtrlStatRead x.debug_up)
    → CheckedPower system x.system_power (power_up_after c.system_late CtrlStatRead x.system_up) → IsWorldNow v x
    → IsWorldNow (record v { debug = debug; system = system }) (port_after_okay c CtrlStatRead x)
world_now_finds v c x debug system d s h = record {
  reset = h.reset;
  sticky_error = h.sticky_error;
  write_error = h.write_error;
  read_ok = h.read_ok;
  debug = d;
  system = s;
  mem_ap = h.mem_ap;
  bank0 = h.bank0;
  increments = h.increments;
  pending = h.pending;
  tar = h.tar;
  buffer = h.buffer;
  last_returned = h.last_returned;
}

powers_success : (w : World) (debug system : Power) (pending : Option Transfer)
    → (record (world_success_of pending w) { debug = debug; system = system })
    ≡ world_success_of pending (record w { debug = debug; system = system })
powers_success w debug system None = refl
powers_success w debug system (Some transfer) = refl

-- the world in which the powers were found so describes the target,
pub world_finds : (w : World) (c : Choice) (x : Target) (debug system : Power)
    → CheckedPower debug x.debug_power (power_up_after c.debug_late CtrlStatRead x.debug_up)
    → CheckedPower system x.system_power (power_up_after c.system_late CtrlStatRead x.system_up) → WorldDescribes w x
    → WorldDescribes (record w { debug = debug; system = system }) (port_after_okay c CtrlStatRead x)
world_finds w c x debug system d s h =
    world_describes_map (λ v. record v { debug = debug; system = system }) (λ y. port_after_okay c CtrlStatRead y) w x
    (λ v e. world_now_finds v c x debug system d s e) refl (powers_success w debug system) refl h

-- and CTRL/STAT returns what it has
pub world_at_status : WorldAtStatus
world_at_status w c x debug system h sticky d s =
    (status_shows w c x debug system h sticky d s, world_finds w c x debug system d.is s.is h)

sticky_failed : (b : Bool) (w : World) (x : Target) → w.sticky_error ≡ b → is_some w.pending ≡ true
    → IsWorldNow (world_failed w) x → WorldShowsSticky w x
sticky_failed true w x e pends h = inl (h.sticky_error ∙ sym e)
sticky_failed false w x e pends h = inr (pends, e, now h, h.sticky_error)

sticky_success : (w : World) (pending : Option Transfer) → (world_success_of pending w).sticky_error ≡ w.sticky_error
sticky_success w None = refl
sticky_success w (Some transfer) = refl

-- the bus error of the pending transfer may show in STICKYERR
pub world_shows_sticky : WorldAtSticky
world_shows_sticky w x (now h) = inl h.sticky_error
world_shows_sticky w x (done pends h) = inl (h.sticky_error ∙ sticky_success w w.pending)
world_shows_sticky w x (failed pends h) = sticky_failed w.sticky_error w x refl pends h
