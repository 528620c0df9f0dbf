-- What a read does to a target that a world stands for exactly, once OK was answered to it.
use Rattle.std.proofs.Common.{◌≡◌, ◌<◌, ◌≤◌, ◌+◌, ◌*◌, ◌/◌, ◌%◌, ◌^◌, ℕ, Bool, true, false, refl, sym, ap, subst, ◌∙◌}
use Rattle.std.proofs.Common.{arith}
use Rattle.std.specs.Prelude.{Option, Some, None, unwrap_or, if◌then◌else◌, ◌||◌}
use Rattle.swd_port.specs.declared.register.Register.{Register}
use Rattle.swd_port.specs.declared.register.Register.TheVariants.{DpidrRead, CtrlStatRead, ResendRead, RdbuffRead}
use Rattle.swd_port.specs.declared.register.Register.TheVariants.{CswRead, TarRead, DrwRead, ApOtherRead, AbortWrite}
use Rattle.swd_port.specs.declared.register.Register.TheVariants.{CtrlStatWrite, SelectWrite, DpOtherRead}
use Rattle.swd_port.specs.declared.register.Register.TheVariants.{DpIgnoredWrite, CswWrite, TarWrite, DrwWrite}
use Rattle.swd_port.specs.declared.register.Register.TheVariants.{ApOtherWrite}
use Rattle.swd_port.specs.declared.state.Drw.TheVariants.{Reads}
use Rattle.swd_port.specs.declared.state.PowerUp.{PowerUp}
use Rattle.swd_port.specs.Registers.{csw_read, csw_addr_inc_of}
use Rattle.swd_port.specs.Port.{Target}
use Rattle.swd_port.specs.Choices.{Choice, IsPortChoice}
use Rattle.swd_port.specs.Answers.{is_exempt_register}
use Rattle.swd_port.specs.Asking.{port_after_okay, port_value_in, debug_up_after, power_up_after}
use Rattle.swd_port.specs.Asking.{is_access_port_register}
use Rattle.swd_checker.specs.Worlds.{World, Power, PowerOff, PowerUnseen, PowerLate, PowerSeen, Held, HeldUnknown}
use Rattle.swd_checker.specs.Worlds.{HeldWord, HeldCsw, HeldSeen, TransferRead, TarUnknown, TarFrom}
use Rattle.swd_checker.specs.Described.{IsWorldNow, CheckedPower, CheckedHeld, CheckedTar, IsCheckedCsw}
use Rattle.swd_checker.specs.Adding.{IsCheckedPrompt}
use Rattle.swd_checker.specs.Steps.{world_live, world_posted, checked_power_found}
use Rattle.swd_checker.specs.Exact.{WorldWords, CheckedAnswers, IsWorldExact, IsWorldSound, IsWorldTarget, IsHeldExact}
use Rattle.swd_checker.specs.Exact.{IsTarExact, IsTarSound, IsHeldSound, IsNearSound, IsPowerExact}
use Rattle.swd_checker.specs.Reaching.{CheckedLink, WorldReaches, checked_near_of}
use Rattle.swd_checker.specs.Reached.{WorldsPostHeld}
use Rattle.swd_checker.proofs.NearLemmas.{near_of_is}
use Rattle.swd_checker.proofs.ReadLemmas.{world_now_lives, world_now_posts, checked_csw_read}
use Rattle.swd_checker.proofs.StatusLemmas.{world_now_finds}
use Rattle.swd_checker.proofs.OkayLemmas.{world_now_okays}
use Rattle.swd_checker.proofs.SettleLemmas.{world_some, held_exact_checked}

-- DPIDR, CTRL/STAT
-- after DPIDR was read
pub world_target_lives : (w : World) (n : ℕ) (v : WorldWords) (answers : CheckedAnswers) (c : Choice) (x : Target)
    → IsWorldTarget w n v answers x → IsWorldTarget (world_live w) n v answers (port_after_okay c DpidrRead x)
world_target_lives w n v answers c x h = record {
  now = world_now_lives w c x h.now;
  debug = h.debug;
  system = h.system;
  tar = h.tar;
  buffer = h.buffer;
  last_returned = h.last_returned;
  identification = h.identification;
  bus = h.bus;
}

abbrev IsFoundExact : Power → Bool → PowerUp → Type 0
IsFoundExact power on up = CheckedPower power on up × IsPowerExact power up

found_as : (first found : Power) (on : Bool) (up : PowerUp) → Some first ≡ Some found → IsFoundExact first on up
    → IsFoundExact found on up
found_as first found on up e h = let f : first ≡ found = cc in subst (λ p. IsFoundExact p on up) f h

power_finds : (power : Power) (late on : Bool) (up : PowerUp) (found : Power)
    → checked_power_found power late ≡ Some found → CheckedPower power on up → IsPowerExact power up
    → IsFoundExact found on (power_up_after late CtrlStatRead up)
power_finds PowerOff false on up found e h exact = found_as PowerOff found on _ e (h, tt)
power_finds PowerOff true on up found e h exact = absurd (cc)
power_finds PowerUnseen false on up found e h exact = found_as PowerSeen found on _ e
    ((h.0, ap (power_up_after false CtrlStatRead) exact), tt)
power_finds PowerUnseen true on up found e h exact = found_as PowerLate found on _ e
    ((h.0, ap (power_up_after true CtrlStatRead) exact), tt)
power_finds PowerLate false on up found e h exact = found_as PowerSeen found on _ e
    ((h.0, ap (power_up_after false CtrlStatRead) h.1), tt)
power_finds PowerLate true on up found e h exact = found_as PowerLate found on _ e
    ((h.0, ap (power_up_after true CtrlStatRead) h.1), tt)
power_finds PowerSeen false on up found e h exact = found_as PowerSeen found on _ e
    ((h.0, ap (power_up_after false CtrlStatRead) h.1), tt)
power_finds PowerSeen true on up found e h exact = absurd (cc)

-- after CTRL/STAT was read, which found each power acknowledged, or late
pub world_target_finds : (w : World) (n : ℕ) (v : WorldWords) (answers : CheckedAnswers) (c : Choice) (x : Target)
    (debug system : Power) → checked_power_found w.debug c.debug_late ≡ Some debug
    → checked_power_found w.system c.system_late ≡ Some system → IsWorldTarget w n v answers x
    → IsWorldTarget (record w { debug = debug; system = system }) n v answers (port_after_okay c CtrlStatRead x)
world_target_finds w n v answers c x debug system d s h =
    let k = power_finds w.debug c.debug_late x.debug_power x.debug_up debug d h.now.debug h.debug in
    let j = power_finds w.system c.system_late x.system_power x.system_up system s h.now.system h.system in
    record {
      now = world_now_finds w c x debug system k.0 j.0 h.now;
      debug = k.1;
      system = j.1;
      tar = h.tar;
      buffer = h.buffer;
      last_returned = h.last_returned;
      identification = h.identification;
      bus = h.bus;
    }

-- OK TO A REQUEST THAT CAN BE REFUSED
up_same : (r : Register) (late : Bool) (up : PowerUp) → is_exempt_register r ≡ false
    → is_access_port_register r ≡ false → debug_up_after late r up ≡ up
up_same DpidrRead late up plain debug = refl
up_same CtrlStatRead late up plain debug = absurd (let f : true ≡ false = plain in cc)
up_same AbortWrite late up plain debug = refl
up_same CtrlStatWrite late up plain debug = refl
up_same SelectWrite late up plain debug = refl
up_same ResendRead late up plain debug = refl
up_same RdbuffRead late up plain debug = refl
up_same DpOtherRead late up plain debug = refl
up_same DpIgnoredWrite late up plain debug = refl
up_same CswRead late up plain debug = absurd (let f : true ≡ false = debug in cc)
up_same CswWrite late up plain debug = absurd (let f : true ≡ false = debug in cc)
up_same TarRead late up plain debug = absurd (let f : true ≡ false = debug in cc)
up_same TarWrite late up plain debug = absurd (let f : true ≡ false = debug in cc)
up_same DrwRead late up plain debug = absurd (let f : true ≡ false = debug in cc)
up_same DrwWrite late up plain debug = absurd (let f : true ≡ false = debug in cc)
up_same ApOtherRead late up plain debug = absurd (let f : true ≡ false = debug in cc)
up_same ApOtherWrite late up plain debug = absurd (let f : true ≡ false = debug in cc)

power_okays : (r : Register) (late ap_is : Bool) (power : Power) (up : PowerUp) → is_exempt_register r ≡ false
    → is_access_port_register r ≡ ap_is → IsPowerExact power up
    → IsPowerExact (if ap_is then PowerSeen else power) (debug_up_after late r up)
power_okays r late true power up plain access h = tt
power_okays r late false power up plain access h = subst (IsPowerExact power) (sym (up_same r late up plain access)) h

-- an access port that answered has power
pub world_target_okays : (w : World) (n : ℕ) (v : WorldWords) (answers : CheckedAnswers) (r : Register) (late ap : Bool)
    (x : Target) → is_exempt_register r ≡ false → is_access_port_register r ≡ ap
    → (ap ≡ true → x.debug_power ≡ true) → IsWorldTarget w n v answers x
    → IsWorldTarget (record w { debug = if ap then PowerSeen else w.debug }) n v answers
    (record x { debug_up = debug_up_after late r x.debug_up })
world_target_okays w n v answers r late ap x plain access on h = record {
  now = subst (λ b. IsWorldNow (record w { debug = if b then PowerSeen else w.debug })
      (record x { debug_up = debug_up_after late r x.debug_up })) access
      (world_now_okays w r late x plain (λ e. on (sym access ∙ e)) h.now);
  debug = power_okays r late ap w.debug x.debug_up plain access h.debug;
  system = h.system;
  tar = h.tar;
  buffer = h.buffer;
  last_returned = h.last_returned;
  identification = h.identification;
  bus = h.bus;
}

-- What a read that returns the last returned value, or the read buffer, leads to, and from which words: of what it
-- returns, the word is the last returned value after it, or the filler where that is unknown.
pub record WorldGivesBack (w next : World) (r : Register) (filler : ℕ) (v : WorldWords) : Type 0 where
  pub before : WorldWords
  pub exact : IsWorldExact w before
  pub choice : Choice
  pub legal : IsPortChoice choice
  pub prompt : IsCheckedPrompt choice
  pub value : (x : Target) → x.buffer ≡ before.buffer → x.last_returned ≡ before.last_returned
      → port_value_in choice r x ≡ unwrap_or v.last_returned filler
  pub leads : (n : ℕ) (answers : CheckedAnswers) (x : Target)
      → IsWorldTarget w n before answers (record x { debug_up = debug_up_after choice.debug_late r x.debug_up })
      → IsWorldTarget next n v answers (port_after_okay choice r x)

abbrev choice_of : ℕ → ℕ → ℕ → Bool → Choice
choice_of filler others elsewhere refuses = record {
  address = 0;
  filler = filler;
  others = others;
  elsewhere = elsewhere;
  refuses = refuses;
  debug_late = false;
  system_late = false;
}

pends_nothing : (w : World) → w.pending ≡ None → w.pending ≡ Some TransferRead → ⊥
pends_nothing w none some = let e : None ≡ Some TransferRead = sym none ∙ some in cc

now_resends : (w : World) (held : Held) (x : Target) (up : PowerUp) → IsWorldNow w (record x { debug_up = up })
    → CheckedHeld held x.last_returned → IsWorldNow (record w { last_returned = held }) (record x { debug_up = up })
now_resends w held x up h is = record {
  reset = h.reset;
  sticky_error = h.sticky_error;
  write_error = h.write_error;
  read_ok = h.read_ok;
  debug = h.debug;
  system = h.system;
  mem_ap = h.mem_ap;
  bank0 = h.bank0;
  increments = h.increments;
  pending = h.pending;
  tar = h.tar;
  buffer = h.buffer;
  last_returned = is;
}

-- RESEND returned a word of which this is known
pub world_resends : (w : World) (held : Held) (filler : ℕ) (v : WorldWords) → filler < 2 ^ 32
    → IsHeldExact w.last_returned v.last_returned → IsWorldExact (record w { last_returned = held }) v
    → WorldGivesBack w (record w { last_returned = held }) ResendRead filler v
world_resends w held filler v small within exact =
    let c : Choice = choice_of filler 0 0 false in
    record {
      before = v;
      exact = record { tar = exact.tar; buffer = exact.buffer; last_returned = within };
      choice = c;
      legal = record { address = omega arith; filler = small; others = omega arith; elsewhere = omega arith };
      prompt = record { debug = refl; system = refl };
      value = λ x buffer last. ap (λ o. unwrap_or o filler) last;
      leads = λ n answers x h. record {
        now = now_resends w held x x.debug_up h.now (subst (CheckedHeld held) (sym h.last_returned)
            (held_exact_checked held v.last_returned exact.last_returned));
        debug = h.debug;
        system = h.system;
        tar = h.tar;
        buffer = h.buffer;
        last_returned = h.last_returned;
        identification = h.identification;
        bus = h.bus;
      };
    }

-- the read buffer was returned, of which this is known: to RDBUFF,
pub world_posts_rdbuff : (w : World) (held : Held) (filler : ℕ) (v : WorldWords) → IsWorldSound w → w.pending ≡ None
    → filler < 2 ^ 32
    → IsHeldExact w.buffer v.last_returned → IsWorldExact (world_posted held w) v
    → WorldGivesBack w (world_posted held w) RdbuffRead filler v
world_posts_rdbuff w held filler v sound none small within exact =
    let some = world_some w sound in
    let before : WorldWords = record v { buffer = v.last_returned; last_returned = some.0.last_returned } in
    let c : Choice = choice_of filler 0 0 false in
    record {
      before = before;
      exact = record { tar = exact.tar; buffer = within; last_returned = some.1.last_returned };
      choice = c;
      legal = record { address = omega arith; filler = small; others = omega arith; elsewhere = omega arith };
      prompt = record { debug = refl; system = refl };
      value = λ x buffer last. ap (λ o. unwrap_or o filler) buffer;
      leads = λ n answers x h.
          let returned : x.buffer ≡ v.last_returned = h.buffer (λ e. pends_nothing w none e) in
          record {
            now = world_now_posts w _ held HeldUnknown w.sticky_error x.sticky_error w.pending x.pending
                None x.buffer h.now h.now.sticky_error h.now.pending tt
                (subst (CheckedHeld held) (sym returned)
                (held_exact_checked held v.last_returned exact.last_returned));
            debug = h.debug;
            system = h.system;
            tar = h.tar;
            buffer = λ free. sym exact.buffer;
            last_returned = returned;
            identification = h.identification;
            bus = h.bus;
          };
    }

csw_back : (increments : Bool) (word : ℕ) → word < 2 ^ 32 → word % 8 ≡ 2
    → word / 16 % 4 ≡ csw_addr_inc_of increments → word / 2 ^ 6 % 2 ≡ 1 → csw_read increments word ≡ word
csw_back true word small size addr_inc device_en = omega arith
csw_back false word small size addr_inc device_en = omega arith

csw_addr_inc : (increments : Bool) → (if increments then 1 else 0) ≡ csw_addr_inc_of increments
csw_addr_inc true = refl
csw_addr_inc false = refl

-- a word of CSW is what it reads with its bits
csw_reads_back : (increments : Bool) (word : ℕ) → word < 2 ^ 32 → IsCheckedCsw increments word
    → csw_read increments word ≡ word
csw_reads_back increments word small h = csw_back increments word small h.size (h.addr_inc ∙ csw_addr_inc increments)
    (grind (arith, h.device_en))

-- CSW,
pub world_posts_csw : (w : World) (held : Held) (filler : ℕ) (v : WorldWords) → IsWorldSound w → w.pending ≡ None
    → filler < 2 ^ 32
    → IsHeldExact w.buffer v.last_returned
    → IsWorldExact (record (world_posted held w) { buffer = HeldCsw w.increments }) v
    → WorldGivesBack w (record (world_posted held w) { buffer = HeldCsw w.increments }) CswRead filler v
world_posts_csw w held filler v sound none small within exact =
    let word : ℕ = exact.buffer.0 in
    let same : csw_read w.increments word ≡ word =
    csw_reads_back w.increments word exact.buffer.2 exact.buffer.3 in
    let some = world_some w sound in
    let before : WorldWords = record v { buffer = v.last_returned; last_returned = some.0.last_returned } in
    let c : Choice = choice_of filler word 0 false in
    record {
      before = before;
      exact = record { tar = exact.tar; buffer = within; last_returned = some.1.last_returned };
      choice = c;
      legal = record { address = omega arith; filler = small; others = exact.buffer.2; elsewhere = omega arith };
      prompt = record { debug = refl; system = refl };
      value = λ x buffer last. ap (λ o. unwrap_or o filler) buffer;
      leads = λ n answers x h.
          let returned : x.buffer ≡ v.last_returned = h.buffer (λ e. pends_nothing w none e) in
          record {
            now = world_now_posts w _ held (HeldCsw w.increments) w.sticky_error x.sticky_error w.pending x.pending
                (Some (csw_read x.increments word)) x.buffer h.now h.now.sticky_error h.now.pending (
                  csw_read x.increments word,
                  refl,
                  checked_csw_read x.increments w.increments word h.now.increments,
                )
                (subst (CheckedHeld held) (sym returned)
                (held_exact_checked held v.last_returned exact.last_returned));
            debug = h.debug;
            system = h.system;
            tar = h.tar;
            buffer = λ free. ap (λ i. Some (csw_read i word)) h.now.increments ∙ ap (λ z. Some z) same
                ∙ sym exact.buffer.1;
            last_returned = returned;
            identification = h.identification;
            bus = h.bus;
          };
    }

-- DRW,
pub world_posts_drw : (w : World) (held : Held) (filler : ℕ) (v : WorldWords) → IsWorldSound w → w.pending ≡ None
    → filler < 2 ^ 32
    → IsHeldExact w.buffer v.last_returned
    → IsWorldExact (record (world_posted held w) { pending = Some TransferRead }) v
    → WorldGivesBack w (record (world_posted held w) { pending = Some TransferRead }) DrwRead filler v
world_posts_drw w held filler v sound none small within exact =
    let some = world_some w sound in
    let before : WorldWords = record v { buffer = v.last_returned; last_returned = some.0.last_returned } in
    let c : Choice = choice_of filler 0 0 false in
    record {
      before = before;
      exact = record { tar = exact.tar; buffer = within; last_returned = some.1.last_returned };
      choice = c;
      legal = record { address = omega arith; filler = small; others = omega arith; elsewhere = omega arith };
      prompt = record { debug = refl; system = refl };
      value = λ x buffer last. ap (λ o. unwrap_or o filler) buffer;
      leads = λ n answers x h.
          let returned : x.buffer ≡ v.last_returned = h.buffer (λ e. pends_nothing w none e) in
          record {
            now = world_now_posts w _ held HeldUnknown w.sticky_error x.sticky_error (Some TransferRead) (Some Reads)
                x.buffer x.buffer h.now h.now.sticky_error refl tt
                (subst (CheckedHeld held) (sym returned)
                (held_exact_checked held v.last_returned exact.last_returned));
            debug = h.debug;
            system = h.system;
            tar = h.tar;
            buffer = λ free. absurd (free refl);
            last_returned = returned;
            identification = h.identification;
            bus = h.bus;
          };
    }

-- TAR where it is unknown, and each of its addresses,
pub world_posts_tar_unknown : (w : World) (held : Held) (filler : ℕ) (v : WorldWords) → IsWorldSound w
    → w.pending ≡ None → filler < 2 ^ 32 → w.tar ≡ TarUnknown → IsHeldExact w.buffer v.last_returned
    → IsWorldExact (world_posted held w) v → WorldGivesBack w (world_posted held w) TarRead filler v
world_posts_tar_unknown w held filler v sound none small unknown within exact =
    let lost : v.tar ≡ None = subst (λ t. IsTarExact t v.tar) unknown exact.tar in
    let some = world_some w sound in
    let before : WorldWords = record v { buffer = v.last_returned; last_returned = some.0.last_returned } in
    let c : Choice = choice_of filler 0 0 false in
    record {
      before = before;
      exact = record { tar = exact.tar; buffer = within; last_returned = some.1.last_returned };
      choice = c;
      legal = record { address = omega arith; filler = small; others = omega arith; elsewhere = omega arith };
      prompt = record { debug = refl; system = refl };
      value = λ x buffer last. ap (λ o. unwrap_or o filler) buffer;
      leads = λ n answers x h.
          let returned : x.buffer ≡ v.last_returned = h.buffer (λ e. pends_nothing w none e) in
          record {
            now = world_now_posts w _ held HeldUnknown w.sticky_error x.sticky_error w.pending x.pending
                x.tar x.buffer h.now h.now.sticky_error h.now.pending tt
                (subst (CheckedHeld held) (sym returned)
                (held_exact_checked held v.last_returned exact.last_returned));
            debug = h.debug;
            system = h.system;
            tar = h.tar;
            buffer = λ free. h.tar ∙ lost ∙ sym exact.buffer;
            last_returned = returned;
            identification = h.identification;
            bus = h.bus;
          };
    }

last_address : (at index : ℕ) → index ≤ 0 → at + 4 * index ≡ at + 4 * 0
last_address at index within = omega arith

same_address : (at index : ℕ) → index ≤ 0 → at + 4 * index ≡ at
same_address at index within = omega arith

only_address : (at : ℕ) (tar : Option ℕ) → IsTarExact (TarFrom at 0) tar → tar ≡ Some at
only_address at tar (index, within, is) = is ∙ ap (λ z. Some z) (same_address at index within)

now_at : (w : World) (x : Target) (at : ℕ) → IsWorldNow w x → CheckedTar (TarFrom at 0) x.tar
    → CheckedHeld (HeldSeen (checked_near_of at)) x.buffer
    → IsWorldNow (record w { tar = TarFrom at 0; buffer = HeldSeen (checked_near_of at) }) x
now_at w x at h tar buffer = record {
  reset = h.reset;
  sticky_error = h.sticky_error;
  write_error = h.write_error;
  read_ok = h.read_ok;
  debug = h.debug;
  system = h.system;
  mem_ap = h.mem_ap;
  bank0 = h.bank0;
  increments = h.increments;
  pending = h.pending;
  tar = tar;
  buffer = buffer;
  last_returned = h.last_returned;
}

pub world_posts_tar : (w : World) (held : Held) (first more index filler : ℕ) (v : WorldWords) → IsWorldSound w
    → w.pending ≡ None → filler < 2 ^ 32 → w.tar ≡ TarFrom first more → index ≤ more
    → IsHeldExact w.buffer v.last_returned
    → IsWorldExact (record (world_posted held w) {
      tar = TarFrom (first + 4 * index) 0;
      buffer = HeldSeen (checked_near_of (first + 4 * index));
    }) v
    → WorldGivesBack w (record (world_posted held w) {
      tar = TarFrom (first + 4 * index) 0;
      buffer = HeldSeen (checked_near_of (first + 4 * index));
    }) TarRead filler v
world_posts_tar w held first more index filler v sound none small is inside within exact =
    let at : ℕ = first + 4 * index in
    let known : v.tar ≡ Some at = only_address at v.tar exact.tar in
    let word : exact.buffer.0 ≡ at = near_of_is at exact.buffer.0 exact.buffer.2 in
    let fetched : v.tar ≡ v.buffer = known ∙ ap (λ z. Some z) (sym word) ∙ sym exact.buffer.1 in
    let some = world_some w sound in
    let before : WorldWords = record v { buffer = v.last_returned; last_returned = some.0.last_returned } in
    let c : Choice = choice_of filler 0 0 false in
    record {
      before = before;
      exact = record {
        tar = subst (λ t. IsTarExact t v.tar) (sym is) (index, inside, known);
        buffer = within;
        last_returned = some.1.last_returned;
      };
      choice = c;
      legal = record { address = omega arith; filler = small; others = omega arith; elsewhere = omega arith };
      prompt = record { debug = refl; system = refl };
      value = λ x buffer last. ap (λ o. unwrap_or o filler) buffer;
      leads = λ n answers x h.
          let returned : x.buffer ≡ v.last_returned = h.buffer (λ e. pends_nothing w none e) in
          record {
            now = now_at (world_posted held w) (port_after_okay c TarRead x) at
                (world_now_posts w _ held HeldUnknown w.sticky_error x.sticky_error w.pending x.pending x.tar x.buffer
                h.now h.now.sticky_error h.now.pending tt (subst (CheckedHeld held) (sym returned)
                (held_exact_checked held v.last_returned exact.last_returned)))
                (0, omega arith, h.tar ∙ exact.tar.2 ∙ ap (λ z. Some z) (last_address at exact.tar.0 exact.tar.1))
                (subst (CheckedHeld (HeldSeen (checked_near_of at))) (sym (h.tar ∙ fetched)) exact.buffer);
            debug = h.debug;
            system = h.system;
            tar = h.tar;
            buffer = λ free. h.tar ∙ fetched;
            last_returned = returned;
            identification = h.identification;
            bus = h.bus;
          };
    }

or_false : (b : Bool) → (b || false) ≡ b
or_false true = refl
or_false false = refl

or_true : (b : Bool) → (b || true) ≡ true
or_true true = refl
or_true false = refl

-- and a register elsewhere, which has a word, or is a bus error
pub world_posts_word : (w : World) (held : Held) (filler : ℕ) (v : WorldWords) → IsWorldSound w → w.pending ≡ None
    → filler < 2 ^ 32
    → IsHeldExact w.buffer v.last_returned → IsWorldExact (record (world_posted held w) { buffer = HeldWord }) v
    → WorldGivesBack w (record (world_posted held w) { buffer = HeldWord }) ApOtherRead filler v
world_posts_word w held filler v sound none small within exact =
    let word : ℕ = exact.buffer.0 in
    let some = world_some w sound in
    let before : WorldWords = record v { buffer = v.last_returned; last_returned = some.0.last_returned } in
    let c : Choice = choice_of filler 0 word false in
    record {
      before = before;
      exact = record { tar = exact.tar; buffer = within; last_returned = some.1.last_returned };
      choice = c;
      legal = record { address = omega arith; filler = small; others = omega arith; elsewhere = exact.buffer.2 };
      prompt = record { debug = refl; system = refl };
      value = λ x buffer last. ap (λ o. unwrap_or o filler) buffer;
      leads = λ n answers x h.
          let returned : x.buffer ≡ v.last_returned = h.buffer (λ e. pends_nothing w none e) in
          record {
            now = world_now_posts w _ held HeldWord w.sticky_error (x.sticky_error || false) w.pending x.pending
                (Some word) x.buffer h.now (or_false x.sticky_error ∙ h.now.sticky_error) h.now.pending (word, refl)
                (subst (CheckedHeld held) (sym returned)
                (held_exact_checked held v.last_returned exact.last_returned));
            debug = h.debug;
            system = h.system;
            tar = h.tar;
            buffer = λ free. sym exact.buffer.1;
            last_returned = returned;
            identification = h.identification;
            bus = h.bus;
          };
    }

pub world_posts_error : (w : World) (held : Held) (filler : ℕ) (v : WorldWords) → IsWorldSound w → w.pending ≡ None
    → filler < 2 ^ 32
    → IsHeldExact w.buffer v.last_returned → IsWorldExact (record (world_posted held w) { sticky_error = true }) v
    → WorldGivesBack w (record (world_posted held w) { sticky_error = true }) ApOtherRead filler v
world_posts_error w held filler v sound none small within exact =
    let some = world_some w sound in
    let before : WorldWords = record v { buffer = v.last_returned; last_returned = some.0.last_returned } in
    let c : Choice = choice_of filler 0 0 true in
    record {
      before = before;
      exact = record { tar = exact.tar; buffer = within; last_returned = some.1.last_returned };
      choice = c;
      legal = record { address = omega arith; filler = small; others = omega arith; elsewhere = omega arith };
      prompt = record { debug = refl; system = refl };
      value = λ x buffer last. ap (λ o. unwrap_or o filler) buffer;
      leads = λ n answers x h.
          let returned : x.buffer ≡ v.last_returned = h.buffer (λ e. pends_nothing w none e) in
          record {
            now = world_now_posts w _ held HeldUnknown true (x.sticky_error || true) w.pending x.pending
                None x.buffer h.now (or_true x.sticky_error) h.now.pending tt
                (subst (CheckedHeld held) (sym returned)
                (held_exact_checked held v.last_returned exact.last_returned));
            debug = h.debug;
            system = h.system;
            tar = h.tar;
            buffer = λ free. sym exact.buffer;
            last_returned = returned;
            identification = h.identification;
            bus = h.bus;
          };
    }

-- THE READ BUFFER AFTER ANY OF THESE READS
-- what a read leads to that returned the read buffer, of which this is known
pub record WorldPosts (w next : World) (r : Register) (held : Held) : Type 0 where
  pub awaits : next.awaits ≡ w.awaits
  pub last_returned : next.last_returned ≡ held
  pub sound : IsWorldSound w → IsHeldSound held → IsWorldSound next
  pub returns : IsWorldSound w → (filler : ℕ) (v : WorldWords) → filler < 2 ^ 32
      → IsHeldExact w.buffer v.last_returned → IsWorldExact next v → WorldGivesBack w next r filler v

address_sound : (first more index : ℕ) → index ≤ more → IsTarSound (TarFrom first more)
    → IsTarSound (TarFrom (first + 4 * index) 0)
address_sound first more index inside (small, page) = (grind arith, grind arith)

near_of_sound : (word : ℕ) → word < 2 ^ 32 → IsNearSound (checked_near_of word)
near_of_sound word small = record { small = small; place = 32; inside = omega arith; is = refl }

-- each world that has to be reached is one of these
pub posted_worlds : (link : CheckedLink) (w : World) (r : Register) (held : Held) → IsWorldSound w → w.pending ≡ None
    → ((next : World) → WorldPosts w next r held → WorldReaches link next) → WorldsPostHeld link w r held
posted_worlds link w r held sound none reaches =
    let to = λ (next : World) (z : Register) (e : r ≡ z) (h : WorldPosts w next z held).
    reaches next (subst (λ y. WorldPosts w next y held) (sym e) h) in
    record {
      csw = λ e. to _ CswRead e (record {
        awaits = refl;
        last_returned = refl;
        sound = λ s h. record { tar = s.tar; buffer = tt; last_returned = h };
        returns = λ s filler v few within exact. world_posts_csw w held filler v s none few within exact;
      });
      tar = λ e. record {
        sound = sound.tar;
        unknown = λ unknown. to _ TarRead e (record {
          awaits = refl;
          last_returned = refl;
          sound = λ s h. record { tar = s.tar; buffer = tt; last_returned = h };
          returns = λ s filler v few within exact.
              world_posts_tar_unknown w held filler v s none few unknown within exact;
        });
        each = λ first more index at inside. to _ TarRead e (record {
          awaits = refl;
          last_returned = refl;
          sound = λ s h. let a : IsTarSound (TarFrom (first + 4 * index) 0) =
              address_sound first more index inside (subst IsTarSound at s.tar) in
              record { tar = a; buffer = near_of_sound (first + 4 * index) a.0; last_returned = h };
          returns = λ s filler v few within exact.
              world_posts_tar w held first more index filler v s none few at inside within exact;
        });
      };
      drw = λ e. to _ DrwRead e (record {
        awaits = refl;
        last_returned = refl;
        sound = λ s h. record { tar = s.tar; buffer = tt; last_returned = h };
        returns = λ s filler v few within exact. world_posts_drw w held filler v s none few within exact;
      });
      word = λ e. to _ ApOtherRead e (record {
        awaits = refl;
        last_returned = refl;
        sound = λ s h. record { tar = s.tar; buffer = tt; last_returned = h };
        returns = λ s filler v few within exact. world_posts_word w held filler v s none few within exact;
      });
      error = λ e. to _ ApOtherRead e (record {
        awaits = refl;
        last_returned = refl;
        sound = λ s h. record { tar = s.tar; buffer = tt; last_returned = h };
        returns = λ s filler v few within exact. world_posts_error w held filler v s none few within exact;
      });
      rdbuff = λ e. to _ RdbuffRead e (record {
        awaits = refl;
        last_returned = refl;
        sound = λ s h. record { tar = s.tar; buffer = tt; last_returned = h };
        returns = λ s filler v few within exact. world_posts_rdbuff w held filler v s none few within exact;
      });
    }
