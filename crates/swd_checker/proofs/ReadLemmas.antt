-- Worlds after OK to a request: what a read returns, and what it leaves.
use Rattle.std.proofs.Common.{◌≡◌, ℕ, Bool, true, false, refl, sym, ap, subst, ◌∙◌, ◌⊎◌, inl, inr}
use Rattle.std.specs.Prelude.{Option, Some, None, is_some, if◌then◌else◌, ◌||◌}
use Rattle.std.specs.Option.{option_map}
use Rattle.swd_port.specs.Registers.{csw_read}
use Rattle.swd_port.specs.declared.register.Register.{Register}
use Rattle.swd_port.specs.declared.state.Drw.{Drw}
use Rattle.swd_port.specs.declared.state.Drw.TheVariants.{Reads}
use Rattle.swd_port.specs.declared.register.Register.TheVariants.{DpidrRead}
use Rattle.swd_port.specs.declared.register.Register.TheVariants.{ApOtherRead}
use Rattle.swd_port.specs.Port.{Target}
use Rattle.swd_port.specs.Choices.{Choice}
use Rattle.swd_port.specs.Asking.{port_after_okay, debug_up_after}
use Rattle.swd_port.proofs.RegisterLemmas.{port_csw_reads}
use Rattle.swd_checker.specs.Worlds.{World, Transfer, TransferRead, Held, HeldUnknown, HeldWord, HeldCsw}
use Rattle.swd_checker.specs.Worlds.{world_success_of, world_succeeded, world_failed}
use Rattle.swd_checker.specs.Described.{IsWorldNow, WorldDescribes, now, done, failed, IsCheckedCsw}
use Rattle.swd_checker.specs.Described.{CheckedHeld, checked_transfer_of}
use Rattle.swd_checker.specs.StepLaws.{WorldAtDpidr, WorldAtResend, WorldAtRdbuff, WorldAtCswRead, WorldAtDrwRead}
use Rattle.swd_checker.specs.StepLaws.{WorldAtTarRead, WorldAtReadElsewhere}
use Rattle.swd_checker.specs.Steps.{WorldAccepts, world_posted, world_live}

-- MAPS
-- a change of a world's fields, and the same change of the targets that it describes
pub world_describes_map : (F : World → World) (G : Target → Target) (w : World) (x : Target)
    → ((v : World) → IsWorldNow v x → IsWorldNow (F v) (G x)) → (F w).pending ≡ w.pending
    → ((pending : Option Transfer) → F (world_success_of pending w) ≡ world_success_of pending (F w))
    → F (world_failed w) ≡ world_failed (F w) → WorldDescribes w x → WorldDescribes (F w) (G x)
world_describes_map F G w x step same success fail (now h) = now (step w h)
world_describes_map F G w x step same success fail (done pends h) = done (ap is_some same ∙ pends)
    (subst (λ v. IsWorldNow v (G x)) (success w.pending
    ∙ ap (λ p. world_success_of p (F w)) (sym same)) (step (world_succeeded w) h))
world_describes_map F G w x step same success fail (failed pends h) = failed (ap is_some same ∙ pends)
    (subst (λ v. IsWorldNow v (G x)) fail (step (world_failed w) h))

-- DPIDR
pub world_now_lives : (v : World) (c : Choice) (x : Target) → IsWorldNow v x
    → IsWorldNow (world_live v) (port_after_okay c DpidrRead x)
world_now_lives v c x h = record {
  reset = refl;
  sticky_error = h.sticky_error;
  write_error = h.write_error;
  read_ok = h.read_ok;
  debug = h.debug;
  system = h.system;
  mem_ap = h.mem_ap;
  bank0 = h.bank0;
  increments = h.increments;
  pending = h.pending;
  tar = h.tar;
  buffer = h.buffer;
  last_returned = h.last_returned;
}

live_success : (w : World) (pending : Option Transfer)
    → world_live (world_success_of pending w) ≡ world_success_of pending (world_live w)
live_success w None = refl
live_success w (Some transfer) = refl

-- after DPIDR was read
pub world_at_dpidr : WorldAtDpidr
world_at_dpidr w c x h = world_describes_map world_live (λ y. port_after_okay c DpidrRead y) w x
    (λ v d. world_now_lives v c x d) refl (live_success w) refl (h.exempt refl)

-- RESEND
-- after RESEND returned a word that was seen
pub world_at_resend : WorldAtResend
world_at_resend w held c x h is = let k = h.confirmed refl in now (record {
  reset = k.reset;
  sticky_error = k.sticky_error;
  write_error = k.write_error;
  read_ok = k.read_ok;
  debug = k.debug;
  system = k.system;
  mem_ap = k.mem_ap;
  bank0 = k.bank0;
  increments = k.increments;
  pending = k.pending;
  tar = k.tar;
  buffer = k.buffer;
  last_returned = is;
})

-- POSTED READS
pub world_now_posts : (w : World) (x : Target) (last held : Held) (sticky s : Bool) (pending : Option Transfer) (p :
    Option Drw)
    (b l : Option ℕ) → IsWorldNow w x → s ≡ sticky → option_map checked_transfer_of p ≡ pending → CheckedHeld held b
    → CheckedHeld last l
    → IsWorldNow (record w {
      read_ok = true;
      sticky_error = sticky;
      pending = pending;
      buffer = held;
      last_returned = last;
    }) (record x { read_ok = true; sticky_error = s; pending = p; buffer = b; last_returned = l })
world_now_posts w x last held sticky s pending p b l h error same is returned = record {
  reset = h.reset;
  sticky_error = error;
  write_error = h.write_error;
  read_ok = refl;
  debug = h.debug;
  system = h.system;
  mem_ap = h.mem_ap;
  bank0 = h.bank0;
  increments = h.increments;
  pending = same;
  tar = h.tar;
  buffer = is;
  last_returned = returned;
}

-- after RDBUFF was read
pub world_at_rdbuff : WorldAtRdbuff
world_at_rdbuff w held c x h is = let k = h.confirmed refl in
    now (world_now_posts w _ held HeldUnknown w.sticky_error x.sticky_error w.pending x.pending None x.buffer k
    k.sticky_error
    k.pending tt is)

-- the word that CSW reads is one of those
pub checked_csw_read : (a b : Bool) (others : ℕ) → a ≡ b → IsCheckedCsw b (csw_read a others)
checked_csw_read true true others e = let fields = port_csw_reads true others in
    record { size = fields.size; addr_inc = fields.addr_inc; device_en = fields.device_en }
checked_csw_read false false others e = let fields = port_csw_reads false others in
    record { size = fields.size; addr_inc = fields.addr_inc; device_en = fields.device_en }
checked_csw_read true false others e = absurd (cc)
checked_csw_read false true others e = absurd (cc)

-- after CSW was read
pub world_at_csw_read : WorldAtCswRead
world_at_csw_read w held c x h is = let k = h.confirmed refl in
    now (world_now_posts w _ held (HeldCsw w.increments) w.sticky_error x.sticky_error w.pending x.pending
    (Some (csw_read x.increments c.others)) x.buffer k k.sticky_error k.pending
    (csw_read x.increments c.others, refl, checked_csw_read x.increments w.increments c.others k.increments) is)

-- after DRW was read
pub world_at_drw_read : WorldAtDrwRead
world_at_drw_read w held c x h is = let k = h.confirmed refl in
    now (world_now_posts w _ held HeldUnknown w.sticky_error x.sticky_error (Some TransferRead) (Some Reads) x.buffer
    x.buffer k
    k.sticky_error refl tt is)

-- after TAR was read the read buffer is TAR
pub world_at_tar_read : WorldAtTarRead
world_at_tar_read w held c x h is = let k = h.confirmed refl in
    world_now_posts w _ held HeldUnknown w.sticky_error x.sticky_error w.pending x.pending x.tar x.buffer k
    k.sticky_error
    k.pending tt is

or_true : (b c : Bool) → c ≡ true → (b || c) ≡ true
or_true true c e = refl
or_true false c e = e

or_false : (b c : Bool) → c ≡ false → (b || c) ≡ b
or_false true c e = refl
or_false false c e = e

elsewhere : (w : World) (held : Held) (c : Choice) (x : Target) (refuses : Bool) → c.refuses ≡ refuses
    → IsWorldNow w (record x { debug_up = debug_up_after c.debug_late ApOtherRead x.debug_up })
    → CheckedHeld held x.buffer
    → WorldDescribes (record (world_posted held w) { buffer = HeldWord }) (port_after_okay c ApOtherRead x)
    ⊎ WorldDescribes (record (world_posted held w) { sticky_error = true }) (port_after_okay c ApOtherRead x)
elsewhere w held c x false e k is =
    inl (now (world_now_posts w _ held HeldWord w.sticky_error (x.sticky_error || c.refuses) w.pending x.pending
    (if c.refuses then None else Some c.elsewhere) x.buffer k (or_false x.sticky_error c.refuses e ∙ k.sticky_error)
    k.pending (c.elsewhere, ap (λ b. if b then None else Some c.elsewhere) e) is))
elsewhere w held c x true e k is =
    inr (now (world_now_posts w _ held HeldUnknown true (x.sticky_error || c.refuses) w.pending x.pending
    (if c.refuses then None else Some c.elsewhere) x.buffer k (or_true x.sticky_error c.refuses e) k.pending tt is))

-- after a register elsewhere was read: it has a word, or is a bus error
pub world_at_elsewhere : WorldAtReadElsewhere
world_at_elsewhere w held c x h is = elsewhere w held c x c.refuses refl (h.confirmed refl) is

-- WHETHER DATA IS AWAITED
pub world_now_awaits : (w : World) (awaits : Bool) (x : Target) → IsWorldNow w x → IsWorldNow (record w {
  awaits =
      awaits;
}) x
world_now_awaits w awaits x h = record {
  reset = h.reset;
  sticky_error = h.sticky_error;
  write_error = h.write_error;
  read_ok = h.read_ok;
  debug = h.debug;
  system = h.system;
  mem_ap = h.mem_ap;
  bank0 = h.bank0;
  increments = h.increments;
  pending = h.pending;
  tar = h.tar;
  buffer = h.buffer;
  last_returned = h.last_returned;
}

awaiting_success : (w : World) (awaits : Bool) (pending : Option Transfer)
    → (record (world_success_of pending w) { awaits = awaits })
    ≡ world_success_of pending (record w { awaits = awaits })
awaiting_success w awaits None = refl
awaiting_success w awaits (Some transfer) = refl

-- whether write data is awaited is no part of the target
pub world_accepts_awaiting : (w : World) (awaits : Bool) (r : Register) (c : Choice) (x : Target)
    → WorldAccepts w r c x → WorldAccepts (record w { awaits = awaits }) r c x
world_accepts_awaiting w awaits r c x h = record {
  exempt = λ e. world_describes_map (λ v. record v { awaits = awaits }) (λ y. y) w x
      (λ v k. world_now_awaits v awaits x k) refl (awaiting_success w awaits) refl (h.exempt e);
  confirmed = λ e. world_now_awaits w awaits (record x { debug_up = debug_up_after c.debug_late r x.debug_up })
      (h.confirmed e);
  settled = h.settled;
}
