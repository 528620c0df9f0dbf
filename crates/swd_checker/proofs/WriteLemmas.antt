-- Worlds after a write's word arrived.
use Rattle.std.proofs.Common.{◌≡◌, ℕ, Bool, true, false, refl, sym, ap, subst, arith, ◌∙◌, ◌⊎◌, inl, inr}
use Rattle.std.specs.Prelude.{Option, Some, None, is_some, ◌||◌, ◌&&◌, ◌==◌, not}
use Rattle.swd_port.specs.Registers.{register_bit, csw_of}
use Rattle.swd_port.specs.declared.state.PowerUp.TheVariants.{Unseen}
use Rattle.swd_port.specs.declared.register.Register.TheVariants.{AbortWrite, CtrlStatWrite}
use Rattle.swd_port.specs.declared.register.Register.TheVariants.{SelectWrite, CswWrite, TarWrite, DrwWrite}
use Rattle.swd_port.specs.declared.register.Register.TheVariants.{ApOtherWrite}
use Rattle.swd_port.specs.Port.{Target}
use Rattle.swd_port.specs.Moving.{Arrives, port_after_bits}
use Rattle.swd_checker.specs.Worlds.{World, Transfer, TransferWrite, TarFrom}
use Rattle.swd_checker.specs.Worlds.{world_success_of, world_succeeded, world_failed}
use Rattle.swd_checker.specs.Described.{IsWorldNow, WorldDescribes, now, done, failed, CheckedPower}
use Rattle.swd_checker.specs.StepLaws.{WorldAtAbort, WorldAtCtrlStat, WorldAtSelect, WorldAtCswWrite, WorldAtTarWrite}
use Rattle.swd_checker.specs.StepLaws.{WorldAtDrwWrite, WorldAtWriteElsewhere}
use Rattle.swd_checker.specs.Steps.{world_selecting, world_cleared, checked_power_requested, world_powered}
use Rattle.swd_checker.specs.Steps.{world_written}
use Rattle.swd_checker.proofs.ReadLemmas.{world_describes_map}

-- CTRL/STAT
power_requested : (on : Bool) → CheckedPower (checked_power_requested on) on Unseen
power_requested true = (refl, λ e. cc)
power_requested false = refl

-- its request bits were written
pub world_now_requests : (v : World) (word : ℕ) (refuses : Bool) (x : Target) → IsWorldNow v x
    → IsWorldNow (world_powered word v) (port_after_bits refuses (Arrives CtrlStatWrite word) x)
world_now_requests v word refuses x h = record {
  reset = h.reset;
  sticky_error = h.sticky_error;
  write_error = h.write_error;
  read_ok = h.read_ok;
  debug = power_requested (register_bit 28 word);
  system = power_requested (register_bit 30 word);
  mem_ap = h.mem_ap;
  bank0 = h.bank0;
  increments = h.increments;
  pending = h.pending;
  tar = h.tar;
  buffer = h.buffer;
  last_returned = h.last_returned;
}

powered_success : (w : World) (word : ℕ) (pending : Option Transfer)
    → world_powered word (world_success_of pending w) ≡ world_success_of pending (world_powered word w)
powered_success w word None = refl
powered_success w word (Some transfer) = refl

-- SELECT
-- it was written
pub world_now_selects : (v : World) (word : ℕ) (refuses : Bool) (x : Target) → IsWorldNow v x
    → IsWorldNow (world_selecting word v) (port_after_bits refuses (Arrives SelectWrite word) x)
world_now_selects v word refuses x h = record {
  reset = h.reset;
  sticky_error = h.sticky_error;
  write_error = h.write_error;
  read_ok = h.read_ok;
  debug = h.debug;
  system = h.system;
  mem_ap = refl;
  bank0 = refl;
  increments = h.increments;
  pending = h.pending;
  tar = h.tar;
  buffer = h.buffer;
  last_returned = h.last_returned;
}

selecting_success : (w : World) (word : ℕ) (pending : Option Transfer)
    → world_selecting word (world_success_of pending w) ≡ world_success_of pending (world_selecting word w)
selecting_success w word None = refl
selecting_success w word (Some transfer) = refl

-- ABORT
cleared_flag : (a b flag : Bool) → a ≡ b → (a && flag) ≡ (b && flag)
cleared_flag a b flag e = ap (λ f. f && flag) e

-- its bits were written
pub world_now_clears : (v : World) (word : ℕ) (refuses : Bool) (x : Target) → IsWorldNow v x
    → IsWorldNow (world_cleared word v) (port_after_bits refuses (Arrives AbortWrite word) x)
world_now_clears v word refuses x h = record {
  reset = h.reset;
  sticky_error = cleared_flag _ _ (not (register_bit 2 word)) h.sticky_error;
  write_error = cleared_flag _ _ (not (register_bit 3 word)) h.write_error;
  read_ok = h.read_ok;
  debug = h.debug;
  system = h.system;
  mem_ap = h.mem_ap;
  bank0 = h.bank0;
  increments = h.increments;
  pending = h.pending;
  tar = h.tar;
  buffer = h.buffer;
  last_returned = h.last_returned;
}

cleared_success : (w : World) (word : ℕ) (pending : Option Transfer)
    → world_cleared word (world_success_of pending w) ≡ world_success_of pending (world_cleared word w)
cleared_success w word None = refl
cleared_success w word (Some transfer) = refl

-- a bus error that isn't cleared shows in a world whose transfer is pending
abbrev WorldAborts : World → ℕ → Target → Type 0
WorldAborts w word x = WorldDescribes (world_cleared word w) x
    ⊎ ((is_some w.pending ≡ true) × (register_bit 2 word ≡ true)
    × WorldDescribes (world_cleared word (world_failed w)) x)

cleared_failed : (w : World) (word : ℕ) (clears : Bool) (x : Target) → register_bit 2 word ≡ clears
    → is_some w.pending ≡ true → IsWorldNow (world_cleared word (world_failed w)) x → WorldAborts w word x
cleared_failed w word true x e pends h = inr (pends, e, now h)
cleared_failed w word false x e pends h = inl (failed pends (record {
  reset = h.reset;
  sticky_error = h.sticky_error ∙ ap not e;
  write_error = h.write_error;
  read_ok = h.read_ok;
  debug = h.debug;
  system = h.system;
  mem_ap = h.mem_ap;
  bank0 = h.bank0;
  increments = h.increments;
  pending = h.pending;
  tar = h.tar;
  buffer = h.buffer;
  last_returned = h.last_returned;
}))

-- ABORT clears flags, also that of a bus error that didn't show
pub world_at_abort : WorldAtAbort
world_at_abort w word refuses x (now h) = inl (now (world_now_clears w word refuses x h))
world_at_abort w word refuses x (done pends h) = inl (done pends (subst
    (λ v. IsWorldNow v (port_after_bits refuses (Arrives AbortWrite word) x)) (cleared_success w word w.pending)
    (world_now_clears (world_succeeded w) word refuses x h)))
world_at_abort w word refuses x (failed pends h) = cleared_failed w word (register_bit 2 word)
    (port_after_bits refuses (Arrives AbortWrite word) x) refl pends
    (world_now_clears (world_failed w) word refuses x h)

-- CTRL/STAT and SELECT
pub world_at_ctrl_stat : WorldAtCtrlStat
world_at_ctrl_stat w word refuses x h = world_describes_map (world_powered word)
    (λ y. port_after_bits refuses (Arrives CtrlStatWrite word) y) w x
    (λ v d. world_now_requests v word refuses x d) refl (powered_success w word) refl h

-- SELECT stores its fields
pub world_at_select : WorldAtSelect
world_at_select w word refuses x h = world_describes_map (world_selecting word)
    (λ y. port_after_bits refuses (Arrives SelectWrite word) y) w x (λ v d. world_now_selects v word refuses x d) refl
    (selecting_success w word) refl h

-- ACCESS PORTS
pends_none : (w : World) (x : Target) → w.pending ≡ None → WorldDescribes w x → IsWorldNow w x
pends_none w x none (now h) = h
pends_none w x none (done pends h) =
    absurd (let e : false ≡ true = sym (ap is_some none) ∙ pends in cc)
pends_none w x none (failed pends h) =
    absurd (let e : false ≡ true = sym (ap is_some none) ∙ pends in cc)

-- CSW was written
pub world_now_writes_csw : (w : World) (word : ℕ) (refuses : Bool) (x : Target) → IsWorldNow w x
    → IsWorldNow (record (world_written w) { increments = (csw_of word).addr_inc == 1 })
    (port_after_bits refuses (Arrives CswWrite word) x)
world_now_writes_csw w word refuses x h = record {
  reset = h.reset;
  sticky_error = h.sticky_error;
  write_error = h.write_error;
  read_ok = h.read_ok;
  debug = h.debug;
  system = h.system;
  mem_ap = h.mem_ap;
  bank0 = h.bank0;
  increments = refl;
  pending = h.pending;
  tar = h.tar;
  buffer = tt;
  last_returned = tt;
}

-- CSW stores AddrInc
pub world_at_csw_write : WorldAtCswWrite
world_at_csw_write w word refuses x none d = now (world_now_writes_csw w word refuses x (pends_none w x none d))

-- TAR was written
pub world_now_writes_tar : (w : World) (word : ℕ) (refuses : Bool) (x : Target) → IsWorldNow w x
    → IsWorldNow (record (world_written w) { tar = TarFrom word 0 }) (port_after_bits refuses (Arrives TarWrite word) x)
world_now_writes_tar w word refuses x h = record {
  reset = h.reset;
  sticky_error = h.sticky_error;
  write_error = h.write_error;
  read_ok = h.read_ok;
  debug = h.debug;
  system = h.system;
  mem_ap = h.mem_ap;
  bank0 = h.bank0;
  increments = h.increments;
  pending = h.pending;
  tar = (0, omega arith, ap Some (omega arith));
  buffer = tt;
  last_returned = tt;
}

-- TAR is stored as it is written
pub world_at_tar_write : WorldAtTarWrite
world_at_tar_write w word refuses x none d = now (world_now_writes_tar w word refuses x (pends_none w x none d))

-- DRW was written
pub world_now_writes_drw : (w : World) (word : ℕ) (refuses : Bool) (x : Target) → IsWorldNow w x
    → IsWorldNow (record (world_written w) { pending = Some TransferWrite })
    (port_after_bits refuses (Arrives DrwWrite word) x)
world_now_writes_drw w word refuses x h = record {
  reset = h.reset;
  sticky_error = h.sticky_error;
  write_error = h.write_error;
  read_ok = h.read_ok;
  debug = h.debug;
  system = h.system;
  mem_ap = h.mem_ap;
  bank0 = h.bank0;
  increments = h.increments;
  pending = refl;
  tar = h.tar;
  buffer = tt;
  last_returned = tt;
}

-- a DRW write is pending
pub world_at_drw_write : WorldAtDrwWrite
world_at_drw_write w word refuses x none d = now (world_now_writes_drw w word refuses x (pends_none w x none d))

flag_or : (refuses flag sticky : Bool) → flag ≡ sticky
    → ((flag || refuses) ≡ sticky) ⊎ ((flag || refuses) ≡ true)
flag_or true true sticky e = inr refl
flag_or true false sticky e = inr refl
flag_or false true sticky e = inl e
flag_or false false sticky e = inl e

-- a register elsewhere was written
pub world_now_elsewhere : (w : World) (word : ℕ) (refuses flag : Bool) (x : Target) → IsWorldNow w x
    → (x.sticky_error || refuses) ≡ flag
    → IsWorldNow (record (world_written w) { sticky_error = flag })
    (port_after_bits refuses (Arrives ApOtherWrite word) x)
world_now_elsewhere w word refuses flag x h e = record {
  reset = h.reset;
  sticky_error = e;
  write_error = h.write_error;
  read_ok = h.read_ok;
  debug = h.debug;
  system = h.system;
  mem_ap = h.mem_ap;
  bank0 = h.bank0;
  increments = h.increments;
  pending = h.pending;
  tar = h.tar;
  buffer = tt;
  last_returned = tt;
}

-- a write of a register elsewhere has no effect, or is a bus error
pub world_at_write_elsewhere : WorldAtWriteElsewhere
world_at_write_elsewhere w word refuses x none d = let h = pends_none w x none d in
    elim (flag_or refuses x.sticky_error w.sticky_error h.sticky_error)
    as (λ _. WorldDescribes (world_written w) (port_after_bits refuses (Arrives ApOtherWrite word) x)
    ⊎ WorldDescribes (record (world_written w) { sticky_error = true })
    (port_after_bits refuses (Arrives ApOtherWrite word) x)) [
      | inl same ↦ inl (now (world_now_elsewhere w word refuses w.sticky_error x h same))
      | inr set ↦ inr (now (world_now_elsewhere w word refuses true x h set))
    ]
