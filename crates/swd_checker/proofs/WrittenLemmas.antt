-- What the word of a write leads to, from a state that a world stands for exactly.
use Rattle.std.proofs.Common.{◌≡◌, ◌<◌, ◌^◌, ◌+◌, ◌*◌, ℕ, Bool, true, false, refl, sym, ap, subst, ◌∙◌, arith}
use Rattle.std.specs.Prelude.{Some, None, is_some, not, ◌||◌, ◌==◌}
use Rattle.std.proofs.Math.Bool.{or-false, or-true}
use Rattle.swd_bits.specs.declared.tx.Tx.{Tx as Transaction}
use Rattle.swd_bits.specs.declared.tx.TxEnd.TheVariants.{Moved}
use Rattle.swd_port.specs.Registers.{register_bit, csw_of}
use Rattle.swd_port.specs.declared.register.Register.{Register}
use Rattle.swd_port.specs.declared.register.Register.TheVariants.{AbortWrite, CtrlStatWrite, SelectWrite}
use Rattle.swd_port.specs.declared.register.Register.TheVariants.{DpIgnoredWrite, CswWrite, TarWrite, DrwWrite}
use Rattle.swd_port.specs.declared.register.Register.TheVariants.{ApOtherWrite}
use Rattle.swd_port.specs.declared.state.PowerUp.TheVariants.{Unseen}
use Rattle.swd_observer.proofs.StepLemmas.{observed_left_set}
use Rattle.swd_checker.specs.Worlds.{World, TransferWrite, TarFrom, world_failed, world_after_damage}
use Rattle.swd_checker.specs.Steps.{world_cleared, world_powered, world_selecting, world_written}
use Rattle.swd_checker.specs.Steps.{checked_power_requested}
use Rattle.swd_checker.specs.Exact.{IsPowerExact}
use Rattle.swd_checker.specs.Reaching.{CheckedLink, WorldReaches}
use Rattle.swd_checker.specs.Reached.{WorldsArriveAt, IsPassedWrite}
use Rattle.swd_checker.proofs.DescribedLemmas.{world_now_damages}
use Rattle.swd_checker.proofs.WriteLemmas.{world_now_requests, world_now_selects, world_now_clears}
use Rattle.swd_checker.proofs.WriteLemmas.{world_now_elsewhere, world_now_writes_csw, world_now_writes_tar}
use Rattle.swd_checker.proofs.WriteLemmas.{world_now_writes_drw}
use Rattle.swd_checker.proofs.SettleLemmas.{world_some}
use Rattle.swd_checker.proofs.MarkLemmas.{WriteMark}
use Rattle.swd_checker.proofs.MovesLemmas.{LinkBase, base_okayed, WritesTo, write_reaches, is_write_register}
use Rattle.swd_checker.proofs.MovesLemmas.{checked_register_write}

-- damaged data
pub damage_writes : (n : ℕ) (r : Register) (m : World) → WritesTo n r None m (world_after_damage m)
damage_writes n r m = record {
  awaits = refl;
  sound = λ s. record { tar = s.tar; buffer = s.buffer; last_returned = s.last_returned };
  each = λ s v exact. record {
    before = v;
    exact = record { tar = exact.tar; buffer = exact.buffer; last_returned = exact.last_returned };
    refuses = false;
    leads = λ answers x h. record {
      now = world_now_damages m false x h.now;
      debug = h.debug;
      system = h.system;
      tar = h.tar;
      buffer = h.buffer;
      last_returned = h.last_returned;
      identification = h.identification;
      bus = h.bus;
    };
  };
}

-- THE DEBUG PORT
abort_writes : (n word : ℕ) (m : World) → WritesTo n AbortWrite (Some word) m (world_cleared word m)
abort_writes n word m = record {
  awaits = refl;
  sound = λ s. record { tar = s.tar; buffer = s.buffer; last_returned = s.last_returned };
  each = λ s v exact. record {
    before = v;
    exact = record { tar = exact.tar; buffer = exact.buffer; last_returned = exact.last_returned };
    refuses = false;
    leads = λ answers x h. record {
      now = world_now_clears m word false x h.now;
      debug = h.debug;
      system = h.system;
      tar = h.tar;
      buffer = h.buffer;
      last_returned = h.last_returned;
      identification = h.identification;
      bus = h.bus;
    };
  };
}

requested_exact : (on : Bool) → IsPowerExact (checked_power_requested on) Unseen
requested_exact true = refl
requested_exact false = tt

ctrl_stat_writes : (n word : ℕ) (m : World) → WritesTo n CtrlStatWrite (Some word) m (world_powered word m)
ctrl_stat_writes n word m = record {
  awaits = refl;
  sound = λ s. record { tar = s.tar; buffer = s.buffer; last_returned = s.last_returned };
  each = λ s v exact. record {
    before = v;
    exact = record { tar = exact.tar; buffer = exact.buffer; last_returned = exact.last_returned };
    refuses = false;
    leads = λ answers x h. record {
      now = world_now_requests m word false x h.now;
      debug = requested_exact (register_bit 28 word);
      system = requested_exact (register_bit 30 word);
      tar = h.tar;
      buffer = h.buffer;
      last_returned = h.last_returned;
      identification = h.identification;
      bus = h.bus;
    };
  };
}

select_writes : (n word : ℕ) (m : World) → WritesTo n SelectWrite (Some word) m (world_selecting word m)
select_writes n word m = record {
  awaits = refl;
  sound = λ s. record { tar = s.tar; buffer = s.buffer; last_returned = s.last_returned };
  each = λ s v exact. record {
    before = v;
    exact = record { tar = exact.tar; buffer = exact.buffer; last_returned = exact.last_returned };
    refuses = false;
    leads = λ answers x h. record {
      now = world_now_selects m word false x h.now;
      debug = h.debug;
      system = h.system;
      tar = h.tar;
      buffer = h.buffer;
      last_returned = h.last_returned;
      identification = h.identification;
      bus = h.bus;
    };
  };
}

ignored_writes : (n : ℕ) (found : ℕ) (m : World) → WritesTo n DpIgnoredWrite (Some found) m m
ignored_writes n found m = record {
  awaits = refl;
  sound = λ s. s;
  each = λ s v exact. record {
    before = v;
    exact = exact;
    refuses = false;
    leads = λ answers x h. h;
  };
}

-- ACCESS PORTS
csw_writes : (n word : ℕ) (m : World)
    → WritesTo n CswWrite (Some word) m (record (world_written m) { increments = (csw_of word).addr_inc == 1 })
csw_writes n word m = record {
  awaits = refl;
  sound = λ s. record { tar = s.tar; buffer = tt; last_returned = tt };
  each = λ s v exact. let some = world_some m s in record {
    before = record some.0 { tar = v.tar };
    exact = record { tar = exact.tar; buffer = some.1.buffer; last_returned = some.1.last_returned };
    refuses = false;
    leads = λ answers x h. record {
      now = world_now_writes_csw m word false x h.now;
      debug = h.debug;
      system = h.system;
      tar = h.tar;
      buffer = λ free. sym exact.buffer;
      last_returned = sym exact.last_returned;
      identification = h.identification;
      bus = h.bus;
    };
  };
}

tar_writes : (n word : ℕ) (m : World) → word < 2 ^ 32
    → WritesTo n TarWrite (Some word) m (record (world_written m) { tar = TarFrom word 0 })
tar_writes n word m small = record {
  awaits = refl;
  sound = λ s. record { tar = (small, omega arith); buffer = tt; last_returned = tt };
  each = λ s v exact. let some = world_some m s in
      let at : v.tar ≡ Some (word + 4 * exact.tar.0) = exact.tar.2 in
      let first : word + 4 * exact.tar.0 ≡ word = let none = exact.tar.1 in omega arith in
      record {
        before = some.0;
        exact = some.1;
        refuses = false;
        leads = λ answers x h. record {
          now = world_now_writes_tar m word false x h.now;
          debug = h.debug;
          system = h.system;
          tar = sym (at ∙ ap (λ z. Some z) first);
          buffer = λ free. sym exact.buffer;
          last_returned = sym exact.last_returned;
          identification = h.identification;
          bus = h.bus;
        };
      };
}

drw_writes : (n word : ℕ) (m : World)
    → WritesTo n DrwWrite (Some word) m (record (world_written m) { pending = Some TransferWrite })
drw_writes n word m = record {
  awaits = refl;
  sound = λ s. record { tar = s.tar; buffer = tt; last_returned = tt };
  each = λ s v exact. let some = world_some m s in record {
    before = record some.0 { tar = v.tar };
    exact = record { tar = exact.tar; buffer = some.1.buffer; last_returned = some.1.last_returned };
    refuses = false;
    leads = λ answers x h. record {
      now = world_now_writes_drw m word false x h.now;
      debug = h.debug;
      system = h.system;
      tar = h.tar;
      buffer = λ free. sym exact.buffer;
      last_returned = sym exact.last_returned;
      identification = h.identification;
      bus = h.bus;
    };
  };
}

-- a register elsewhere, which refuses the word or not
elsewhere_writes : (n word : ℕ) (refuses sticky : Bool) (m : World)
    → ((flag : Bool) → flag ≡ m.sticky_error → (flag || refuses) ≡ sticky)
    → WritesTo n ApOtherWrite (Some word) m (record (world_written m) { sticky_error = sticky })
elsewhere_writes n word refuses sticky m sets = record {
  awaits = refl;
  sound = λ s. record { tar = s.tar; buffer = tt; last_returned = tt };
  each = λ s v exact. let some = world_some m s in record {
    before = record some.0 { tar = v.tar };
    exact = record { tar = exact.tar; buffer = some.1.buffer; last_returned = some.1.last_returned };
    refuses = refuses;
    leads = λ answers x h. record {
      now = world_now_elsewhere m word refuses sticky x h.now (sets x.sticky_error h.now.sticky_error);
      debug = h.debug;
      system = h.system;
      tar = h.tar;
      buffer = λ free. sym exact.buffer;
      last_returned = sym exact.last_returned;
      identification = h.identification;
      bus = h.bus;
    };
  };
}

-- ALL REGISTERS
passed_only : (r : Register) → is_write_register r ≡ true → IsPassedWrite r → r ≡ DpIgnoredWrite
passed_only AbortWrite e h = absurd (h.abort refl)
passed_only CtrlStatWrite e h = absurd (h.ctrl_stat refl)
passed_only SelectWrite e h = absurd (h.select refl)
passed_only DpIgnoredWrite e h = refl
passed_only CswWrite e h = absurd (h.csw refl)
passed_only TarWrite e h = absurd (h.tar refl)
passed_only DrwWrite e h = absurd (h.drw refl)
passed_only ApOtherWrite e h = absurd (h.elsewhere refl)
passed_only r e h = absurd (cc)

-- the world after a write's word arrived is reached
pub arrivals_reached : (link : CheckedLink) (clean : Bool) (tx : Transaction) (b : World) (r : Register)
    (word : ℕ) (ok : Bool) (found : ℕ) → LinkBase link clean tx b r → tx.request.read ≡ false
    → tx.result ≡ Moved word ok → word < 2 ^ 32 → found < 2 ^ 32 → WriteMark clean ok word r (Some found)
    → (r ≡ AbortWrite → is_some (base_okayed tx r b).pending ≡ true
    → WorldReaches link (world_cleared found (world_failed (base_okayed tx r b))))
    → WorldsArriveAt link (base_okayed tx r b) r found
arrivals_reached link clean tx b r word ok found k write is small within mark fails =
    let n : ℕ = link.identification in
    let m : World = base_okayed tx r b in
    let to = λ (next : World) (s : Register) (e : r ≡ s) (h : WritesTo n s (Some found) m next).
    write_reaches link clean tx b next r word ok (Some found) k write is small mark
    (subst (λ z. WritesTo n z (Some found) m next) (sym e) h) in
    let named : is_write_register r ≡ true = sym (ap is_write_register k.names)
    ∙ checked_register_write b tx.request ∙ ap not write in
    record {
      abort = λ e. to _ AbortWrite e (abort_writes n found m);
      failed = λ e pends. fails e (observed_left_set _ _ pends);
      ctrl_stat = λ e. to _ CtrlStatWrite e (ctrl_stat_writes n found m);
      select = λ e. to _ SelectWrite e (select_writes n found m);
      csw = λ e. to _ CswWrite e (csw_writes n found m);
      tar = λ e. to _ TarWrite e (tar_writes n found m within);
      drw = λ e. to _ DrwWrite e (drw_writes n found m);
      elsewhere = λ e. to _ ApOtherWrite e
          (elsewhere_writes n found false m.sticky_error m (λ flag f. or-false flag ∙ f));
      error = λ e. to _ ApOtherWrite e (elsewhere_writes n found true true m (λ flag f. or-true flag));
      passed = λ h. to _ DpIgnoredWrite (passed_only r named h) (ignored_writes n found m);
    }

-- also once ABORT arrived, and cleared what a bus error set
pub abort_reached : (link : CheckedLink) (clean : Bool) (tx : Transaction) (b : World) (r : Register)
    (word : ℕ) (ok : Bool) (found : ℕ) → LinkBase link clean tx b r → tx.request.read ≡ false
    → tx.result ≡ Moved word ok → word < 2 ^ 32 → WriteMark clean ok word r (Some found) → r ≡ AbortWrite
    → WorldReaches link (world_cleared found (base_okayed tx r b))
abort_reached link clean tx b r word ok found k write is small mark e =
    write_reaches link clean tx b _ r word ok (Some found) k write is small mark
    (subst (λ z. WritesTo link.identification z (Some found) (base_okayed tx r b)
    (world_cleared found (base_okayed tx r b))) (sym e)
    (abort_writes link.identification found (base_okayed tx r b)))
