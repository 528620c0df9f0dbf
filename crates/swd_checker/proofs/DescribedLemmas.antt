-- What a world describes remains described: completion, idle cycles, line resets, WAIT, FAULT and damaged data.
use Rattle.std.proofs.Common.{◌≡◌, ◌≢◌, ◌+◌, ◌*◌, ◌%◌, ◌≤◌, ℕ, Bool, true, false, refl, sym, ap, subst, inl, inr}
use Rattle.std.proofs.Common.{arith, ◌∙◌}
use Rattle.std.specs.Prelude.{Option, Some, None, ◌||◌, ◌&&◌, ◌==◌, not, is_some, if◌then◌else◌, nat_lt, unwrap_or}
use Rattle.std.specs.Option.{option_map, option_and_then}
use Rattle.swd_port.specs.declared.register.Register.{Register}
use Rattle.swd_port.specs.declared.state.Drw.{Drw}
use Rattle.swd_port.specs.declared.state.Drw.TheVariants.{Reads, Writes}
use Rattle.swd_port.specs.declared.state.Reset.TheVariants.{Fresh}
use Rattle.swd_port.specs.declared.state.PowerUp.{PowerUp}
use Rattle.swd_port.specs.declared.state.PowerUp.TheVariants.{Unseen, Late, Seen}
use Rattle.swd_port.specs.Port.{Port, Target}
use Rattle.swd_port.specs.Choices.{Choice}
use Rattle.swd_port.specs.Bus.{Bus}
use Rattle.swd_port.specs.Completion.{port_completion, port_tar_next_address, pending_fails}
use Rattle.swd_port.specs.Completion.{tar_after_pending, buffer_after_pending}
use Rattle.swd_port.specs.Leading.{PortLeads, port_after_lead, port_line_awaits}
use Rattle.swd_port.specs.Answers.{is_port_power_there, is_port_unpowered}
use Rattle.swd_port.specs.Asking.{is_port_posted, port_after_wait, port_after_fault}
use Rattle.swd_port.specs.Moving.{Damaged, port_after_bits}
use Rattle.swd_port.proofs.CompletionLaws.{no_pending_same_target, port_completion_keeps_fact, port_kept}
use Rattle.swd_checker.specs.Worlds.{World, Transfer, Tar, TarUnknown, TarFrom, Held, checked_tar_incremented}
use Rattle.swd_checker.specs.Worlds.{checked_buffer_moved, world_success_of, world_succeeded, world_failed}
use Rattle.swd_checker.specs.Worlds.{world_after_reset, world_after_wait, world_after_fault, is_checked_power_there}
use Rattle.swd_checker.specs.Worlds.{world_after_damage}
use Rattle.swd_checker.specs.Worlds.{Power, PowerOff, PowerUnseen, PowerLate, PowerSeen}
use Rattle.swd_checker.specs.Described.{CheckedTar, CheckedHeld, CheckedPower, checked_transfer_of, IsWorldNow}
use Rattle.swd_checker.specs.Described.{WorldDescribes}
use Rattle.swd_checker.specs.Described.{now, done, failed}
use Rattle.swd_checker.specs.Laws.{WorldDescribesPort, WorldAtCompletion, WorldAtIdle, WorldAtReset, WorldAtWait}
use Rattle.swd_checker.specs.Laws.{WorldAtFault}
use Rattle.swd_checker.specs.Laws.{WorldAtDamage}

-- COMPLETION
-- a target in which no transfer is pending
pub world_no_transfer : (drw : Option Drw) → option_map checked_transfer_of drw ≡ None → drw ≡ None
world_no_transfer None e = refl
world_no_transfer (Some drw) e = grind arith

-- what a world keeps once its transfer succeeded
pub world_success_pends_nothing : (pending : Option Transfer) (w : World) → w.pending ≡ pending
    → (world_success_of pending w).pending ≡ None
world_success_pends_nothing None w e = e
world_success_pends_nothing (Some transfer) w e = refl

or_false : (a b : Bool) → b ≡ false → (a || b) ≡ a
or_false true b e = refl
or_false false b e = e

or_true : (a b : Bool) → b ≡ true → (a || b) ≡ true
or_true true b e = refl
or_true false b e = e

-- a world in which nothing is pending
idle_completes : (w : World) (c : Choice) (x : Target) → w.pending ≡ None → IsWorldNow w x
    → IsWorldNow w (port_completion c x)
idle_completes w c x none h = subst (IsWorldNow w)
    (sym (no_pending_same_target c x (world_no_transfer x.pending (h.pending ∙ none)))) h

next_inside : (first more index : ℕ) → index ≤ more → nat_lt (first % 1024 + 4 * more + 4) 1024 ≡ true
    → nat_lt ((first + 4 * index) % 1024 + 4) 1024 ≡ true
next_inside first more index within inside = grind arith

moves_inside : (first more index : ℕ) (b : Bool) → nat_lt (first % 1024 + 4 * more + 4) 1024 ≡ b → index ≤ more
    → CheckedTar (if b then TarFrom (first + 4) more else TarUnknown) (port_tar_next_address (first + 4 * index))
moves_inside first more index false e within = tt
moves_inside first more index true e within =
    (index, within, rw (next_inside first more index within e) (ap Some (grind arith)))

tar_moves : (increments : Bool) (tar : Tar) (at : Option ℕ) → CheckedTar tar at
    → CheckedTar (if increments then checked_tar_incremented tar else tar)
    (if increments then option_and_then port_tar_next_address at else at)
tar_moves false tar at h = h
tar_moves true TarUnknown at h = tt
tar_moves true (TarFrom first more) at (index, within, e) =
    subst (λ a. CheckedTar (checked_tar_incremented (TarFrom first more)) (option_and_then port_tar_next_address a))
    (sym e)
    (moves_inside first more index _ refl within)

buffer_moves : (drw : Drw) (at : ℕ) (m : Bus) (held : Held) (buffer : Option ℕ) → CheckedHeld held buffer
    → CheckedHeld (checked_buffer_moved (checked_transfer_of drw) held)
    (buffer_after_pending (Some drw) false at m buffer)
buffer_moves Reads at m held buffer h = (_, refl)
buffer_moves (Writes word) at m held buffer h = h

-- the target once its transfer succeeded
pub world_now_succeeds : (w : World) (c : Choice) (x : Target) (drw : Drw) → IsWorldNow w x → x.pending ≡ Some drw
    → w.pending ≡ Some (checked_transfer_of drw)
    → pending_fails x.pending (unwrap_or x.tar c.address) x.memory ≡ false
    → IsWorldNow (world_success_of (Some (checked_transfer_of drw)) w) (port_completion c x)
world_now_succeeds w c x drw h pending known fits = record {
  reset = h.reset;
  sticky_error = or_false _ _ fits ∙ h.sticky_error;
  write_error = h.write_error;
  read_ok = h.read_ok;
  debug = h.debug;
  system = h.system;
  mem_ap = h.mem_ap;
  bank0 = h.bank0;
  increments = h.increments;
  pending = refl;
  tar = subst (λ f. CheckedTar (if w.increments then checked_tar_incremented w.tar else w.tar)
      (tar_after_pending x.pending f x.increments x.tar)) (sym fits)
      (subst (λ p. CheckedTar (if w.increments then checked_tar_incremented w.tar else w.tar)
      (tar_after_pending p false x.increments x.tar)) (sym pending)
      (subst (λ i. CheckedTar (if w.increments then checked_tar_incremented w.tar else w.tar)
      (if i then option_and_then port_tar_next_address x.tar else x.tar)) (sym h.increments)
      (tar_moves w.increments w.tar x.tar h.tar)));
  buffer = subst (λ f. CheckedHeld (checked_buffer_moved (checked_transfer_of drw) w.buffer)
      (buffer_after_pending x.pending f (unwrap_or x.tar c.address) x.memory x.buffer)) (sym fits)
      (subst (λ p. CheckedHeld (checked_buffer_moved (checked_transfer_of drw) w.buffer)
      (buffer_after_pending p false (unwrap_or x.tar c.address) x.memory x.buffer)) (sym pending)
      (buffer_moves drw (unwrap_or x.tar c.address) x.memory w.buffer x.buffer h.buffer));
  last_returned = h.last_returned;
}

-- and once it was a bus error
pub world_now_fails : (w : World) (c : Choice) (x : Target) → IsWorldNow w x
    → pending_fails x.pending (unwrap_or x.tar c.address) x.memory ≡ true →
    IsWorldNow (world_failed w) (port_completion c x)
world_now_fails w c x h error = record {
  reset = h.reset;
  sticky_error = or_true _ _ error;
  write_error = h.write_error;
  read_ok = h.read_ok;
  debug = h.debug;
  system = h.system;
  mem_ap = h.mem_ap;
  bank0 = h.bank0;
  increments = h.increments;
  pending = refl;
  tar = tt;
  buffer = tt;
  last_returned = h.last_returned;
}

known_pending : (w : World) (x : Target) (drw : Drw) → IsWorldNow w x → x.pending ≡ Some drw
    → w.pending ≡ Some (checked_transfer_of drw)
known_pending w x drw h pending = sym h.pending ∙ ap (option_map checked_transfer_of) pending

takes_effect : (w : World) (c : Choice) (x : Target) (drw : Drw) (error : Bool) → IsWorldNow w x → x.pending ≡ Some drw
    → pending_fails x.pending (unwrap_or x.tar c.address) x.memory ≡ error → WorldDescribes w (port_completion c x)
takes_effect w c x drw true h pending e =
    failed (ap is_some (known_pending w x drw h pending)) (world_now_fails w c x h e)
takes_effect w c x drw false h pending e =
    let known : w.pending ≡ Some (checked_transfer_of drw) = known_pending w x drw h pending in
    done (ap is_some known) (subst (λ p. IsWorldNow (world_success_of p w) (port_completion c x)) (sym known)
    (world_now_succeeds w c x drw h pending known e))

now_completes : (w : World) (c : Choice) (x : Target) (pending : Option Drw) → x.pending ≡ pending → IsWorldNow w x
    → WorldDescribes w (port_completion c x)
now_completes w c x None e h = now (subst (IsWorldNow w) (sym (no_pending_same_target c x e)) h)
now_completes w c x (Some drw) e h = takes_effect w c x drw _ h e refl

-- what a world describes, it describes after a completion
pub world_completes : (w : World) (c : Choice) (x : Target) → WorldDescribes w x →
    WorldDescribes w (port_completion c x)
world_completes w c x (now h) = now_completes w c x _ refl h
world_completes w c x (done pends h) =
    done pends (idle_completes (world_succeeded w) c x (world_success_pends_nothing w.pending w refl) h)
world_completes w c x (failed pends h) = failed pends (idle_completes (world_failed w) c x refl h)

-- the law of completion
pub world_at_completion : WorldAtCompletion
world_at_completion w s t completes h = record {
  target = port_completion_keeps_fact (WorldDescribes w) (world_completes w) s t completes h.target;
  awaits = ap (λ l. port_line_awaits l.line) (port_kept s t completes).link ∙ h.awaits;
}

-- ONES AND ZEROS
-- the lead between two completions
around_lead : (w v : World) (ones : ℕ)
    → ((a : Port) → WorldDescribesPort w a → WorldDescribesPort v (port_after_lead ones a))
    → (s t : Port) → PortLeads s ones t → WorldDescribesPort w s → WorldDescribesPort v t
around_lead w v ones step s t (a, b, first, leads, last) h =
    world_at_completion v b t last (subst (WorldDescribesPort v) (sym leads.after)
    (step a (world_at_completion w s a first h)))

-- the law of idle cycles
pub world_at_idle : WorldAtIdle
world_at_idle w s t leads h = around_lead w w 0 (λ a d. record { target = d.target; awaits = d.awaits }) s t leads h

-- a reset of a target, and of each description of it
pub reset_now : (w : World) (awaits : Bool) (x : Target) → awaits ≡ w.awaits → IsWorldNow w x
    → IsWorldNow (world_after_reset w) (record x { reset = Fresh; write_error = awaits || x.write_error })
reset_now w awaits x same h = record {
  reset = refl;
  sticky_error = h.sticky_error;
  write_error = rw (same, h.write_error) (grind arith);
  read_ok = h.read_ok;
  debug = h.debug;
  system = h.system;
  mem_ap = h.mem_ap;
  bank0 = h.bank0;
  increments = h.increments;
  pending = h.pending;
  tar = h.tar;
  buffer = h.buffer;
  last_returned = h.last_returned;
}

reset_success : (w : World) (pending : Option Transfer)
    → world_after_reset (world_success_of pending w) ≡ world_success_of pending (world_after_reset w)
reset_success w None = refl
reset_success w (Some transfer) = refl

-- and whether it awaits data
pub world_success_awaits : (w : World) (pending : Option Transfer) → (world_success_of pending w).awaits ≡ w.awaits
world_success_awaits w None = refl
world_success_awaits w (Some transfer) = refl

reset_describes : (w : World) (awaits : Bool) (x : Target) → awaits ≡ w.awaits → WorldDescribes w x
    → WorldDescribes (world_after_reset w) (record x { reset = Fresh; write_error = awaits || x.write_error })
reset_describes w awaits x same (now h) = now (reset_now w awaits x same h)
reset_describes w awaits x same (done pends h) =
    done pends (subst (λ v. IsWorldNow v (record x { reset = Fresh; write_error = awaits || x.write_error }))
    (reset_success w w.pending)
    (reset_now (world_succeeded w) awaits x (same ∙ sym (world_success_awaits w w.pending)) h))
reset_describes w awaits x same (failed pends h) = failed pends (reset_now (world_failed w) awaits x same h)

resets : (w : World) (ones : ℕ) → (ones == 0) ≡ false → (a : Port) → WorldDescribesPort w a
    → WorldDescribesPort (world_after_reset w) (port_after_lead ones a)
resets w ones some a h = record {
  target = rw some (reset_describes w (port_line_awaits a.link.line) a.target h.awaits h.target);
  awaits = rw some refl;
}

-- a number that isn't zero
pub not_zero : (ones : ℕ) → ones ≢ 0 → (ones == 0) ≡ false
not_zero ones some = grind arith

-- the law of line resets
pub world_at_reset : WorldAtReset
world_at_reset w ones s t some leads h =
    around_lead w (world_after_reset w) ones (resets w ones (not_zero ones some)) s t leads h

-- WAIT AND FAULT
-- READOK after a request that wasn't answered OK
read_ok_refused : (posted : Bool) (b c : Bool) → b ≡ c → (if posted then false else b) ≡ (c && not posted)
read_ok_refused true b true e = refl
read_ok_refused true b false e = refl
read_ok_refused false b true e = e
read_ok_refused false b false e = e

-- after WAIT
pub world_now_waits : (w : World) (r : Register) (x : Target) → IsWorldNow w x →
    IsWorldNow (world_after_wait r w) (port_after_wait r x)
world_now_waits w r x h = record {
  reset = h.reset;
  sticky_error = h.sticky_error;
  write_error = h.write_error;
  read_ok = read_ok_refused (is_port_posted r) _ _ h.read_ok;
  debug = h.debug;
  system = h.system;
  mem_ap = h.mem_ap;
  bank0 = h.bank0;
  increments = h.increments;
  pending = h.pending;
  tar = h.tar;
  buffer = h.buffer;
  last_returned = h.last_returned;
}

wait_success : (w : World) (r : Register) (pending : Option Transfer)
    → world_after_wait r (world_success_of pending w) ≡ world_success_of pending (world_after_wait r w)
wait_success w r None = refl
wait_success w r (Some transfer) = refl

-- the law of WAIT
pub world_at_wait : WorldAtWait
world_at_wait w r x (now h) = now (world_now_waits w r x h)
world_at_wait w r x (done pends h) = done pends (subst (λ v. IsWorldNow v (port_after_wait r x))
    (wait_success w r w.pending) (world_now_waits (world_succeeded w) r x h))
world_at_wait w r x (failed pends h) = failed pends (world_now_waits (world_failed w) r x h)

-- a power is there in a world and in the targets that it describes
pub checked_power_there : (power : Power) (on : Bool) (up : PowerUp) → CheckedPower power on up
    → (on && is_port_power_there up) ≡ is_checked_power_there power
checked_power_there PowerOff on up off = rw off refl
checked_power_there PowerUnseen on Unseen (requested, e) = rw requested refl
checked_power_there PowerUnseen on Late (requested, e) = absurd (e refl)
checked_power_there PowerUnseen on Seen (requested, e) = rw requested refl
checked_power_there PowerLate on up (requested, e) = rw (requested, e) refl
checked_power_there PowerSeen on up (requested, e) = rw (requested, e) refl

same_or : (a b c d : Bool) → a ≡ b → c ≡ d → (a || c) ≡ (b || d)
same_or a b c d e f = rw (e, f) refl

-- FAULT of a target whose fields are the world's
pub world_fault_now : (w : World) (r : Register) (port : Bool) (x : Target) → IsWorldNow w x
    → IsWorldNow (world_after_fault r port w) (port_after_fault r port x)
world_fault_now w r port x h = record {
  reset = h.reset;
  sticky_error = same_or _ _ _ _ h.sticky_error
      (ap (is_port_unpowered port) (checked_power_there w.debug x.debug_power x.debug_up h.debug));
  write_error = h.write_error;
  read_ok = read_ok_refused (is_port_posted r) _ _ h.read_ok;
  debug = h.debug;
  system = h.system;
  mem_ap = h.mem_ap;
  bank0 = h.bank0;
  increments = h.increments;
  pending = h.pending;
  tar = h.tar;
  buffer = h.buffer;
  last_returned = h.last_returned;
}

-- a world of a target with nothing pending
pub world_pends_nothing : (w : World) (x : Target) → x.pending ≡ None → IsWorldNow w x → w.pending ≡ None
world_pends_nothing w x none h = sym h.pending ∙ ap (option_map checked_transfer_of) none

-- the law of FAULT
pub world_at_fault : WorldAtFault
world_at_fault w r port x none (now h) = inl (world_fault_now (world_succeeded w) r port x
    (subst (λ p. IsWorldNow (world_success_of p w) x) (sym (world_pends_nothing w x none h)) h))
world_at_fault w r port x none (done pends h) = inl (world_fault_now (world_succeeded w) r port x h)
world_at_fault w r port x none (failed pends h) = inr (pends, world_fault_now (world_failed w) r port x h)

-- DAMAGED DATA
-- data arrived damaged
pub world_now_damages : (w : World) (refuses : Bool) (x : Target) → IsWorldNow w x
    → IsWorldNow (world_after_damage w) (port_after_bits refuses Damaged x)
world_now_damages w refuses x h = record {
  reset = h.reset;
  sticky_error = h.sticky_error;
  write_error = refl;
  read_ok = h.read_ok;
  debug = h.debug;
  system = h.system;
  mem_ap = h.mem_ap;
  bank0 = h.bank0;
  increments = h.increments;
  pending = h.pending;
  tar = h.tar;
  buffer = h.buffer;
  last_returned = h.last_returned;
}

damage_success : (w : World) (pending : Option Transfer)
    → world_after_damage (world_success_of pending w) ≡ world_success_of pending (world_after_damage w)
damage_success w None = refl
damage_success w (Some transfer) = refl

-- the law of damaged data
pub world_at_damage : WorldAtDamage
world_at_damage w refuses x (now h) = now (world_now_damages w refuses x h)
world_at_damage w refuses x (done pends h) =
    done pends (subst (λ v. IsWorldNow v (port_after_bits refuses Damaged x)) (damage_success w w.pending)
    (world_now_damages (world_succeeded w) refuses x h))
world_at_damage w refuses x (failed pends h) = failed pends (world_now_damages (world_failed w) refuses x h)
