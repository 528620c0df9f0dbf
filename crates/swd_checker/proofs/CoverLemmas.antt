-- A world that covers another describes all that the other does.
use Rattle.std.proofs.Common.{◌≡◌, ◌+◌, ◌-◌, ◌*◌, ◌/◌, ◌%◌, ◌≤◌, ℕ, Bool, true, false, refl, sym, ap, subst, arith, ◌∙◌}
use Rattle.std.specs.Prelude.{Option, Some, None, is_some, if◌then◌else◌, nat_lt, nat_le}
use Rattle.swd_port.specs.Port.{Target}
use Rattle.swd_checker.specs.Worlds.{World, Transfer, TransferRead, TransferWrite, Tar, TarUnknown, TarFrom, Held}
use Rattle.swd_checker.specs.Worlds.{checked_tar_incremented, checked_buffer_moved, world_success_of, world_succeeded}
use Rattle.swd_checker.specs.Worlds.{world_failed}
use Rattle.swd_checker.specs.Described.{CheckedTar, IsWorldNow, WorldDescribes, now, done, failed}
use Rattle.swd_checker.specs.Words.{HeldIncludes}
use Rattle.swd_checker.specs.Covering.{IsTarWithin, AreTarsJoined, PowerIncludes, IsWorldAlike}
use Rattle.swd_checker.specs.Covering.{WorldIncludes, IsWorldWider, IsWorldWithTar, AreWorldsJoined}

within_holds : (tar other : Tar) → IsTarWithin tar other → (at : Option ℕ) → CheckedTar tar at → CheckedTar other at
within_holds tar TarUnknown h at e = tt
within_holds TarUnknown (TarFrom first more) h at e = absurd h
within_holds (TarFrom from count) (TarFrom first more) (apart, same, fits) at (index, within, e) =
    let moved : from + 4 * index ≡ first + 4 * (apart + index) = omega arith in
    (apart + index, omega arith, e ∙ ap Some moved)

inside : (from count first more apart : ℕ) → from ≡ first + 4 * apart → apart + count ≤ more
    → nat_lt (first % 1024 + 4 * more + 4) 1024 ≡ true → nat_lt (from % 1024 + 4 * count + 4) 1024 ≡ true
inside from count first more apart same fits within = grind arith

both_move : (b c : Bool) (from count first more apart : ℕ) → from ≡ first + 4 * apart → apart + count ≤ more
    → (b ≡ true → c ≡ true)
    → IsTarWithin (if c then TarFrom (from + 4) count else TarUnknown)
    (if b then TarFrom (first + 4) more else TarUnknown)
both_move true true from count first more apart same fits h = (apart, omega arith, fits)
both_move true false from count first more apart same fits h = absurd (let e : false ≡ true = h refl in cc)
both_move false true from count first more apart same fits h = tt
both_move false false from count first more apart same fits h = tt

within_moves : (tar other : Tar) → IsTarWithin tar other
    → IsTarWithin (checked_tar_incremented tar) (checked_tar_incremented other)
within_moves tar TarUnknown h = tt
within_moves TarUnknown (TarFrom first more) h = absurd h
within_moves (TarFrom from count) (TarFrom first more) (apart, same, fits) =
    both_move _ _ from count first more apart same fits (inside from count first more apart same fits)

-- the first is as wide in each field
pub record WorldWider (w other : World) : Type 0 where
  pub alike : IsWorldAlike w other
  pub debug : PowerIncludes w.debug other.debug
  pub system : PowerIncludes w.system other.system
  pub tar : IsTarWithin other.tar w.tar
  pub buffer : HeldIncludes w.buffer other.buffer
  pub last_returned : HeldIncludes w.last_returned other.last_returned

wider_now : (w other : World) (x : Target) → WorldWider w other → IsWorldNow other x → IsWorldNow w x
wider_now w other x v h = record {
  reset = h.reset ∙ sym v.alike.reset;
  sticky_error = h.sticky_error ∙ sym v.alike.sticky_error;
  write_error = h.write_error ∙ sym v.alike.write_error;
  read_ok = h.read_ok ∙ sym v.alike.read_ok;
  debug = v.debug.each x.debug_power x.debug_up h.debug;
  system = v.system.each x.system_power x.system_up h.system;
  mem_ap = h.mem_ap ∙ sym v.alike.mem_ap;
  bank0 = h.bank0 ∙ sym v.alike.bank0;
  increments = h.increments ∙ sym v.alike.increments;
  pending = h.pending ∙ sym v.alike.pending;
  tar = within_holds other.tar w.tar v.tar x.tar h.tar;
  buffer = v.buffer.each x.buffer h.buffer;
  last_returned = v.last_returned.each x.last_returned h.last_returned;
}

buffer_includes : (transfer : Transfer) (held other : Held) → HeldIncludes held other
    → HeldIncludes (checked_buffer_moved transfer held) (checked_buffer_moved transfer other)
buffer_includes TransferRead held other h = record { each = λ value e. e }
buffer_includes TransferWrite held other h = h

tar_succeeds : (a b : Bool) (tar other : Tar) → a ≡ b → IsTarWithin other tar
    → IsTarWithin (if b then checked_tar_incremented other else other)
    (if a then checked_tar_incremented tar else tar)
tar_succeeds true true tar other e h = within_moves other tar h
tar_succeeds false false tar other e h = h
tar_succeeds true false tar other e h = absurd (cc)
tar_succeeds false true tar other e h = absurd (cc)

wider_success : (w other : World) (pending : Option Transfer) → WorldWider w other
    → WorldWider (world_success_of pending w) (world_success_of pending other)
wider_success w other None v = v
wider_success w other (Some transfer) v = record {
  alike = record {
    reset = v.alike.reset;
    sticky_error = v.alike.sticky_error;
    write_error = v.alike.write_error;
    read_ok = v.alike.read_ok;
    mem_ap = v.alike.mem_ap;
    bank0 = v.alike.bank0;
    increments = v.alike.increments;
    pending = refl;
    awaits = v.alike.awaits;
  };
  debug = v.debug;
  system = v.system;
  tar = tar_succeeds w.increments other.increments w.tar other.tar v.alike.increments v.tar;
  buffer = buffer_includes transfer w.buffer other.buffer v.buffer;
  last_returned = v.last_returned;
}

wider_failed : (w other : World) → WorldWider w other → WorldWider (world_failed w) (world_failed other)
wider_failed w other v = record {
  alike = record {
    reset = v.alike.reset;
    sticky_error = refl;
    write_error = v.alike.write_error;
    read_ok = v.alike.read_ok;
    mem_ap = v.alike.mem_ap;
    bank0 = v.alike.bank0;
    increments = v.alike.increments;
    pending = refl;
    awaits = v.alike.awaits;
  };
  debug = v.debug;
  system = v.system;
  tar = tt;
  buffer = record { each = λ value e. e };
  last_returned = v.last_returned;
}

wider_describes : (w other : World) (x : Target) → WorldWider w other → WorldDescribes other x → WorldDescribes w x
wider_describes w other x v (now h) = now (wider_now w other x v h)
wider_describes w other x v (done pends h) =
    done (ap is_some v.alike.pending ∙ pends) (subst (λ p. IsWorldNow (world_success_of p w) x) (sym v.alike.pending)
    (wider_now (world_success_of other.pending w) (world_succeeded other) x (wider_success w other other.pending v) h))
wider_describes w other x v (failed pends h) = failed (ap is_some v.alike.pending ∙ pends)
    (wider_now (world_failed w) (world_failed other) x (wider_failed w other v) h)

-- a world that is as wide in each field describes all that the other does
pub world_includes : (w other : World) → WorldWider w other → WorldIncludes w other
world_includes w other v = record { awaits = v.alike.awaits; each = λ x h. wider_describes w other x v h }

-- a world with more addresses of TAR describes all that the one with fewer does
pub world_includes_by_tar : (w : World) (tar : Tar) → IsTarWithin w.tar tar → WorldIncludes (record w { tar = tar }) w
world_includes_by_tar w tar h = world_includes (record w { tar = tar }) w (record {
  alike = record {
    reset = refl;
    sticky_error = refl;
    write_error = refl;
    read_ok = refl;
    mem_ap = refl;
    bank0 = refl;
    increments = refl;
    pending = refl;
    awaits = refl;
  };
  debug = record { each = λ on up e. e };
  system = record { each = λ on up e. e };
  tar = h;
  buffer = record { each = λ value e. e };
  last_returned = record { each = λ value e. e };
})

-- a world that is as wide in each field but TAR
pub world_covers : (w other : World) → IsWorldWider w other → IsTarWithin other.tar w.tar → WorldIncludes w other
world_covers w other v h = world_includes w other (record {
  alike = v.alike;
  debug = v.debug;
  system = v.system;
  tar = h;
  buffer = v.buffer;
  last_returned = v.last_returned;
})

-- two worlds that differ in TAR alone, with the addresses of both
pub worlds_joined : (w other : World) (tar : Option Tar) (result : Option World) → IsWorldWider w other
    → AreTarsJoined w.tar other.tar tar → IsWorldWithTar w tar result → AreWorldsJoined w other result
worlds_joined w other None result v h is = subst (AreWorldsJoined w other) (sym is) tt
worlds_joined w other (Some tar) result v h is = subst (AreWorldsJoined w other) (sym is) (
  world_includes_by_tar w tar h.0,
  world_includes (record w { tar = tar }) other (record {
    alike = record {
      reset = v.alike.reset;
      sticky_error = v.alike.sticky_error;
      write_error = v.alike.write_error;
      read_ok = v.alike.read_ok;
      mem_ap = v.alike.mem_ap;
      bank0 = v.alike.bank0;
      increments = v.alike.increments;
      pending = v.alike.pending;
      awaits = v.alike.awaits;
    };
    debug = v.debug;
    system = v.system;
    tar = h.1;
    buffer = v.buffer;
    last_returned = v.last_returned;
  }),
)

-- a test that one number isn't above another
pub checked_at_most : (a b : ℕ) → nat_le a b ≡ true → a ≤ b
checked_at_most a b e = grind arith

-- TAR by its numbers
pub tar_within : (first more from count : ℕ) → first ≤ from → (from - first) % 4 ≡ 0
    → (from - first) / 4 + count ≤ more → IsTarWithin (TarFrom from count) (TarFrom first more)
tar_within first more from count after whole fits = ((from - first) / 4, omega arith, fits)

-- the addresses of both, by their numbers
pub tars_joined : (first more from count most : ℕ) → first ≤ from → (from - first) % 4 ≡ 0 → more ≤ most
    → (from - first) / 4 + count ≤ most
    → AreTarsJoined (TarFrom first more) (TarFrom from count) (Some (TarFrom first most))
tars_joined first more from count most after whole all fits =
    ((0, omega arith, omega arith), tar_within first most from count after whole fits)
