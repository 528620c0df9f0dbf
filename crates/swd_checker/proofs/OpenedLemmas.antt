-- Worlds that are held at first: each stands for states of the port model.
use Rattle.std.proofs.Common.{◌≡◌, ℕ, Bool, true, false, refl, sym, subst, arith, [], ◌∷◌}
use Rattle.std.specs.Prelude.{Option, Some, None, ◌==◌}
use Rattle.std.specs.Option.{option_map}
use Rattle.std.specs.FinMap.{empty}
use Rattle.swd_trace.specs.declared.item.Item.TheVariants.{Junk}
use Rattle.swd_port.specs.declared.select.Select.{Select}
use Rattle.swd_port.specs.declared.wire.Due.TheVariants.{Nothing, Give}
use Rattle.swd_port.specs.Registers.{register_bit}
use Rattle.swd_port.specs.Bus.{Bus}
use Rattle.swd_port.specs.declared.register.Register.TheVariants.{DrwWrite}
use Rattle.swd_port.specs.declared.state.PowerUp.{PowerUp}
use Rattle.swd_port.specs.declared.state.PowerUp.TheVariants.{Unseen, Late, Seen}
use Rattle.swd_port.specs.declared.state.Drw.{Drw}
use Rattle.swd_port.specs.declared.state.Drw.TheVariants.{Reads, Writes}
use Rattle.swd_port.specs.declared.state.AfterAck.TheVariants.{Idle, Awaits}
use Rattle.swd_port.specs.Port.{Port, PortLink, port_selects_mem_ap}
use Rattle.swd_port.specs.Leading.{port_line_awaits}
use Rattle.swd_checker.specs.declared.checker.CheckStart.TheVariants.{Any as AnyStart}
use Rattle.swd_checker.specs.declared.worlds.Worlds.{Worlds}
use Rattle.swd_checker.specs.Worlds.{World, Power, PowerOff, PowerUnseen, PowerLate, PowerSeen, Transfer, TransferRead}
use Rattle.swd_checker.specs.Worlds.{TransferWrite, Tar, TarUnknown, TarFrom, world_made}
use Rattle.swd_checker.specs.Described.{CheckedPower, CheckedTar, checked_transfer_of}
use Rattle.swd_checker.specs.Exact.{WorldWords, CheckedAnswers, IsPowerExact, IsWorldExact, IsWorldSound, IsWorldPort}
use Rattle.swd_checker.specs.Exact.{IsTarExact}
use Rattle.swd_checker.specs.Reaching.{CheckedLink, checked_link, WorldReaches, WorldsReach, AreKeptSound}
use Rattle.swd_checker.specs.Openings.{world_unknown}
use Rattle.swd_checker.specs.Steps.{world_selecting}
use Rattle.swd_checker.specs.Fitting.{WorldIsShown}
use Rattle.swd_checker.proofs.SettleLemmas.{held_exact_checked}

-- A STATE OF A WORLD
-- a bus that answers so
abbrev pub made_bus : CheckedAnswers → Bus
made_bus answers = record {
  answers = answers;
  content = λ made. record { words = empty; log = []; room = 0 };
  log = [];
}

abbrev power_on : Power → Bool
power_on PowerOff = false
power_on PowerUnseen = true
power_on PowerLate = true
power_on PowerSeen = true

abbrev power_up : Power → PowerUp
power_up PowerOff = Unseen
power_up PowerUnseen = Unseen
power_up PowerLate = Late
power_up PowerSeen = Seen

power_checked : (p : Power) → CheckedPower p (power_on p) (power_up p)
power_checked PowerOff = refl
power_checked PowerUnseen = (refl, λ e. absurd (let f : Unseen ≡ Late = e in cc))
power_checked PowerLate = (refl, refl)
power_checked PowerSeen = (refl, refl)

power_exact : (p : Power) → IsPowerExact p (power_up p)
power_exact PowerOff = tt
power_exact PowerUnseen = refl
power_exact PowerLate = tt
power_exact PowerSeen = tt

-- zero if so, and else one
abbrev zero_if : Bool → ℕ
zero_if true = 0
zero_if false = 1

abbrev select_for : World → Select
select_for w = record { apsel = zero_if w.mem_ap; apbanksel = 0; dpbanksel = zero_if w.bank0 }

selects_for : (mem_ap : Bool) (bank : ℕ)
    → port_selects_mem_ap (record { apsel = zero_if mem_ap; apbanksel = 0; dpbanksel = bank }) ≡ mem_ap
selects_for true bank = refl
selects_for false bank = refl

bank_for : (bank0 : Bool) → (zero_if bank0 == 0) ≡ bank0
bank_for true = refl
bank_for false = refl

abbrev drw_for : Option Transfer → Option Drw
drw_for None = None
drw_for (Some TransferRead) = Some Reads
drw_for (Some TransferWrite) = Some (Writes 0)

transfer_for : (pending : Option Transfer) → option_map checked_transfer_of (drw_for pending) ≡ pending
transfer_for None = refl
transfer_for (Some TransferRead) = refl
transfer_for (Some TransferWrite) = refl

abbrev link_for : Bool → PortLink
link_for true = record { due = Give; line = Awaits DrwWrite None }
link_for false = record { due = Nothing; line = Idle }

awaits_for : (awaits : Bool) → port_line_awaits (link_for awaits).line ≡ awaits
awaits_for true = refl
awaits_for false = refl

-- a port with a world's fields, these words, and a bus that answers so
abbrev port_for : World → ℕ → WorldWords → CheckedAnswers → Port
port_for w n v answers = record {
  link = link_for w.awaits;
  target = record {
    reset = w.reset;
    sticky_error = w.sticky_error;
    write_error = w.write_error;
    read_ok = w.read_ok;
    debug_power = power_on w.debug;
    system_power = power_on w.system;
    debug_up = power_up w.debug;
    system_up = power_up w.system;
    select = select_for w;
    increments = w.increments;
    tar = v.tar;
    buffer = v.buffer;
    last_returned = v.last_returned;
    pending = drw_for w.pending;
    identification = n;
    memory = made_bus answers;
  };
  tally = record { asked = 0; disturbed = 0; lost = 0 };
}

-- what a world stands for exactly it describes: TAR
tar_exact_checked : (tar : Tar) (value : Option ℕ) → IsTarExact tar value → CheckedTar tar value
tar_exact_checked TarUnknown value h = tt
tar_exact_checked (TarFrom first more) value h = h

port_stands : (w : World) (n : ℕ) (v : WorldWords) (answers : CheckedAnswers) → IsWorldExact w v
    → IsWorldPort w n v answers (port_for w n v answers)
port_stands w n v answers exact = record {
  target = record {
    now = record {
      reset = refl;
      sticky_error = refl;
      write_error = refl;
      read_ok = refl;
      debug = power_checked w.debug;
      system = power_checked w.system;
      mem_ap = selects_for w.mem_ap (zero_if w.bank0);
      bank0 = bank_for w.bank0;
      increments = refl;
      pending = transfer_for w.pending;
      tar = tar_exact_checked w.tar v.tar exact.tar;
      buffer = held_exact_checked w.buffer v.buffer exact.buffer;
      last_returned = held_exact_checked w.last_returned v.last_returned exact.last_returned;
    };
    debug = power_exact w.debug;
    system = power_exact w.system;
    tar = refl;
    buffer = λ free. refl;
    last_returned = refl;
    identification = refl;
    bus = refl;
  };
  awaits = awaits_for w.awaits;
}

-- a world is shown by no items, from a state of its own
pub world_is_shown : (clean : Bool) (n : ℕ) (w : World) → register_bit 0 n ≡ true → IsWorldSound w
    → WorldIsShown AnyStart clean n [] w
world_is_shown clean n w odd sound = record {
  sound = sound;
  each = λ v answers exact. (
    port_for w n v answers,
    port_for w n v answers,
    odd,
    refl,
    port_stands w n v answers exact,
  );
}

-- ADDING
-- by a gap, each world is reached from the first one
abbrev gap_link : CheckedLink
gap_link = checked_link ((record { world = world_made; faults = 0 }) ∷ []) false 1 (Junk true)

reached_by_a_gap : (w : World) → IsWorldSound w → WorldReaches gap_link w
reached_by_a_gap w sound = record {
  sound = sound;
  each = λ v exact. (
    0,
    record { world = world_made; faults = 0 },
    omega arith,
    refl,
    (
      record { tar = Some 0; buffer = None; last_returned = None },
      record { tar = (0, omega arith, refl); buffer = refl; last_returned = refl },
      λ after. (
        λ made a. None,
        λ s port. (
          port_for w 1 v after,
          record { identification = sym port.target.identification },
          port_stands w 1 v after exact,
        ),
      ),
    ),
  );
}

-- where a world is added, all are sound if they were, and it is
pub added_sound : (v now : Worlds) (w : World) → ((link : CheckedLink) → WorldsReach link v → WorldReaches link w
    → WorldsReach link now) → AreKeptSound v.kept.items → IsWorldSound w → AreKeptSound now.kept.items
added_sound v now w reaches all sound =
    let r = reaches gap_link (record { each = λ k d below. reached_by_a_gap _ (all k d below) })
    (reached_by_a_gap w sound) in
    λ k d below. (r.each k d below).sound

-- where there is none, all are
pub none_sound : (v : Worlds) → v.kept.items ≡ [] → AreKeptSound v.kept.items
none_sound v none =
    subst AreKeptSound (sym none) (λ k d below. absurd (omega arith))

-- a world of which no word is known
pub unknown_sound : (w : World) → w ≡ world_unknown → IsWorldSound w
unknown_sound w is = subst IsWorldSound (sym is) (record { tar = tt; buffer = tt; last_returned = tt })

-- and whatever SELECT was written
pub selecting_sound : (word : ℕ) (w selected : World) → selected ≡ world_selecting word w → IsWorldSound w
    → IsWorldSound selected
selecting_sound word w selected is sound = subst IsWorldSound (sym is)
    (record { tar = sound.tar; buffer = sound.buffer; last_returned = sound.last_returned })
