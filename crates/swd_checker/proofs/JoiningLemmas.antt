-- Worlds that are joined into one stand for no more than the two.
use Rattle.std.proofs.Common.{◌≡◌, ◌<◌, ◌≤◌, ◌+◌, ◌-◌, ◌*◌, ◌/◌, ◌%◌, ℕ, true, false, refl, sym, ap, subst}
use Rattle.std.proofs.Common.{arith, ◌∙◌, ◌⊎◌, inl, inr}
use Rattle.std.specs.Prelude.{Option, Some, None}
use Rattle.swd_port.specs.declared.state.PowerUp.TheVariants.{Unseen, Late, Seen}
use Rattle.swd_port.specs.Port.{Port, Target}
use Rattle.swd_checker.specs.Worlds.{World, Power, PowerOff, PowerUnseen, PowerLate, PowerSeen, Tar, TarUnknown}
use Rattle.swd_checker.specs.Worlds.{TarFrom}
use Rattle.swd_checker.specs.Worlds.{Held, HeldUnknown, HeldWord, HeldCsw, HeldSeen}
use Rattle.swd_checker.specs.Described.{CheckedTar, CheckedHeld, CheckedPower}
use Rattle.swd_checker.specs.Words.{HeldIncludes}
use Rattle.swd_checker.specs.Covering.{PowerIncludes, IsWorldWithTar}
use Rattle.swd_checker.specs.Exact.{IsTarExact, IsHeldExact, IsHeldSound, IsPowerExact, IsWorldExact}
use Rattle.swd_checker.specs.Exact.{IsWorldTarget, IsWorldPort, IsWorldSame, WorldWords, CheckedAnswers}
use Rattle.swd_checker.specs.Reaching.{CheckedLink, IsReachedBy, WorldReaches, AreReachedJoined, HeldHas}
use Rattle.swd_checker.specs.Joining.{HeldCovers, AreWorldsAlike, AreTarsUnited, AreTarsWhole}

-- TAR
one_or_other : (index more : ℕ) → (index ≤ more) ⊎ (more < index)
one_or_other index more = grind arith

united_sound : (first more from count most apart : ℕ) → from ≡ first + 4 * apart → first / 1024 ≡ from / 1024
    → (most ≤ more) ⊎ (most ≤ apart + count) → first % 1024 + 4 * more < 1024 → from % 1024 + 4 * count < 1024
    → first % 1024 + 4 * most < 1024
united_sound first more from count most apart moved same (inl few) fits within = omega arith
united_sound first more from count most apart moved same (inr few) fits within =
    let apart_by : from % 1024 ≡ first % 1024 + 4 * apart = omega arith in omega arith

united_each : (first more from count most apart : ℕ) → from ≡ first + 4 * apart → apart ≤ more + 1
    → (most ≤ more) ⊎ (most ≤ apart + count) → (at : Option ℕ) → IsTarExact (TarFrom first most) at
    → IsTarExact (TarFrom first more) at ⊎ IsTarExact (TarFrom from count) at
united_each first more from count most apart moved near most_is at (index, within, e) =
    elim (one_or_other index more)
    as (λ _. IsTarExact (TarFrom first more) at ⊎ IsTarExact (TarFrom from count) at) [
      | inl inside ↦ inl (index, inside, e)
      | inr past ↦ inr (elim most_is as (λ _. IsTarExact (TarFrom from count) at) [
        | inl few ↦ absurd (omega arith)
        | inr few ↦ (
            let at_is : first + 4 * index ≡ from + 4 * (index - apart) = omega arith in
            (index - apart, omega arith, e ∙ ap Some at_is)
            )
      ])
    ]

-- the addresses of both, by their numbers
pub tars_united : (first more from count most : ℕ) → first ≤ from → (from - first) % 4 ≡ 0
    → first / 1024 ≡ from / 1024 → (from - first) / 4 ≤ more + 1
    → (most ≤ more) ⊎ (most ≤ (from - first) / 4 + count)
    → AreTarsWhole (TarFrom first more) (TarFrom from count) (Some (TarFrom first most))
tars_united first more from count most after whole same near most_is =
    let moved : from ≡ first + 4 * ((from - first) / 4) = omega arith in
    record {
      sound = λ h k. (
        h.0,
        united_sound first more from count most ((from - first) / 4) moved same most_is h.1 k.1,
      );
      each = united_each first more from count most ((from - first) / 4) moved near most_is;
    }

other_first : (tar other joined : Tar) → AreTarsUnited other tar joined → AreTarsUnited tar other joined
other_first tar other joined h = record {
  sound = λ a b. h.sound b a;
  each = λ at e. elim (h.each at e) as (λ _. IsTarExact tar at ⊎ IsTarExact other at) [
    | inl second ↦ inr second
    | inr first ↦ inl first
  ];
}

-- WORLDS
-- a power that includes another, which includes it
power_same : (power other : Power) → PowerIncludes power other → PowerIncludes other power → power ≡ other
power_same PowerOff PowerOff h k = refl
power_same PowerUnseen PowerUnseen h k = refl
power_same PowerLate PowerLate h k = refl
power_same PowerSeen PowerSeen h k = refl
power_same PowerOff PowerUnseen h k =
    absurd (let e : true ≡ false = h.each true Seen (refl, λ (e : Seen ≡ Late). cc) in cc)
power_same PowerOff PowerLate h k = absurd (let e : true ≡ false = h.each true Late (refl, refl) in cc)
power_same PowerOff PowerSeen h k = absurd (let e : true ≡ false = h.each true Seen (refl, refl) in cc)
power_same PowerUnseen PowerOff h k = absurd (let e : false ≡ true = (h.each false Seen refl).0 in cc)
power_same PowerUnseen PowerLate h k = absurd ((h.each true Late (refl, refl)).1 refl)
power_same PowerUnseen PowerSeen h k =
    absurd (let e : Unseen ≡ Seen = (k.each true Unseen (refl, λ (e : Unseen ≡ Late). cc)).1 in cc)
power_same PowerLate PowerOff h k = absurd (let e : false ≡ true = (h.each false Late refl).0 in cc)
power_same PowerLate PowerUnseen h k =
    absurd (let e : Seen ≡ Late = (h.each true Seen (refl, λ (e : Seen ≡ Late). cc)).1 in cc)
power_same PowerLate PowerSeen h k = absurd (let e : Seen ≡ Late = (h.each true Seen (refl, refl)).1 in cc)
power_same PowerSeen PowerOff h k = absurd (let e : false ≡ true = (h.each false Seen refl).0 in cc)
power_same PowerSeen PowerUnseen h k =
    absurd (let e : Unseen ≡ Seen = (h.each true Unseen (refl, λ (e : Unseen ≡ Late). cc)).1 in cc)
power_same PowerSeen PowerLate h k = absurd (let e : Late ≡ Seen = (h.each true Late (refl, refl)).1 in cc)

-- a word that may be unknown is
held_unknown : (held : Held) → HeldIncludes held HeldUnknown → held ≡ HeldUnknown
held_unknown HeldUnknown h = refl
held_unknown HeldWord h = absurd (let found : (word : ℕ) × (None ≡ Some word) = h.each None tt in
    let e : None ≡ Some found.0 = found.1 in cc)
held_unknown (HeldCsw increments) h =
    absurd (let found = h.each None tt in let e : None ≡ Some found.0 = found.1 in cc)
held_unknown (HeldSeen near) h =
    absurd (let found = h.each None tt in let e : None ≡ Some found.0 = found.1 in cc)

-- the words of two worlds that differ in TAR alone
held_alike : (held other : Held) → HeldIncludes held other → HeldCovers other held → IsHeldSound held
    → HeldHas other held
held_alike held other includes covers sound =
    covers.has (λ e. held_unknown held (subst (HeldIncludes held) e includes)) sound

exact_tar : (tar : Tar) (at : Option ℕ) → IsTarExact tar at → CheckedTar tar at
exact_tar TarUnknown at e = tt
exact_tar (TarFrom first more) at e = e

exact_held : (held : Held) (value : Option ℕ) → IsHeldExact held value → CheckedHeld held value
exact_held HeldUnknown value e = tt
exact_held HeldWord value (word, is, small) = (word, is)
exact_held (HeldCsw increments) value (word, is, small, csw) = (word, is, csw)
exact_held (HeldSeen near) value e = e

-- a target with a world's fields has those of another that differs in its words, if it allows the words
target_as : (w other : World) (n : ℕ) (v : WorldWords) (answers : CheckedAnswers) (x : Target) → IsWorldSame w other
    → HeldIncludes other.buffer w.buffer → IsWorldExact other v → IsWorldTarget w n v answers x
    → IsWorldTarget other n v answers x
target_as w other n v answers x same wide exact h = record {
  now = record {
    reset = h.now.reset ∙ same.reset;
    sticky_error = h.now.sticky_error ∙ same.sticky_error;
    write_error = h.now.write_error ∙ same.write_error;
    read_ok = h.now.read_ok ∙ same.read_ok;
    debug = subst (λ p. CheckedPower p x.debug_power x.debug_up) same.debug h.now.debug;
    system = subst (λ p. CheckedPower p x.system_power x.system_up) same.system h.now.system;
    mem_ap = h.now.mem_ap ∙ same.mem_ap;
    bank0 = h.now.bank0 ∙ same.bank0;
    increments = h.now.increments ∙ same.increments;
    pending = h.now.pending ∙ same.pending;
    tar = subst (CheckedTar other.tar) (sym h.tar) (exact_tar other.tar v.tar exact.tar);
    buffer = wide.each x.buffer h.now.buffer;
    last_returned = subst (CheckedHeld other.last_returned) (sym h.last_returned)
        (exact_held other.last_returned v.last_returned exact.last_returned);
  };
  debug = subst (λ p. IsPowerExact p x.debug_up) same.debug h.debug;
  system = subst (λ p. IsPowerExact p x.system_up) same.system h.system;
  tar = h.tar;
  buffer = λ free. h.buffer (λ p. free (sym same.pending ∙ p));
  last_returned = h.last_returned;
  identification = h.identification;
  bus = h.bus;
}

port_as : (w other : World) (n : ℕ) (v : WorldWords) (answers : CheckedAnswers) (s : Port) → IsWorldSame w other
    → HeldIncludes other.buffer w.buffer → IsWorldExact other v → IsWorldPort w n v answers s
    → IsWorldPort other n v answers s
port_as w other n v answers s same wide exact h = record {
  target = target_as w other n v answers s.target same wide exact h.target;
  awaits = h.awaits ∙ same.awaits;
}

-- what is reached of a world is reached of another that differs in its words, if it allows the words
pub reached_as : (link : CheckedLink) (w other : World) (v : WorldWords) → IsWorldSame w other
    → HeldIncludes other.buffer w.buffer → IsWorldExact other v → IsReachedBy link w v → IsReachedBy link other v
reached_as link w other v same wide exact (k, kept, within, is, (u, before, leads)) = (
  k,
  kept,
  within,
  is,
  (
    u,
    before,
    λ after. let led = leads after in (
      led.0,
      λ s h. let left = led.1 s h in
          (left.0, left.1, port_as w other link.identification v after left.0 same wide exact left.2),
    ),
  ),
)

same_with_tar : (w : World) (tar : Tar) → IsWorldSame w (record w { tar = tar })
same_with_tar w tar = record {
  reset = refl;
  sticky_error = refl;
  write_error = refl;
  read_ok = refl;
  debug = refl;
  system = refl;
  mem_ap = refl;
  bank0 = refl;
  increments = refl;
  pending = refl;
  awaits = refl;
}

alike_with_tar : (w other : World) (tar : Tar) → AreWorldsAlike w other → IsWorldSame other (record w { tar = tar })
alike_with_tar w other tar h = record {
  reset = h.narrower.alike.reset;
  sticky_error = h.narrower.alike.sticky_error;
  write_error = h.narrower.alike.write_error;
  read_ok = h.narrower.alike.read_ok;
  debug = power_same other.debug w.debug h.narrower.debug h.wider.debug;
  system = power_same other.system w.system h.narrower.system h.wider.system;
  mem_ap = h.narrower.alike.mem_ap;
  bank0 = h.narrower.alike.bank0;
  increments = h.narrower.alike.increments;
  pending = h.narrower.alike.pending;
  awaits = h.narrower.alike.awaits;
}

joined_each : (w other : World) (tar : Tar) (link : CheckedLink) (v : WorldWords) → AreWorldsAlike w other
    → IsTarExact w.tar v.tar ⊎ IsTarExact other.tar v.tar → WorldReaches link w → WorldReaches link other
    → IsWorldExact (record w { tar = tar }) v → IsReachedBy link (record w { tar = tar }) v
joined_each w other tar link v h (inl first) reached second_reached exact =
    reached_as link w (record w { tar = tar }) v (same_with_tar w tar) (record { each = λ value e. e }) exact
    (reached.each v (record {
      tar = first;
      buffer = exact.buffer;
      last_returned = exact.last_returned;
    }))
joined_each w other tar link v h (inr second) reached second_reached exact =
    reached_as link other (record w { tar = tar }) v (alike_with_tar w other tar h) h.wider.buffer exact
    (second_reached.each v (record {
      tar = second;
      buffer = (held_alike w.buffer other.buffer h.wider.buffer h.covered.buffer reached.sound.buffer).each v.buffer
          exact.buffer;
      last_returned = (held_alike w.last_returned other.last_returned h.wider.last_returned h.covered.last_returned
          reached.sound.last_returned).each v.last_returned exact.last_returned;
    }))

joined_reaches : (w other : World) (tar : Tar) (link : CheckedLink) → AreWorldsAlike w other
    → AreTarsUnited w.tar other.tar tar → WorldReaches link w → WorldReaches link other
    → WorldReaches link (record w { tar = tar })
joined_reaches w other tar link h united reached second_reached = record {
  sound = record {
    tar = united.sound reached.sound.tar second_reached.sound.tar;
    buffer = reached.sound.buffer;
    last_returned = reached.sound.last_returned;
  };
  each = λ v exact. joined_each w other tar link v h (united.each v.tar exact.tar) reached second_reached exact;
}

-- two worlds that differ in TAR alone, with exactly the addresses of both
pub worlds_reached_joined : (w other : World) (tar : Option Tar) (result : Option World) → AreWorldsAlike w other
    → AreTarsWhole w.tar other.tar tar → IsWorldWithTar w tar result → AreReachedJoined w other result
worlds_reached_joined w other None result h united is = subst (AreReachedJoined w other) (sym is) tt
worlds_reached_joined w other (Some tar) result h united is = subst (AreReachedJoined w other) (sym is)
    (λ link reached second_reached. joined_reaches w other tar link h united reached second_reached)
