-- One clock as characters, for `Pins::clock`.
use Rattle.std.proofs.Common.{◌≡◌, ℕ, Bool, true, false, List, [], ◌∷◌, ◌++◌, Option, Some, None, refl, sym, ap}
use Rattle.std.proofs.Common.{subst, ◌∙◌}
use Rattle.std.specs.Prelude.{if◌then◌else◌, is_some, unwrap_or}
use Rattle.swd_port.specs.Bus.{Bus}
use Rattle.swd_clocked.specs.Giving.{BufferedCycles}
use Rattle.swd_sequences.specs.declared.character.Character.TheVariants.{Moves, Looks, Drives}
use Rattle.swd_sequences.specs.Alphabet.{alphabet_byte, alphabet_level}
use Rattle.swd_bitbang.specs.declared.pins.Pins.{Pins}
use Rattle.swd_bitbang.specs.declared.pins.PinReply.TheVariants.{Silent, Level}
use Rattle.swd_bitbang.specs.Steps.{pins_fallen, PinsShow, PinsShowBy}
use Rattle.swd_bitbang.specs.Lines.{ArePinsBetweenClocks, PinsClock}
use Rattle.swd_bitbang.specs.Sessions.{PinsAnswer, PinsSession}
use Rattle.swd_bitbang.specs.Watching.{PinsReach}

-- what is kept where a bit is shown
record Shown {D A : Type 0} (bit : Bool) (s t : Pins D A) : Type 0 where
  seen : t.seen ≡ Some bit
  level : t.level ≡ s.level
  drives : t.drives ≡ s.drives

shown_by : {D A : Type 0} (bus : D → Bus) (o : Option Bool) (bit : Bool) (s t : Pins D A) → s.seen ≡ o
    → PinsShowBy bus o bit s t → Shown bit s t
shown_by {D} {A} bus (Some x) bit s t e h =
    subst (λ (r : Pins D A). Shown bit s r) (sym h.1)
    (record { seen = e ∙ ap Some (sym h.0); level = refl; drives = refl })
shown_by bus None bit s t e h = record { seen = h.seen; level = h.level; drives = h.drives }

-- the pins once SWCLK fell, and the host drives or doesn't
abbrev pub pins_clock_begun : {D A : Type 0} → Option Bool → Pins D A → Pins D A
pins_clock_begun drive s = pins_fallen (unwrap_or drive false) (record s { drives = is_some drive })

driven_then : (drive : Option Bool) → (if is_some drive then Some (unwrap_or drive false) else None) ≡ drive
driven_then (Some level) = refl
driven_then None = refl

-- the clock rises where its bit was shown
risen : {D A : Type 0} (bus : D → Bus) (level bit : Bool) (t : Pins D A) → t.seen ≡ Some bit → t.level ≡ level
    → PinsShow bus bit (record t { clock = true; level = level }) (record t { clock = true })
risen {D} {A} bus level bit t seen is =
    subst (λ o. PinsShowBy bus o bit (record t { clock = true; level = level }) (record t { clock = true })) (sym seen)
    (refl, ap (λ l. record t { clock = true; level = l }) is)

-- the clock rises, and its bit is shown by that
rises : {D A : Type 0} (bus : D → Bus) (o : Option Bool) (bit : Bool) (s t : Pins D A) → PinsShowBy bus o bit s t
    → PinsShowBy bus o bit (record s { clock = true }) (record t { clock = true })
rises bus (Some x) bit s t h = (h.0, ap (λ (p : Pins _ _). record p { clock = true }) h.1)
rises bus None bit s t h = record {
  cycle = h.cycle;
  seen = h.seen;
  clock = refl;
  level = h.level;
  drives = h.drives;
  trace = h.trace;
}

-- SWCLK falls, as a character
falls : {D A : Type 0} (bus : D → Bus) (level : Bool) (s : Pins D A)
    → PinsAnswer bus (alphabet_byte (Moves false level)) [] s (pins_fallen level s)
falls bus true s = record { sign = Silent; steps = (refl, refl); goes_on = tt; tells = refl }
falls bus false s = record { sign = Silent; steps = (refl, refl); goes_on = tt; tells = refl }

-- SWCLK rises, as a character
rose : {D A : Type 0} (bus : D → Bus) (level bit : Bool) (s t : Pins D A)
    → PinsShow bus bit (record s { clock = true; level = level }) t
    → PinsAnswer bus (alphabet_byte (Moves true level)) [] s t
rose bus true bit s t h = record { sign = Silent; steps = (refl, (bit, h)); goes_on = tt; tells = refl }
rose bus false bit s t h = record { sign = Silent; steps = (refl, (bit, h)); goes_on = tt; tells = refl }

-- the host drives or releases SWDIO, as a character
turned : {D A : Type 0} (bus : D → Bus) (drives : Bool) (s : Pins D A)
    → PinsAnswer bus (alphabet_byte (Drives drives)) [] s (record s { drives = drives })
turned bus true s = record { sign = Silent; steps = (refl, refl); goes_on = tt; tells = refl }
turned bus false s = record { sign = Silent; steps = (refl, refl); goes_on = tt; tells = refl }

-- a character before others
before : {D A : Type 0} (bus : D → Bus) (byte : ℕ) (first text rest : List ℕ) (s m t : Pins D A)
    → PinsAnswer bus byte first s m → PinsSession bus text rest m t → PinsSession bus (byte ∷ text) (first ++ rest) s t
before bus byte first text rest s m t h more = (m, first, rest, h, more, refl)

-- a clock is some characters
pub pins_clock_reaches : {D A : Type 0} (bus : D → Bus) (drive : Option Bool) (bit : Bool) (s t : Pins D A)
    → PinsShow bus bit (pins_clock_begun drive s) t → PinsReach bus s (record t { clock = true })
pins_clock_reaches bus (Some level) bit s t h =
    let driven = record s { drives = true } in
    let low = pins_clock_begun (Some level) s in
    let done = record t { clock = true } in
    let up = alphabet_byte (Moves true level) in
    let down = alphabet_byte (Moves false level) in
    let rise = before bus up [] [] [] low done done
    (rose bus level bit low done (rises bus _ bit low t h)) (refl, refl) in (
      alphabet_byte (Drives true) ∷ down ∷ up ∷ [],
      [],
      before bus (alphabet_byte (Drives true)) [] (down ∷ up ∷ []) [] s driven done (turned bus true s)
          (before bus down [] (up ∷ []) [] driven low done (falls bus level driven) rise),
    )
pins_clock_reaches bus None bit s t h =
    let released = record s { drives = false } in
    let low = pins_clock_begun None s in
    let done = record t { clock = true } in
    let shown = shown_by bus _ bit low t refl h in
    let up = alphabet_byte (Moves true false) in
    let down = alphabet_byte (Moves false false) in
    let look = alphabet_byte Looks in
    let told = alphabet_level bit ∷ [] in
    let rise = before bus up [] [] [] t done done
    (rose bus false bit t done (risen bus false bit t shown.seen shown.level)) (refl, refl) in
    let looked = before bus look told (up ∷ []) [] low t done
    (record { sign = Level bit; steps = (bit, refl, h); goes_on = tt; tells = refl }) rise in (
      alphabet_byte (Drives false) ∷ down ∷ look ∷ up ∷ [],
      told,
      before bus (alphabet_byte (Drives false)) [] (down ∷ look ∷ up ∷ []) told s released done
          (turned bus false s)
          (before bus down [] (look ∷ up ∷ []) told released low done (falls bus false released) looked),
    )

-- a clock that begins between two clocks makes a cycle
pub pins_clock_made : {D A : Type 0} (bus : D → Bus) (drive : Option Bool) (bit : Bool) (s t : Pins D A)
    → ArePinsBetweenClocks s → PinsShow bus bit (pins_clock_begun drive s) t
    → PinsClock bus drive bit s (record t { clock = true })
pins_clock_made bus drive bit s t between h =
    let passes = subst (λ o. PinsShowBy bus o bit (pins_clock_begun drive s) t) between h in
    record {
      cycle = subst (λ d. BufferedCycles bus d bit s.target t.target) (driven_then drive) passes.cycle;
      trace = passes.trace;
      between = refl;
    }
