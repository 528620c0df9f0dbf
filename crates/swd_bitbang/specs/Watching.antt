-- What looks on at a session: a watch beside the pins.
use Rattle.std.specs.Prelude.{ℕ, List, [], ◌∷◌}
use Rattle.std.proofs.Common.{append-nil, refl, sym}
use Rattle.swd_port.specs.Bus.{Bus}
use Rattle.swd_bitbang.specs.declared.pins.Pins.{Pins}
use Rattle.swd_bitbang.specs.declared.serving.Served.{Served}
use Rattle.swd_bitbang.specs.declared.serving.Server.{Server}
use Rattle.swd_bitbang.specs.Sessions.{PinsAnswer, PinsSession}

-- some characters that don't end the session lead from these pins to those
abbrev pub PinsReach : {D A : Type 0} → (D → Bus) → Pins D A → Pins D A → Type 0
PinsReach bus s t = (text : List ℕ) × (levels : List ℕ) × PinsSession bus text levels s t

-- the watch of a server, at the pins of its protocol's state
abbrev pub pins_watched : {D A S V W : Type 0} → (S → Pins D A) → Server D A S V × W → V × Pins D A
pins_watched pins_of state = (state.0.watch, pins_of state.0.protocol)

-- These bytes lead a server and its writer from one state to another, and the watch at its pins followed.
pub record PinsLeadOnWatched {D A S V W : Type 0} (pins_of : S → Pins D A)
    (follows : V × Pins D A → V × Pins D A → Type 0)
    (leads : Server D A S V × W → List ℕ → Server D A S V × W → Type 0) (before : Server D A S V × W) (bytes : List ℕ)
    (after : Server D A S V × W) : Type 0 where
  pub leads_on : leads before bytes after
  pub followed : follows (pins_watched pins_of before) (pins_watched pins_of after)

-- The same up to a fault at these bytes.
pub record PinsLeadToEndWatched {D A S V W : Type 0} (pins_of : S → Pins D A)
    (follows : V × Pins D A → V × Pins D A → Type 0)
    (ends : Server D A S V × W → List ℕ → Served → Server D A S V × W → Type 0) (before : Server D A S V × W)
    (bytes : List ℕ) (fault : Served) (after : Server D A S V × W) : Type 0 where
  pub leads_to_end : ends before bytes fault after
  pub followed : follows (pins_watched pins_of before) (pins_watched pins_of after)

-- LAWS

-- a character that doesn't end the session leads from pins to pins that they reach
pub bitbang_answer_reaches : {D A : Type 0} (bus : D → Bus) (byte : ℕ) (levels : List ℕ) (s t : Pins D A)
    → PinsAnswer bus byte levels s t → PinsReach bus s t
bitbang_answer_reaches bus byte levels s t h =
    (byte ∷ [], levels, (t, levels, [], h, (refl, refl), sym (append-nil levels)))
