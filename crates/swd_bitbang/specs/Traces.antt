-- The bits on the line, as they are kept. All of this is this project's choice.
use Rattle.std.specs.Prelude.{ℕ, ◌≡◌, ◌⊎◌, Bool, true, false, List, [], ◌∷◌, ◌++◌}
use Rattle.swd_bitbang.specs.declared.trace.Trace.{Trace}

-- a level as a character: 0 or 1
abbrev pub pins_level_text : Bool → List ℕ
pins_level_text false = 48 ∷ []
pins_level_text true = 49 ∷ []

-- the characters that are kept
abbrev pub pins_kept_trace : {A : Type 0} → Trace A → List ℕ
pins_kept_trace t = t.bits.items

-- whether bits are kept
abbrev pub is_pins_trace_kept : {A : Type 0} → Trace A → Bool
is_pins_trace_kept t = t.wanted

-- whether memory ran out for a bit
abbrev pub is_pins_trace_cut_off : {A : Type 0} → Trace A → Bool
is_pins_trace_cut_off t = t.cut

-- a bit is kept, or memory ran out for it; after that, and if no bits are wanted, nothing changes
pub record PinsTraceKeeps {A : Type 0} (bit : Bool) (s t : Trace A) : Type 0 where
  pub wanted : t.wanted ≡ s.wanted
  pub more : s.wanted ≡ true → s.cut ≡ false
      → ((pins_kept_trace t ≡ pins_kept_trace s ++ pins_level_text bit) × (t.cut ≡ false))
      ⊎ ((pins_kept_trace t ≡ pins_kept_trace s) × (t.cut ≡ true))
  pub unwanted : s.wanted ≡ false → t ≡ s
  pub none : s.cut ≡ true → t ≡ s
