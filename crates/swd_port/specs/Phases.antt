-- A list of bits with one bit changed.
use Rattle.std.specs.Prelude.{ℕ, zero, suc, Bool, not, List, [], ◌∷◌}

-- a list of bits with one bit changed
abbrev pub port_flip_at : ℕ → List Bool → List Bool
port_flip_at place [] = []
port_flip_at zero (b ∷ bits) = not b ∷ bits
port_flip_at (suc place) (b ∷ bits) = b ∷ port_flip_at place bits
