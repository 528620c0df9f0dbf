-- Acknowledgements as bits in time order.
use Rattle.std.specs.Prelude.{Bool, true, false, List, [], ◌∷◌}
use Rattle.swd_bits.specs.declared.ack.Ack.{Ack}
use Rattle.swd_bits.specs.declared.ack.Ack.TheVariants.{Ok, Wait, Fault}

abbrev pub bits_of_ack : Ack → List Bool
bits_of_ack Ok = true ∷ false ∷ false ∷ []
bits_of_ack Wait = false ∷ true ∷ false ∷ []
bits_of_ack Fault = false ∷ false ∷ true ∷ []
