use Rattle.std.proofs.Common.{◌≡◌, ◌++◌, ◌∷◌, [], Option, Some, None, refl, sym, ap, subst}
use Rattle.std.specs.Prelude.{IfNone}
use Rattle.swd_io.specs.Blocks.{BlockBufferSends}
use Rattle.swd_bits.specs.Listing.{tx_line}
use Rattle.swd_bits.specs.declared.tx.Tx.{Tx}
use Rattle.swd_text.proofs.tx_line.put_tx.Goals as goal

none_of : {P : Type 0} (result : Option Tx) → IfNone result P → ((tx : Tx) → result ≡ Some tx → ⊥) → P
none_of (Some tx) h k = absurd (k tx refl)
none_of None h k = h

pub unreachable-requires : goal.unreachable-requires
unreachable-requires g c = none_of c.of.result c.of.ensures.none c.in_default.not-Some c.requires.found.0
    c.requires.found.1

pub returns-in-Some-clause-sends : goal.returns-in-Some-clause-sends
returns-in-Some-clause-sends g c = λ tx spelled start all h.
    subst (λ line. BlockBufferSends g.W.Write.contents start c.put_any_tx.new.block (all ++ (line ++ 10 ∷ [])))
    (ap tx_line (sym (c.in-Some.ensures.only tx spelled))) (c.put_any_tx.ensures.sends start all h)
