use Rattle.std.proofs.Common.{◌≡◌, ◌/◌, ◌%◌, ◌^◌, ◌++◌, ◌∷◌, [], refl, sym, subst, arith}
use Rattle.std.specs.Prelude.{codes}
use Rattle.swd_io.specs.Blocks.{BlockBufferSends}
use Rattle.swd_text.proofs.TxLineLemmas.{tx_line_appended, tx_line_of_refused}
use Rattle.swd_text.proofs.tx_line.put_refused.Goals as goal

pub returns-then-bits-eq1-clause-sends : goal.returns-then-bits-eq1-clause-sends
returns-then-bits-eq1-clause-sends g c = λ tx spelled start all h.
    subst (BlockBufferSends g.W.Write.contents start c.put.new.self)
    (tx_line_appended all _ (codes "wait" ++ 10 ∷ []) _ _ c.request_text.ensures
    (tx_line_of_refused c.args.bits tx _ 1 spelled refl (sym c.if-bits-eq1.true)))
    (c.put.ensures.sends start _ (c.put_first.ensures.sends start all h))

pub returns-else-bits-eq1-clause-sends : goal.returns-else-bits-eq1-clause-sends
returns-else-bits-eq1-clause-sends g c = λ tx spelled start all h.
    let other = c.if-bits-eq1.false in
    let zero_is : 0 ≡ c.args.bits / 2 ^ 10 % 2 = omega arith in
    subst (BlockBufferSends g.W.Write.contents start c.put-else-bits-eq1.new.self)
    (tx_line_appended all _ (codes "fault" ++ 10 ∷ []) _ _ c.request_text.ensures
    (tx_line_of_refused c.args.bits tx _ 0 spelled refl zero_is))
    (c.put-else-bits-eq1.ensures.sends start _ (c.put_first.ensures.sends start all h))
