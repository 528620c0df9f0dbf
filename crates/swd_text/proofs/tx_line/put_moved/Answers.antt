use Rattle.std.proofs.Common.{◌++◌, refl, ◌∙◌, subst}
use Rattle.swd_io.specs.Blocks.{BlockBufferSends}
use Rattle.swd_text.proofs.TxLineLemmas.{tx_line_joined, tx_line_of_moved}
use Rattle.swd_text.proofs.tx_line.put_moved.Goals as goal

pub returns-clause-sends : goal.returns-clause-sends
returns-clause-sends g c = λ tx spelled start all h.
    subst (λ text. BlockBufferSends g.W.Write.contents start c.put_three.new.self (all ++ text))
    (tx_line_joined _ _ _ _ _ _ c.request_text.ensures c.parity_text.ensures c.word_line.ensures
    ∙ tx_line_of_moved c.args.bits tx _ _ spelled refl refl) (c.put_three.ensures.sends start all h)
