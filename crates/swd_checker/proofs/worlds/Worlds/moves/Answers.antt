use Rattle.swd_checker.proofs.TransactLemmas.{moves_some, moves_none}
use Rattle.swd_checker.proofs.worlds.Worlds.moves.Goals as goal

pub returns-in-Some-clause-moves : goal.returns-in-Some-clause-moves
returns-in-Some-clause-moves c = moves_some c.args.asked c.in-Some.now c.transfer.new.self c.accepted.result
    c.args.word c.args.parity_ok c.in-Some.is c.accepted.ensures.same c.accepted.ensures.world
    (λ s t. c.transfer.ensures.moves c.args.asked s t)

pub returns-in-None-clause-moves : goal.returns-in-None-clause-moves
returns-in-None-clause-moves c = moves_none c.args.asked c.args.self.now c.accepted.result c.args.word
    c.args.parity_ok c.in-None.is c.accepted.ensures.world
