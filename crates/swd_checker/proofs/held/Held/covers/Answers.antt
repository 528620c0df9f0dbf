use Rattle.swd_checker.proofs.HeldLemmas.{held_word_covers, held_csw_covers_near}
use Rattle.swd_checker.proofs.held.Held.covers.Goals as goal

pub returns-in-Word-default-2-clause-has : goal.returns-in-Word-default-2-clause-has
returns-in-Word-default-2-clause-has c = λ e. held_word_covers c.args.self c.args.other c.in-Word-default.is-0
    c.in-Word-default.not-Unknown-1

pub returns-in-Csw-Seen-clause-has : goal.returns-in-Csw-Seen-clause-has
returns-in-Csw-Seen-clause-has c = λ e. held_csw_covers_near c.args.self c.args.other c.in-Csw-Seen.increments
    c.in-Csw-Seen.near c.in-Csw-Seen.is-0 c.in-Csw-Seen.is-1 (c.is_among.ensures e)
