use Rattle.swd_checker.proofs.opening.Opening.after_word.Goals as goal

pub returns-then-parity_ok-clause-leads : goal.returns-then-parity_ok-clause-leads
returns-then-parity_ok-clause-leads c = c.after_whole_word.ensures.leads c.args.parity_ok c.if-parity_ok.true

pub returns-else-parity_ok-clause-leads : goal.returns-else-parity_ok-clause-leads
returns-else-parity_ok-clause-leads c = c.after_moved.ensures.leads c.args.word c.args.parity_ok
