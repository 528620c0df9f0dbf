use Rattle.swd_words.proofs.info_words.info_line.Goals as goal

pub returns : goal.returns
returns c = record { remote = c.in_ok-lead.ensures; tries = c.in_ok-numbers.ensures.tries }
