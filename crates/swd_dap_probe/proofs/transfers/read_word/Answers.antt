use Rattle.swd_dap_probe.proofs.StepLemmas.{does_tell}
use Rattle.swd_dap_probe.proofs.transfers.read_word.Goals as goal

pub returns-clause-makes : goal.returns-clause-makes
returns-clause-makes g c = λ count mask.
    does_tell g.L.ProbeLine.clocks c.args.settings.now c.args.request c.persist-answer.result _ count
    c.args.words.now.items c.put_told.new.words.items mask c.args.line.now c.persist-answer.new.line c.value.ensures
    c.put_told.ensures.told c.persist-answer.ensures
