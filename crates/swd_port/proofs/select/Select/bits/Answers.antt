use Rattle.std.proofs.Common.{◌∙◌, ap}
use Rattle.swd_port.specs.Registers.{select_of}
use Rattle.swd_port.proofs.RegisterLemmas.{select_word_joined, select_word_read_back}
use Rattle.swd_port.proofs.select.Select.bits.Goals as goal

pub returns-clause-word : goal.returns-clause-word
returns-clause-word c = select_word_joined c.args.self.now _ _ _ c.from.ensures c.from-2.ensures c.from-3.ensures

pub returns-clause-same : goal.returns-clause-same
returns-clause-same c = λ fits. ap select_of
    (select_word_joined c.args.self.now _ _ _ c.from.ensures c.from-2.ensures c.from-3.ensures)
    ∙ select_word_read_back c.args.self.now fits
