use Rattle.std.proofs.Common.{sym, ◌∙◌}
use Rattle.swd_checker.proofs.AloneLemmas.{alone_returns}
use Rattle.swd_checker.proofs.world.World.read_back.Goals as goal

pub returns-in-Okay : goal.returns-in-Okay
returns-in-Okay c = alone_returns c.args.self.now c.args.request c.args.word c.of.result c.moved_buffer.result
    c.narrowed.result (sym c.due.ensures ∙ c.in-Okay.is) c.of.ensures.exact c.moved_buffer.ensures
    c.narrowed.ensures.all c.narrowed.ensures.exact
