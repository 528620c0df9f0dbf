use Rattle.std.proofs.Common.{sym, ap, ◌∙◌, arith}
use Rattle.std.specs.FinMap.{get}
use Rattle.swd_port.specs.PlainMemory.{PlainMemory}
use Rattle.swd_target.proofs.WordLemmas.{get-window, get-beside}
use Rattle.swd_target.proofs.window.Window.word.Goals as goal

pub returns-then-addr-self : goal.returns-then-addr-self
returns-then-addr-self c =
    sym (get-window c.self.inside.addr c.self.inside.word c.args.addr (omega arith))
    ∙ ap (λ (m : PlainMemory). get m.words c.args.addr) c.self.view_is

pub returns-else-addr-self : goal.returns-else-addr-self
returns-else-addr-self c =
    sym (get-beside c.self.inside.addr c.self.inside.word c.args.addr (λ e. omega arith))
    ∙ ap (λ (m : PlainMemory). get m.words c.args.addr) c.self.view_is
