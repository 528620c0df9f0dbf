use Rattle.std.proofs.Common.{◌≡◌, true, sym, ap, ◌∙◌}
use Rattle.swd_port.specs.declared.access.Access.TheVariants.{Write}
use Rattle.swd_port.specs.PlainMemory.{PlainMemory}
use Rattle.swd_port.specs.PlainAnswers.{succeeds_at, plain_after}
use Rattle.swd_target.proofs.WordLemmas.{window-write}
use Rattle.swd_target.proofs.window.Window.write.Goals as goal

pub returns-clause-after : goal.returns-clause-after
returns-clause-after c =
    let there : succeeds_at c.args.addr c.args.self.now ≡ true = sym c.is_ready.ensures ∙ c.if-not-is_ready.false in
    window-write c.self.inside.addr c.self.inside.word c.self.inside.made c.args.addr c.args.word
    (ap (λ (m : PlainMemory). succeeds_at c.args.addr m) c.self.view_is ∙ there)
    ∙ ap (λ (m : PlainMemory). plain_after (Write c.args.addr c.args.word) m) c.self.view_is
