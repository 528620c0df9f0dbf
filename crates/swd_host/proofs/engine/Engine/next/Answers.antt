use Rattle.swd_host.proofs.Words.{◌≡◌, ◌∙◌, ap, sym, subst, Some, engine_cue}
use Rattle.std.specs.Prelude.{IfSome}
use Rattle.swd_port.specs.declared.cue.Cue.TheVariants.{Take}
use Rattle.swd_host.specs.Replies.{EngineTookData, EngineTookReply}
use Rattle.swd_host.proofs.engine.Engine.next.Goals as goal

pub returns-in-Some-Take : goal.returns-in-Some-Take
returns-in-Some-Take c =
    let did : EngineTookData c.args.reply c.args.self.now c.taken.new.self = assumption c.taken.ensures in
    let is : engine_cue c.args.self.now ≡ Some Take =
    sym c.in-Some-Take.ensures.cue ∙ ap Some c.in-Some-Take.field-0-is in
    subst (λ o. IfSome o (λ cue. EngineTookReply cue c.args.reply c.args.self.now c.taken.new.self)) (sym is) did
