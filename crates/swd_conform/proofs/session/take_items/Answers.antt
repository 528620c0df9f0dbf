use Rattle.std.proofs.Common.{ℕ, Option, sym, subst}
use Rattle.swd_text.specs.Sinks.{sink_takes_nothing}
use Rattle.swd_check.specs.Watched.{CheckHolds, CheckTakes}
use Rattle.swd_conform.specs.Sessions.{session_items_of}
use Rattle.swd_conform.proofs.session.take_items.Goals as goal

pub returns-in-Some : goal.returns-in-Some
returns-in-Some g c =
    subst (λ (shown : Option ℕ). CheckTakes (session_items_of c.args.in_hand c.args.cue shown) c.args.items.now.check
    c.take.new.self.check) (sym c.in-Some.is) c.take.ensures

pub returns-in-None : goal.returns-in-None
returns-in-None g c =
    subst (λ (shown : Option ℕ). CheckTakes (session_items_of c.args.in_hand c.args.cue shown) c.args.items.now.check
    c.args.items.now.check) (sym c.in-None.is) (sink_takes_nothing CheckHolds c.args.items.now.check)
