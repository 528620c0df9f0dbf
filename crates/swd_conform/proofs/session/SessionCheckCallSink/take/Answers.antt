use Rattle.std.proofs.Common.{ℕ, Option, ◌∙◌, ap, subst}
use Rattle.swd_check.specs.Watched.{CheckTakes}
use Rattle.swd_conform.specs.Sessions.{session_hand_once, session_items_of}
use Rattle.swd_conform.proofs.SessionLemmas.{session_takes}
use Rattle.swd_conform.proofs.session.SessionCheckCallSink.take.Goals as goal

pub returns : goal.returns
returns g c =
    let self = c.args.self.now in
    let is = c.shown_by-shown.ensures.is in
    session_takes c.args.cue c.args.told self _
    (subst (λ (shown : Option ℕ). CheckTakes (session_items_of self.in_hand c.args.cue shown) self.items.check
    c.take_items.new.items.check) is c.take_items.ensures)
    (c.in_hand_after-self.ensures ∙ ap (session_hand_once c.args.cue) is)
