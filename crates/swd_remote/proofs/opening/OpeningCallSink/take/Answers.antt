use Rattle.std.proofs.Common.{◌∙◌, ◌||◌, None, Some, ap, refl, sym}
use Rattle.swd_port.specs.Transports.{port_attempt}
use Rattle.swd_remote.proofs.OpeningLemmas.{opening_goes, opening_stays}
use Rattle.swd_remote.proofs.opening.OpeningCallSink.take.Goals as goal

pub returns-then-self : goal.returns-then-self
returns-then-self c = opening_stays (port_attempt c.args.cue c.args.told) c.args.self.now c.if-self.true

pub returns-in-Some : goal.returns-in-Some
returns-in-Some c =
    let s = c.args.self.now in
    let ended = c.end.ensures in
    opening_goes c.args.cue c.args.told (Some c.in-Some.tx) s c.end.new.self c.if-self.false
    (sym c.ended_by-ended.ensures ∙ c.in-Some.is) (ended.due ∙ c.answered-self.ensures)
    (ended.zero ∙ ap (λ b. b || s.zero) c.differs.ensures) (ended.one ∙ ap (λ b. b || s.one) c.differs-2.ensures)
    (ended.dpidr, ended.status, ended.asked, ended.is_open, ended.last)

pub returns-in-None : goal.returns-in-None
returns-in-None c =
    let s = c.args.self.now in
    opening_goes c.args.cue c.args.told None s _ c.if-self.false (sym c.ended_by-ended.ensures ∙ c.in-None.is)
    c.answered-self.ensures (ap (λ b. b || s.zero) c.differs.ensures) (ap (λ b. b || s.one) c.differs-2.ensures)
    (refl, refl, refl, refl, refl)
