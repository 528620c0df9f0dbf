use Rattle.swd_host.proofs.Words.{◌≡◌, ◌+◌, ◌∙◌, Some, ap, sym, subst, At, engine_word_is_ignored, EngineTookForJob}
use Rattle.swd_host.proofs.Words.{hand_of_engine, ResumedOpeningReadWord, ResumeReadFlags}
use Rattle.swd_host.proofs.StepLemmas.{opening_abort_check, opening_status_read, engine_took_taken}
use Rattle.swd_host.proofs.engine.Engine.take_word.Goals as goal

pub returns-in-At-2-clause-tracks : goal.returns-in-At-2-clause-tracks
returns-in-At-2-clause-tracks c base m t task h =
    let e = c.args.self.now in
    let both : At c.in-At-2.place ≡ At c.in-At.place = sym c.in-At-2.is ∙ c.in-At.is in
    let same : c.in-At-2.place ≡ c.in-At.place = cc in
    c.value.ensures.tracks base m t task
    (engine_took_taken c.in-At-2.place c.args.word _ _ (hand_of_engine e m) t
    (ap (λ p. engine_word_is_ignored p e.task) same ∙ (sym c.is_unread.ensures ∙ c.if-is_unread.false))
    (subst (λ j. EngineTookForJob j (Some c.args.word) (base.disturbed + e.events) e.begun (hand_of_engine e m) t)
    c.in-At-2.is h))

pub returns-in-Check-clause-early : goal.returns-in-Check-clause-early
returns-in-Check-clause-early c base start t h =
    let e = c.args.self.now in
    let told = opening_abort_check c.in-Check.place c.in-Check.owed c.args.word _ _ start t
    (subst (λ j. ResumedOpeningReadWord j c.args.word (base.disturbed + e.events) e.stray start t) c.in-Check.is h) in
    c.check.ensures.early base start t (subst (λ x. ResumeReadFlags x t.target) (sym c.flags_of-in-Check.ensures)
    told.0) told.1

pub returns-in-Status-clause-early : goal.returns-in-Status-clause-early
returns-in-Status-clause-early c base start t h =
    let e = c.args.self.now in
    let told = opening_status_read c.in-Status.place c.args.word _ _ start t
    (subst (λ j. ResumedOpeningReadWord j c.args.word (base.disturbed + e.events) e.stray start t) c.in-Status.is h) in
    c.status.ensures.early base start t (subst (λ x. ResumeReadFlags x t.target) (sym c.flags_of.ensures)
    told.0) told.1
