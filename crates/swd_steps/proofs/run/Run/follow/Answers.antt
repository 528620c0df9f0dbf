use Rattle.std.proofs.Common.{◌+◌, ◌∙◌, ap, refl, sym}
use Rattle.std.specs.Prelude.{Some}
use Rattle.swd_steps.proofs.Stepping.{stepped_answer_leaves, begun_calm, begun_drives, stepped_opened_leaves}
use Rattle.swd_steps.proofs.Stepping.{stepped_stop_leaves}
use Rattle.swd_steps.proofs.run.Run.follow.Goals as goal

pub returns-in-Some-Stopped-clause-follows : goal.returns-in-Some-Stopped-clause-follows
returns-in-Some-Stopped-clause-follows g c =
    stepped_stop_leaves (g.L.Accesses.list c.args.accesses.now) c.args.self.now c.in-Some-Stopped.end c.in-Driving.is
    (sym c.in-Some-Stopped.ensures ∙ ap Some c.in-Some-Stopped.field-0-is)

pub returns-in-Some-Opened-clause-follows : goal.returns-in-Some-Opened-clause-follows
returns-in-Some-Opened-clause-follows g c =
    stepped_opened_leaves (g.L.Accesses.list c.args.accesses.now) c.args.self.now c.begin.new.self c.in-Driving.is
    (sym c.in-Some-Opened.ensures ∙ ap Some c.in-Some-Opened.field-0-is) c.begin.ensures.starts c.begin.ensures.drives
    c.begin.ensures.none c.begin.ensures.answered

pub returns-in-Some-Opened-clause-calm : goal.returns-in-Some-Opened-clause-calm
returns-in-Some-Opened-clause-calm g c = λ rests.
    begun_calm (g.L.Accesses.list c.args.accesses.now) c.args.self.now c.begin.new.self c.begin.ensures.starts
    c.begin.ensures.none

pub returns-in-Some-Opened-clause-drives : goal.returns-in-Some-Opened-clause-drives
returns-in-Some-Opened-clause-drives g c =
    begun_drives (g.L.Accesses.list c.args.accesses.now) c.args.self.now c.begin.new.self c.begin.ensures.starts
    c.begin.ensures.none

pub returns-in-Some-Answered-clause-follows : goal.returns-in-Some-Answered-clause-follows
returns-in-Some-Answered-clause-follows g c =
    stepped_answer_leaves (g.L.Accesses.list c.args.accesses.now) c.args.self.now
    (record c.args.self.now { answered = c.args.self.now.answered + 1 }) c.begin-in-Some-Answered.new.self
    c.in-Some-Answered.answer c.in-Driving.is (sym c.in-Some-Answered.ensures ∙ ap Some c.in-Some-Answered.field-0-is)
    refl refl c.begin-in-Some-Answered.ensures.starts
    c.begin-in-Some-Answered.ensures.drives c.begin-in-Some-Answered.ensures.none
    c.begin-in-Some-Answered.ensures.answered

pub returns-in-Some-Answered-clause-calm : goal.returns-in-Some-Answered-clause-calm
returns-in-Some-Answered-clause-calm g c = λ rests.
    begun_calm (g.L.Accesses.list c.args.accesses.now)
    (record c.args.self.now { answered = c.args.self.now.answered + 1 }) c.begin-in-Some-Answered.new.self
    c.begin-in-Some-Answered.ensures.starts c.begin-in-Some-Answered.ensures.none

pub returns-in-Some-Answered-clause-drives : goal.returns-in-Some-Answered-clause-drives
returns-in-Some-Answered-clause-drives g c =
    begun_drives (g.L.Accesses.list c.args.accesses.now)
    (record c.args.self.now { answered = c.args.self.now.answered + 1 }) c.begin-in-Some-Answered.new.self
    c.begin-in-Some-Answered.ensures.starts c.begin-in-Some-Answered.ensures.none
