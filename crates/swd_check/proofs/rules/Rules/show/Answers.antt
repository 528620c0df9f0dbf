use Rattle.std.proofs.Common.{◌≡◌, ◌∙◌, inl, true, false, refl, sym}
use Rattle.swd_trace.specs.declared.item.Item.TheVariants.{Reset, Idle}
use Rattle.swd_check.proofs.WatchLemmas.{check_rules_watch, check_rules_noted, answers_same}
use Rattle.swd_check.proofs.rules.Rules.show.Goals as goal

pub returns-in-Reset-clause-takes : goal.returns-in-Reset-clause-takes
returns-in-Reset-clause-takes c = λ start clean items unbroken at h.
    c.leave_and_reset.ensures.takes start clean items unbroken at
    (check_rules_noted start clean c.args.self.now c.ends-ends.new.self c.args.self.now.untold items h)

pub returns-in-Reset-2-clause-takes : goal.returns-in-Reset-2-clause-takes
returns-in-Reset-2-clause-takes c =
    let r = c.reset.ensures in
    check_rules_watch c.args.item.now c.args.place c.args.self.now c.reset.new.self
    (record { watches = r.watches; follows = r.follows; begins = r.begins; knows = r.knows }) r.place
    (λ e. absurd (let f : false ≡ true = sym r.outside ∙ e in cc))
    (answers_same c.args.item.now c.args.self.now c.reset.new.self r.answered)

pub returns-in-Idle-clause-takes : goal.returns-in-Idle-clause-takes
returns-in-Idle-clause-takes c =
    let r = c.watch.ensures in
    check_rules_watch c.args.item.now c.args.place c.args.self.now _
    (record { watches = r.watches; follows = r.follows; begins = r.begins; knows = r.knows }) refl
    (λ e. (e, λ ones f. absurd (let k : Idle c.in-Idle.field-0 ≡ Reset ones = sym c.in-Idle.is ∙ f in cc)))
    (λ e. inl e)

pub returns-in_default : goal.returns-in_default
returns-in_default c =
    let r = c.follow.ensures in record {
      takes = check_rules_watch c.args.item.now c.args.place c.args.self.now c.follow.new.self
          (record { watches = r.watches; follows = r.follows; begins = r.begins; knows = r.knows }) r.place
          (λ e. (sym r.outside ∙ e, c.in_default.not-Reset))
          (answers_same c.args.item.now c.args.self.now c.follow.new.self r.answered);
      broken = λ other. r.watches.broken other;
    }
