use Rattle.std.proofs.Common.{◌≡◌, ◌∙◌, ◌⊎◌, inl, inr, true, false, refl, sym, subst}
use Rattle.swd_check.specs.Watched.{IsCheckedAnswer}
use Rattle.swd_trace.specs.declared.item.Item.TheVariants.{Tx}
use Rattle.swd_check.proofs.WatchLemmas.{CheckWatches, check_rules_watch, check_rules_outside, check_rules_leave}
use Rattle.swd_check.proofs.WatchLemmas.{answers_same}
use Rattle.swd_check.proofs.rules.Rules.transact.Goals as goal

pub returns-then-self-clause-takes : goal.returns-then-self-clause-takes
returns-then-self-clause-takes c = check_rules_outside (Tx c.args.tx.now) c.args.place c.args.self.now _ refl refl
    refl c.if-self.true (λ e. inl e)

pub returns-in-Some-clause-takes : goal.returns-in-Some-clause-takes
returns-in-Some-clause-takes c =
    check_rules_leave (Tx c.args.tx.now) c.args.place c.args.self.now c.leave.new.self c.leave.ensures.leaves
    c.leave.ensures.left (answers_same (Tx c.args.tx.now) c.args.self.now c.leave.new.self c.leave.ensures.answered)

pub returns-clause-takes : goal.returns-clause-takes
returns-clause-takes c =
    let r = c.follow.ensures in
    check_rules_watch (Tx c.args.tx.now) c.args.place c.args.self.now c.note_answer.new.self
    (subst (CheckWatches (Tx c.args.tx.now) c.args.place c.args.self.now.checker) (sym c.note_answer.ensures.checker)
    (record { watches = r.watches; follows = r.follows; begins = r.begins; knows = r.knows }))
    (c.note_answer.ensures.place ∙ r.place)
    (λ e. absurd (let f : false ≡ true = sym c.if-self.false ∙ sym r.outside ∙ sym c.note_answer.ensures.outside ∙ e
    in cc))
    (λ e. elim (c.note_answer.ensures.answered e) as (λ _. (c.args.self.now.is_answered ≡ true)
    ⊎ IsCheckedAnswer (Tx c.args.tx.now)) [
      | inl f ↦ inl (sym r.answered ∙ f)
      | inr f ↦ inr f
    ])
