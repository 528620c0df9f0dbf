use Rattle.std.proofs.Common.{◌≡◌, ◌∙◌, true, false, sym}
use Rattle.swd_check.proofs.WatchLemmas.{check_rules_watch, check_rules_left, answers_same}
use Rattle.swd_check.proofs.rules.Rules.leave_and_reset.Goals as goal

pub returns : goal.returns
returns c =
    let l = c.leave.ensures in let r = c.reset.ensures in record {
      takes = λ start clean items unbroken at h.
          check_rules_watch c.args.item.now c.args.place c.leave.new.self c.reset.new.self
          (record { watches = r.watches; follows = r.follows; begins = r.begins; knows = r.knows }) r.place
          (λ e. absurd (let f : false ≡ true = sym r.outside ∙ e in cc))
          (answers_same c.args.item.now c.leave.new.self c.reset.new.self r.answered)
          start clean items (l.leaves.broken ∙ unbroken) at
          (check_rules_left start clean items c.args.self.now c.leave.new.self l.leaves l.left l.answered h);
      broken = λ other. r.watches.broken other ∙ l.leaves.broken;
    }
