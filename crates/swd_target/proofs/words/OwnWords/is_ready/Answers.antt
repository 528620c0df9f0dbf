use Rattle.std.proofs.Common.{◌≡◌, length, sym, subst, ap, ◌∙◌, arith, false}
use Rattle.std.specs.Prelude.{nat_lt}
use Rattle.swd_port.specs.PlainMemory.{PlainMemory}
use Rattle.swd_port.specs.PlainAnswers.{succeeds_at}
use Rattle.swd_target.proofs.WordLemmas.{get-words_from, get-outside, succeeds-outside, succeeds-there}
use Rattle.swd_target.proofs.words.OwnWords.is_ready.Goals as goal

pub returns-in-Some : goal.returns-in-Some
returns-in-Some g c =
    let P = λ (m : PlainMemory). nat_lt c.len-in-Some.result c.self.inside.room ≡ succeeds_at c.args.addr m in
    let p = c.in-Some.ensures in
    let there = succeeds-there c.args.addr _ _
    (get-words_from c.self.inside.base _ c.in-Some.field-0 c.args.addr 0 (omega arith) p.1) in
    let logged : c.len-in-Some.result ≡ length c.self.inside.log.items = omega arith in
    subst P c.self.view_is (ap (λ n. nat_lt n c.self.inside.room) logged ∙ there)

pub returns-in-None : goal.returns-in-None
returns-in-None g c =
    let P = λ (m : PlainMemory). false ≡ succeeds_at c.args.addr m in
    subst P c.self.view_is (sym
    (succeeds-outside c.args.addr _
    (get-outside c.self.inside.base _ c.args.addr (λ i l e. c.in-None.ensures i (omega arith) e))))
