use Rattle.std.proofs.Common.{◌≡◌, subst, ap, ◌∙◌, arith}
use Rattle.swd_port.specs.declared.access.Access.TheVariants.{Write}
use Rattle.swd_port.specs.declared.access.Answer.TheVariants.{Written, BusFault}
use Rattle.swd_port.specs.PlainMemory.{PlainMemory}
use Rattle.swd_port.specs.PlainAnswers.{plain_answer, plain_after}
use Rattle.swd_target.proofs.WordLemmas.{get-words_from, get-outside, succeeds-outside, succeeds-inside, answer-failed}
use Rattle.swd_target.proofs.WordLemmas.{after-failed, answer-write, after-write, words_from-set}
use Rattle.swd_target.proofs.words.OwnWords.write.Goals as goal

pub returns-in_default-clause-answer : goal.returns-in_default-clause-answer
returns-in_default-clause-answer g c =
    let P = λ (m : PlainMemory). BusFault ≡ plain_answer (Write c.args.addr c.args.word) m in
    subst P c.self.view_is (answer-failed (Write c.args.addr c.args.word) _
    (succeeds-outside c.args.addr _
    (get-outside c.self.inside.base _ c.args.addr (λ i l e. c.in_default.ensures i (omega arith) e))))

pub returns-in_default-clause-after : goal.returns-in_default-clause-after
returns-in_default-clause-after g c =
    let P = λ (m : PlainMemory). m ≡ plain_after (Write c.args.addr c.args.word) m in
    subst P c.self.view_is (after-failed (Write c.args.addr c.args.word) _
    (succeeds-outside c.args.addr _
    (get-outside c.self.inside.base _ c.args.addr (λ i l e. c.in_default.ensures i (omega arith) e))))

pub returns-clause-answer : goal.returns-clause-answer
returns-clause-answer g c =
    let P = λ (m : PlainMemory). Written ≡ plain_answer (Write c.args.addr c.args.word) m in
    let p = c.in-Some.ensures in
    subst P c.self.view_is (answer-write c.args.addr c.args.word _
    (succeeds-inside c.args.addr _ _
    (get-words_from c.self.inside.base _ c.in-Some.i c.args.addr 0 (omega arith) p.1) (omega arith)))

pub returns-clause-after : goal.returns-clause-after
returns-clause-after g c =
    let p = c.in-Some.ensures in
    after-write c.args.addr c.args.word _ _ _
    (succeeds-inside c.args.addr _ _
    (get-words_from c.self.inside.base _ c.in-Some.i c.args.addr 0 (omega arith) p.1) (omega arith))
    (words_from-set c.self.inside.base c.self.inside.words.items c.in-Some.i c.args.word c.args.addr (omega arith) p.1)
    (grind (arith, c.push.ensures.items, c.push.ensures.succeeds))
    ∙ ap (λ (m : PlainMemory). plain_after (Write c.args.addr c.args.word) m) c.self.view_is
