use Rattle.std.proofs.Common.{◌≡◌, sym, subst, ap, ◌∙◌, arith, Some}
use Rattle.std.specs.FinMap.{get}
use Rattle.swd_port.specs.declared.access.Access.TheVariants.{Read}
use Rattle.swd_port.specs.declared.access.Answer.TheVariants.{Value, BusFault}
use Rattle.swd_port.specs.PlainMemory.{PlainMemory}
use Rattle.swd_port.specs.PlainAnswers.{plain_answer, plain_after}
use Rattle.swd_target.specs.MemoryWords.{target_words_from}
use Rattle.swd_target.proofs.WordLemmas.{get-words_from, get-outside, succeeds-outside, succeeds-inside, answer-failed}
use Rattle.swd_target.proofs.WordLemmas.{after-failed, answer-read, after-read}
use Rattle.swd_target.proofs.words.OwnWords.read.Goals as goal

pub returns-in_default-clause-answer : goal.returns-in_default-clause-answer
returns-in_default-clause-answer g c =
    let P = λ (m : PlainMemory). BusFault ≡ plain_answer (Read c.args.addr) m in
    subst P c.self.view_is (answer-failed (Read c.args.addr) _
    (succeeds-outside c.args.addr _
    (get-outside c.self.inside.base _ c.args.addr (λ i l e. c.in_default.ensures i (omega arith) e))))

pub returns-in_default-clause-after : goal.returns-in_default-clause-after
returns-in_default-clause-after g c =
    let P = λ (m : PlainMemory). m ≡ plain_after (Read c.args.addr) m in
    subst P c.self.view_is (after-failed (Read c.args.addr) _
    (succeeds-outside c.args.addr _
    (get-outside c.self.inside.base _ c.args.addr (λ i l e. c.in_default.ensures i (omega arith) e))))

pub returns-clause-answer : goal.returns-clause-answer
returns-clause-answer g c =
    let P = λ (m : PlainMemory). Value c.index-word.result.now ≡ plain_answer (Read c.args.addr) m in
    let p = c.in-Some.ensures in
    let there : get (target_words_from c.self.inside.base c.self.inside.words.items) c.args.addr ≡ Some
    c.index-word.result.now = get-words_from c.self.inside.base _ c.in-Some.i c.args.addr _ (omega arith) p.1
    ∙ ap Some (sym c.index-word.ensures) in
    subst P c.self.view_is (answer-read c.args.addr _ _ (succeeds-inside c.args.addr _ _ there (omega arith)) there)

pub returns-clause-after : goal.returns-clause-after
returns-clause-after g c =
    let p = c.in-Some.ensures in
    let there : get (target_words_from c.self.inside.base c.self.inside.words.items) c.args.addr ≡ Some
    c.index-word.result.now = get-words_from c.self.inside.base _ c.in-Some.i c.args.addr _ (omega arith) p.1
    ∙ ap Some (sym c.index-word.ensures) in
    after-read c.args.addr _ _ _ (succeeds-inside c.args.addr _ _ there (omega arith)) there
    (grind (arith, c.push.ensures.items, c.push.ensures.succeeds))
    ∙ ap (λ (m : PlainMemory). plain_after (Read c.args.addr) m) c.self.view_is
