use Rattle.std.proofs.Common.{◌≡◌, sym, subst, ap, ◌∙◌, arith, Some, None}
use Rattle.std.specs.FinMap.{get}
use Rattle.swd_port.specs.PlainMemory.{PlainMemory}
use Rattle.swd_target.proofs.WordLemmas.{get-words_from, get-outside}
use Rattle.swd_target.proofs.words.OwnWords.word.Goals as goal

pub returns-in-Some : goal.returns-in-Some
returns-in-Some g c =
    let p = c.in-Some.ensures in
    let P = λ (m : PlainMemory). Some c.index.result.now ≡ get m.words c.args.addr in
    subst P c.self.view_is (ap Some c.index.ensures
    ∙ sym (get-words_from c.self.inside.base _ c.in-Some.i c.args.addr _ (omega arith) p.1))

pub returns-in-None : goal.returns-in-None
returns-in-None g c =
    let P = λ (m : PlainMemory). None ≡ get m.words c.args.addr in
    subst P c.self.view_is (sym
    (get-outside c.self.inside.base _ c.args.addr (λ i l e. c.in-None.ensures i (omega arith) e)))
