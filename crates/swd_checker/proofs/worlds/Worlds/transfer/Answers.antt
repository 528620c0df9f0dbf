use Rattle.std.proofs.Common.{sym, ap, ◌∙◌, subst, ◌≡◌, true, false}
use Rattle.swd_bits.specs.declared.request.Request.{Request}
use Rattle.swd_checker.proofs.TransactLemmas.{moves_read, moves_read_damaged, moves_write, moves_write_damaged}
use Rattle.swd_checker.specs.Reached.{WorldsReadSeen}
use Rattle.swd_checker.proofs.ReachLemmas.{near_of_sound}
use Rattle.swd_checker.proofs.worlds.Worlds.transfer.Goals as goal

pub returns-in-false-true-clause-moves : goal.returns-in-false-true-clause-moves
returns-in-false-true-clause-moves c = λ asked s t same idle to is moved d. moves_write asked c.args.now
    c.write.new.self c.args.word c.args.parity_ok s t
    (sym (ap (λ (q : Request). q.read) same.request) ∙ c.in-false-true.is-0) c.in-false-true.is-1 same idle to
    c.write.ensures.arrives c.write.ensures.damages is moved d

pub returns-in-false-false-clause-moves : goal.returns-in-false-false-clause-moves
returns-in-false-false-clause-moves c = λ asked s t same idle to is moved d. moves_write_damaged asked c.args.now
    c.write_damaged.new.self c.args.word c.args.parity_ok s t
    (sym (ap (λ (q : Request). q.read) same.request) ∙ c.in-false-false.is-0) c.in-false-false.is-1 same idle to
    c.write_damaged.ensures.damages c.write_damaged.ensures.cures is moved d

pub returns-in-true-true-clause-moves : goal.returns-in-true-true-clause-moves
returns-in-true-true-clause-moves c = λ asked s t same idle to is moved d. moves_read asked c.args.now
    c.read.new.self c.of.result c.args.word c.args.parity_ok s t
    (sym (ap (λ (q : Request). q.read) same.request) ∙ c.in-true-true.is-0) c.in-true-true.is-1 same idle to
    c.read.ensures.reads c.of.ensures.near is moved d

pub returns-in-true-false-clause-moves : goal.returns-in-true-false-clause-moves
returns-in-true-false-clause-moves c = λ asked s t same idle to is moved d. moves_read_damaged asked c.args.now
    c.read_damaged.new.self c.args.word c.args.parity_ok s t
    (sym (ap (λ (q : Request). q.read) same.request) ∙ c.in-true-false.is-0) c.in-true-false.is-1 same idle to
    c.read_damaged.ensures.reads is moved d

pub returns-in-false-true-clause-reaches : goal.returns-in-false-true-clause-reaches
returns-in-false-true-clause-reaches c = λ link old h. c.write.ensures.reaches link old
    (λ dirty. h.damaged c.in-false-true.is-0 (λ e. dirty)) (h.written c.in-false-true.is-0 c.in-false-true.is-1)

pub returns-in-false-false-clause-reaches : goal.returns-in-false-false-clause-reaches
returns-in-false-false-clause-reaches c = λ link old h. c.write_damaged.ensures.reaches link old
    (h.damaged c.in-false-false.is-0 (λ e. absurd (let f : false ≡ true = sym c.in-false-false.is-1 ∙ e in cc)))
    (λ dirty place inside. h.cured c.in-false-false.is-0 c.in-false-false.is-1 dirty place inside)

pub returns-in-true-true-clause-reaches : goal.returns-in-true-true-clause-reaches
returns-in-true-true-clause-reaches c = λ link old h. c.read.ensures.reaches link old
    (near_of_sound c.of.result c.args.word c.of.ensures.exact c.ranges.word.fits)
    (subst (λ n. WorldsReadSeen link c.args.now.world c.args.now.register n true) (sym c.of.ensures.exact)
    (h.whole c.in-true-true.is-0 c.in-true-true.is-1))

pub returns-in-true-false-clause-reaches : goal.returns-in-true-false-clause-reaches
returns-in-true-false-clause-reaches c = λ link old h. c.read_damaged.ensures.reaches link old
    (λ dirty. h.changed c.in-true-false.is-0 c.in-true-false.is-1 dirty)
