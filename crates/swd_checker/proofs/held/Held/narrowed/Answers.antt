use Rattle.std.proofs.Common.{sym, subst}
use Rattle.swd_checker.specs.Worlds.{HeldUnknown, HeldSeen}
use Rattle.swd_checker.specs.Reaching.{HeldNarrows}
use Rattle.swd_checker.proofs.HeldLemmas.{held_unknown_narrows, held_word_narrows, held_csw_narrows, held_seen_narrows}
use Rattle.swd_checker.specs.Described.{CheckedHeld}
use Rattle.swd_checker.specs.Words.{WordsOfCsw, WordsNear}
use Rattle.swd_checker.proofs.NearLemmas.{held_narrows}
use Rattle.swd_checker.proofs.held.Held.narrowed.Goals as goal

pub returns-in-Csw-clause-all : goal.returns-in-Csw-clause-all
returns-in-Csw-clause-all c = λ value filler held is. held_narrows (WordsOfCsw c.in-Csw.increments) c.args.seen _ _
    value filler
    c.among.ensures.all c.of.ensures.all (subst (λ h. CheckedHeld h value) c.in-Csw.is held) is

pub returns-in-Seen-clause-all : goal.returns-in-Seen-clause-all
returns-in-Seen-clause-all c = λ value filler held is. held_narrows (WordsNear c.in-Seen.near) c.args.seen _ _ value
    filler
    c.among-in-Seen.ensures.all c.of-in-Seen.ensures.all (subst (λ h. CheckedHeld h value) c.in-Seen.is held) is

pub returns-in-Unknown-clause-exact : goal.returns-in-Unknown-clause-exact
returns-in-Unknown-clause-exact c = λ sound. subst (λ h. HeldNarrows h c.args.seen HeldUnknown) (sym c.in-Unknown.is)
    (held_unknown_narrows c.args.seen sound)

pub returns-in-Word-clause-exact : goal.returns-in-Word-clause-exact
returns-in-Word-clause-exact c = λ sound. subst (λ h. HeldNarrows h c.args.seen (HeldSeen c.args.seen))
    (sym c.in-Word.is) (held_word_narrows c.args.seen sound)

pub returns-in-Csw-clause-exact : goal.returns-in-Csw-clause-exact
returns-in-Csw-clause-exact c = λ sound. held_csw_narrows c.args.self c.in-Csw.increments c.args.seen c.among.result
    c.of.result c.in-Csw.is sound c.among.ensures.exact c.of.ensures.exact

pub returns-in-Seen-clause-exact : goal.returns-in-Seen-clause-exact
returns-in-Seen-clause-exact c = λ sound. held_seen_narrows c.args.self c.in-Seen.near c.args.seen
    c.among-in-Seen.result c.of-in-Seen.result c.in-Seen.is sound c.among-in-Seen.ensures.exact
    c.of-in-Seen.ensures.exact
