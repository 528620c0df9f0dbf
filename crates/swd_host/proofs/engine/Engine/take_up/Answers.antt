use Rattle.swd_host.proofs.Words.{◌≡◌, ◌∙◌, ap, subst, not, is_some, true, false, engine_cue, EngineStarts, List}
use Rattle.swd_host.proofs.Words.{Access}
use Rattle.std.specs.Prelude.{slice_get}
use Rattle.swd_host.proofs.Foreseeing.{TakesUpAlong, takes_up_along_on, takes_up_none, takes_none_here, if_none_so}
use Rattle.swd_host.proofs.engine.Engine.take_up.Goals as goal

pub returns-in_err-first-clause-none : goal.returns-in_err-first-clause-none
returns-in_err-first-clause-none c =
    let e = c.loop-self.self in
    let left = c.loop-self.rest.now in
    let none : is_some (engine_cue e) ≡ false =
    subst (λ o. is_some o ≡ false) c.cue.ensures.cue (c.is_none.ensures ∙ ap not c.loop-self-test.true) in
    if_none_so _ _ (c.loop-self.invariant.none (takes_none_here e left none c.in_err-first.ensures.none))

pub loop-self-preserved : goal.loop-self-preserved
loop-self-preserved c =
    let e = c.loop-self.self in
    let first = c.in_ok-first.first in
    let more = c.in_ok-first.more.now in
    let none : is_some (engine_cue e) ≡ false =
    subst (λ o. is_some o ≡ false) c.cue.ensures.cue (c.is_none.ensures ∙ ap not c.loop-self-test.true) in
    let next : c.copied.result ≡ slice_get more 0 = cc in
    let starts : EngineStarts first (slice_get more 0) e c.start.new.self =
    subst (λ o. EngineStarts first o e c.start.new.self) next c.start.ensures.starts in
    let Along : List Access → Type 0 = TakesUpAlong c.args.self.now c.args.left.now e in
    takes_up_along_on c.args.self.now e c.start.new.self c.args.left.now more first
    (subst Along c.in_ok-first.ensures.parts c.loop-self.invariant) none c.in_ok-first.ensures.may starts

pub returns-clause-takes : goal.returns-clause-takes
returns-clause-takes c =
    let e = c.loop-self.self in
    let has : is_some (engine_cue e) ≡ true =
    subst (λ o. is_some o ≡ true) c.cue.ensures.cue (c.is_none.ensures ∙ ap not c.loop-self-test.false) in
    c.loop-self.invariant.takes e c.loop-self.rest.now (takes_up_none e c.loop-self.rest.now has)
