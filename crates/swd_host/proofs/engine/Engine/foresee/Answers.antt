use Rattle.swd_host.proofs.Words.{◌≡◌, ◌∙◌, ap, sym, subst, Some, None, engine_cue, engine_job, data_phase_number}
use Rattle.swd_host.proofs.Words.{true, false}
use Rattle.swd_port.specs.declared.cue.Cue.{Cue}
use Rattle.swd_port.specs.declared.cue.Cue.TheVariants.{Take as CueTake, Give as CueGive}
use Rattle.swd_host.specs.Coming.{EnginesForeseeNone}
use Rattle.swd_host.specs.Replies.{EngineSentCue, EngineTookData}
use Rattle.swd_host.specs.Steps.{engine_word_decides}
use Rattle.swd_host.proofs.Foreseeing.{asked_at_data, if_none_so, foresees_write, foresees_read, foresees_last}
use Rattle.swd_host.proofs.engine.Engine.foresee.Goals as goal

same_cue : (x y : Cue) → Some x ≡ Some y → x ≡ y
same_cue x y h = cc

no_cue : (x : Cue) → None ≡ Some x → ⊥
no_cue x h = cc

pub returns-in-Give-clause-next : goal.returns-in-Give-clause-next
returns-in-Give-clause-next c =
    let gives : engine_cue c.ask.new.self ≡ Some (CueGive c.in-Give.field-0) =
    sym c.in_ok-cue.ensures.cue ∙ ap Some c.in-Give.is in
    let did : EngineSentCue c.ask.new.self c.done.new.self = assumption c.done.ensures in
    foresees_write c.args.self c.args.left.now c.in_ok-request.request c.ask.new.self c.in_ok-request.left.now
    c.done.new.self c.in-Give.field-0 c.word.result c.in_ok-request.ensures.asked gives c.word.ensures did

pub returns-then-decides-clause-next : goal.returns-then-decides-clause-next
returns-then-decides-clause-next c =
    let takes : engine_cue c.ask.new.self ≡ Some CueTake =
    sym c.in_ok-cue.ensures.cue ∙ ap Some c.in-Take.is in
    let decides : engine_word_decides (engine_job c.ask.new.self.state) ≡ true = cc in
    foresees_last c.args.self c.args.left.now c.in_ok-request.request c.ask.new.self c.in_ok-request.left.now
    c.in_ok-request.ensures.asked takes decides

pub returns-else-decides-clause-next : goal.returns-else-decides-clause-next
returns-else-decides-clause-next c =
    let takes : engine_cue c.ask.new.self ≡ Some CueTake =
    sym c.in_ok-cue.ensures.cue ∙ ap Some c.in-Take.is in
    let plain : engine_word_decides (engine_job c.ask.new.self.state) ≡ false = cc in
    let did : EngineTookData c.data_bits.result c.ask.new.self c.taken.new.self = assumption c.taken.ensures in
    let read : EngineTookData (data_phase_number 0) c.ask.new.self c.taken.new.self =
    subst (λ bits. EngineTookData bits c.ask.new.self c.taken.new.self) c.data_bits.ensures.number did in
    foresees_read c.args.self c.args.left.now c.in_ok-request.request c.ask.new.self c.in_ok-request.left.now
    c.taken.new.self c.in_ok-request.ensures.asked takes plain read

-- an engine that asked is at a data phase, so it has no other cue
pub returns-in_default-clause-none : goal.returns-in_default-clause-none
returns-in_default-clause-none c = λ o like q f rest saw.
    absurd (asked_at_data c.args.self c.args.left.now c.in_ok-request.request c.ask.new.self c.in_ok-request.left.now
    c.in_ok-request.ensures.asked
    (λ bits gives. c.in_default.not-Give bits (same_cue _ _ (c.in_ok-cue.ensures.cue ∙ gives)))
    (λ takes. c.in_default.not-Take (same_cue _ _ (c.in_ok-cue.ensures.cue ∙ takes))))

pub returns-in_err-cue-clause-none : goal.returns-in_err-cue-clause-none
returns-in_err-cue-clause-none c =
    let none : EnginesForeseeNone c.args.self c.args.left.now = λ o like q f rest saw.
    absurd (asked_at_data c.args.self c.args.left.now c.in_ok-request.request c.ask.new.self
    c.in_ok-request.left.now c.in_ok-request.ensures.asked
    (λ bits gives. no_cue _ (c.in_err-cue.ensures.cue ∙ gives))
    (λ takes. no_cue _ (c.in_err-cue.ensures.cue ∙ takes))) in
    if_none_so _ _ none
