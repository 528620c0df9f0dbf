use Rattle.swd_host.proofs.Words.{Some, sym, ap, subst, ◌∙◌}
use Rattle.swd_port.specs.declared.call.Call.{Call}
use Rattle.swd_port.specs.declared.cue.Cue.TheVariants.{Ask as CueAsk, Take as CueTake, Give as CueGive}
use Rattle.swd_port.specs.declared.cue.Cue.TheVariants.{Pass as CuePass}
use Rattle.swd_host.specs.Calls.{EngineTurned}
use Rattle.swd_host.specs.Engines.{IsEnginePhaseCue}
use Rattle.swd_host.specs.Replies.{EngineSentCue, EngineTookReply}
use Rattle.swd_host.proofs.Turned.{engine_turn_keeps}
use Rattle.swd_host.proofs.running.turn.Goals as goal

pub returns-in-Lead : goal.returns-in-Lead
returns-in-Lead g c =
    let call : Call = record { cue = c.in-Some.cue; seen = c.step.result } in
    let did : EngineSentCue c.args.engine.now c.done.new.self = assumption c.done.ensures in
    let turned : EngineTurned call c.args.engine.now c.done.new.self = record {
      cue = sym c.in-Some.ensures.cue;
      seen = c.step.ensures.seen;
      replied = subst (λ cue. EngineTookReply cue c.step.result c.args.engine.now c.done.new.self) (sym c.in-Lead.is)
          did;
    } in
    let kept = engine_turn_keeps g.W.Wire.port g.W.Wire.lawful g.W.Wire.notes call _ _ _ _ turned
    c.in-Some.ensures.range c.step.ensures.due c.step.ensures.step c.step.ensures.notes in
    assumption (kept, c.step.ensures)

pub returns-in-Ask : goal.returns-in-Ask
returns-in-Ask g c =
    let call : Call = record { cue = CueAsk c.in-Ask.request; seen = c.step-seen.result } in
    let turned : EngineTurned call c.args.engine.now c.seen.new.self = record {
      cue = sym c.in-Some.ensures.cue ∙ ap Some c.in-Ask.is;
      seen = c.step-seen.ensures.seen;
      replied = assumption c.seen.ensures;
    } in
    let kept = engine_turn_keeps g.W.Wire.port g.W.Wire.lawful g.W.Wire.notes call _ _ _ _ turned tt
    c.step-seen.ensures.due c.step-seen.ensures.step c.step-seen.ensures.notes in
    assumption (kept, c.step-seen.ensures)

pub returns-in-Take : goal.returns-in-Take
returns-in-Take g c =
    let call : Call = record { cue = CueTake; seen = c.step-bits.result } in
    let turned : EngineTurned call c.args.engine.now c.taken.new.self = record {
      cue = sym c.in-Some.ensures.cue ∙ ap Some c.in-Take.is;
      seen = c.step-bits.ensures.seen;
      replied = assumption c.taken.ensures;
    } in
    let kept = engine_turn_keeps g.W.Wire.port g.W.Wire.lawful g.W.Wire.notes call _ _ _ _ turned tt
    c.step-bits.ensures.due c.step-bits.ensures.step c.step-bits.ensures.notes in
    assumption (kept, c.step-bits.ensures)

pub returns-in-Give : goal.returns-in-Give
returns-in-Give g c =
    let call : Call = record { cue = CueGive c.in-Give.bits; seen = c.step-in-Give.result } in
    let turned : EngineTurned call c.args.engine.now c.done-in-Give.new.self = record {
      cue = sym c.in-Some.ensures.cue ∙ ap Some c.in-Give.is;
      seen = c.step-in-Give.ensures.seen;
      replied = assumption c.done-in-Give.ensures;
    } in
    let kept = engine_turn_keeps g.W.Wire.port g.W.Wire.lawful g.W.Wire.notes call _ _ _ _ turned
    (subst IsEnginePhaseCue c.in-Give.is c.in-Some.ensures.range)
    c.step-in-Give.ensures.due c.step-in-Give.ensures.step c.step-in-Give.ensures.notes in
    assumption (kept, c.step-in-Give.ensures)

pub returns-in-Pass : goal.returns-in-Pass
returns-in-Pass g c =
    let call : Call = record { cue = CuePass; seen = c.step-in-Pass.result } in
    let turned : EngineTurned call c.args.engine.now c.done-in-Pass.new.self = record {
      cue = sym c.in-Some.ensures.cue ∙ ap Some c.in-Pass.is;
      seen = c.step-in-Pass.ensures.seen;
      replied = assumption c.done-in-Pass.ensures;
    } in
    let kept = engine_turn_keeps g.W.Wire.port g.W.Wire.lawful g.W.Wire.notes call _ _ _ _ turned tt
    c.step-in-Pass.ensures.due c.step-in-Pass.ensures.step c.step-in-Pass.ensures.notes in
    assumption (kept, c.step-in-Pass.ensures)
