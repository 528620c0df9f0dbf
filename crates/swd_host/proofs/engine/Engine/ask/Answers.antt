use Rattle.swd_host.specs.Replies.{EngineSawAck}
use Rattle.swd_host.proofs.Foreseeing.{none_without_cue, none_without_request, none_without_data, if_none_so}
use Rattle.swd_host.proofs.engine.Engine.ask.Goals as goal

pub returns-in_err-left-clause-none : goal.returns-in_err-left-clause-none
returns-in_err-left-clause-none c =
    if_none_so _ _ (none_without_cue c.args.self.now c.args.left.now c.in_err-left.ensures.none)

pub returns-in_err-request-clause-none : goal.returns-in_err-request-clause-none
returns-in_err-request-clause-none c =
    if_none_so _ _ (none_without_request c.args.self.now c.take_up.new.self c.args.left.now c.in_ok-left.left.now
    c.in_ok-left.ensures.takes c.in_err-request.ensures.none)

pub returns-in_err-left-2-clause-none : goal.returns-in_err-left-2-clause-none
returns-in_err-left-2-clause-none c =
    let saw : EngineSawAck 1 c.take_up.new.self c.seen.new.self = assumption c.seen.ensures in
    if_none_so _ _ (none_without_data c.args.self.now c.take_up.new.self c.seen.new.self c.args.left.now
    c.in_ok-left.left.now c.in_ok-request.request c.in_ok-left.ensures.takes c.in_ok-request.ensures.asks saw
    c.in_err-left-2.ensures.none)
