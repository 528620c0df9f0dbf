use Rattle.swd_resync.proofs.PlaceLemmas.{no_stretch_without_pair}
use Rattle.swd_resync.proofs.judge.begins_nothing.Goals as goal

pub returns-then-lacks_request : goal.returns-then-lacks_request
returns-then-lacks_request c = λ e over back.
    no_stretch_without_pair over c.args.window.len c.args.window.bits back c.requires.most
    (c.is_ones.ensures.zero c.if-not-is_ones.true) (c.lacks_request.ensures e over back)

pub returns-else-lacks_request : goal.returns-else-lacks_request
returns-else-lacks_request c = λ e over back.
    no_stretch_without_pair over c.args.window.len c.args.window.bits back c.requires.most
    (c.is_ones.ensures.zero c.if-not-is_ones.true) (c.lacks_ack.ensures e over back)
