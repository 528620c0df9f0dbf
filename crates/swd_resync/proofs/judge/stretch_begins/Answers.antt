use Rattle.std.proofs.Common.{◌∙◌, arith}
use Rattle.std.specs.Prelude.{Some, None}
use Rattle.swd_resync.specs.Holding.{resync_held}
use Rattle.swd_resync.proofs.JudgeLemmas.{judged_near_widened, stretch_begin_judged, judged_ones_by_sight}
use Rattle.swd_resync.proofs.judge.stretch_begins.Goals as goal

pub returns-in-None : goal.returns-in-None
returns-in-None c =
    let j = judged_ones_by_sight c.args.over c.args.ended (resync_held c.args.held.now) _ None c.look.ensures
    c.in-None.ensures in
    (j.0, judged_near_widened 0 46 (resync_held c.args.held.now) (omega arith) j.1)

pub returns-in-Some-false : goal.returns-in-Some-false
returns-in-Some-false c =
    let j = judged_ones_by_sight c.args.over c.args.ended (resync_held c.args.held.now) _ (Some c.in-Some-false.field-0)
    c.look.ensures c.in-Some-false.ensures in
    stretch_begin_judged c.args.over c.args.ended (resync_held c.args.held.now) _
    (λ more may. j more may ∙ c.in-Some-false.field-0-test) c.pair_stands.ensures
