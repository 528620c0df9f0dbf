use Rattle.std.proofs.Common.{◌∙◌, arith}
use Rattle.swd_resync.specs.Holding.{resync_held}
use Rattle.swd_resync.proofs.MoveLemmas.{skip_reported, stretch_entered, skip_counts_bit}
use Rattle.swd_resync.proofs.moves.between_at.Goals as goal

pub returns-then-count-gt0 : goal.returns-then-count-gt0
returns-then-count-gt0 c =
    skip_reported c.args.over c.args.ended c.args.count (resync_held c.args.held.now) c.skipped.result
    c.skipped.ensures c.if-count-gt0.true
    (λ more may. c.in-Some-true.ensures more may ∙ c.in-Some-true.field-0-test)

pub returns-else-count-gt0 : goal.returns-else-count-gt0
returns-else-count-gt0 c =
    stretch_entered c.args.over c.args.ended c.args.count (resync_held c.args.held.now) c.stay.result c.stay.ensures
    (omega (arith, c.if-count-gt0.false))
    (λ more may. c.in-Some-true.ensures more may ∙ c.in-Some-true.field-0-test)

pub returns-in-Some-false : goal.returns-in-Some-false
returns-in-Some-false c =
    let f = c.requires.some in
    skip_counts_bit c.args.over c.args.ended c.args.count f.0 f.1 (resync_held c.args.held.now) f.2
    (λ more may. c.in-Some-false.ensures more may ∙ c.in-Some-false.field-0-test)
