use Rattle.std.proofs.Common.{◌∙◌, ◌+◌, drop, sym, ap}
use Rattle.swd_run.specs.Verified.{verify_difference_in, verify_or_else}
use Rattle.swd_run.proofs.VerifiedLemmas.{verify_difference_first, verify_difference_later, no_verify_read_left}
use Rattle.swd_run.proofs.VerifiedLemmas.{verify_reads_left}
use Rattle.swd_run.proofs.verified.difference_in.Goals as goal

pub returns-in-Some : goal.returns-in-Some
returns-in-Some c =
    let reads = c.args.reads.now in
    let answers = c.args.answers.now in
    let i = c.loop-read.read-index in
    verify_difference_first c.differs_among.result (verify_difference_in (drop (i + 1) reads) answers)
    (verify_difference_in reads answers) c.in-Some.found c.in-Some.is
    (c.loop-read.invariant ∙ verify_reads_left reads answers i _ c.loop-read-test.true
    ∙ ap (λ r. verify_or_else r (verify_difference_in (drop (i + 1) reads) answers)) (sym c.differs_among.ensures))

pub loop-read-preserved : goal.loop-read-preserved
loop-read-preserved c =
    let reads = c.args.reads.now in
    let answers = c.args.answers.now in
    let i = c.loop-read.read-index in
    verify_difference_later c.differs_among.result (verify_difference_in (drop (i + 1) reads) answers)
    (verify_difference_in reads answers) c.in_default.is
    (c.loop-read.invariant ∙ verify_reads_left reads answers i _ c.loop-read-test.true
    ∙ ap (λ r. verify_or_else r (verify_difference_in (drop (i + 1) reads) answers)) (sym c.differs_among.ensures))

pub returns : goal.returns
returns c = sym (c.loop-read.invariant
    ∙ no_verify_read_left c.args.reads.now c.args.answers.now c.loop-read.read-index c.loop-read-test.false)
