use Rattle.std.proofs.Common.{◌∙◌, ap, refl}
use Rattle.std.proofs.lemmas.Result.{err_from_is_err_and}
use Rattle.swd_image_files.specs.Images.{image_file_pieces_left}
use Rattle.swd_image_ends.proofs.PieceLemmas.{load_begins, load_ended, load_failed, load_next}
use Rattle.swd_image_ends.proofs.PieceReportLemmas.{load_reported, load_reported_all, load_reported_failed}
use Rattle.swd_image_ends.proofs.PieceReportLemmas.{load_reported_next}
use Rattle.swd_image_ends.proofs.pieces.load_pieces.Goals as goal

pub loop-piece-init : goal.loop-piece-init
loop-piece-init g c =
    let left = ap image_file_pieces_left c.into_iter-piece-iterator.ensures.into_iter_gives
    ∙ c.pieces-piece-items.ensures in
    record {
      can = tt;
      finite = tt;
      on = load_begins g.W.Wire c.args.limits _ _ c.args.wire.now left;
      reported = load_reported g.W.Wire c.args.limits _ _ c.args.wire.now _ left;
      due = c.requires;
      plan = refl;
    }

pub loop-piece-preserved : goal.loop-piece-preserved
loop-piece-preserved g c =
    let steps = c.in-Some.ensures.steps in
    let i = c.loop-piece.invariant in
    record {
      can = tt;
      finite = tt;
      on = load_next g.W.Wire c.args.limits _ _ _ _ _ _ _ steps i.on c.in_ok-load.ensures.loads;
      reported = load_reported_next g.W.Wire c.args.limits _ _ _ _ _ _ _ _ _ _ steps i.reported
          c.in_ok-load.ensures.report;
      due = c.in_ok-load.ensures.due;
      plan = c.in_ok-load.ensures.plan ∙ i.plan;
    }

pub returns-in_err-load-clause-fault : goal.returns-in_err-load-clause-fault
returns-in_err-load-clause-fault g c =
    let p = err_from_is_err_and c.from_residual.result c.from_residual.ensures.1 in
    rw (p.1, p.2) (load_failed g.W.Wire c.args.limits _ _ _ _ _ _ _ _ c.in-Some.ensures.steps
    c.loop-piece.invariant.on c.in_err-load.ensures.fault)

pub returns-clause-loads : goal.returns-clause-loads
returns-clause-loads g c =
    load_ended g.W.Wire c.args.limits _ _ _ _ c.in-None.ensures.steps.0 c.loop-piece.invariant.on

pub returns-in_err-load-clause-report : goal.returns-in_err-load-clause-report
returns-in_err-load-clause-report g c =
    let p = err_from_is_err_and c.from_residual.result c.from_residual.ensures.1 in
    rw (p.1, p.2) (load_reported_failed g.W.Wire c.args.limits _ _ _ _ _ _ _ _ _ _ _ c.in-Some.ensures.steps
    c.loop-piece.invariant.reported c.in_err-load.ensures.report)

pub returns-clause-report : goal.returns-clause-report
returns-clause-report g c =
    load_reported_all g.W.Wire c.args.limits _ _ _ _ _ _ c.in-None.ensures.steps.0 c.loop-piece.invariant.reported
