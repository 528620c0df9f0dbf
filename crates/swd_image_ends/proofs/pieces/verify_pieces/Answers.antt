use Rattle.std.proofs.Common.{◌∙◌, Err, Ok, Some, ap, refl, subst}
use Rattle.std.proofs.lemmas.Result.{err_from_is_err_and}
use Rattle.swd_image.specs.Dumps.{VerifiesImage}
use Rattle.swd_image_files.specs.Images.{image_file_pieces_left}
use Rattle.swd_image_ends.proofs.PieceLemmas.{verify_begins, verify_differs, verify_ended, verify_next}
use Rattle.swd_image_ends.proofs.PieceReportLemmas.{verify_reported, verify_reported_all, verify_reported_last}
use Rattle.swd_image_ends.proofs.PieceReportLemmas.{verify_reported_next}
use Rattle.swd_image_ends.proofs.pieces.verify_pieces.Goals as goal

pub loop-piece-init : goal.loop-piece-init
loop-piece-init g c =
    let left = ap image_file_pieces_left c.into_iter-piece-iterator.ensures.into_iter_gives
    ∙ c.pieces-piece-items.ensures in
    record {
      can = tt;
      finite = tt;
      on = verify_begins g.W.Wire c.args.limits _ _ c.args.wire.now left;
      reported = verify_reported g.W.Wire c.args.limits _ _ c.args.wire.now _ left;
      due = c.requires;
      plan = refl;
    }

pub loop-piece-preserved : goal.loop-piece-preserved
loop-piece-preserved g c =
    let verifies = subst (λ d. VerifiesImage g.W.Wire c.args.limits c.in-Some.piece.addr c.in-Some.piece.bytes.now d
    c.loop-piece.wire c.verify.new.wire) c.in_default.is c.in_ok-difference.ensures.verifies in
    record {
      can = tt;
      finite = tt;
      on = verify_next g.W.Wire c.args.limits _ _ _ _ _ _ _ c.in-Some.ensures.steps c.loop-piece.invariant.on verifies;
      reported = verify_reported_next g.W.Wire c.args.limits _ _ _ _ _ _ _ _ _ _ c.in-Some.ensures.steps
          c.loop-piece.invariant.reported c.in_ok-difference.ensures.report;
      due = c.in_ok-difference.ensures.due;
      plan = c.in_ok-difference.ensures.plan ∙ c.loop-piece.invariant.plan;
    }

pub returns-in-Some-2-clause-verifies : goal.returns-in-Some-2-clause-verifies
returns-in-Some-2-clause-verifies g c =
    verify_differs g.W.Wire c.args.limits _ _ _ _ _ _ _ _ c.in-Some.ensures.steps c.loop-piece.invariant.on
    (subst (λ d. VerifiesImage g.W.Wire c.args.limits c.in-Some.piece.addr c.in-Some.piece.bytes.now d
    c.loop-piece.wire c.verify.new.wire) c.in-Some-2.is c.in_ok-difference.ensures.verifies)

pub returns-clause-verifies : goal.returns-clause-verifies
returns-clause-verifies g c =
    verify_ended g.W.Wire c.args.limits _ _ _ _ c.in-None.ensures.steps.0 c.loop-piece.invariant.on

pub returns-in_err-difference-clause-report : goal.returns-in_err-difference-clause-report
returns-in_err-difference-clause-report g c =
    let p = err_from_is_err_and c.from_residual.result c.from_residual.ensures.1 in
    rw (p.1, p.2) (verify_reported_last g.W.Wire c.args.limits _ _ _ _ _ _ _ (Err _) _ _ _
    c.in-Some.ensures.steps (λ e. absurd cc) c.loop-piece.invariant.reported c.in_err-difference.ensures.report)

pub returns-in-Some-2-clause-report : goal.returns-in-Some-2-clause-report
returns-in-Some-2-clause-report g c =
    verify_reported_last g.W.Wire c.args.limits _ _ _ _ _ _ _ (Ok (Some c.in-Some-2.difference)) _ _ _
    c.in-Some.ensures.steps (λ e. absurd cc) c.loop-piece.invariant.reported c.in_ok-difference.ensures.report

pub returns-clause-report : goal.returns-clause-report
returns-clause-report g c =
    verify_reported_all g.W.Wire c.args.limits _ _ _ _ _ _ c.in-None.ensures.steps.0 c.loop-piece.invariant.reported
