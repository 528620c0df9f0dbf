use Rattle.std.proofs.Common.{◌≡◌}
use Rattle.swd_port.specs.declared.wire.Due.TheVariants.{Nothing}
use Rattle.swd_image_files.specs.Images.{image_file_pieces_left}
use Rattle.swd_image_ends.specs.Pieces.{pieces_to_load}
use Rattle.swd_image_ends.proofs.PieceLemmas.{LoadsOn}
use Rattle.swd_image_ends.proofs.PieceReportLemmas.{LoadsReportedOn}
use Rattle.swd_image_ends.proofs.pieces.load_pieces.Given as goal

abbrev pub invariant-loop-piece : goal.invariant-loop-piece
invariant-loop-piece g l = record {
  can : (goal.iterator-loop-piece g).can_next l.piece-iterator;
  finite : (goal.iterator-loop-piece g).is_finite l.piece-iterator;
  on : LoadsOn g.W.Wire l.limits (image_file_pieces_left l.piece-iterator)
      (pieces_to_load l.image) l.fn.wire l.wire;
  reported : LoadsReportedOn g.W.Wire l.limits
      (image_file_pieces_left l.piece-iterator) (pieces_to_load l.image) l.fn.wire l.wire
      (g.S.CallReports.held l.fn.report) (g.S.CallReports.held l.report);
  due : (g.W.Wire.port l.wire).link.due ≡ Nothing;
  plan : g.W.Wire.plan l.wire ≡ g.W.Wire.plan l.fn.wire;
}
