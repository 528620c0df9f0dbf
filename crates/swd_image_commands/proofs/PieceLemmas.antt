-- What a command states of the calls for the pieces of an image, it states of all that a wire is known by.
use Rattle.std.proofs.Common.{◌≡◌, ℕ, List, Option, Result}
use Rattle.swd_port.specs.declared.wire.Wire.{Ghosts}
use Rattle.swd_run.specs.declared.limits.Limits.{Limits}
use Rattle.swd_run.specs.Wires.{run_wire_by}
use Rattle.swd_image.specs.declared.fault.ImageFault.{ImageFault}
use Rattle.swd_image.specs.declared.verifying.ByteDifference.{ByteDifference}
use Rattle.swd_image_files.specs.Images.{ImageFileBytes}
use Rattle.swd_image_ends.proofs.CameLemmas.{load_came_by, verify_came_by}
use Rattle.swd_image_commands.specs.declared.pieces.PiecesAction.{PiecesAction}
use Rattle.swd_image_commands.specs.declared.pieces.PiecesAction.TheVariants.{Load, Verify}
use Rattle.swd_image_commands.specs.Pieces.{PiecesCame}

-- from a wire, of which `known` is known before the calls
pub pieces_came_by : {W V : Type 0} (by : W → V) (wire : Ghosts V) (limits : Limits) (action : PiecesAction)
    (pieces : List ImageFileBytes) (answer : Result (Option ByteDifference) ImageFault) (s t : W) (known : V)
    (a b : Option (Option (List ℕ))) → by s ≡ known
    → PiecesCame (run_wire_by by wire) limits action pieces answer s t a b
    → PiecesCame wire limits action pieces answer known (by t) a b
pieces_came_by by wire limits Load pieces answer s t known a b is (loaded, same, came) =
    (loaded, same, load_came_by by wire limits pieces loaded s t known a b is came)
pieces_came_by by wire limits Verify pieces answer s t known a b is came =
    verify_came_by by wire limits pieces answer s t known a b is came
