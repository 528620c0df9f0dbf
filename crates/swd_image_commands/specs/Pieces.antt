-- What a command states of the calls that it made for the pieces of an image.
use Rattle.std.specs.Prelude.{◌≡◌, ℕ, List, Option, None, Result, Ok, Err}
use Rattle.swd_port.specs.declared.wire.Wire.{Ghosts}
use Rattle.swd_run.specs.declared.limits.Limits.{Limits}
use Rattle.swd_image.specs.declared.fault.ImageFault.{ImageFault}
use Rattle.swd_image.specs.declared.verifying.ByteDifference.{ByteDifference}
use Rattle.swd_image_files.specs.Images.{ImageFileBytes}
use Rattle.swd_image_ends.specs.Came.{LoadCame, VerifyCame}
use Rattle.swd_image_commands.specs.declared.pieces.PiecesAction.{PiecesAction}
use Rattle.swd_image_commands.specs.declared.pieces.PiecesAction.TheVariants.{Load, Verify}

-- a load, of which no byte differs
abbrev pub pieces_all_loaded : Result (Unit {0}) ImageFault → Result (Option ByteDifference) ImageFault
pieces_all_loaded (Ok done) = Ok None
pieces_all_loaded (Err fault) = Err fault

-- the pieces were loaded, or compared with the memory
abbrev pub PiecesCame : {W : Type 0} → Ghosts W → Limits → PiecesAction → List ImageFileBytes
    → Result (Option ByteDifference) ImageFault → W → W → Option (Option (List ℕ)) → Option (Option (List ℕ)) → Type 0
PiecesCame wire limits Load pieces answer s t before after =
    (loaded : Result (Unit {0}) ImageFault) × (answer ≡ pieces_all_loaded loaded)
    × LoadCame wire limits pieces loaded s t before after
PiecesCame wire limits Verify pieces answer s t before after = VerifyCame wire limits pieces answer s t before after
