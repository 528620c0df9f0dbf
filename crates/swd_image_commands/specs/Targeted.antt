-- What a load, a verification or a dump does, at the target behind the standard streams or at a simulated one.
use Rattle.std.specs.Prelude.{ℕ, List, Option, None, Some}
use Rattle.swd_port.specs.Port.{Port}
use Rattle.swd_remote.specs.declared.kept.RemoteStreams.{RemoteStreams}
use Rattle.swd_remote.specs.WholeRuns.{IsUnusedRemote}
use Rattle.swd_command_line.specs.declared.command.ImageLine.{ImageLine}
use Rattle.swd_command_line.specs.declared.command.MemoryLine.{MemoryLine}
use Rattle.swd_image_commands.specs.Images.{PerformsAction}
use Rattle.swd_image_commands.specs.Simulated.{SimulatesImage}

module _ {R W : Type 0} (A : Type 0) (story : ℕ → Port) (image : ImageLine) (status : ℕ)
    (remaining : R → Option (List ℕ)) (contents : W → Option (List ℕ)) (sent left : Option (List ℕ))
    (line : RemoteStreams R W)
  where
    -- at a simulated target the streams aren't used
    abbrev pub PerformsAt : Option MemoryLine → Type 0
    PerformsAt None = PerformsAction story image status remaining contents sent left line image.action
    PerformsAt (Some memory) =
        ((text : Option (List ℕ)) × SimulatesImage A image memory status text)
        × IsUnusedRemote remaining contents sent left line

    abbrev pub PerformsImage : Type 0
    PerformsImage = PerformsAt image.memory
