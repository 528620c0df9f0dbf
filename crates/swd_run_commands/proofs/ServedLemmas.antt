-- The status of a session.
use Rattle.std.proofs.Common.{ℕ, inl, inr}
use Rattle.swd_bitbang.specs.declared.serving.Served.{Served}
use Rattle.swd_bitbang.specs.declared.serving.Served.TheVariants.{Quit, Ended, Bad, Read, Write}
use Rattle.swd_run_commands.specs.Targets.{IsServedCommandStatus}

-- what a status of 0 shows may be replaced by what follows from it
pub target_command_status_map : (served : Served) (P Q : Type 0) (status : ℕ) → (P → Q)
    → IsServedCommandStatus served P status → IsServedCommandStatus served Q status
target_command_status_map Quit P Q status so (inl (zero, whole)) = inl (zero, so whole)
target_command_status_map Quit P Q status so (inr two) = inr two
target_command_status_map Ended P Q status so (inl (zero, whole)) = inl (zero, so whole)
target_command_status_map Ended P Q status so (inr two) = inr two
target_command_status_map (Bad place byte) P Q status so two = two
target_command_status_map Read P Q status so two = two
target_command_status_map (Write written) P Q status so two = two
