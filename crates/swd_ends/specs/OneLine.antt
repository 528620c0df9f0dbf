-- A host and a target at the two ends of a remote_bitbang connection.
use Rattle.std.specs.Prelude.{ℕ, List, ◌∷◌, ◌++◌, Option}
use Rattle.std.specs.Io.KnownBytes.{Appends}
use Rattle.swd_port.specs.Bus.{Bus}
use Rattle.swd_port.specs.Transports.{PortAttempt}
use Rattle.swd_sequences.specs.declared.character.Character.TheVariants.{Quits}
use Rattle.swd_sequences.specs.Alphabet.{alphabet_byte}
use Rattle.swd_remote.specs.Runs.{remote_connection_characters, remote_all_sequences, remote_with_clocks}
use Rattle.swd_bitbang.specs.declared.pins.Pins.{Pins}
use Rattle.swd_bitbang.specs.declared.serving.Served.TheVariants as ends
use Rattle.swd_bitbang.specs.Sessions.{BitbangEndsAs}
use Rattle.swd_bitbang.specs.Lines.{ArePinsBetweenClocks, PinsWentBy}

-- The characters of a host's calls, as `RemoteWentWell` has them, and `Q` are served as these calls, if serving them
-- ends as `Quit`, whether or not the server begins with SWDIO driven. The target passes exactly the clocks of their
-- sequences, in order, and exactly the levels that they sample are sent.
abbrev pub CallsAreServed : {D : Type 0} → Type 0 → (D → Bus) → Type 0
CallsAreServed {D} A bus = (calls : List PortAttempt) (more : List ℕ) (old new : Option (List ℕ)) (s t : Pins D A)
    → ArePinsBetweenClocks s → BitbangEndsAs bus ends.Quit old new
    (remote_connection_characters calls ++ alphabet_byte Quits ∷ more) s t
    → (answers : List ℕ) × PinsWentBy bus (remote_with_clocks (remote_all_sequences calls)) answers s t
    × Appends old new answers
