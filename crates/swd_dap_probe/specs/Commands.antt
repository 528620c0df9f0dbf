-- The commands of CMSIS-DAP, by the first byte of a request.
use Rattle.std.specs.Prelude.{ℕ, ◌==◌, List, [], ◌∷◌, if◌then◌else◌}
use Rattle.swd_dap_probe.specs.declared.command.Command.{Command}
use Rattle.swd_dap_probe.specs.declared.command.Command.TheVariants.{Info, HostStatus, Connect, Disconnect}
use Rattle.swd_dap_probe.specs.declared.command.Command.TheVariants.{TransferConfigure, Transfer, TransferBlock}
use Rattle.swd_dap_probe.specs.declared.command.Command.TheVariants.{TransferAbort, WriteAbort, Delay, ResetTarget}
use Rattle.swd_dap_probe.specs.declared.command.Command.TheVariants.{Pins, Clock, DriveSequence, WireConfigure}
use Rattle.swd_dap_probe.specs.declared.command.Command.TheVariants.{WireSequence, Execute, Unknown}

-- the number of a command; that of an unknown one is what such a one is answered
abbrev pub dap_command_number : Command → ℕ
dap_command_number Info = 0
dap_command_number HostStatus = 1
dap_command_number Connect = 2
dap_command_number Disconnect = 3
dap_command_number TransferConfigure = 4
dap_command_number Transfer = 5
dap_command_number TransferBlock = 6
dap_command_number TransferAbort = 7
dap_command_number WriteAbort = 8
dap_command_number Delay = 9
dap_command_number ResetTarget = 0x0a
dap_command_number Pins = 0x10
dap_command_number Clock = 0x11
dap_command_number DriveSequence = 0x12
dap_command_number WireConfigure = 0x13
dap_command_number WireSequence = 0x1d
dap_command_number Execute = 0x7f
dap_command_number Unknown = 0xff

-- all commands that are known
abbrev pub dap_commands : List Command
dap_commands =
    Info ∷ HostStatus ∷ Connect ∷ Disconnect ∷ TransferConfigure ∷ Transfer ∷ TransferBlock ∷ TransferAbort
    ∷ WriteAbort ∷ Delay ∷ ResetTarget ∷ Pins ∷ Clock ∷ DriveSequence ∷ WireConfigure ∷ WireSequence ∷ Execute ∷ []

-- the first of some commands that has this number
abbrev pub dap_command_among : List Command → ℕ → Command
dap_command_among [] number = Unknown
dap_command_among (c ∷ more) number = if number == dap_command_number c then c else dap_command_among more number

-- the command with this number
abbrev pub dap_command_of : ℕ → Command
dap_command_of number = dap_command_among dap_commands number
