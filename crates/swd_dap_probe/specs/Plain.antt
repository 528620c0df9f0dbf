-- Commands that make no clock: what they are answered, and what they set.
use Rattle.std.specs.Prelude.{ℕ, ◌+◌, ◌/◌, ◌%◌, ◌==◌, false, List, [], ◌∷◌, slice_index}
use Rattle.std.specs.Prelude.{if◌then◌else◌, nat_lt}
use Rattle.std.specs.Int.{w16, w32, from_le_bytes}
use Rattle.swd_dap_probe.specs.declared.command.Command.{Command}
use Rattle.swd_dap_probe.specs.declared.command.Command.TheVariants.{Info, HostStatus, Connect, Disconnect}
use Rattle.swd_dap_probe.specs.declared.command.Command.TheVariants.{TransferConfigure}
use Rattle.swd_dap_probe.specs.declared.command.Command.TheVariants.{TransferAbort, Delay, ResetTarget}
use Rattle.swd_dap_probe.specs.declared.command.Command.TheVariants.{Clock, WireConfigure}
use Rattle.swd_dap_probe.specs.declared.settings.Settings.{Settings}

-- DAP_Info, of packets of so many bytes: the version, 1.2.0, as text that ends with 0; serial wire and
-- DAP_ExecuteCommands; one packet in flight; the size
abbrev pub dap_info_reply : ℕ → ℕ → List ℕ
dap_info_reply size what =
    if what == 0x04 then 0 ∷ 6 ∷ 0x31 ∷ 0x2e ∷ 0x32 ∷ 0x2e ∷ 0x30 ∷ 0 ∷ []
    else (if what == 0xf0 then 0 ∷ 1 ∷ 0x11 ∷ []
    else (if what == 0xfe then 0 ∷ 1 ∷ 1 ∷ []
    else (if what == 0xff then 0 ∷ 2 ∷ size % 256 ∷ size / 256 ∷ [] else 0 ∷ 0 ∷ [])))

-- the number of four bytes, and of two, the first least significant
abbrev pub dap_word : List ℕ → ℕ → ℕ
dap_word bytes place = from_le_bytes w32 (slice_index bytes place ∷ slice_index bytes (place + 1)
    ∷ slice_index bytes (place + 2) ∷ slice_index bytes (place + 3) ∷ [])

abbrev pub dap_half : List ℕ → ℕ → ℕ
dap_half bytes place = from_le_bytes w16 (slice_index bytes place ∷ slice_index bytes (place + 1) ∷ [])

-- what a command is answered by a probe of this size
abbrev pub dap_plain_reply : Command → ℕ → List ℕ → List ℕ
dap_plain_reply Info size bytes = dap_info_reply size (slice_index bytes 1)
dap_plain_reply HostStatus size bytes = 1 ∷ 0 ∷ []
dap_plain_reply Connect size bytes = 2 ∷ (if nat_lt (slice_index bytes 1) 2 then 1 else 0) ∷ []
dap_plain_reply Disconnect size bytes = 3 ∷ 0 ∷ []
dap_plain_reply TransferConfigure size bytes = 4 ∷ 0 ∷ []
dap_plain_reply TransferAbort size bytes = []
dap_plain_reply Delay size bytes = 9 ∷ 0 ∷ []
dap_plain_reply ResetTarget size bytes = 0x0a ∷ 0 ∷ 0 ∷ []
dap_plain_reply Clock size bytes = 0x11 ∷ (if dap_word bytes 1 == 0 then 0xff else 0) ∷ []
dap_plain_reply WireConfigure size bytes = 0x13 ∷ 0 ∷ []
dap_plain_reply command size bytes = 0xff ∷ []

-- what is set before the first command
abbrev pub dap_settings_before : Settings
dap_settings_before = record { idle = 0; retries = 100; matches = 0; turnaround = 1; data_phase = false }

-- what it sets
abbrev pub dap_settings_after : Command → List ℕ → Settings → Settings
dap_settings_after TransferConfigure bytes s = record s {
  idle = slice_index bytes 1;
  retries = dap_half bytes 2;
  matches = dap_half bytes 4;
}
dap_settings_after WireConfigure bytes s = record s {
  turnaround = 1 + slice_index bytes 1 % 4;
  data_phase = slice_index bytes 1 / 4 % 2 == 1;
}
dap_settings_after command bytes s = s
