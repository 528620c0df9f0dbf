-- Why what is done at a core ended early, by a word of DHCSR (DDI 0403, C1.6.2, "Debug Halting Control and Status
-- Register"). Which reason comes first is this project's choice.
use Rattle.std.specs.Prelude.{ℕ, ◌/◌, ◌%◌, ◌==◌, ◌&&◌, Bool, if◌then◌else◌}
use Rattle.swd_core.specs.declared.action.CoreAction.{CoreAction}
use Rattle.swd_core.specs.declared.action.CoreAction.TheVariants.{Id, Halt, Resume, Step, Reset, Regs, Set}
use Rattle.swd_core.specs.declared.trouble.Trouble.{Trouble}
use Rattle.swd_core.specs.declared.trouble.Trouble.TheVariants.{Locked, LockedUp, Asleep, Runs, NotHalted, NotReady}
use Rattle.swd_core.specs.declared.trouble.Trouble.TheVariants.{NotReset, StaysInReset}

-- a core that was asked to halt: C_DEBUGEN is 0, S_LOCKUP or S_SLEEP is set, or none of these
abbrev pub core_halting_trouble : ℕ → Trouble
core_halting_trouble word =
    if word % 2 == 0 then Locked
    else if word / 0x8_0000 % 2 == 1 then LockedUp
    else if word / 0x4_0000 % 2 == 1 then Asleep
    else Runs

-- a core that has to be halted: S_HALT is 0, or it is set, and S_REGRDY isn't
abbrev pub core_idle_trouble : ℕ → Trouble
core_idle_trouble word = if word / 0x2_0000 % 2 == 0 then NotHalted else NotReady

-- a core that is reset: C_DEBUGEN is 0, S_RESET_ST is set, or it isn't
abbrev pub core_reset_trouble : ℕ → Trouble
core_reset_trouble word =
    if word % 2 == 0 then Locked
    else if word / 0x200_0000 % 2 == 1 then StaysInReset
    else NotReset

-- a core that was to be halted, if so, and that then does something else
abbrev pub core_halted_trouble : Bool → ℕ → Trouble
core_halted_trouble halts word =
    if halts && (word / 0x2_0000 % 2 == 0) then core_halting_trouble word else core_idle_trouble word

abbrev pub core_trouble : Bool → CoreAction → ℕ → Trouble
core_trouble halts Id word = core_halting_trouble word
core_trouble halts Halt word = core_halting_trouble word
core_trouble halts Resume word = core_halted_trouble halts word
core_trouble halts Step word =
    if word / 4 % 2 == 1 then core_halting_trouble word else core_halted_trouble halts word
core_trouble halts Reset word = core_reset_trouble word
core_trouble halts (Regs registers) word = core_halted_trouble halts word
core_trouble halts (Set writes) word = core_halted_trouble halts word
