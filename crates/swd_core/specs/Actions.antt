-- The accesses of what is done at a core, by the Armv6-M, Armv7-M and Armv8-M Architecture Reference Manuals (DDI 0419,
-- DDI 0403 and DDI 0553, the debug registers). Their order is this project's choice.
use Rattle.std.specs.Prelude.{ℕ, ◌+◌, List, [], ◌∷◌, ◌++◌, bit_or, Bool, true, false}
use Rattle.swd_core.specs.declared.action.CoreAction.{CoreAction}
use Rattle.swd_core.specs.declared.action.CoreAction.TheVariants.{Id, Halt, Resume, Step, Reset, Regs, Set}
use Rattle.swd_core.specs.declared.action.CoreWrite.{CoreWrite}
use Rattle.swd_core.specs.declared.register.CoreRegister.{CoreRegister}
use Rattle.swd_core.specs.declared.step.CoreStep.{CoreStep}
use Rattle.swd_core.specs.declared.step.CoreStep.TheVariants.{Read, Write, Until}

-- DHCSR is read, at most so many times, until its bits under a mask are these
abbrev pub core_waits : ℕ → ℕ → ℕ → CoreStep
core_waits mask value most = Until (record { addr = 0xe000_edf0; mask = mask; value = value; most = most })

-- S_HALT is set
abbrev pub core_waits_halted : ℕ → CoreStep
core_waits_halted most = core_waits 0x2_0000 0x2_0000 most

-- S_REGRDY is set
abbrev pub core_waits_ready : CoreStep
core_waits_ready = core_waits 0x1_0000 0x1_0000 1000

-- the core is halted by DHCSR, with its key, C_DEBUGEN and C_HALT, and S_HALT is waited for; or S_HALT has to be set
-- already, and nothing is written
abbrev pub core_halting_steps : Bool → List CoreStep
core_halting_steps true = Write 0xe000_edf0 0xa05f_0003 ∷ core_waits_halted 1000 ∷ []
core_halting_steps false = core_waits_halted 1 ∷ []

-- A reset halts the core before its first instruction: DEMCR.VC_CORERESET is set, DFSR cleared, AIRCR.SYSRESETREQ
-- written, and DFSR.VCATCH waited for, which stays set. DEMCR is 0 then.
abbrev pub core_reset_steps : List CoreStep
core_reset_steps = Write 0xe000_edf0 0xa05f_0003 ∷ core_waits 1 1 1 ∷ Write 0xe000_edfc 1 ∷ Write 0xe000_ed30 0x1f
    ∷ Write 0xe000_ed0c 0x05fa_0004 ∷ Until (record { addr = 0xe000_ed30; mask = 8; value = 8; most = 1000 })
    ∷ core_waits 0x202_0000 0x2_0000 1000 ∷ Write 0xe000_edfc 0 ∷ []

-- the first accesses of an action; one that needs a halted core begins by halting it, or by the test that it is halted
abbrev pub core_first_steps : Bool → CoreAction → List CoreStep
core_first_steps halts Id = Read 0xe000_ed00 ∷ []
core_first_steps halts Halt = core_halting_steps true
core_first_steps halts Reset = core_reset_steps
core_first_steps halts Resume = core_halting_steps halts
core_first_steps halts Step = core_halting_steps halts
core_first_steps halts (Regs registers) = core_halting_steps halts
core_first_steps halts (Set writes) = core_halting_steps halts

-- of each register its number is written to DCRSR, S_REGRDY is waited for, and DCRDR is read
abbrev pub core_reading_steps : List CoreRegister → List CoreStep
core_reading_steps [] = []
core_reading_steps (register ∷ more) =
    (Write 0xe000_edf4 register.number ∷ core_waits_ready ∷ Read 0xe000_edf8 ∷ []) ++ core_reading_steps more

-- of each register its word is written to DCRDR, then its number to DCRSR with REGWnR, and S_REGRDY is waited for
abbrev pub core_writing_steps : List CoreWrite → List CoreStep
core_writing_steps [] = []
core_writing_steps (write ∷ more) = (Write 0xe000_edf8 write.word
    ∷ Write 0xe000_edf4 (bit_or 0x1_0000 write.register.number) ∷ core_waits_ready ∷ []) ++ core_writing_steps more

-- what is done at a halted core; one that was reset runs then, unless it is to be halted. C_MASKINTS is changed only
-- while C_HALT is set.
abbrev pub core_halted_steps : Bool → CoreAction → List CoreStep
core_halted_steps halts Resume = Write 0xe000_ed30 0x1f ∷ Write 0xe000_edf0 0xa05f_0003
    ∷ Write 0xe000_edf0 0xa05f_0001 ∷ []
core_halted_steps halts Step = Write 0xe000_edf0 0xa05f_000b ∷ Write 0xe000_edf0 0xa05f_000d ∷ core_waits_halted 1000
    ∷ Write 0xe000_edf0 0xa05f_000b ∷ Write 0xe000_edf0 0xa05f_0003 ∷ []
core_halted_steps halts (Regs registers) = core_reading_steps registers.items
core_halted_steps halts (Set writes) = core_writing_steps writes.items
core_halted_steps false Reset = Write 0xe000_edf0 0xa05f_0001 ∷ []
core_halted_steps halts action = []

-- all accesses, in order
abbrev pub core_action_steps : Bool → CoreAction → List CoreStep
core_action_steps halts action = core_first_steps halts action ++ core_halted_steps halts action
