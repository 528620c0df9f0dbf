-- What one access does to the memory and the core of `CoreTarget`.
use Rattle.std.specs.Prelude.{ℕ, ◌+◌, ◌%◌, ◌^◌, Option, Some, unwrap_or, if◌then◌else◌}
use Rattle.std.specs.FinMap.{get}
use Rattle.swd_port.specs.declared.access.Access.{Access}
use Rattle.swd_port.specs.declared.access.Access.TheVariants.{Read, Write}
use Rattle.swd_port.specs.PlainMemory.{PlainMemory}
use Rattle.swd_port.specs.PlainAnswers.{plain_after}
use Rattle.swd_port.specs.PlainBus.{plain_result}
use Rattle.swd_devices.specs.declared.core_target.CoreTarget.{CoreTarget}
use Rattle.swd_devices.specs.Cores.{core_after_read, core_after_reset, core_after_write, core_asks_reset}
use Rattle.swd_devices.specs.Cores.{core_is_address, core_word}

-- the memory's word at an address, or 0
abbrev pub core_target_word : ℕ → PlainMemory → ℕ
core_target_word at memory = unwrap_or (get memory.words at) 0

-- the answer to an access: a bus error, or the word that a read returns
abbrev pub core_target_answer : {A : Type 0} → Access → CoreTarget A → Option ℕ
core_target_answer (Read at) s =
    if core_is_address at then Some (core_word at s.core) else plain_result (Read at) s.memory
core_target_answer (Write at word) s =
    if core_is_address at then Some 0 else plain_result (Write at word) s.memory

-- the core once it was reset
abbrev pub core_target_reset : {A : Type 0} → CoreTarget A → CoreTarget A
core_target_reset s = record s {
  core = core_after_reset (core_target_word s.table s.memory) (core_target_word ((s.table + 4) % 2 ^ 32) s.memory)
      s.core;
}

-- the memory and the core after an access
abbrev pub core_target_after : {A : Type 0} → Access → CoreTarget A → CoreTarget A
core_target_after (Read at) s =
    if core_is_address at then record s { core = core_after_read at s.core }
    else record s { memory = plain_after (Read at) s.memory }
core_target_after (Write at word) s =
    if core_is_address at
    then (if core_asks_reset at word then core_target_reset s else record s { core = core_after_write at word s.core })
    else record s { memory = plain_after (Write at word) s.memory }
