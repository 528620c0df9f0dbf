-- What stands behind the access port of a script's simulated target.
use Rattle.std.specs.Prelude.{ℕ, [], Option, Some, None}
use Rattle.swd_port.specs.Bus.{Bus}
use Rattle.swd_port.specs.PlainBus.{bus_of}
use Rattle.swd_port.specs.PlainMemory.{PlainMemory}
use Rattle.swd_target.specs.MemoryWords.{target_zero_memory}
use Rattle.swd_devices.specs.Cores.{core_made}
use Rattle.swd_devices.specs.LoggedCores.{logged_core_bus, logged_core_state}
use Rattle.swd_script.specs.Scripts.{ScriptMeaning}
use Rattle.swd_run.specs.declared.script_device.ScriptDevice.{ScriptDevice}
use Rattle.swd_run.specs.declared.script_device.ScriptDevice.TheVariants.{Memory, Core}

abbrev pub script_device_bus : {A : Type 0} → ScriptDevice A → Bus
script_device_bus (Memory memory) = bus_of memory
script_device_bus (Core core) = logged_core_bus (logged_core_state core)

-- the memory of a script before its run
abbrev pub script_memory : ScriptMeaning → PlainMemory
script_memory script = target_zero_memory script.base script.words script.room

-- a memory alone, or with a core beside it that wasn't reset yet, whose vector table has this address
abbrev pub script_bus_with : Option ℕ → ℕ → PlainMemory → Bus
script_bus_with None room memory = bus_of memory
script_bus_with (Some table) room memory =
    logged_core_bus (record {
      target = record { memory = memory; core = core_made 0; table = table };
      log = [];
      room = room;
    })

-- the bus of a script before its run
abbrev pub script_bus : ScriptMeaning → Bus
script_bus script = script_bus_with script.core script.room (script_memory script)
