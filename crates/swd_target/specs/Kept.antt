-- A memory, wherever it keeps its words.
use Rattle.swd_port.specs.PlainMemory.{PlainMemory}
use Rattle.swd_target.specs.declared.memory.Storage.{Storage}
use Rattle.swd_target.specs.declared.memory.Storage.TheVariants.{Here, Elsewhere}

abbrev pub target_memory_in : {A : Type 0} → Storage A → PlainMemory
target_memory_in (Here words) = words
target_memory_in (Elsewhere window) = window
