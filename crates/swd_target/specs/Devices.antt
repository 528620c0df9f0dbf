-- Peripherals as buses. All of it is this project's choice.
use Rattle.std.specs.Prelude.{ℕ, Option, List, [], ◌∷◌}
use Rattle.swd_port.specs.declared.access.Access.{Access}
use Rattle.swd_port.specs.declared.access.Transfer.{Transfer}
use Rattle.swd_port.specs.Bus.{Bus}
use Rattle.swd_target.specs.MemoryWords.{target_zero_memory}

-- a peripheral after these accesses, the oldest first; `after` is what one access makes of it
abbrev pub peripheral_after_all : {S : Type 0} → (Access → S → S) → List Access → S → S
peripheral_after_all after [] s = s
peripheral_after_all after (a ∷ made) s = peripheral_after_all after made (after a s)

-- The bus that a peripheral is, after the transfers of this log. `answer` is its answer to the next access: a bus
-- error, or the word that a read returns. It is no simulated memory, so its content is arbitrary: an empty one.
abbrev pub bus_by : {S : Type 0} → (Access → S → Option ℕ) → (Access → S → S) → List Transfer → S → Bus
bus_by answer after log s = record {
  answers = λ made a. answer a (peripheral_after_all after made s);
  content = λ made. target_zero_memory 0 0 0;
  log = log;
}
