-- Laws of plain memories, and of a plain memory as a bus.
use Rattle.std.proofs.Common.{◌≡◌, Bool, true, false, [], refl, ap}
use Rattle.swd_port.specs.declared.access.Access.{Access}
use Rattle.swd_port.specs.declared.access.Access.TheVariants.{Read, Write}
use Rattle.swd_port.specs.PlainMemory.{PlainMemory, plain_address}
use Rattle.swd_port.specs.PlainAnswers.{plain_after, succeeds_at, plain_done, plain_answer}
use Rattle.swd_port.specs.Bus.{bus_answer, bus_after, bus_log_after}
use Rattle.swd_port.specs.PlainBus.{bus_of}

-- an access at an address with a word takes effect
pub plain_after_success : (access : Access) (m : PlainMemory) → succeeds_at (plain_address access) m ≡ true
    → plain_after access m ≡ plain_done access m
plain_after_success access m e = rw e refl

-- an access at an address without a word changes nothing
pub plain_after_bus_error : (access : Access) (m : PlainMemory) → succeeds_at (plain_address access) m ≡ false
    → plain_after access m ≡ m
plain_after_bus_error access m e = rw e refl

-- the log of a plain memory is that of its bus
log_by : (a : Access) (m : PlainMemory) (b : Bool) → succeeds_at (plain_address a) m ≡ b
    → bus_log_after a (bus_of m) ≡ (plain_after a m).log
log_by (Read at) m true e = rw e refl
log_by (Write at word) m true e = rw e refl
log_by (Read at) m false e = rw e refl
log_by (Write at word) m false e = rw e refl

-- the bus of a plain memory after an access is the bus of the memory after it
pub bus_of_after : (a : Access) (m : PlainMemory) → bus_after a (bus_of m) ≡ bus_of (plain_after a m)
bus_of_after a m = ap (λ l. record (bus_of (plain_after a m)) { log = l })
    (log_by a m (succeeds_at (plain_address a) m) refl)

answer_by : (a : Access) (m : PlainMemory) (b : Bool) → succeeds_at (plain_address a) m ≡ b
    → bus_answer a (bus_of m) ≡ plain_answer a m
answer_by (Read at) m true e = rw e refl
answer_by (Write at word) m true e = rw e refl
answer_by (Read at) m false e = rw e refl
answer_by (Write at word) m false e = rw e refl

-- and it answers as the memory does
pub bus_of_answer : (a : Access) (m : PlainMemory) → bus_answer a (bus_of m) ≡ plain_answer a m
bus_of_answer a m = answer_by a m (succeeds_at (plain_address a) m) refl

-- two plain memories that are one bus are one memory
pub bus_of_same : (m n : PlainMemory) → bus_of m ≡ bus_of n → m ≡ n
bus_of_same m n e = ap (λ b. b.content []) e
