-- The current access, and how it is confirmed.
use Rattle.std.specs.Prelude.{ℕ, Bool, true, false, if◌then◌else◌, Option}
use Rattle.swd_port.specs.declared.access.Access.{Access}
use Rattle.swd_port.specs.declared.access.Access.TheVariants.{Read as AccessRead, Write as AccessWrite}
use Rattle.swd_host.specs.declared.task.Task.{Task}
use Rattle.swd_host.specs.declared.task.Task.TheVariants.{Read, BurstRead, Write, BurstWrite}
use Rattle.swd_host.specs.declared.task.Bursts.{Bursts}
use Rattle.swd_host.specs.declared.task.Bursts.TheVariants.{Never, Writes, Reads}
use Rattle.swd_host.specs.Addresses.{continues_burst}

-- the access itself
abbrev pub access_of_task : Task → Access
access_of_task (Read at) = AccessRead at
access_of_task (BurstRead at) = AccessRead at
access_of_task (Write at word) = AccessWrite at word
access_of_task (BurstWrite at word) = AccessWrite at word

abbrev pub task_is_read : Task → Bool
task_is_read (Read at) = true
task_is_read (BurstRead at) = true
task_is_read task = false

-- the DRW request of the next access confirms it
abbrev pub is_burst : Task → Bool
is_burst (BurstRead at) = true
is_burst (BurstWrite at word) = true
is_burst task = false

-- a write of a burst: the DRW write of the next access confirms it
abbrev pub is_burst_write : Task → Bool
is_burst_write (BurstWrite at word) = true
is_burst_write task = false

-- a read of a block: the DRW read of the next access returns its word
abbrev pub task_is_block : Task → Bool
task_is_block (BurstRead at) = true
task_is_block task = false

-- the task of an access, by the one that follows it
abbrev pub task_for : Bursts → Access → Option Access → Task
task_for Never (AccessRead at) following = Read at
task_for Never (AccessWrite at word) following = Write at word
task_for Writes (AccessRead at) following = Read at
task_for Reads (AccessRead at) following = if continues_burst (AccessRead at) following then BurstRead at else Read at
task_for Writes (AccessWrite at word) following =
    if continues_burst (AccessWrite at word) following then BurstWrite at word else Write at word
task_for Reads (AccessWrite at word) following = Write at word

-- how many unanswered accesses may be begun
abbrev pub task_most_begun : Task → ℕ
task_most_begun (BurstRead at) = 2
task_most_begun task = 1

-- the kind with which a run is resumed: the reads of a block are then confirmed one by one
abbrev pub resumed_bursts : Bursts → Bursts
resumed_bursts Writes = Writes
resumed_bursts kind = Never
