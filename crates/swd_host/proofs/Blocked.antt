-- The checks of a block of reads: which block is valid, and why one is refused. For `run_block`.
use Rattle.swd_host.proofs.Words.{◌≡◌, ◌≢◌, ◌+◌, ◌*◌, ◌%◌, ◌^◌, ◌<◌, ◌≤◌, ◌==◌, ℕ, zero, suc, false, arith, length}
use Rattle.swd_host.proofs.Words.{AreHostAccesses}
use Rattle.swd_port.specs.PlainAnswers.{plain_reads}
use Rattle.swd_port.proofs.ReadLists.{plain_reads_length}
use Rattle.swd_host.specs.declared.outcome.Refused.TheVariants.{TooMany, Unaligned}
use Rattle.swd_host.specs.Reports.{HostRefusesList}

apart_false : (n : ℕ) → n ≢ 0 → (n == 0) ≡ false
apart_false n apart = grind arith

-- the reads of a block at an aligned address that ends at 2^32 or before are valid accesses
pub block_reads_valid : (addr count : ℕ) → addr % 4 ≡ 0 → addr + 4 * count ≤ 2 ^ 32
    → AreHostAccesses (plain_reads addr count)
block_reads_valid addr zero aligned range = tt
block_reads_valid addr (suc count) aligned range =
    ((omega arith, aligned), block_reads_valid (addr + 4) count (omega arith) (omega arith))

-- a block of so many words is a list that a run takes
pub block_reads_runnable : (addr count : ℕ) → (count ≤ 65536) × AreHostAccesses (plain_reads addr count)
    → (length (plain_reads addr count) ≤ 65536) × AreHostAccesses (plain_reads addr count)
block_reads_runnable addr count h = (omega (arith, h.0, plain_reads_length addr count), h.1)

-- a longer one is refused as too long
pub block_reads_too_many : (addr count : ℕ) → 65536 < count → HostRefusesList (plain_reads addr count) TooMany
block_reads_too_many addr count many = omega (arith, plain_reads_length addr count)

-- a block of 1 to 65,536 words at an address that isn't aligned is refused, at its first access
pub block_reads_unaligned : (addr count : ℕ) → count ≤ 65536 → count ≢ 0 → addr % 4 ≢ 0
    → HostRefusesList (plain_reads addr count) (Unaligned 0)
block_reads_unaligned addr count few some apart = grind (arith, apart_false, plain_reads_length)
