use Rattle.std.proofs.Common.{◌≡◌, ◌≤◌, ◌+◌, ◌-◌, ◌^◌, drop, map, min}
use Rattle.swd_script.specs.Readers.{script_batch_listed}
use Rattle.swd_run.specs.Counting.{script_access_count}
use Rattle.swd_run.proofs.counting.count_accesses.Given as goal

-- the accesses counted so far, and those of the remaining batches, are all
abbrev pub invariant-loop-batch : goal.invariant-loop-batch
invariant-loop-batch g l = record {
  all : min (l.count + script_access_count (map script_batch_listed (drop l.batch-index l.batches))) (2 ^ 64 - 1)
      ≡ min (script_access_count (map script_batch_listed l.batches)) (2 ^ 64 - 1);
  fits : l.count ≤ 2 ^ 64 - 1;
}
