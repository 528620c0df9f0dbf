use Rattle.std.proofs.Common.{◌≡◌, ◌+◌, ◌/◌, ◌^◌, ◌<◌, ◌≤◌, length}
use Rattle.swd_target.specs.MemoryWords.{target_words_from}
use Rattle.swd_image_ends.specs.Memories.{image_end_words_in}
use Rattle.swd_image_ends.proofs.MemoryLemmas.{image_end_mixed}
use Rattle.swd_image_ends.proofs.memory.memory_with.Given as goal

abbrev pub invariant-loop-index : goal.invariant-loop-index
invariant-loop-index g l = record {
  words : l.memory.words ≡ target_words_from l.base (image_end_mixed l.index (image_end_words_in l.bytes));
  log : length l.memory.log ≤ l.index;
  room : l.count ≤ l.memory.room;
  spare : l.count + l.spare < 2 ^ 32 → l.count + l.spare ≤ l.memory.room;
  count : l.count ≡ length l.bytes / 4;
}
