use Rattle.std.proofs.Common.{length}
use Rattle.swd_words.proofs.check_words.+add_plain.Given as goal

abbrev pub decreases-add_plain : goal.decreases-add_plain
decreases-add_plain l = length l.values.now
