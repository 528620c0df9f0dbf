use Rattle.std.proofs.Common.{◌≡◌, ◌++◌, take}
use Rattle.swd_image.specs.Sessions.{image_words_read}
use Rattle.swd_image.proofs.reading.push_words.Given as goal

abbrev pub invariant-loop-answer : goal.invariant-loop-answer
invariant-loop-answer g l = l.words.items ≡ l.initial.words.items ++ image_words_read (take l.answer-index l.answers)
