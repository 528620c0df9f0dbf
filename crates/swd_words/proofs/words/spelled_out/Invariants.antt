use Rattle.std.proofs.Common.{◌≡◌, ◌++◌, drop, map}
use Rattle.swd_words.specs.Commands.{arguments_spelled_out}
use Rattle.swd_words.proofs.CommandLemmas.{arguments_left}
use Rattle.swd_words.proofs.words.spelled_out.Given as goal

abbrev pub invariant-loop-word : goal.invariant-loop-word
invariant-loop-word l =
    map (λ w. w.now) l.result.items ++ arguments_left l.escaped (map (λ w. w.now) (drop l.word-index l.words))
    ≡ arguments_spelled_out (map (λ w. w.now) l.words)
