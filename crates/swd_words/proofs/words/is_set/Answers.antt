use Rattle.std.proofs.Common.{◌≡◌, ◌↔◌, Option, Some, true, subst, codes}
use Rattle.clap.specs.Words.{Text}
use Rattle.swd_words.proofs.words.is_set.Goals as goal

pub returns : goal.returns
returns c = subst (λ (word : Option Text). (c.is_asked_for.result ≡ true) ↔ (word ≡ Some (codes "true")))
    c.value_in.ensures c.is_asked_for.ensures
