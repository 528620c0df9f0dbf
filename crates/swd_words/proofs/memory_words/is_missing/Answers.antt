use Rattle.std.proofs.Common.{◌≡◌, ◌↔◌, Option, None, true, subst}
use Rattle.clap.specs.Words.{Text}
use Rattle.swd_words.proofs.memory_words.is_missing.Goals as goal

pub returns : goal.returns
returns c =
    subst (λ (word : Option Text). (c.is_none.result ≡ true) ↔ (word ≡ None)) c.value_in.ensures c.is_none.ensures
