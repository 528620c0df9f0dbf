-- The content of a register of a simulated target, as the port model has it.
use Rattle.std.specs.Prelude.{ℕ, Option, Some, None, if◌then◌else◌}
use Rattle.swd_target.specs.declared.content.Content.{Content}

-- the word, if it is known in the port model
abbrev pub target_known_word : Content → Option ℕ
target_known_word content = if content.known then Some content.word else None
