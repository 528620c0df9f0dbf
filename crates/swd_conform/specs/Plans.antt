-- The memory that a plan is made for, and how many steps it has.
use Rattle.std.specs.Prelude.{ℕ, ◌≡◌, ◌≤◌, ◌<◌, ◌+◌, ◌*◌, ◌%◌, ◌^◌, ◌⊎◌, Option, IfSome}
use Rattle.swd_conform.specs.declared.plan.Plan.{Plan}

-- at least 80 words, none past the last address, and the address of a word that isn't one of them, if there is one
pub record IsConformMemory (base words : ℕ) (missing : Option ℕ) : Type 0 where
  pub aligned : base % 4 ≡ 0
  pub many : 80 ≤ words
  pub end : base + 4 * words ≤ 2 ^ 32
  pub hole : IfSome missing (λ at. (at % 4 ≡ 0) × ((at < base) ⊎ (base + 4 * words ≤ at)))

-- the most steps that it still returns
abbrev pub conform_steps_left : Plan → ℕ
conform_steps_left plan = plan.left
