-- Laws of a table in which items are counted.
use Rattle.std.proofs.Common.{◌≡◌, ℕ, ◌+◌, ◌-◌, ◌^◌, ◌<◌, min, List, length, arith}
use Rattle.std.specs.Prelude.{◌==◌, if◌then◌else◌, slice_index, slice_set}
use Rattle.std.proofs.lemmas.Grind.{common_steps, get_or-set_at}
use Rattle.std.proofs.lemmas.List.{get_or-set_other}

-- something is counted in one row
pub capture_table_counts : (counts : List ℕ) (at weight row before : ℕ) → at < length counts
    → slice_index counts row ≡ min before (2 ^ 64 - 1)
    → slice_index (slice_set counts at (min (slice_index counts at + weight) (2 ^ 64 - 1))) row
    ≡ min (before + (if at == row then weight else 0)) (2 ^ 64 - 1)
capture_table_counts counts at weight row before h e = grind (arith, common_steps, get_or-set_at, get_or-set_other)
