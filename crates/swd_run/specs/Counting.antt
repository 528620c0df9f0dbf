-- The number of accesses of a script.
use Rattle.std.specs.Prelude.{ℕ, ◌+◌, List, [], ◌∷◌, length}
use Rattle.swd_script.specs.Scripts.{ScriptListed}

-- the accesses of these batches; the reads of an `until` are one
abbrev pub script_access_count : List ScriptListed → ℕ
script_access_count [] = 0
script_access_count (batch ∷ batches) = length batch.accesses + script_access_count batches
