use Rattle.std.proofs.Common.{◌≡◌, ◌++◌, ◌-◌, map, take, replicate}
use Rattle.swd_checker.specs.Fields.{checked_world_fields, checked_world_unused}
use Rattle.swd_checker.proofs.fields.fields_of_worlds.Given as goal

abbrev pub invariant-loop-place : goal.invariant-loop-place
invariant-loop-place l = l.worlds ≡ map checked_world_fields (take l.place l.kept)
    ++ replicate (64 - l.place) checked_world_unused
