use Rattle.std.proofs.Common.{◌≡◌, map, take}
use Rattle.swd_checker.specs.FieldsRead.{checked_world_from}
use Rattle.swd_checker.proofs.fields.worlds_with.Given as goal

abbrev pub invariant-loop-world : goal.invariant-loop-world
invariant-loop-world l = l.kept.items ≡ map checked_world_from (take l.world-index l.fields)
