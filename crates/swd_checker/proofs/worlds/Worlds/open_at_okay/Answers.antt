use Rattle.std.proofs.Common.{arith}
use Rattle.swd_checker.proofs.HoldingLemmas.{worlds_grow_then}
use Rattle.swd_checker.proofs.OpenLemmas.{worlds_uncrowded, okay_held}
use Rattle.swd_checker.proofs.OpenedLemmas.{none_sound, unknown_sound, selecting_sound}
use Rattle.swd_checker.specs.Exact.{IsWorldSound}
use Rattle.swd_checker.proofs.worlds.Worlds.open_at_okay.Goals as goal

pub returns-clause-crowded : goal.returns-clause-crowded
returns-clause-crowded c = worlds_uncrowded 36 c.empty.new.self c.add_any-2.new.self c.empty.ensures.empty
    c.empty.ensures.crowded (omega arith)
    (worlds_grow_then 18 18 _ _ _ c.add_any.ensures.grows c.add_any-2.ensures.grows)

pub returns-clause-opens : goal.returns-clause-opens
returns-clause-opens c = okay_held c.add_any.new.self c.add_any-2.new.self c.unknown.result c.selecting-world.result
    c.args.select c.unknown.ensures c.selecting-world.ensures c.add_any-2.ensures.keeps c.add_any.ensures.adds
    c.add_any-2.ensures.adds

pub returns-clause-sound : goal.returns-clause-sound
returns-clause-sound c =
    let world : IsWorldSound c.selecting-world.result = selecting_sound c.args.select c.unknown.result
    c.selecting-world.result c.selecting-world.ensures (unknown_sound c.unknown.result c.unknown.ensures) in
    c.add_any-2.ensures.sound (c.add_any.ensures.sound (none_sound c.empty.new.self c.empty.ensures.empty)
    (record { tar = world.tar; buffer = world.buffer; last_returned = world.last_returned }))
    (record { tar = world.tar; buffer = world.buffer; last_returned = world.last_returned })
