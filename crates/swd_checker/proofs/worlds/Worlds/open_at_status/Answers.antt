use Rattle.std.proofs.Common.{arith}
use Rattle.swd_checker.proofs.OpenLemmas.{worlds_uncrowded, status_held}
use Rattle.swd_checker.proofs.OpenedLemmas.{none_sound, unknown_sound}
use Rattle.swd_checker.specs.Exact.{IsWorldSound}
use Rattle.swd_checker.proofs.worlds.Worlds.open_at_status.Goals as goal

pub returns-clause-crowded : goal.returns-clause-crowded
returns-clause-crowded c = worlds_uncrowded 18 c.empty.new.self c.add_any.new.self c.empty.ensures.empty
    c.empty.ensures.crowded (omega arith) c.add_any.ensures.grows

pub returns-clause-opens : goal.returns-clause-opens
returns-clause-opens c = status_held c.add_any.new.self c.unknown.result c.bit.result c.bit-2.result c.bit-3.result
    c.args.word c.unknown.ensures c.bit.ensures c.bit-2.ensures c.bit-3.ensures c.add_any.ensures.adds

pub returns-clause-sound : goal.returns-clause-sound
returns-clause-sound c =
    let world : IsWorldSound c.unknown.result = unknown_sound c.unknown.result c.unknown.ensures in
    c.add_any.ensures.sound (none_sound c.empty.new.self c.empty.ensures.empty)
    (record { tar = world.tar; buffer = world.buffer; last_returned = world.last_returned })
