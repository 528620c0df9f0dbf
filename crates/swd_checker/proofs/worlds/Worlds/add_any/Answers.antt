use Rattle.swd_checker.proofs.HoldingLemmas.{worlds_keep_then, worlds_grow_then}
use Rattle.swd_checker.proofs.OpenLemmas.{power_of_three}
use Rattle.swd_checker.specs.Described.{WorldDescribes}
use Rattle.swd_checker.specs.Holding.{WorldsHold}
use Rattle.swd_checker.proofs.worlds.Worlds.add_any.Goals as goal

pub returns-clause-keeps : goal.returns-clause-keeps
returns-clause-keeps c = worlds_keep_then _ _ _ c.add_any_system.ensures.keeps
    (worlds_keep_then _ _ _ c.add_any_system-2.ensures.keeps c.add_any_system-3.ensures.keeps)

pub returns-clause-grows : goal.returns-clause-grows
returns-clause-grows c = worlds_grow_then 6 12 _ _ _ c.add_any_system.ensures.grows
    (worlds_grow_then 6 6 _ _ _ c.add_any_system-2.ensures.grows c.add_any_system-3.ensures.grows)

pub returns-clause-adds : goal.returns-clause-adds
returns-clause-adds c = λ debug system increments x other rest h. power_of_three
    (λ p. WorldDescribes (record c.args.world { debug = p; system = system; increments = increments }) x
    → WorldsHold c.add_any_system-3.new.self c.args.world.awaits x)
    (λ k. c.add_any_system-3.ensures.keeps.each _ _
    (c.add_any_system-2.ensures.keeps.each _ _ (c.add_any_system.ensures.adds system increments x rest k)))
    (λ k. c.add_any_system-3.ensures.keeps.each _ _ (c.add_any_system-2.ensures.adds system increments x rest k))
    (λ k. c.add_any_system-3.ensures.adds system increments x rest k) debug other h

pub returns-clause-sound : goal.returns-clause-sound
returns-clause-sound c = λ all world.
    let first = c.add_any_system.ensures.sound all
    (record { tar = world.tar; buffer = world.buffer; last_returned = world.last_returned }) in
    let second = c.add_any_system-2.ensures.sound first
    (record { tar = world.tar; buffer = world.buffer; last_returned = world.last_returned }) in
    c.add_any_system-3.ensures.sound second
    (record { tar = world.tar; buffer = world.buffer; last_returned = world.last_returned })
