use Rattle.swd_checker.proofs.HoldingLemmas.{worlds_keep_then, worlds_grow_then}
use Rattle.swd_checker.proofs.OpenLemmas.{single_or_off}
use Rattle.swd_checker.proofs.OpenedLemmas.{added_sound}
use Rattle.swd_checker.specs.Described.{WorldDescribes}
use Rattle.swd_checker.specs.Holding.{WorldsHold}
use Rattle.swd_checker.proofs.worlds.Worlds.add_any_increment.Goals as goal

pub returns-clause-keeps : goal.returns-clause-keeps
returns-clause-keeps c = worlds_keep_then _ _ _ c.add.ensures.keeps c.add-2.ensures.keeps

pub returns-clause-grows : goal.returns-clause-grows
returns-clause-grows c = worlds_grow_then 1 1 _ _ _ c.add.ensures.grows c.add-2.ensures.grows

pub returns-clause-adds : goal.returns-clause-adds
returns-clause-adds c = λ increments x. single_or_off
    (λ b. WorldDescribes (record c.args.world { increments = b }) x → WorldsHold c.add-2.new.self c.args.world.awaits x)
    (λ h. c.add-2.ensures.keeps.each _ _ (c.add.ensures.adds x h)) (λ h. c.add-2.ensures.adds x h) increments

pub returns-clause-sound : goal.returns-clause-sound
returns-clause-sound c = λ all world.
    added_sound c.add.new.self c.add-2.new.self _ c.add-2.ensures.reaches
    (added_sound c.args.self.now c.add.new.self _ c.add.ensures.reaches all
    (record { tar = world.tar; buffer = world.buffer; last_returned = world.last_returned }))
    (record { tar = world.tar; buffer = world.buffer; last_returned = world.last_returned })
