use Rattle.std.proofs.Common.{sym, subst, true}
use Rattle.swd_checker.specs.Adding.{WorldsPost}
use Rattle.swd_checker.proofs.AddingLemmas.{post_csw, post_tar_read, post_drw, post_other, post_rdbuff}
use Rattle.swd_checker.proofs.AddingLemmas.{checked_only_rdbuff}
use Rattle.swd_checker.specs.Worlds.{World, HeldCsw, HeldWord, TransferRead}
use Rattle.swd_checker.specs.Reaching.{WorldReaches}
use Rattle.swd_checker.specs.Reached.{WorldsPostTar}
use Rattle.std.specs.Prelude.{Some}
use Rattle.swd_checker.proofs.worlds.Worlds.post.Goals as goal

pub returns-in-CswRead-clause-posts : goal.returns-in-CswRead-clause-posts
returns-in-CswRead-clause-posts c = subst (λ r. WorldsPost c.add.new.self c.args.now.world r c.args.buffer)
    (sym c.in-CswRead.is) (post_csw c.add.new.self c.args.now.world c.posted-world.result c.args.buffer
    c.add.ensures.adds c.posted-world.ensures)

pub returns-in-TarRead-clause-posts : goal.returns-in-TarRead-clause-posts
returns-in-TarRead-clause-posts c = subst (λ r. WorldsPost c.post_tar.new.self c.args.now.world r c.args.buffer)
    (sym c.in-TarRead.is) (post_tar_read c.post_tar.new.self c.args.now.world c.posted-world.result c.args.buffer
    c.post_tar.ensures.posts c.posted-world.ensures)

pub returns-in-DrwRead-clause-posts : goal.returns-in-DrwRead-clause-posts
returns-in-DrwRead-clause-posts c =
    subst (λ r. WorldsPost c.add-in-DrwRead.new.self c.args.now.world r c.args.buffer)
    (sym c.in-DrwRead.is) (post_drw c.add-in-DrwRead.new.self c.args.now.world c.posted-world.result c.args.buffer
    c.add-in-DrwRead.ensures.adds c.posted-world.ensures)

pub returns-in-ApOtherRead-clause-posts : goal.returns-in-ApOtherRead-clause-posts
returns-in-ApOtherRead-clause-posts c =
    subst (λ r. WorldsPost c.post_elsewhere.new.self c.args.now.world r c.args.buffer)
    (sym c.in-ApOtherRead.is) (post_other c.post_elsewhere.new.self c.args.now.world c.posted-world.result
    c.args.buffer c.post_elsewhere.ensures.word c.post_elsewhere.ensures.error c.posted-world.ensures)

pub returns-in_default-clause-posts : goal.returns-in_default-clause-posts
returns-in_default-clause-posts c = post_rdbuff c.add-in_default.new.self c.args.now.world c.posted-world.result
    c.args.now.register c.args.buffer c.add-in_default.ensures.adds c.posted-world.ensures c.in_default.not-CswRead
    c.in_default.not-TarRead c.in_default.not-DrwRead c.in_default.not-ApOtherRead

pub returns-in-CswRead-clause-reaches : goal.returns-in-CswRead-clause-reaches
returns-in-CswRead-clause-reaches c = λ link old posted h. c.add.ensures.reaches link old
    (subst (λ (z : World). WorldReaches link (record z { buffer = HeldCsw z.increments })) (sym c.posted-world.ensures)
    (h.csw c.in-CswRead.is))

pub returns-in-TarRead-clause-reaches : goal.returns-in-TarRead-clause-reaches
returns-in-TarRead-clause-reaches c = λ link old posted h. c.post_tar.ensures.reaches link old
    (subst (WorldsPostTar link) (sym c.posted-world.ensures) (h.tar c.in-TarRead.is))

pub returns-in-DrwRead-clause-reaches : goal.returns-in-DrwRead-clause-reaches
returns-in-DrwRead-clause-reaches c = λ link old posted h. c.add-in-DrwRead.ensures.reaches link old
    (subst (λ (z : World). WorldReaches link (record z { pending = Some TransferRead })) (sym c.posted-world.ensures)
    (h.drw c.in-DrwRead.is))

pub returns-in-ApOtherRead-clause-reaches : goal.returns-in-ApOtherRead-clause-reaches
returns-in-ApOtherRead-clause-reaches c = λ link old posted h. c.post_elsewhere.ensures.reaches link old
    (subst (λ (z : World). WorldReaches link (record z { buffer = HeldWord })) (sym c.posted-world.ensures) (h.word
    c.in-ApOtherRead.is))
    (subst (λ (z : World). WorldReaches link (record z { sticky_error = true })) (sym c.posted-world.ensures) (h.error
    c.in-ApOtherRead.is))

pub returns-in_default-clause-reaches : goal.returns-in_default-clause-reaches
returns-in_default-clause-reaches c = λ link old posted h. c.add-in_default.ensures.reaches link old
    (subst (WorldReaches link) (sym c.posted-world.ensures) (h.rdbuff (checked_only_rdbuff c.args.now.register posted
    c.in_default.not-CswRead c.in_default.not-TarRead c.in_default.not-DrwRead c.in_default.not-ApOtherRead)))
