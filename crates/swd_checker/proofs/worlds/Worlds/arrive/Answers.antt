use Rattle.std.proofs.Common.{refl, sym, subst, true}
use Rattle.swd_checker.specs.Adding.{WorldsArrive}
use Rattle.swd_checker.proofs.ArrivalLemmas.{arrive_ctrl_stat, arrive_select, arrive_csw, arrive_tar, arrive_drw}
use Rattle.swd_checker.proofs.ArrivalLemmas.{arrive_other, arrive_nowhere}
use Rattle.swd_checker.specs.Steps.{world_written}
use Rattle.swd_checker.specs.Worlds.{World, Tar, TransferWrite}
use Rattle.swd_port.specs.declared.csw.Csw.{Csw}
use Rattle.swd_checker.specs.Reaching.{WorldReaches}
use Rattle.std.specs.Prelude.{Some, ◌==◌}
use Rattle.swd_checker.proofs.worlds.Worlds.arrive.Goals as goal

pub returns-in-AbortWrite-clause-arrives : goal.returns-in-AbortWrite-clause-arrives
returns-in-AbortWrite-clause-arrives c = subst (λ r. WorldsArrive c.abort.new.self c.args.now.world r c.args.word)
    (sym c.in-AbortWrite.is) (λ refuses x none h. c.abort.ensures.aborts refuses x h)

pub returns-in-CtrlStatWrite-clause-arrives : goal.returns-in-CtrlStatWrite-clause-arrives
returns-in-CtrlStatWrite-clause-arrives c = subst (λ r. WorldsArrive c.add.new.self c.args.now.world r c.args.word)
    (sym c.in-CtrlStatWrite.is)
    (arrive_ctrl_stat c.add.new.self c.args.now.world c.powered.result c.args.word c.add.ensures.adds c.powered.ensures)

pub returns-in-SelectWrite-clause-arrives : goal.returns-in-SelectWrite-clause-arrives
returns-in-SelectWrite-clause-arrives c =
    subst (λ r. WorldsArrive c.add-in-SelectWrite.new.self c.args.now.world r c.args.word) (sym c.in-SelectWrite.is)
    (arrive_select c.add-in-SelectWrite.new.self c.args.now.world c.selecting.result c.args.word
    c.add-in-SelectWrite.ensures.adds c.selecting.ensures)

pub returns-in-CswWrite-clause-arrives : goal.returns-in-CswWrite-clause-arrives
returns-in-CswWrite-clause-arrives c =
    subst (λ r. WorldsArrive c.add-in-CswWrite.new.self c.args.now.world r c.args.word) (sym c.in-CswWrite.is)
    (arrive_csw c.add-in-CswWrite.new.self c.args.now.world c.written.result c.of.result _ c.args.word
    c.add-in-CswWrite.ensures.adds c.written.ensures c.of.ensures refl)

pub returns-in-TarWrite-clause-arrives : goal.returns-in-TarWrite-clause-arrives
returns-in-TarWrite-clause-arrives c =
    subst (λ r. WorldsArrive c.add-in-TarWrite.new.self c.args.now.world r c.args.word) (sym c.in-TarWrite.is)
    (arrive_tar c.add-in-TarWrite.new.self c.args.now.world c.written-in-TarWrite.result c.at.result c.args.word
    c.add-in-TarWrite.ensures.adds c.written-in-TarWrite.ensures c.at.ensures)

pub returns-in-DrwWrite-clause-arrives : goal.returns-in-DrwWrite-clause-arrives
returns-in-DrwWrite-clause-arrives c =
    subst (λ r. WorldsArrive c.add-in-DrwWrite.new.self c.args.now.world r c.args.word) (sym c.in-DrwWrite.is)
    (arrive_drw c.add-in-DrwWrite.new.self c.args.now.world c.written-in-DrwWrite.result c.args.word
    c.add-in-DrwWrite.ensures.adds c.written-in-DrwWrite.ensures)

pub returns-in-ApOtherWrite-clause-arrives : goal.returns-in-ApOtherWrite-clause-arrives
returns-in-ApOtherWrite-clause-arrives c =
    subst (λ r. WorldsArrive c.arrive_elsewhere.new.self c.args.now.world r c.args.word) (sym c.in-ApOtherWrite.is)
    (arrive_other c.arrive_elsewhere.new.self c.args.now.world c.written-in-ApOtherWrite.result c.args.word
    c.arrive_elsewhere.ensures.nothing c.arrive_elsewhere.ensures.error c.written-in-ApOtherWrite.ensures)

pub returns-in_default-clause-arrives : goal.returns-in_default-clause-arrives
returns-in_default-clause-arrives c = arrive_nowhere c.add-in_default.new.self c.args.now.world c.args.now.register
    c.args.word c.add-in_default.ensures.adds c.in_default.not-AbortWrite c.in_default.not-CtrlStatWrite
    c.in_default.not-SelectWrite c.in_default.not-CswWrite c.in_default.not-TarWrite c.in_default.not-DrwWrite
    c.in_default.not-ApOtherWrite

pub returns-in-AbortWrite-clause-reaches : goal.returns-in-AbortWrite-clause-reaches
returns-in-AbortWrite-clause-reaches c = λ link old h. c.abort.ensures.reaches link old
    (h.abort c.in-AbortWrite.is) (h.failed c.in-AbortWrite.is)

pub returns-in-CtrlStatWrite-clause-reaches : goal.returns-in-CtrlStatWrite-clause-reaches
returns-in-CtrlStatWrite-clause-reaches c = λ link old h. c.add.ensures.reaches link old
    (subst (WorldReaches link) (sym c.powered.ensures) (h.ctrl_stat c.in-CtrlStatWrite.is))

pub returns-in-SelectWrite-clause-reaches : goal.returns-in-SelectWrite-clause-reaches
returns-in-SelectWrite-clause-reaches c = λ link old h. c.add-in-SelectWrite.ensures.reaches link old
    (subst (WorldReaches link) (sym c.selecting.ensures) (h.select c.in-SelectWrite.is))

pub returns-in-CswWrite-clause-reaches : goal.returns-in-CswWrite-clause-reaches
returns-in-CswWrite-clause-reaches c = λ link old h. c.add-in-CswWrite.ensures.reaches link old
    (subst (λ (z : World). WorldReaches link (record z { increments = c.of.result.addr_inc == 1 }))
    (sym c.written.ensures) (subst (λ (k : Csw). WorldReaches link (record (world_written c.args.now.world) {
      increments = k.addr_inc == 1;
    })) (sym c.of.ensures) (h.csw c.in-CswWrite.is)))

pub returns-in-TarWrite-clause-reaches : goal.returns-in-TarWrite-clause-reaches
returns-in-TarWrite-clause-reaches c = λ link old h. c.add-in-TarWrite.ensures.reaches link old
    (subst (λ (z : World). WorldReaches link (record z { tar = c.at.result })) (sym c.written-in-TarWrite.ensures)
    (subst (λ (k : Tar). WorldReaches link (record (world_written c.args.now.world) { tar = k })) (sym c.at.ensures)
    (h.tar c.in-TarWrite.is)))

pub returns-in-DrwWrite-clause-reaches : goal.returns-in-DrwWrite-clause-reaches
returns-in-DrwWrite-clause-reaches c = λ link old h. c.add-in-DrwWrite.ensures.reaches link old
    (subst (λ (z : World). WorldReaches link (record z { pending = Some TransferWrite }))
    (sym c.written-in-DrwWrite.ensures) (h.drw c.in-DrwWrite.is))

pub returns-in-ApOtherWrite-clause-reaches : goal.returns-in-ApOtherWrite-clause-reaches
returns-in-ApOtherWrite-clause-reaches c = λ link old h. c.arrive_elsewhere.ensures.reaches link old
    (subst (WorldReaches link) (sym c.written-in-ApOtherWrite.ensures) (h.elsewhere c.in-ApOtherWrite.is))
    (subst (λ (z : World). WorldReaches link (record z { sticky_error = true })) (sym c.written-in-ApOtherWrite.ensures)
    (h.error c.in-ApOtherWrite.is))

pub returns-in_default-clause-reaches : goal.returns-in_default-clause-reaches
returns-in_default-clause-reaches c = λ link old h. c.add-in_default.ensures.reaches link old (h.passed (record {
  abort = c.in_default.not-AbortWrite;
  ctrl_stat = c.in_default.not-CtrlStatWrite;
  select = c.in_default.not-SelectWrite;
  csw = c.in_default.not-CswWrite;
  tar = c.in_default.not-TarWrite;
  drw = c.in_default.not-DrwWrite;
  elsewhere = c.in_default.not-ApOtherWrite;
}))
