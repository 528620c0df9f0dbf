use Rattle.std.proofs.Common.{◌≡◌, ◌≤◌, ◌+◌, ◌∙◌, [], length, get_or, drop, refl, sym, ap, subst, arith}
use Rattle.swd_dap_probe.specs.declared.shape.Items.TheVariants.{Transfers}
use Rattle.swd_dap_probe.specs.declared.transfers.Pending.TheVariants.{Nothing}
use Rattle.swd_dap_probe.specs.Shapes.{dap_item_shape, dap_most}
use Rattle.swd_dap_probe.specs.Transfers.{dap_pending_bytes, dap_steps, dap_asked_list, dap_run, DapStepsMade}
use Rattle.swd_dap_probe.proofs.ItemLemmas.{items_room_next}
use Rattle.swd_dap_probe.proofs.StepLemmas.{transfers_next, transfers_stop, transfers_last}
use Rattle.swd_dap_probe.proofs.transfers.perform_all.Goals as goal

pub loop-place-preserved : goal.loop-place-preserved
loop-place-preserved g c =
    let l = c.loop-place in
    let one = dap_item_shape Transfers in
    let count = get_or c.args.request.now 2 0 in
    let rest = l.rest.now in
    let was = length l.words.items + dap_pending_bytes l.run.pending in
    let now = length c.next-value.new.words.items + dap_pending_bytes c.next-value.new.run.pending in
    let more : now ≤ was + (one rest).reply = omega (arith, c.next-value.ensures.room, c.asked_of.ensures.bytes) in
    let both = items_room_next one count l.place rest c.skip-rest.result.now c.item_shape.result was now
    (dap_most one count (drop 3 c.args.request.now)) c.loop-place-test.true c.item_shape.ensures.shape
    c.skip-rest.ensures more l.invariant.whole l.invariant.room in
    let okay : c.next-value.result ≡ 1 = omega (arith, c.if-value-ne-OK.false) in
    record {
      whole = both.0;
      room = both.1;
      masked = refl;
      makes = transfers_next g.L.ProbeLine.clocks c.args.settings.now
          (dap_steps Nothing (dap_asked_list count (drop 3 c.args.request.now))) (dap_run 0 [] c.args.mask.now)
          l.run.pending c.next-value.new.run.pending c.asked_of.result count l.place rest c.skip-rest.result.now
          l.words.items c.next-value.new.words.items l.run.mask c.next-value.new.run.mask c.next-value.result
          c.args.line.now l.line c.next-value.new.line c.loop-place-test.true c.asked_of.ensures.is
          (c.skip-rest.ensures ∙ ap (λ q. drop q.request rest) c.item_shape.ensures.shape) okay
          (c.next-value.ensures.pending okay) (c.next-value.ensures.makes l.place) l.invariant.makes;
    }

pub returns-then-value-ne-OK-clause-makes : goal.returns-then-value-ne-OK-clause-makes
returns-then-value-ne-OK-clause-makes g c =
    let l = c.loop-place in
    let clock = g.L.ProbeLine.clocks in
    let settings = c.args.settings.now in
    let count = get_or c.args.request.now 2 0 in
    let steps = dap_steps Nothing (dap_asked_list count (drop 3 c.args.request.now)) in
    let from = dap_run 0 [] c.args.mask.now in
    let next = c.next-value in
    subst (λ x. DapStepsMade clock settings steps next.result from
    (dap_run x next.new.words.items next.new.run.mask) c.args.line.now next.new.line) (sym c.from.ensures)
    (transfers_stop clock settings steps from (dap_run l.place l.words.items l.run.mask)
    (dap_run l.place next.new.words.items next.new.run.mask) l.run.pending c.asked_of.result count l.place l.rest.now
    next.result c.args.line.now l.line next.new.line c.loop-place-test.true c.asked_of.ensures.is
    (λ e. absurd (omega (arith, e, c.if-value-ne-OK.true)))
    (next.ensures.makes l.place) l.invariant.makes)

pub returns-clause-makes : goal.returns-clause-makes
returns-clause-makes g c =
    let l = c.loop-place in
    let clock = g.L.ProbeLine.clocks in
    let settings = c.args.settings.now in
    let count = get_or c.args.request.now 2 0 in
    let steps = dap_steps Nothing (dap_asked_list count (drop 3 c.args.request.now)) in
    let from = dap_run 0 [] c.args.mask.now in
    let words = c.finish.new.words.items in
    let done : l.place ≡ c.from-2.result
    = omega (arith, c.from-2.ensures, l.auto.place-end, c.loop-place-test.false) in
    subst (λ x. DapStepsMade clock settings steps c.finish.result from (dap_run x words l.mask) c.args.line.now
    c.finish.new.line) done
    (subst (λ x. DapStepsMade clock settings steps c.finish.result from (dap_run l.place words x) c.args.line.now
    c.finish.new.line) (sym l.invariant.masked)
    (transfers_last clock settings steps from l.run.pending count l.place l.rest.now l.words.items words l.run.mask
    c.finish.result c.args.line.now l.line c.finish.new.line (omega (arith, c.loop-place-test.false))
    (c.finish.ensures.makes l.place l.run.mask) l.invariant.makes))
