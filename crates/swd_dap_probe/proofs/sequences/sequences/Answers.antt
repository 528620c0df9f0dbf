use Rattle.std.proofs.Common.{◌≡◌, ◌+◌, ◌-◌, List, ℕ, refl, sym, ap, ◌∙◌, subst, drop}
use Rattle.swd_dap_probe.specs.declared.shape.Items.TheVariants.{Sequences}
use Rattle.swd_dap_probe.specs.Shapes.{dap_item_shape}
use Rattle.swd_dap_probe.specs.Sequences.{dap_sequences, dap_sequence_at, dap_sequence_told, DapSequencesGo}
use Rattle.swd_dap_probe.proofs.ItemLemmas.{ItemsLead, items_first, items_left, items_next, items_last}
use Rattle.swd_dap_probe.proofs.SequenceLemmas.{told_short}
use Rattle.swd_dap_probe.proofs.sequences.sequences.Goals as goal

pub loop-place-init : goal.loop-place-init
loop-place-init g c = items_first _ (dap_item_shape Sequences) c.args.count c.args.bytes.now c.args.reply.now.items
    c.args.line.now c.requires.whole

pub loop-place-preserved : goal.loop-place-preserved
loop-place-preserved g c =
    let l = c.loop-place in
    let rest = l.rest.now in
    let n = c.args.count - (l.place + 1) in
    let done = c.sequence.ensures in
    let Go : ℕ → List ℕ → List ℕ → g.row.L.Denot → g.row.L.Denot → Type 0
    = λ n bytes told s t. DapSequencesGo g.L.ProbeLine.clocks (dap_sequences n bytes) told s t in
    let one = dap_item_shape Sequences in
    let first = dap_sequence_told (dap_sequence_at rest) done.levels in
    let e : c.skip-rest.result.now ≡ drop (one rest).request rest
    = c.skip-rest.ensures ∙ ap (λ q. drop q.request rest) c.item_shape.ensures.shape in
    subst (λ r. ItemsLead Go one c.args.count c.args.bytes.now c.args.reply.now.items c.args.line.now n r
    c.sequence.new.reply.items c.sequence.new.line) (sym e)
    (items_next Go one c.args.count c.args.bytes.now c.args.reply.now.items c.args.line.now n rest l.reply.items l.line
    first c.sequence.new.reply.items c.sequence.new.line
    (λ told t h. (c.sequence.new.line, done.levels, told, done.goes, h, refl)) done.told
    (told_short g.L.ProbeLine.clocks rest done.levels l.line c.sequence.new.line done.goes)
    (items_left Go one c.args.count c.args.bytes.now c.args.reply.now.items c.args.line.now l.place rest l.reply.items
    l.line c.loop-place-test.true l.invariant))

pub returns : goal.returns
returns g c =
    let l = c.loop-place in
    items_last _ (dap_item_shape Sequences) c.args.count c.args.bytes.now c.args.reply.now.items c.args.line.now l.place
    l.rest.now l.reply.items l.line c.loop-place-test.false (refl, refl) l.invariant
