use Rattle.std.proofs.Common.{◌-◌}
use Rattle.swd_dap_probe.specs.declared.shape.Items.TheVariants.{Sequences}
use Rattle.swd_dap_probe.specs.Shapes.{dap_item_shape}
use Rattle.swd_dap_probe.specs.Sequences.{dap_sequences, DapSequencesGo}
use Rattle.swd_dap_probe.proofs.ItemLemmas.{ItemsLead}
use Rattle.swd_dap_probe.proofs.sequences.sequences.Given as goal

-- the sequences that are left make it whole
abbrev pub invariant-loop-place : goal.invariant-loop-place
invariant-loop-place g l = ItemsLead
    (λ n bytes told s t. DapSequencesGo g.L.ProbeLine.clocks (dap_sequences n bytes) told s t)
    (dap_item_shape Sequences) l.count l.bytes l.fn.reply.items l.fn.line (l.count - l.place) l.rest l.reply.items
    l.line
