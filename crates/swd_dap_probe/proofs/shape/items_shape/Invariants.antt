use Rattle.std.proofs.Common.{◌-◌, ◌≤◌, ◌+◌, ◌*◌}
use Rattle.swd_dap_probe.specs.Shapes.{dap_item_shape}
use Rattle.swd_dap_probe.proofs.ItemLemmas.{ShapesLead}
use Rattle.swd_dap_probe.proofs.shape.items_shape.Given as goal

-- how far the sums came
abbrev pub invariant-loop-place : goal.invariant-loop-place
invariant-loop-place l = record {
  sums : ShapesLead (dap_item_shape l.items) l.before l.before l.count l.bytes (l.count - l.place) l.rest l.shape;
  few : l.shape.reply ≤ l.before + 8 * l.place;
  fits : l.shape.request ≤ l.before + 9 * l.place;
}
