use Rattle.std.proofs.Common.{◌-◌, ◌≤◌, ◌+◌, ◌*◌, ◌^◌, get_or}
use Rattle.swd_dap_probe.specs.Shapes.{dap_command_shape}
use Rattle.swd_dap_probe.proofs.ItemLemmas.{ShapesLead}
use Rattle.swd_dap_probe.proofs.shape.commands_shape.Given as goal

-- how far the sums came
abbrev pub invariant-loop-place : goal.invariant-loop-place
invariant-loop-place l = record {
  sums : ShapesLead dap_command_shape 2 2 (get_or l.bytes 1 0) l.bytes (get_or l.bytes 1 0 - l.place) l.rest l.shape;
  few : l.shape.reply ≤ 2 + 2 ^ 18 * l.place;
  fits : l.shape.request ≤ 2 + 2 ^ 19 * l.place;
}
