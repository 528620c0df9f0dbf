use Rattle.std.proofs.Common.{◌≡◌, ◌≤◌, ◌+◌, ◌-◌, [], length, get_or, drop}
use Rattle.swd_dap_probe.specs.declared.shape.Items.TheVariants.{Transfers}
use Rattle.swd_dap_probe.specs.declared.transfers.Pending.TheVariants.{Nothing}
use Rattle.swd_dap_probe.specs.Shapes.{dap_item_shape, dap_long, dap_most}
use Rattle.swd_dap_probe.specs.Transfers.{dap_pending_bytes, dap_steps, dap_asked_list, dap_run}
use Rattle.swd_dap_probe.proofs.StepLemmas.{StepsLead}
use Rattle.swd_dap_probe.proofs.transfers.perform_all.Given as goal

-- there is room for the words that may come, and the requests that are left make the list whole
abbrev pub invariant-loop-place : goal.invariant-loop-place
invariant-loop-place g l = record {
  whole : dap_long (dap_item_shape Transfers) (get_or l.request 2 0 - l.place) l.rest ≤ length l.rest;
  room : length l.words.items + dap_pending_bytes l.run.pending
      + dap_most (dap_item_shape Transfers) (get_or l.request 2 0 - l.place) l.rest
      ≤ dap_most (dap_item_shape Transfers) (get_or l.request 2 0) (drop 3 l.request);
  masked : l.mask ≡ l.run.mask;
  makes : StepsLead g.L.ProbeLine.clocks l.settings
      (dap_steps Nothing (dap_asked_list (get_or l.request 2 0) (drop 3 l.request))) (dap_run 0 [] l.fn.mask)
      (dap_steps l.run.pending (dap_asked_list (get_or l.request 2 0 - l.place) l.rest))
      (dap_run l.place l.words.items l.run.mask) l.fn.line l.line;
}
