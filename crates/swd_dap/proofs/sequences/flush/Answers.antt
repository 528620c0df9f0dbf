use Rattle.std.proofs.Common.{◌≡◌, ℕ, Bool, List, [], sym, ap, ◌∙◌, subst}
use Rattle.swd_dap.specs.Packets.{DapDoes}
use Rattle.swd_dap.specs.Sequences.{dap_drive_request}
use Rattle.swd_dap.specs.Leading.{DapQueues}
use Rattle.swd_dap.proofs.LeadLemmas.{dap_queues_packet}
use Rattle.swd_dap.proofs.sequences.flush.Goals as goal

pub returns-clause-drives : goal.returns-clause-drives
returns-clause-drives g c =
    let s = c.args.packets.now in
    let t = c.perform.new.packets in
    let bits = c.args.bits.now.items in
    let done = c.in_ok-perform.ensures in
    let request : c.as_slice-2.result.now ≡ dap_drive_request bits =
    c.as_slice-2.ensures.value ∙ c.drive_request-request.ensures
    ∙ ap dap_drive_request c.as_slice.ensures.value in
    subst (λ (l : List Bool). DapQueues g.P.Packets.exchanged [] s bits t l) (sym c.clear.ensures)
    (dap_queues_packet g.P.Packets.exchanged s t bits done.0
    (subst (λ (r : List ℕ). DapDoes g.P.Packets.exchanged r 2 done.0 s t) request done.1))
