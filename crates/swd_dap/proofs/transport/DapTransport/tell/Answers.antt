use Rattle.std.proofs.Common.{◌≡◌, ap, get_or, rules}
use Rattle.swd_dap.specs.Calls.{dap_any_told, dap_next_told}
use Rattle.swd_dap.proofs.CallLemmas.{dap_answers_by}
use Rattle.swd_dap.proofs.transport.DapTransport.tell.Goals as goal

pub returns : goal.returns
returns g c =
    let s = c.args.self.now in
    let told = get_or c.as_slice.result.now s.asked dap_any_told in
    let is : told ≡ dap_next_told s = ap (λ l. get_or l s.asked dap_any_told) c.as_slice.ensures.value in
    let same : told.transfer.request ≡ c.args.request = search rules in
    dap_answers_by c.args.request c.from.result s told c.next_of-self.result c.posted_after-self.result c.requires is
    same c.from.ensures c.next_of-self.ensures c.posted_after-self.ensures
