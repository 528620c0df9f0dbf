use Rattle.std.proofs.Common.{◌≡◌, ◌<◌, ◌^◌, ◌∙◌, ap, sym, subst, IfSome, Option, Some, rules}
use Rattle.swd_bits.specs.declared.request.Request.{Request}
use Rattle.swd_bits.specs.declared.tx.TxEnd.{TxEnd}
use Rattle.swd_trace.specs.Listed.{IsEncodableItem}
use Rattle.swd_c.specs.Items.{c_api_tx_by}
use Rattle.swd_c.proofs.Items.{c_api_end_back, c_api_request_back, c_api_tx_is}
use Rattle.swd_c.proofs.item.SwdItem.read_transaction.Goals as goal

pub returns-clause-found : goal.returns-clause-found
returns-clause-found c = λ tx l e.
    let request : c.of.result ≡ Some tx.request =
    c_api_request_back tx c.args.self.now c.of.result c.of.ensures.only c.of.ensures.none e in
    let end : c.end_of.result ≡ Some tx.result =
    c_api_end_back tx c.args.self.now c.end_of.result l e c.end_of.ensures in
    c.transaction_of.ensures
    ∙ (ap (λ (q : Option Request). c_api_tx_by q c.end_of.result) request
    ∙ ap (λ (x : Option TxEnd). c_api_tx_by (Some tx.request) x) end)

pub returns-clause-is : goal.returns-clause-is
returns-clause-is c =
    let word : c.args.self.now.word < 2 ^ 32 = search rules in
    subst (λ r. IfSome r IsEncodableItem) (sym c.transaction_of.ensures)
    (c_api_tx_is c.of.result c.end_of.result c.args.self.now.ack c.args.self.now.word c.args.self.now.parity_ok word
    c.end_of.ensures)
