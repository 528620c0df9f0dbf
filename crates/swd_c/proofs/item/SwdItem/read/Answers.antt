use Rattle.std.proofs.Common.{◌∙◌, sym, subst, IfSome}
use Rattle.swd_trace.specs.Listed.{IsEncodableItem}
use Rattle.swd_c.proofs.Items.{c_api_item_back, c_api_item_is}
use Rattle.swd_c.proofs.item.SwdItem.read.Goals as goal

pub returns-clause-found : goal.returns-clause-found
returns-clause-found c = λ item l e. c.read_as.ensures
    ∙ c_api_item_back c.args.self.now c.read_transaction.result c.cut_of.result c.read_transaction.ensures.found
    c.cut_of.ensures.none c.cut_of.ensures.some item l e

pub returns-clause-is : goal.returns-clause-is
returns-clause-is c = subst (λ r. IfSome r IsEncodableItem) (sym c.read_as.ensures)
    (c_api_item_is c.args.self.now c.read_transaction.result c.cut_of.result c.read_transaction.ensures.is
    c.cut_of.ensures.some)
