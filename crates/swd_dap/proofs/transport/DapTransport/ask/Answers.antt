use Rattle.std.proofs.Common.{List, subst}
use Rattle.swd_dap.specs.declared.transfer.Transfer.{Transfer}
use Rattle.swd_dap.specs.Transfers.{IsDapBeginning}
use Rattle.swd_dap.specs.Calls.{answers, makes, clocks}
use Rattle.swd_dap.proofs.transport.DapTransport.ask.Goals as goal

pub returns-then-has_told : goal.returns-then-has_told
returns-then-has_told g c = record {
  opened = c.open.new.self;
  opens = c.in_ok-open.ensures;
  asks = answers c.in_ok-seen.ensures;
}

pub returns-then-count-eq0 : goal.returns-then-count-eq0
returns-then-count-eq0 g c = record {
  opened = c.open.new.self;
  opens = c.in_ok-open.ensures;
  asks = clocks c.plan_begins_with.new.self (c.has_told.ensures.none c.if-has_told.false) c.plan_begins_with.ensures
      c.in_ok-seen-2.ensures;
}

pub returns : goal.returns
returns g c =
    let planned = c.plan_begins_with.new.self in
    let n = c.longest_beginning-count.result in
    record {
      opened = c.open.new.self;
      opens = c.in_ok-open.ensures;
      asks = makes planned c.make.new.self n (c.has_told.ensures.none c.if-has_told.false) c.plan_begins_with.ensures
          (subst (λ (l : List Transfer). IsDapBeginning l planned.size.bytes planned.padded planned.posted n)
          c.as_slice.ensures.value c.longest_beginning-count.ensures) c.in_ok-make.ensures.makes c.in_ok-seen-3.ensures;
    }
