use Rattle.std.proofs.Common.{◌≡◌, true, false, refl}
use Rattle.swd_dap.proofs.transport.DapTransport.lead.Goals as goal

pub returns-then-made : goal.returns-then-made
returns-then-made g c =
    let made = c.is_made-made.ensures c.if-made.true in
    record {
      opened = c.open.new.self;
      opens = c.in_ok-open.ensures;
      none_left = c.has_told.ensures.none c.if-has_told.false;
      made = true;
      idled = λ e. made.0;
      leads = (made.1, made.2, made.3, refl);
      after = refl;
    }

pub returns : goal.returns
returns g c = record {
  opened = c.open.new.self;
  opens = c.in_ok-open.ensures;
  none_left = c.has_told.ensures.none c.if-has_told.false;
  made = false;
  idled = λ (e : false ≡ true). cc;
  leads = c.in_ok-lead.ensures;
  after = refl;
}
