use Rattle.std.proofs.Common.{[], ◌∷◌, ◌++◌, ◌∙◌, ap, inr, refl, List}
use Rattle.swd_dap.specs.declared.transfer.Transfer.{Transfer}
use Rattle.swd_dap.proofs.transport.DapTransport.plan_begins_with.Goals as goal

pub returns-then-not-begins : goal.returns-then-not-begins
returns-then-not-begins g c = record {
  plan = inr (c.push.ensures.items ∙ ap (λ (l : List Transfer). l ++ c.reading.result ∷ []) c.clear.ensures
      ∙ ap (λ (t : Transfer). t ∷ []) c.reading.ensures);
  after = refl;
}
