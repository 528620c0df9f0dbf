use Rattle.std.proofs.Common.{rules}
use Rattle.swd_target.proofs.target.Target.value.Goals as goal

pub returns-in_default : goal.returns-in_default
returns-in_default g c = record {
  value = λ addr. search rules;
  exact = λ addr. search rules;
}
