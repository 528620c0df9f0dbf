use Rattle.swd_port.specs.declared.register.Register.TheVariants.{DrwRead}
use Rattle.swd_target.proofs.TargetLemmas.{target_choice_is_choice}
use Rattle.swd_clocked.proofs.clocked_bench.ClockedBench.settle.Goals as goal

pub returns-clause-choice : goal.returns-clause-choice
returns-clause-choice g c = target_choice_is_choice DrwRead c.args.self.now.marked.value.clocked.target
