use Rattle.swd_script.proofs.TextLaws.{script_is_runnable}
use Rattle.swd_script.proofs.laws.scripts_are_runnable.Goals as goal

pub returns : goal.returns
returns g c = script_is_runnable c
