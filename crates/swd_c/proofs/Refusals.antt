-- What a list is refused for.
use Rattle.std.proofs.Common.{arith, ℕ, List, None, false, true}
use Rattle.swd_port.specs.declared.access.Access.{Access}
use Rattle.swd_host.specs.declared.engine.Ahead.TheVariants.{Unsent}
use Rattle.swd_host.specs.declared.engine.State.TheVariants.{Leading}
use Rattle.swd_host.specs.declared.task.Bursts.TheVariants.{Writes}
use Rattle.swd_host.specs.declared.task.Task.TheVariants.{Read as ReadTask}
use Rattle.swd_steps.specs.declared.run.Refusal.{Refusal}
use Rattle.swd_steps.specs.declared.run.Refusal.TheVariants.{Ended, Reply, TooMany, Unaligned, TooFew}
use Rattle.swd_steps.specs.declared.run.Run.{Run}
use Rattle.swd_steps.specs.declared.run.Stage.TheVariants.{Driving}
use Rattle.swd_steps.specs.Runs.{SteppedRefusalReason}
use Rattle.swd_c.specs.Runs.{CApiRefusalIndexIsSmall}

-- some run
some_run : Run
some_run = record {
  engine = record {
    state = Leading;
    task = ReadTask 0;
    aims = true;
    tar = None;
    bursts = Writes;
    ahead = Unsent;
    tries = 0;
    events = 0;
    begun = 0;
    requests = 0;
    stray = false;
  };
  stage = Driving;
  answered = 0;
}

-- the access for which a list is refused, whatever the run, has a small index
pub c_api_refused_index_is_small : (list : List Access) (why : Refusal)
    → ((run : Run) (reply : ℕ) → SteppedRefusalReason run list reply why) → CApiRefusalIndexIsSmall why
c_api_refused_index_is_small list Ended h = tt
c_api_refused_index_is_small list Reply h = tt
c_api_refused_index_is_small list TooMany h = tt
c_api_refused_index_is_small list (Unaligned index) h = let r = h some_run 0 in omega (arith, r.0, r.1)
c_api_refused_index_is_small list TooFew h = tt
