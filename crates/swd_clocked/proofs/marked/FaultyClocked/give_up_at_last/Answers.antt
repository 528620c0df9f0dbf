use Rattle.swd_target.specs.Plans.{plan_next_mark}
use Rattle.std.proofs.Common.{refl}
use Rattle.swd_clocked.proofs.GivingUp.{last_cycle_gives_up, nothing_given_up}
use Rattle.swd_clocked.proofs.marked.FaultyClocked.give_up_at_last.Goals as goal

pub returns-in-Some : goal.returns-in-Some
returns-in-Some g c =
    let old = c.args.self.now in
    let is = c.give_up_before.ensures in
    record {
      gives = last_cycle_gives_up g.D.Device.bus c.args.bit (plan_next_mark old.plan) c.in-Some.request old
          c.give_up_before.new.self c.in-Some.ensures.found is;
      other = λ none. absurd (none c.in-Some.request c.in-Some.ensures.found);
      alone = is.alone;
    }

pub returns-in_default : goal.returns-in_default
returns-in_default g c = record {
  gives = λ q is. absurd (c.in_default.ensures.none q is);
  other = λ none. refl;
  alone = nothing_given_up c.args.self.now;
}
