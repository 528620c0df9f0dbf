use Rattle.std.proofs.Common.{◌+◌, ◌≡◌, Bool, ℕ, refl, sym, ap, subst, ◌∙◌}
use Rattle.std.specs.Prelude.{if◌then◌else◌}
use Rattle.swd_port.specs.declared.mark.Mark.{Mark}
use Rattle.swd_target.specs.Plans.{plan_next_mark}
use Rattle.swd_clocked.specs.Clocks.{ClockedGivesUp}
use Rattle.swd_clocked.proofs.GivingUp.{marked_request_gives_up}
use Rattle.swd_clocked.proofs.marked.FaultyClocked.give_up_before.Goals as goal

pub returns-then-give_up_before : goal.returns-then-give_up_before
returns-then-give_up_before g c =
    let old = c.args.self.now in
    let n : ℕ = old.given_up.ticks in
    let gave = c.give_up_before.result in
    let gives = subst (λ (m : Mark). ClockedGivesUp g.D.Device.bus m c.args.request gave old.clocked
    c.give_up_before.new.self) c.next_mark-mark.ensures.mark c.give_up_before.ensures.gives in
    let counted : c.tick.new.self.ticks ≡ (if gave then n + 1 else n) =
    c.tick.ensures ∙ ap (λ (b : Bool). if b then n + 1 else n) (sym c.if-give_up_before.true) in
    marked_request_gives_up g.D.Device.bus (plan_next_mark old.plan) c.args.request gave old _ gives
    (record { plan = refl; mark = refl }) refl refl counted
