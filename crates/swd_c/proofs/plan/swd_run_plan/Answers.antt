use Rattle.std.proofs.Common.{◌≤◌, length, subst, sym}
use Rattle.swd_c.proofs.plan.swd_run_plan.Goals as goal

pub store-requires : goal.store-requires
store-requires c = subst (λ l. length l ≤ length c.args.plan.now) (sym c.as_slice.ensures.value)
    c.coming-coming.ensures.few
