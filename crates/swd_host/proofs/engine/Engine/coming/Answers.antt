use Rattle.swd_host.proofs.Words.{◌≡◌, ◌+◌, ◌-◌, ◌<◌, ap, arith, sym, subst, List, ℕ, length}
use Rattle.swd_port.specs.declared.coming.Coming.{Coming}
use Rattle.swd_host.specs.Coming.{HostForesees}
use Rattle.swd_host.proofs.Foreseeing.{EngineForeseesSoFar, foresees_more, foresees_all, foresees_full}
use Rattle.swd_host.proofs.engine.Engine.coming.Goals as goal

pub returns-in_default : goal.returns-in_default
returns-in_default c = foresees_all _ _ _ _ _ _ c.in_default.ensures.none c.loop.invariant

pub returns : goal.returns
returns c = foresees_full _ _ _ _ _ _ (omega arith) c.loop.invariant

pub returns-in_default-try_push : goal.returns-in_default-try_push
returns-in_default-try_push c =
    let same : c.try_push.new.self.items ≡ c.loop.coming.items =
    ap (λ v. v.items) c.in_default-try_push.ensures.err in
    let full : length c.loop.coming.items ≡ 160 = c.in_default-try_push.ensures.full in
    let none : 160 - c.loop.counter ≡ 0 = omega (arith, c.loop.invariant.count, full) in
    subst (HostForesees 160 c.args.self.now c.args.after.now) (sym same)
    (foresees_full _ _ _ _ _ _ none c.loop.invariant)

pub loop-preserved : goal.loop-preserved
loop-preserved c =
    let So : List Coming → ℕ → Type 0 = λ items room. EngineForeseesSoFar c.args.self.now c.args.after.now items room
    c.in-Some.next.engine c.in-Some.next.left.now in
    let some : 0 < 160 - c.loop.counter = omega arith in
    let less : 160 - c.loop.counter - 1 ≡ 160 - (c.loop.counter + 1) = omega arith in
    subst (So c.try_push.new.self.items) less
    (subst (λ items. So items (160 - c.loop.counter - 1)) (sym c.in-Ok.ensures.ok)
    (foresees_more c.args.self.now c.loop.engine c.in-Some.next.engine c.args.after.now c.loop.left.now
    c.in-Some.next.left.now c.loop.coming.items c.in-Some.next.coming (160 - c.loop.counter) some
    c.in-Some.ensures.next c.loop.invariant))
