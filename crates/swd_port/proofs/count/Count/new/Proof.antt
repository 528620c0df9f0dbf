-- `new` makes a value of no bytes.
use Rattle.swd_port.proofs.count.Count.new.Statement.{statement}
use Rattle.swd_port.proofs.CountSteps.{[], ◌∷◌, refl, proved, ftrue, Val, vstruct, vcons, vnil, tables, ‵, ◌⊛◌, ◌$◌}
use Rattle.swd_port.proofs.CountSteps.{◌∵◌, !, qed, done, move, keep, split, join, suffices, enter, returns, no_more}
use Rattle.swd_port.proofs.CountSteps.{and_then, get, agg, alloc_all, pass_all, free_all, look_at, sets, nothing, Stays}
use Rattle.swd_port.proofs.CountSteps.{walk_of, says, ends_at}
use base.Fml.{Fml}
use types.Kit.{use0}
use denote.Shadow.{makes_shadow}
use Rattle.swd_port.specs.contracts.count.Count.new as f
use Rattle.swd_port.proofs.count.Count.new.Code as code
use Rattle.swd_port.specs.contracts.count.Count.{the_row as R}

abbrev stayed : Stays f.ended.signature.params f.ended.kept
stayed = tt

pub new_spec : {M : Type 1} → statement M
new_spec 𝓤 𝓛 𝓜 𝓡 wired =
    let c = f.clauses 𝓛 𝓜.mem 𝓡.returns in let W = walk_of 𝓛 f.ended stayed c in let 𝓣 = tables 𝓤 𝓛.H 𝓜 𝓡 𝓡.env in
    proved 𝓛 f.ended stayed c 𝓜 𝓡 tt
    f.Key.name code.function (code.unfolded 𝓤 𝓛.H 𝓜 𝓡 wired)
    (λ κs. tt) (λ κs. tt) (λ κs qs bounds a _ are.
    let v : Val = vstruct (vcons (vstruct vnil) vnil) in let r : R.Denot = record { marker = record {}; ticks = 0 } in
    let O : Fml = R.own_val r (v ∷ []) in
    let y : W.Ghost = ((κs, qs, bounds, a, tt), tt) in
    qed 𝓛 ((‵ ftrue ⊛ ‵ ftrue) ∷ ‵ ftrue ∷ []) ∵ split ! $ keep ! (0 ∷ []) $
    enter ! _ _ _ _ _ $ alloc_all ! (λ l. pass_all ! refl tt $
    sets ! (agg ! (no_more !)) refl (tt, tt) $ sets ! (agg ! (and_then ! (get ! refl) (no_more !))) refl (tt, (tt, tt))
    $
    returns ! (look_at ! 0 refl) $ free_all ! refl $
    use0 𝓛 (‵ O) (makes_shadow 𝓛 O ((λ vss. (tt, ((λ uss. (tt, tt)), tt))), tt)
    (((vstruct vnil ∷ [], tt), (refl, ((tt, (refl, tt)), tt))), tt)) $
    suffices ! _ (ends_at 𝓛 f.ended stayed c y v r tt tt) $ says ! refl $
    nothing ! $ join ! $ move ! (1 ∷ 0 ∷ []) $ join ! $ done !))
