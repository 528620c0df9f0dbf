-- What an engine foresees over a list, by what it foresees over the first accesses of it. For `Run::coming`.
use Rattle.std.proofs.Common.{arith, ap, refl, sym, subst, ◌∙◌, ◌≡◌, ◌+◌, ◌*◌, ◌-◌, ◌<◌, ◌≤◌, ℕ, Bool, true, false, inl}
use Rattle.std.proofs.Common.{inr, List, [], ◌∷◌, ◌++◌, length}
use Rattle.std.specs.Prelude.{◌⊎◌, zero, suc, None, Some, Option, take, drop, set, slice_get, get_or, min}
use Rattle.std.proofs.lemmas.Bool.Decides.{leb_tells}
use Rattle.std.proofs.lemmas.List.{get_or-drop, length-drop, length-take, length-take-le, take-append-drop, take_all}
use Rattle.std.proofs.lemmas.List.{take_min, take_more, take_more_set}
use Rattle.std.proofs.lemmas.Option.{get_or_from_slice_get, slice_get_cases, slice_get_within}
use Rattle.std.proofs.Math.Dec.{leb}
use Rattle.swd_port.specs.declared.access.Access.{Access}
use Rattle.swd_port.specs.declared.coming.Coming.{Coming}
use Rattle.swd_host.specs.declared.engine.Ahead.TheVariants.{Unsent}
use Rattle.swd_host.specs.declared.engine.Engine.{Engine}
use Rattle.swd_host.specs.declared.engine.State.{State}
use Rattle.swd_host.specs.declared.task.Task.{Task}
use Rattle.swd_host.specs.Coming.{HostForesees, HostForeseesData, HostForeseesNone, HostGoesOn}
use Rattle.swd_host.specs.Coming.{HostTakesUp, HostTakesUpSo}
use Rattle.swd_host.specs.Engines.{engine_is_ahead, engine_may_start, engine_outcome, engine_outcome_at}
use Rattle.swd_host.specs.Turns.{EngineStarts, engine_first_state}
use Rattle.swd_steps.specs.declared.run.Run.{Run}
use Rattle.swd_steps.specs.declared.run.Stage.TheVariants.{Driving}
use Rattle.swd_steps.specs.Plans.{SteppedForesees, SteppedForeseesAt}

-- FEWER TRANSACTIONS
take_of_none : (n : ℕ) (coming : List Coming) → coming ≡ [] → take n coming ≡ []
take_of_none zero coming none = refl
take_of_none (suc n) [] none = refl
take_of_none (suc n) (next ∷ coming) none = absurd cc

data_map : (word : ℕ) (Last More : Type 0) (P Q : Engine → Type 0) (e : Engine) → (Last → More)
    → ((f : Engine) → P f → Q f) → HostForeseesData word Last P e → HostForeseesData word More Q e
data_map word Last More P Q e last on (inl gives) = inl (gives.0, λ f sent. on f (gives.1 f sent))
data_map word Last More P Q e last on (inr (takes, none, inl decides)) =
    inr (takes, none, inl (decides.0, last decides.1))
data_map word Last More P Q e last on (inr (takes, none, inr goes)) =
    inr (takes, none, inr (λ read f small took. on f (goes read f small took)))

-- where there is less room the first transactions are foreseen
pub foresees_fewer : (most room : ℕ) (e : Engine) (after : List Access) (coming : List Coming) → most ≤ room
    → HostForesees room e after coming → HostForesees most e after (take most coming)
foresees_fewer zero room e after coming few so = inl refl
foresees_fewer (suc most) room e after [] few (inl full) = absurd (omega (arith, few, full))
foresees_fewer (suc most) room e after [] few (inr none) = inr none
foresees_fewer (suc most) room e after (next ∷ coming) few so = record {
  engine = so.engine;
  left = so.left;
  takes = so.takes;
  so = λ f left takes.
      let s = so.so f left takes in (
        s.0,
        λ g saw.
            let u = s.1 g saw in
            let less : most ≡ suc most - 1 = omega arith in
            record {
              engine = u.engine;
              left = u.left;
              takes = u.takes;
              so = λ h rest took. data_map next.word (coming ≡ []) (take most coming ≡ [])
                  (λ k. HostForesees (room - 1) k rest coming)
                  (λ k. HostForesees (suc most - 1) k rest (take most coming)) h (take_of_none most coming)
                  (λ k on. subst (λ n. HostForesees n k rest (take most coming)) less
                  (foresees_fewer most (room - 1) k rest coming (omega (arith, few)) on))
                  (u.so h rest took);
            },
      );
}

-- A LONGER LIST
-- the state in which an access starts has no outcome, unless the access before met its bus error
first_without_outcome : (given aims : Bool) (x : State) (task : Task) → x ≡ engine_first_state given Unsent aims
    → engine_may_start (engine_outcome_at x task) ≡ true → ⊥
first_without_outcome true aims x task is may = grind arith
first_without_outcome false true x task is may = grind arith
first_without_outcome false false x task is may = grind arith

-- so of two accesses that start at once the second one has a cue
second_has_cue : (a b : Access) (x y : Option Access) (e g h : Engine) → EngineStarts a x e g → EngineStarts b y g h
    → engine_may_start (engine_outcome h) ≡ true → ⊥
second_has_cue a b x y e g h eg gh may =
    first_without_outcome (engine_is_ahead g) h.aims h.state h.task
    (gh.state ∙ ap (λ v. engine_first_state (engine_is_ahead g) v h.aims) eg.ahead) may

goes_longer : (w t : List Access) (e f : Engine) (left : List Access) → HostGoesOn e w f left
    → HostGoesOn e (w ++ t) f (left ++ t)
goes_longer w t e f left goes = record { cue = goes.cue; same = goes.same; all = ap (λ l. l ++ t) goes.all }

-- an engine that starts no access; one that starts at most one; any, at a list of three accesses or more
longer_none : (c : Access) (more t : List Access) (e f : Engine) (left : List Access)
    → (engine_may_start (engine_outcome e) ≡ true → ⊥) → HostTakesUp e (c ∷ more) f left
    → HostTakesUp e ((c ∷ more) ++ t) f (left ++ t)
longer_none c more t e f left never (inl goes) = inl (goes_longer (c ∷ more) t e f left goes)
longer_none c more t e f left never (inr starts) = absurd (never starts.1)

longer_one : (b c : Access) (more t : List Access) (e f : Engine) (left : List Access)
    → ((g : Engine) → EngineStarts b (Some c) e g → engine_may_start (engine_outcome g) ≡ true → ⊥)
    → HostTakesUp e (b ∷ c ∷ more) f left → HostTakesUp e ((b ∷ c ∷ more) ++ t) f (left ++ t)
longer_one b c more t e f left never (inl goes) = inl (goes_longer (b ∷ c ∷ more) t e f left goes)
longer_one b c more t e f left never (inr starts) =
    inr (starts.0, starts.1, starts.2, longer_none c more t starts.0 f left (never starts.0 starts.2) starts.3)

takes_longer : (w t : List Access) (e f : Engine) (left : List Access) → 3 ≤ length w → HostTakesUp e w f left
    → HostTakesUp e (w ++ t) f (left ++ t)
takes_longer [] t e f left many takes = absurd (omega (arith, many))
takes_longer (a ∷ []) t e f left many takes = absurd (omega (arith, many))
takes_longer (a ∷ b ∷ []) t e f left many takes = absurd (omega (arith, many))
takes_longer (a ∷ b ∷ c ∷ more) t e f left many (inl goes) = inl (goes_longer (a ∷ b ∷ c ∷ more) t e f left goes)
takes_longer (a ∷ b ∷ c ∷ more) t e f left many (inr starts) =
    inr (
      starts.0,
      starts.1,
      starts.2,
      longer_one b c more t starts.0 f left
          (λ g gs. second_has_cue a b (Some b) (Some c) e starts.0 g starts.2 gs) starts.3,
    )

-- the same the other way round: the engine takes up the same accesses of the shorter list, at most so many
record TakesShorter (most : ℕ) (w t : List Access) (e f : Engine) (left : List Access) : Type 0 where
  pub rest : List Access
  pub is : left ≡ rest ++ t
  pub takes : HostTakesUp e w f rest
  pub few : length w ≤ length rest + most

goes_shorter : (a : Access) (w t : List Access) (e f : Engine) (left : List Access) → HostGoesOn e ((a ∷ w) ++ t) f left
    → TakesShorter 0 (a ∷ w) t e f left
goes_shorter a w t e f left goes = record {
  rest = a ∷ w;
  is = goes.all;
  takes = inl (record { cue = goes.cue; same = goes.same; all = refl });
  few = omega arith;
}

more_shorter : (n : ℕ) (w t : List Access) (e f : Engine) (left : List Access) → TakesShorter n w t e f left
    → TakesShorter (n + 1) w t e f left
more_shorter n w t e f left s =
    record { rest = s.rest; is = s.is; takes = s.takes; few = omega (arith, s.few) }

shorter_none : (c : Access) (more t : List Access) (e f : Engine) (left : List Access)
    → (engine_may_start (engine_outcome e) ≡ true → ⊥) → HostTakesUp e ((c ∷ more) ++ t) f left
    → TakesShorter 0 (c ∷ more) t e f left
shorter_none c more t e f left never (inl goes) = goes_shorter c more t e f left goes
shorter_none c more t e f left never (inr starts) = absurd (never starts.1)

shorter_one : (b c : Access) (more t : List Access) (e f : Engine) (left : List Access)
    → ((g : Engine) → EngineStarts b (Some c) e g → engine_may_start (engine_outcome g) ≡ true → ⊥)
    → HostTakesUp e ((b ∷ c ∷ more) ++ t) f left → TakesShorter 1 (b ∷ c ∷ more) t e f left
shorter_one b c more t e f left never (inl goes) =
    more_shorter 0 (b ∷ c ∷ more) t e f left (goes_shorter b (c ∷ more) t e f left goes)
shorter_one b c more t e f left never (inr starts) =
    let s = shorter_none c more t starts.0 f left (never starts.0 starts.2) starts.3 in
    record {
      rest = s.rest;
      is = s.is;
      takes = inr (starts.0, starts.1, starts.2, s.takes);
      few = omega (arith, s.few);
    }

takes_shorter : (w t : List Access) (e f : Engine) (left : List Access) → 3 ≤ length w → HostTakesUp e (w ++ t) f left
    → TakesShorter 2 w t e f left
takes_shorter [] t e f left many takes = absurd (omega (arith, many))
takes_shorter (a ∷ []) t e f left many takes = absurd (omega (arith, many))
takes_shorter (a ∷ b ∷ []) t e f left many takes = absurd (omega (arith, many))
takes_shorter (a ∷ b ∷ c ∷ more) t e f left many (inl goes) =
    more_shorter 1 (a ∷ b ∷ c ∷ more) t e f left (more_shorter 0 (a ∷ b ∷ c ∷ more) t e f left
    (goes_shorter a (b ∷ c ∷ more) t e f left goes))
takes_shorter (a ∷ b ∷ c ∷ more) t e f left many (inr starts) =
    let s = shorter_one b c more t starts.0 f left
    (λ g gs. second_has_cue a b (Some b) (Some c) e starts.0 g starts.2 gs) starts.3 in
    record {
      rest = s.rest;
      is = s.is;
      takes = inr (starts.0, starts.1, starts.2, s.takes);
      few = omega (arith, s.few);
    }

-- no transaction comes next over the longer list, either
none_longer : (e : Engine) (w t : List Access) → 5 ≤ length w → HostForeseesNone e w → HostForeseesNone e (w ++ t)
none_longer e w t many none = λ q f rest asked.
    let s = takes_shorter w t e asked.asking asked.left (omega (arith, many)) asked.takes in
    let again = subst (λ l. HostTakesUp asked.answered l f rest) s.is asked.again in
    let u = takes_shorter s.rest t asked.answered f rest (omega (arith, many, s.few)) again in
    none q f u.rest (record {
      asking = asked.asking;
      left = s.rest;
      takes = s.takes;
      asks = asked.asks;
      answered = asked.answered;
      saw = asked.saw;
      again = u.takes;
    })

-- The first accesses are enough, if there are four for each transaction and five more: each takes up at most four.
pub foresees_longer : (coming : List Coming) (room : ℕ) (e : Engine) (w t : List Access)
    → 4 * length coming + 5 ≤ length w → HostForesees room e w coming → HostForesees room e (w ++ t) coming
foresees_longer [] room e w t many (inl full) = inl full
foresees_longer [] room e w t many (inr none) = inr (none_longer e w t (omega (arith, many)) none)
foresees_longer (next ∷ coming) room e w t many so =
    let Then : List Access → Engine → Type 0 = λ rest. HostForeseesData next.word (coming ≡ [])
    (λ k. HostForesees (room - 1) k rest coming) in
    record {
      engine = so.engine;
      left = so.left ++ t;
      takes = takes_longer w t e so.engine so.left (omega (arith, many)) so.takes;
      so = λ f left takes.
          let s = takes_shorter w t e f left (omega (arith, many)) takes in
          let p = so.so f s.rest s.takes in (
            p.0,
            λ g saw.
                let u = p.1 g saw in
                let long : 3 ≤ length s.rest = omega (arith, many, s.few) in
                subst (λ l. HostTakesUpSo (λ h rest. Then rest h) g l) (sym s.is) (record {
                  engine = u.engine;
                  left = u.left ++ t;
                  takes = takes_longer s.rest t g u.engine u.left long u.takes;
                  so = λ h rest took.
                      let v = takes_shorter s.rest t g h rest long took in
                      subst (λ r. Then r h) (sym v.is) (data_map next.word (coming ≡ []) (coming ≡ [])
                      (λ k. HostForesees (room - 1) k v.rest coming)
                      (λ k. HostForesees (room - 1) k (v.rest ++ t) coming) h (λ last. last)
                      (λ k. foresees_longer coming (room - 1) k v.rest t (omega (arith, many, s.few, v.few)))
                      (u.so h v.rest v.takes));
                }),
          );
    }

over_all : (most room : ℕ) (e : Engine) (after : List Access) (coming : List Coming) → most ≤ 128
    → HostForesees most e (take 517 after) (take most coming)
    → ((leb 517 (length after) ≡ true) × (517 ≤ length after)) ⊎ ((leb 517 (length after) ≡ false)
    × (length after < 517)) → HostForesees most e after (take most coming)
over_all most room e after coming few so (inl long) =
    subst (λ l. HostForesees most e l (take most coming)) (take-append-drop 517 after)
    (foresees_longer (take most coming) most e (take 517 after) (drop 517 after)
    (omega (arith, few, length-take most coming, length-take-le 517 after long.1)) so)
over_all most room e after coming few so (inr short) =
    subst (λ l. HostForesees most e l (take most coming)) (take_all 517 after (omega (arith, short.1))) so

-- what is foreseen over the first accesses is foreseen over all
pub foresees_over_all : (most room : ℕ) (e : Engine) (after : List Access) (coming : List Coming) → most ≤ 128
    → most ≤ room → HostForesees room e (take 517 after) coming → HostForesees most e after (take most coming)
foresees_over_all most room e after coming few fits so =
    over_all most room e after coming few (foresees_fewer most room e (take 517 after) coming fits so)
    (leb_tells 517 (length after))

-- TAKING THE FIRST ACCESSES OF A LIST
-- one more access was stored
pub ahead_more : (room list : List Access) (first place : ℕ) (a : Access) → place < length room
    → slice_get list (first + place) ≡ Some a → take place room ≡ take place (drop first list)
    → take (place + 1) (set room place a) ≡ take (place + 1) (drop first list)
ahead_more room list first place a small is so =
    let within : first + place < length list = slice_get_within list (first + place) a is in
    let more : take (place + 1) (drop first list)
    ≡ take place (drop first list) ++ get_or (drop first list) place a ∷ [] =
    take_more (drop first list) place a (omega (arith, within, length-drop first list)) in
    let found : get_or (drop first list) place a ≡ a =
    get_or-drop first list place a ∙ get_or_from_slice_get list (first + place) a a is in
    take_more_set room place a small ∙ (ap (λ l. l ++ a ∷ []) so
    ∙ (ap (λ x. take place (drop first list) ++ x ∷ []) (sym found) ∙ sym more))

past_by : (list : List Access) (place : ℕ) → ((a : Access) → slice_get list place ≡ Some a → ⊥)
    → ((x : Access) × (place < length list) × (slice_get list place ≡ Some x) × (get_or list place x ≡ x))
    ⊎ ((length list ≤ place) × (slice_get list place ≡ None)) → length list ≤ place
past_by list place none (inl here) = absurd (none here.0 here.2)
past_by list place none (inr past) = past.0

-- a place at which no access stands is past the end
pub ahead_past : (list : List Access) (place : ℕ) → ((a : Access) → slice_get list place ≡ Some a → ⊥)
    → length list ≤ place
ahead_past list place none = past_by list place none (slice_get_cases list place).1

-- there is no further access
pub ahead_all : (list : List Access) (first place : ℕ) → place ≤ 517 → length list ≤ first + place
    → take place (drop first list) ≡ take 517 (drop first list)
ahead_all list first place few short =
    let all : length (drop first list) ≤ place = omega (arith, short, length-drop first list) in
    take_all place (drop first list) all ∙ sym (take_all 517 (drop first list) (omega (arith, all, few)))

-- WHAT A RUN PLANS
pub steps_foresee : (room most : ℕ) (list : List Access) (run : Run) (ahead : List Access) (found planned : List Coming)
    → run.stage ≡ Driving → ahead ≡ take 517 (drop (run.answered + 1) list) → HostForesees most run.engine ahead found
    → 128 ≤ most → planned ≡ take (min (min room 128) (length found)) found
    → SteppedForesees (min room 128) list run planned
steps_foresee room most list run ahead found planned is same so many told =
    let after : List Access = drop (run.answered + 1) list in
    let few : min room 128 ≤ 128 = omega arith in
    let all = foresees_over_all (min room 128) most run.engine after found few (omega (arith, few, many))
    (subst (λ l. HostForesees most run.engine l found) same so) in
    subst (λ x. SteppedForeseesAt x (min room 128) list run planned) (sym is)
    (subst (HostForesees (min room 128) run.engine after) (sym (told ∙ take_min (min room 128) found)) all)
