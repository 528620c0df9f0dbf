-- The calls that were made of a wire, one part after the other.
use Rattle.swd_host.proofs.Words.{◌++◌, ◌∷◌, [], List, sym, subst, Engine}
use Rattle.std.proofs.lemmas.List.{append_assoc}
use Rattle.swd_port.specs.declared.call.Call.{Call}
use Rattle.swd_host.specs.Calls.{EngineTurns}
use Rattle.swd_host.specs.Sent.{HostCalls}

-- calls, and those after them
pub engine_turns_trans : (e f g : Engine) (early late : List Call) → EngineTurns e early f → EngineTurns f late g
    → EngineTurns e (late ++ early) g
engine_turns_trans e f g early [] h i = subst (λ x. EngineTurns e early x) (sym i) h
engine_turns_trans e f g early (call ∷ late) h (x, i, turned) = (x, engine_turns_trans e f x early late h i, turned)

-- no call was made
pub host_calls_none : {W : Type 0} (notes : List Call → W → Type 0) (P : List Call → Type 0) (w : W) → P []
    → HostCalls notes P w w
host_calls_none notes P w h calls noted = ([], noted, h)

-- calls were made, and others after them
pub host_calls_append : {W : Type 0} (notes : List Call → W → Type 0) (P Q R : List Call → Type 0) (u v w : W)
    → ((early late : List Call) → P early → Q late → R (late ++ early)) → HostCalls notes P u v → HostCalls notes Q v w
    → HostCalls notes R u w
host_calls_append notes P Q R u v w joins h i calls noted =
    let first = h calls noted in
    let second = i (first.0 ++ calls) first.1 in (
      second.0 ++ first.0,
      subst (λ l. notes l w) (sym (append_assoc second.0 first.0 calls)) second.1,
      joins first.0 second.0 first.2 second.2,
    )

-- what holds of the calls, by what follows of it
pub host_calls_weaken : {W : Type 0} (notes : List Call → W → Type 0) (P Q : List Call → Type 0) (v w : W)
    → ((calls : List Call) → P calls → Q calls) → HostCalls notes P v w → HostCalls notes Q v w
host_calls_weaken notes P Q v w to h calls noted = let made = h calls noted in (made.0, made.1, to made.0 made.2)
