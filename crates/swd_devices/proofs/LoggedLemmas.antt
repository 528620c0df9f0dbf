-- What one access does to a memory and a core with a log. For `LoggedCore`.
use Rattle.std.proofs.Common.{◌≡◌, ◌∙◌, ℕ, ◌∷◌, ◌++◌, [], Bool, true, false, Option, None, ap, refl}
use Rattle.std.specs.Prelude.{if◌then◌else◌, is_some, unwrap_or}
use Rattle.swd_port.specs.declared.access.Access.{Access}
use Rattle.swd_port.specs.declared.access.Access.TheVariants.{Read, Write}
use Rattle.swd_port.specs.Bus.{bus_after}
use Rattle.swd_devices.specs.declared.core_target.CoreTarget.{CoreTarget}
use Rattle.swd_port.specs.PlainAnswers.{plain_after}
use Rattle.swd_devices.specs.Cores.{core_after_read, core_after_write, core_asks_reset, core_is_address}
use Rattle.swd_devices.specs.CoreTargets.{core_target_after, core_target_answer, core_target_reset}
use Rattle.swd_devices.specs.LoggedCores.{LoggedCoreState, core_target_parts, logged_core_after, logged_core_answer}
use Rattle.swd_devices.specs.LoggedCores.{logged_core_bus, logged_core_has_room}

-- WHATEVER ALLOCATES

if_parts : {A : Type 0} (b : Bool) (x y : CoreTarget A)
    → core_target_parts (if b then x else y) ≡ (if b then core_target_parts x else core_target_parts y)
if_parts true x y = refl
if_parts false x y = refl

-- the parts of a target answer as it does
pub logged_parts_answer : {A : Type 0} (a : Access) (s : CoreTarget A)
    → core_target_answer a s ≡ core_target_answer a (core_target_parts s)
logged_parts_answer (Read at) s = refl
logged_parts_answer (Write at word) s = refl

-- and change as it does
pub logged_parts_after : {A : Type 0} (a : Access) (s : CoreTarget A)
    → core_target_parts (core_target_after a s) ≡ core_target_after a (core_target_parts s)
logged_parts_after {A} (Read at) s =
    let first : CoreTarget A = record s { core = core_after_read at s.core } in
    let other : CoreTarget A = record s { memory = plain_after (Read at) s.memory } in
    if_parts (core_is_address at) first other
logged_parts_after {A} (Write at word) s =
    let reset : CoreTarget A = core_target_reset s in
    let wrote : CoreTarget A = record s { core = core_after_write at word s.core } in
    let other : CoreTarget A = record s { memory = plain_after (Write at word) s.memory } in
    let first : CoreTarget A = if core_asks_reset at word then reset else wrote in
    if_parts (core_is_address at) first other
    ∙ ap (λ (x : CoreTarget (Unit {0})). if core_is_address at then x else core_target_parts other)
    (if_parts (core_asks_reset at word) reset wrote)

-- AN ACCESS

-- without room for another access there is no answer
pub logged_full_answer : (a : Access) (s : LoggedCoreState) → logged_core_has_room s ≡ false
    → logged_core_answer a s ≡ None
logged_full_answer a s e = ap (λ b. if b then core_target_answer a s.target else None) e

-- and nothing changes
pub logged_full_after : (a : Access) (s : LoggedCoreState) → logged_core_has_room s ≡ false → logged_core_after a s ≡ s
logged_full_after (Read at) s e =
    ap (λ b. record s {
      target = if b then core_target_after (Read at) s.target else s.target;
      log = if is_some (if b then core_target_answer (Read at) s.target else None)
          then s.log ++ record { read = true; addr = at; word = unwrap_or (logged_core_answer (Read at) s) 0 } ∷ []
          else s.log;
    }) e
logged_full_after (Write at word) s e =
    ap (λ b. record s {
      target = if b then core_target_after (Write at word) s.target else s.target;
      log = if is_some (if b then core_target_answer (Write at word) s.target else None)
          then s.log ++ record { read = false; addr = at; word = word } ∷ [] else s.log;
    }) e

-- with room the answer is the target's
pub logged_room_answer : (a : Access) (s : LoggedCoreState) → logged_core_has_room s ≡ true
    → logged_core_answer a s ≡ core_target_answer a s.target
logged_room_answer a s e = ap (λ b. if b then core_target_answer a s.target else None) e

-- the state and the log behind a read
pub logged_read_after : (at : ℕ) (s : LoggedCoreState) (o : Option ℕ) → logged_core_has_room s ≡ true
    → core_target_answer (Read at) s.target ≡ o
    → logged_core_after (Read at) s ≡ record s {
      target = core_target_after (Read at) s.target;
      log = if is_some o then s.log ++ record { read = true; addr = at; word = unwrap_or o 0 } ∷ [] else s.log;
    }
logged_read_after at s o e f =
    ap (λ b. record s {
      target = if b then core_target_after (Read at) s.target else s.target;
      log = if is_some (if b then core_target_answer (Read at) s.target else None)
          then s.log ++ record {
            read = true;
            addr = at;
            word = unwrap_or (if b then core_target_answer (Read at) s.target else None) 0;
          } ∷ [] else s.log;
    }) e
    ∙ ap (λ (x : Option ℕ). record s {
      target = core_target_after (Read at) s.target;
      log = if is_some x then s.log ++ record { read = true; addr = at; word = unwrap_or x 0 } ∷ [] else s.log;
    }) f

-- and behind a write
pub logged_write_after : (at word : ℕ) (s : LoggedCoreState) (k : Bool) → logged_core_has_room s ≡ true
    → is_some (core_target_answer (Write at word) s.target) ≡ k
    → logged_core_after (Write at word) s ≡ record s {
      target = core_target_after (Write at word) s.target;
      log = if k then s.log ++ record { read = false; addr = at; word = word } ∷ [] else s.log;
    }
logged_write_after at word s k e f =
    ap (λ b. record s {
      target = if b then core_target_after (Write at word) s.target else s.target;
      log = if is_some (if b then core_target_answer (Write at word) s.target else None)
          then s.log ++ record { read = false; addr = at; word = word } ∷ [] else s.log;
    }) e
    ∙ ap (λ k. record s {
      target = core_target_after (Write at word) s.target;
      log = if k then s.log ++ record { read = false; addr = at; word = word } ∷ [] else s.log;
    }) f

-- the bus after an access
pub logged_bus_after : (a : Access) (s : LoggedCoreState)
    → logged_core_bus (logged_core_after a s) ≡ bus_after a (logged_core_bus s)
logged_bus_after (Read at) s = refl
logged_bus_after (Write at word) s = refl
