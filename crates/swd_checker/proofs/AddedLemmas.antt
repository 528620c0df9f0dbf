-- What the worlds that a step adds hold, from what each added world describes.
use Rattle.std.proofs.Common.{◌≡◌, ℕ, Bool, true, false, refl, sym, ap, subst, ◌∙◌}
use Rattle.std.proofs.Common.{inl, inr}
use Rattle.std.specs.Prelude.{None, is_some}
use Rattle.swd_port.specs.declared.state.Reply.TheVariants.{Okay, Faults}
use Rattle.swd_port.specs.declared.register.Register.TheVariants.{AbortWrite}
use Rattle.swd_port.specs.Registers.{register_bit}
use Rattle.swd_port.specs.Moving.{Arrives, port_after_bits}
use Rattle.swd_port.specs.Port.{Target}
use Rattle.swd_port.specs.Choices.{Choice}
use Rattle.swd_port.specs.Answers.{is_exempt_register}
use Rattle.swd_port.specs.Asking.{port_answer, port_after_wait, port_after_fault}
use Rattle.swd_checker.specs.declared.step.Asked.{Asked}
use Rattle.swd_checker.specs.declared.worlds.Worlds.{Worlds}
use Rattle.swd_checker.specs.Worlds.{World, world_succeeded, world_failed, world_after_fault, world_after_wait}
use Rattle.swd_checker.specs.Worlds.{world_confirmed}
use Rattle.swd_checker.specs.Described.{WorldDescribes}
use Rattle.swd_checker.specs.Holding.{WorldsHold, WorldsKeep}
use Rattle.swd_checker.specs.Steps.{WorldAccepts, world_due, world_register, world_cleared}
use Rattle.swd_checker.specs.Asking.{IsAskedBy}
use Rattle.swd_checker.proofs.DescribedLemmas.{world_success_awaits, world_at_wait}
use Rattle.swd_checker.proofs.DueLemmas.{world_refuses, world_due_okay, world_accepts_exempt, world_accepts}
use Rattle.swd_checker.proofs.HoldingLemmas.{worlds_hold_as}
use Rattle.swd_checker.proofs.ReadLemmas.{world_accepts_awaiting}
use Rattle.swd_checker.proofs.WriteLemmas.{world_at_abort}

-- an added world
abbrev pub WorldIsAdded : World → Worlds → Type 0
WorldIsAdded w v = (x : Target) → WorldDescribes w x → WorldsHold v w.awaits x

-- FAULT: the pending transfer succeeded, or failed
pub refuse_holds : (asked : Asked) (x : Target) (done failed : World) (v now : Worlds) (refused may : Bool)
    → IsAskedBy asked → WorldDescribes asked.world x → x.pending ≡ None → port_answer x asked.request ≡ Faults
    → (world_due asked.world asked.request ≡ Faults → refused ≡ true)
    → (is_some asked.world.pending ≡ true → world_due asked.world asked.request ≡ Faults → may ≡ true)
    → (is_some asked.world.pending ≡ true → world_due asked.world asked.request ≡ Okay
    → is_exempt_register asked.register ≡ false → may ≡ true)
    → done ≡ world_after_fault asked.register asked.request.ap (world_succeeded asked.world)
    → failed ≡ world_after_fault asked.register asked.request.ap (world_failed asked.world)
    → (refused ≡ true → WorldIsAdded done v) → WorldsKeep v now → (may ≡ true → WorldIsAdded failed now)
    → WorldsHold now asked.world.awaits (port_after_fault asked.register asked.request.ap x)
refuse_holds asked x done failed v now refused may is d none e due faults okay first second adds keeps then =
    let w = asked.world in let q = asked.request in
    subst (λ r. WorldsHold now w.awaits (port_after_fault r q.ap x)) (sym is.register)
    (elim (world_refuses w q x none d e)
    as (λ _. WorldsHold now w.awaits (port_after_fault (world_register w q) q.ap x)) [
      | inl h ↦ keeps.each _ _ (worlds_hold_as v done
          (world_after_fault (world_register w q) q.ap (world_succeeded w)) w.awaits
          (port_after_fault (world_register w q) q.ap x) (adds (due h.0))
          (first ∙ ap (λ r. world_after_fault r q.ap (world_succeeded w)) is.register)
          (world_success_awaits w w.pending) h.1)
      | inr h ↦ worlds_hold_as now failed (world_after_fault (world_register w q) q.ap (world_failed w)) w.awaits
          (port_after_fault (world_register w q) q.ap x)
          (then (elim h.1 as (λ _. may ≡ true) [
            | inl f ↦ faults h.0 f
            | inr f ↦ okay h.0 f.0 (ap is_exempt_register is.register ∙ f.1)
          ]))
          (second ∙ ap (λ r. world_after_fault r q.ap (world_failed w)) is.register) refl h.2
    ])

-- WAIT
pub defer_holds : (asked : Asked) (x : Target) (after : World) (now : Worlds) (may : Bool) → IsAskedBy asked
    → WorldDescribes asked.world x → port_answer x asked.request ≡ Okay → is_exempt_register asked.register ≡ false
    → (world_due asked.world asked.request ≡ Okay → is_exempt_register asked.register ≡ false → may ≡ true)
    → after ≡ world_after_wait asked.register asked.world → (may ≡ true → WorldIsAdded after now)
    → WorldsHold now asked.world.awaits (port_after_wait asked.register x)
defer_holds asked x after now may is d okay plain waits same adds =
    worlds_hold_as now after (world_after_wait asked.register asked.world) asked.world.awaits
    (port_after_wait asked.register x)
    (adds (waits (world_due_okay asked.world x asked.request d okay) plain)) same refl
    (world_at_wait asked.world asked.register x d)

-- OK
-- after OK to one that can't
pub accepted_exempt : (asked : Asked) (w : World) (awaits : Bool) (c : Choice) (x : Target) → w ≡ asked.world
    → is_exempt_register asked.register ≡ true → WorldDescribes asked.world x
    → WorldAccepts (record w { awaits = awaits }) asked.register c x
accepted_exempt asked w awaits c x same exempt d =
    subst (λ v. WorldAccepts (record v { awaits = awaits }) asked.register c x) (sym same)
    (world_accepts_awaiting asked.world awaits asked.register c x
    (world_accepts_exempt asked.world asked.register c x exempt d))

-- after OK to a request that can be refused
pub accepted_confirmed : (asked : Asked) (w : World) (awaits : Bool) (c : Choice) (x : Target) → IsAskedBy asked
    → w ≡ world_confirmed asked.request.ap asked.world → is_exempt_register asked.register ≡ false
    → WorldDescribes asked.world x → (is_exempt_register asked.register ≡ false → x.pending ≡ None)
    → port_answer x asked.request ≡ Okay → WorldAccepts (record w { awaits = awaits }) asked.register c x
accepted_confirmed asked w awaits c x is same plain d none okay =
    subst (λ v. WorldAccepts (record v { awaits = awaits }) asked.register c x) (sym same)
    (world_accepts_awaiting (world_confirmed asked.request.ap asked.world) awaits asked.register c x
    (subst (λ r. WorldAccepts (world_confirmed asked.request.ap asked.world) r c x) (sym is.register)
    (world_accepts asked.world asked.request c x (sym (ap is_exempt_register is.register) ∙ plain) (none plain) d
    okay)))

-- ABORT
pub abort_holds : (w u failed : World) (word : ℕ) (both : Bool) (v last : Worlds) (refuses : Bool) (x : Target)
    → WorldDescribes w x → u ≡ world_cleared word w → failed ≡ world_cleared word (world_failed w)
    → (is_some w.pending ≡ true → register_bit 2 word ≡ true → both ≡ true) → WorldIsAdded u v → WorldsKeep v last
    → (both ≡ true → WorldIsAdded failed last)
    → WorldsHold last w.awaits (port_after_bits refuses (Arrives AbortWrite word) x)
abort_holds w u failed word both v last refuses x d first second when adds keeps then =
    elim (world_at_abort w word refuses x d)
    as (λ _. WorldsHold last w.awaits (port_after_bits refuses (Arrives AbortWrite word) x)) [
      | inl h ↦ keeps.each _ _ (worlds_hold_as v u (world_cleared word w) w.awaits _ adds first refl h)
      | inr h ↦ worlds_hold_as last failed (world_cleared word (world_failed w)) w.awaits _ (then (when h.0 h.1)) second
          refl h.2
    ]
