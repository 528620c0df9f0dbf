-- The answer of a target that a world describes, and what it leaves.
use Rattle.std.proofs.Common.{◌≡◌, Bool, true, false, refl, sym, ap, subst, ◌∙◌, ◌⊎◌, inl, inr}
use Rattle.std.specs.Prelude.{Option, Some, None, is_some, if◌then◌else◌, ◌||◌, not}
use Rattle.swd_bits.specs.declared.request.Request.{Request}
use Rattle.swd_bits.specs.declared.request.Reg4.{Reg4}
use Rattle.swd_bits.specs.declared.request.Reg4.TheVariants.{R0, R4, R8, RC}
use Rattle.swd_port.specs.declared.register.Register.{Register}
use Rattle.swd_port.specs.declared.state.Reset.{Reset}
use Rattle.swd_port.specs.declared.state.Reply.{Reply}
use Rattle.swd_port.specs.declared.state.Reply.TheVariants.{Okay, Faults, Silent}
use Rattle.swd_port.specs.Port.{Target, port_register, port_register_where}
use Rattle.swd_port.specs.Choices.{Choice}
use Rattle.swd_port.specs.Answers.{is_exempt_register, port_answer_by}
use Rattle.swd_port.specs.Answers.{port_is_answered, is_port_unpowered}
use Rattle.swd_port.specs.Asking.{port_answer, port_has_power, port_after_fault, debug_up_after}
use Rattle.swd_port.specs.Asking.{is_access_port_register}
use Rattle.swd_observer.proofs.StepLemmas.{observed_first_clear, observed_ap_power}
use Rattle.swd_checker.specs.Worlds.{World, Transfer, world_success_of, world_succeeded, world_failed, world_confirmed}
use Rattle.swd_checker.specs.Worlds.{world_after_fault}
use Rattle.swd_checker.specs.Described.{IsWorldNow, WorldDescribes, now, done, failed}
use Rattle.swd_checker.specs.Steps.{world_register, world_due, WorldAccepts}
use Rattle.swd_checker.proofs.DescribedLemmas.{checked_power_there, world_at_fault}
use Rattle.swd_checker.proofs.DescribedLemmas.{world_fault_now, world_success_pends_nothing}
use Rattle.swd_checker.proofs.OkayLemmas.{world_at_okay}

-- REGISTERS
named_by : (s m : Bool) (d b : Bool) (q : Request) → s ≡ m → d ≡ b
    → port_register_where s d q.ap q.read q.addr ≡ port_register_where m b q.ap q.read q.addr
named_by s m d b q e f = ap (λ x. port_register_where x d q.ap q.read q.addr) e
    ∙ ap (λ x. port_register_where m x q.ap q.read q.addr) f

-- and names the same registers
pub register_now : (w : World) (x : Target) (q : Request) → IsWorldNow w x
    → port_register x.select q ≡ world_register w q
register_now w x q h = named_by _ _ _ _ q h.mem_ap h.bank0

-- the register stays the same once the transfer succeeded
pub register_success : (w : World) (pending : Option Transfer) (q : Request)
    → world_register (world_success_of pending w) q ≡ world_register w q
register_success w None q = refl
register_success w (Some transfer) q = refl

-- a request names the same register in a world and in the targets that it describes
pub world_names : (w : World) (x : Target) (q : Request) → WorldDescribes w x
    → port_register x.select q ≡ world_register w q
world_names w x q (now h) = register_now w x q h
world_names w x q (done pends h) = register_now (world_succeeded w) x q h ∙ register_success w w.pending q
world_names w x q (failed pends h) = register_now (world_failed w) x q h

access_by : (ap m b read : Bool) (addr : Reg4)
    → is_access_port_register (port_register_where m b ap read addr) ≡ ap
access_by true true b true R0 = refl
access_by true true b true R4 = refl
access_by true true b true R8 = refl
access_by true true b true RC = refl
access_by true true b false R0 = refl
access_by true true b false R4 = refl
access_by true true b false R8 = refl
access_by true true b false RC = refl
access_by true false b true addr = refl
access_by true false b false addr = refl
access_by false m b true R0 = refl
access_by false m b false R0 = refl
access_by false m true true R4 = refl
access_by false m false true R4 = refl
access_by false m true false R4 = refl
access_by false m false false R4 = refl
access_by false m b true R8 = refl
access_by false m b false R8 = refl
access_by false m b true RC = refl
access_by false m b false RC = refl

-- a request of an access port names one of its registers
pub checked_register_access : (w : World) (q : Request) → is_access_port_register (world_register w q) ≡ q.ap
checked_register_access w q = access_by q.ap w.mem_ap w.bank0 q.read q.addr

-- ANSWERS
answer_same : (a b : Reset) (s t v w u p : Bool) (r n : Register) → a ≡ b → s ≡ t → v ≡ w → u ≡ p → r ≡ n
    → port_answer_by a s v u r ≡ port_answer_by b t w p n
answer_same a b s t v w u p r n e f g h k = rw (e, f, g, h, k) refl

-- a target answers what its world is due to
pub due_now : (w : World) (x : Target) (q : Request) → IsWorldNow w x → port_answer x q ≡ world_due w q
due_now w x q h = answer_same _ _ _ _ _ _ _ _ _ _ h.reset h.sticky_error h.write_error
    (ap (is_port_unpowered q.ap) (checked_power_there w.debug x.debug_power x.debug_up h.debug)) (register_now w x q h)

-- and so does the answer
pub due_success : (w : World) (pending : Option Transfer) (q : Request)
    → world_due (world_success_of pending w) q ≡ world_due w q
due_success w None q = refl
due_success w (Some transfer) q = refl

-- the answer by whether a request is answered, exempt, and a flag is set
abbrev pub by_flags : Bool → Bool → Bool → Reply
by_flags answered exempt flagged =
    if not answered then Silent else if exempt then Okay else if flagged then Faults else Okay

-- what is answered OK is answered
pub checked_answered_by : (a b f : Bool) → by_flags a b f ≡ Okay → a ≡ true
checked_answered_by true b f e = refl
checked_answered_by false b f e = absurd (cc)

-- OK to a request that isn't exempt: no flag is set
pub checked_clear_by : (a b f : Bool) → by_flags a b f ≡ Okay → b ≡ false → f ≡ false
checked_clear_by a b false e g = refl
checked_clear_by false b true e g = absurd (cc)
checked_clear_by true true true e g = absurd (cc)
checked_clear_by true false true e g = absurd (cc)

failed_okay : (a b f : Bool) → by_flags a b true ≡ Okay → by_flags a b f ≡ Okay
failed_okay false b f e = absurd (cc)
failed_okay true true f e = refl
failed_okay true false f e = absurd (cc)

failed_fault : (a b f : Bool) → by_flags a b true ≡ Faults
    → (by_flags a b f ≡ Faults) ⊎ ((by_flags a b f ≡ Okay) × (b ≡ false))
failed_fault false b f e = absurd (cc)
failed_fault true true f e = absurd (cc)
failed_fault true false true e = inl refl
failed_fault true false false e = inr (refl, refl)

-- where a target answers OK, a world that describes it is due to
pub world_due_okay : (w : World) (x : Target) (q : Request) → WorldDescribes w x → port_answer x q ≡ Okay
    → world_due w q ≡ Okay
world_due_okay w x q (now h) e = sym (due_now w x q h) ∙ e
world_due_okay w x q (done pends h) e = sym (due_success w w.pending q) ∙ sym (due_now (world_succeeded w) x q h) ∙ e
world_due_okay w x q (failed pends h) e = failed_okay (port_is_answered w.reset (world_register w q))
    (is_exempt_register (world_register w q)) _ (sym (due_now (world_failed w) x q h) ∙ e)

failed_silent : (a b f : Bool) → by_flags a b true ≡ Silent → by_flags a b f ≡ Silent
failed_silent false b f e = refl
failed_silent true true f e = absurd (cc)
failed_silent true false f e = absurd (cc)

-- where a target answers nothing, a world that describes it is due to answer nothing
pub world_due_silent : (w : World) (x : Target) (q : Request) → WorldDescribes w x → port_answer x q ≡ Silent
    → world_due w q ≡ Silent
world_due_silent w x q (now h) e = sym (due_now w x q h) ∙ e
world_due_silent w x q (done pends h) e = sym (due_success w w.pending q) ∙ sym (due_now (world_succeeded w) x q h) ∙ e
world_due_silent w x q (failed pends h) e = failed_silent (port_is_answered w.reset (world_register w q))
    (is_exempt_register (world_register w q)) _ (sym (due_now (world_failed w) x q h) ∙ e)

-- OK to a request that can be refused: no flag was set
pub world_okay_clear : (w : World) (x : Target) (q : Request) → WorldDescribes w x → port_answer x q ≡ Okay
    → is_exempt_register (world_register w q) ≡ false
    → (x.sticky_error || x.write_error || is_port_unpowered q.ap (port_has_power x)) ≡ false
world_okay_clear w x q h e plain = checked_clear_by (port_is_answered x.reset (port_register x.select q))
    (is_exempt_register (port_register x.select q)) _ e (ap is_exempt_register (world_names w x q h) ∙ plain)

confirmed_as : (w : World) (x : Target) (c : Choice) (r : Register) (b : Bool) → is_access_port_register r ≡ b
    → IsWorldNow (world_confirmed (is_access_port_register r) w)
    (record x { debug_up = debug_up_after c.debug_late r x.debug_up })
    → IsWorldNow (world_confirmed b w) (record x { debug_up = debug_up_after c.debug_late r x.debug_up })
confirmed_as w x c r b e h = subst (λ a. IsWorldNow (world_confirmed a w)
    (record x { debug_up = debug_up_after c.debug_late r x.debug_up })) e h

-- the world once OK was answered: to a request that is never refused,
pub world_accepts_exempt : (w : World) (r : Register) (c : Choice) (x : Target) → is_exempt_register r ≡ true
    → WorldDescribes w x → WorldAccepts w r c x
world_accepts_exempt w r c x exempt h = record {
  exempt = λ e. h;
  confirmed = λ e. absurd (let g : true ≡ false = sym exempt ∙ e in cc);
  settled = λ e. absurd (let g : true ≡ false = sym exempt ∙ e in cc);
}

-- and to another
pub world_accepts : (w : World) (q : Request) (c : Choice) (x : Target)
    → is_exempt_register (world_register w q) ≡ false → x.pending ≡ None → WorldDescribes w x
    → port_answer x q ≡ Okay → WorldAccepts (world_confirmed q.ap w) (world_register w q) c x
world_accepts w q c x plain none h okay =
    let clear : (x.sticky_error || x.write_error || is_port_unpowered q.ap (port_has_power x)) ≡ false =
    world_okay_clear w x q h okay plain in
    record {
      exempt = λ e. absurd (let g : true ≡ false = sym e ∙ plain in cc);
      confirmed = λ e. confirmed_as w x c (world_register w q) q.ap (checked_register_access w q)
          (world_at_okay w (world_register w q) c.debug_late x plain none
          (observed_first_clear x.sticky_error x.write_error (is_port_unpowered q.ap (port_has_power x)) clear)
          (λ access. observed_ap_power q x clear (sym (checked_register_access w q) ∙ access)) h);
      settled = λ e. world_success_pends_nothing w.pending w refl;
    }

-- FAULT: the world that it leaves, and where that is allowed
abbrev pub WorldRefuses : World → Request → Target → Type 0
WorldRefuses w q x = ((world_due w q ≡ Faults)
    × WorldDescribes (world_after_fault (world_register w q) q.ap (world_succeeded w))
    (port_after_fault (world_register w q) q.ap x))
    ⊎ ((is_some w.pending ≡ true)
    × ((world_due w q ≡ Faults) ⊎ ((world_due w q ≡ Okay) × (is_exempt_register (world_register w q) ≡ false)))
    × WorldDescribes (world_after_fault (world_register w q) q.ap (world_failed w))
    (port_after_fault (world_register w q) q.ap x))

refuses_due : (w : World) (q : Request) (x : Target) → x.pending ≡ None → WorldDescribes w x → world_due w q ≡ Faults
    → WorldRefuses w q x
refuses_due w q x none h due = elim (world_at_fault w (world_register w q) q.ap x none h) as (λ _. WorldRefuses w q x) [
  | inl after ↦ inl (due, now after)
  | inr after ↦ inr (after.0, inl due, now after.1)
]

-- a target that answers FAULT
pub world_refuses : (w : World) (q : Request) (x : Target) → x.pending ≡ None → WorldDescribes w x
    → port_answer x q ≡ Faults → WorldRefuses w q x
world_refuses w q x none (now h) e = refuses_due w q x none (now h) (sym (due_now w x q h) ∙ e)
world_refuses w q x none (done pends h) e = refuses_due w q x none (done pends h)
    (sym (due_success w w.pending q) ∙ sym (due_now (world_succeeded w) x q h) ∙ e)
world_refuses w q x none (failed pends h) e = inr (
  pends,
  failed_fault (port_is_answered w.reset (world_register w q)) (is_exempt_register (world_register w q)) _
      (sym (due_now (world_failed w) x q h) ∙ e),
  now (world_fault_now (world_failed w) (world_register w q) q.ap x h),
)

-- and not where nothing is due
pub world_never_faults : (w : World) (x : Target) (q : Request) → x.pending ≡ None → WorldDescribes w x
    → port_answer x q ≡ Faults → world_due w q ≡ Silent → ⊥
world_never_faults w x q none h e silent = elim (world_refuses w q x none h e) as (λ _. ⊥) [
  | inl k ↦ absurd (let f : Silent ≡ Faults = sym silent ∙ k.0 in cc)
  | inr k ↦ elim k.1 as (λ _. ⊥) [
    | inl f ↦ absurd (let g : Silent ≡ Faults = sym silent ∙ f in cc)
    | inr f ↦ absurd (let g : Silent ≡ Okay = sym silent ∙ f.0 in cc)
  ]
]
