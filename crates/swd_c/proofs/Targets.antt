-- A clocked target over the bus of its caller.
use Rattle.std.proofs.Common.{◌≡◌, not, Bool, true, false, ℕ, Option, Some, None, refl, sym, ap, ◌∙◌}
use Rattle.swd_port.specs.PlainMemory.{PlainMemory, plain_address}
use Rattle.swd_port.specs.PlainAnswers.{succeeds_at}
use Rattle.swd_port.specs.Completion.{memory_after_pending, pending_access_at, pending_fails}
use Rattle.swd_port.specs.Bus.{Bus, bus_after, bus_answer, bus_succeeds}
use Rattle.swd_port.specs.PlainBus.{bus_of}
use Rattle.swd_port.specs.declared.access.Access.{Access}
use Rattle.swd_port.specs.declared.access.Access.TheVariants.{Read, Write}
use Rattle.swd_port.specs.declared.access.Answer.{Answer}
use Rattle.swd_port.specs.declared.access.Answer.TheVariants.{BusFault}
use Rattle.swd_port.specs.declared.state.Drw.{Drw}
use Rattle.swd_port.specs.declared.state.Drw.TheVariants.{Reads, Writes}
use Rattle.swd_target.specs.Elsewhere.{IsTargetReady}
use Rattle.swd_target.specs.Fields.{target_pending_fields}
use Rattle.swd_target.specs.MemoryWords.{target_window}
use Rattle.swd_target.proofs.ElsewhereLemmas.{IsTargetAnsweredAlike}
use Rattle.swd_target.proofs.WordLemmas.{window-ready}
use Rattle.swd_clocked.specs.declared.clocked.Clocked.{Clocked}
use Rattle.swd_clocked.specs.declared.fields.ClockedFields.{ClockedFields}
use Rattle.swd_clocked.specs.Clocks.{clocked_device, clocked_over}
use Rattle.swd_c.specs.Targets.{CApiTargetAnswered, CApiCallerIsReady, CApiHasNoTarget, CApiNumbers}
use Rattle.swd_c.specs.Targets.{c_api_pending_access}
use Rattle.swd_c.specs.Targets.{c_api_ready_memory, c_api_wanted_access}

-- the same numbers over another device
pub c_api_fields_elsewhere : {D E : Type 0} (e : E) (fields : ClockedFields) (c : Clocked D) → CApiNumbers fields c
    → CApiNumbers fields (clocked_over e c)
c_api_fields_elsewhere e fields c n = record { has = n.has; late = n.late; unidentified = n.unidentified }

-- numbers that a target has over a memory aren't those of no target
pub c_api_is_over_a_bus : (fields : ClockedFields) (c : Clocked PlainMemory) → CApiNumbers fields c
    → CApiHasNoTarget fields → ⊥
c_api_is_over_a_bus fields c n none =
    let bus = bus_of c.target.device in
    none (clocked_over bus c) (c_api_fields_elsewhere bus fields c n)

-- the transfer that is pending in a target
abbrev pub c_api_access_of_drw : Option Drw → ℕ → Option Access
c_api_access_of_drw None at = None
c_api_access_of_drw (Some drw) at = Some (pending_access_at at drw)

access_numbered : (p : Option Drw) (at : ℕ)
    → c_api_pending_access (target_pending_fields p) at ≡ c_api_access_of_drw p at
access_numbered None at = refl
access_numbered (Some Reads) at = refl
access_numbered (Some (Writes word)) at = refl

-- is the one that its numbers tell
pub c_api_wanted_is_pending : {D : Type 0} (fields : ClockedFields) (c : Clocked D) → CApiNumbers fields c
    → c_api_wanted_access fields ≡ c_api_access_of_drw c.target.pending c.target.tar.word
c_api_wanted_is_pending fields c n = ap c_api_wanted_access (sym n.has) ∙ access_numbered c.target.pending
    c.target.tar.word

-- where its numbers tell none, none is pending
none_of : (p : Option Drw) (at : ℕ) → c_api_access_of_drw p at ≡ None → p ≡ None
none_of None at e = refl
none_of (Some drw) at e = cc

-- where a target's numbers show no pending transfer, none is pending
pub c_api_none_wanted_pending : {D : Type 0} (fields : ClockedFields) (c : Clocked D) → CApiNumbers fields c
    → c_api_wanted_access fields ≡ None → c.target.pending ≡ None
c_api_none_wanted_pending fields c n e = none_of c.target.pending c.target.tar.word
    (sym (c_api_wanted_is_pending fields c n) ∙ e)

tar_is : {D : Type 0} (fields : ClockedFields) (c : Clocked D) → CApiNumbers fields c
    → c.target.tar.word ≡ fields.target.tar.word
tar_is fields c n = ap (λ (f : ClockedFields). f.target.tar.word) n.has

succeeds_by : (a : Access) (m : PlainMemory) (b : Bool) → succeeds_at (plain_address a) m ≡ b
    → bus_succeeds a (bus_of m) ≡ b
succeeds_by (Read at) m true e = rw e refl
succeeds_by (Write at word) m true e = rw e refl
succeeds_by (Read at) m false e = rw e refl
succeeds_by (Write at word) m false e = rw e refl

-- the transfer succeeds at a bus that is ready for it
ready_by : (p : Option Drw) (at : ℕ) (b : Bus)
    → ((a : Access) → c_api_access_of_drw p at ≡ Some a → bus_succeeds a b ≡ true) → pending_fails p at b ≡ false
ready_by None at b h = refl
ready_by (Some Reads) at b h = ap not (h (Read at) refl)
ready_by (Some (Writes word)) at b h = ap not (h (Write at word) refl)

ready_window : (p : Option Drw) (at word : ℕ) → pending_fails p at (bus_of (target_window at (Some word))) ≡ false
ready_window None at word = refl
ready_window (Some Reads) at word =
    ap not (succeeds_by (Read at) (target_window at (Some word)) true (window-ready at word))
ready_window (Some (Writes w)) at word =
    ap not (succeeds_by (Write at w) (target_window at (Some word)) true (window-ready at word))

-- a word at TAR is ready
pub c_api_word_at_tar_is_ready : (fields : ClockedFields) (c : Clocked PlainMemory) → CApiNumbers fields c
    → clocked_device c ≡ c_api_ready_memory fields → IsTargetReady (bus_of c.target.device) c.target
c_api_word_at_tar_is_ready fields c n e =
    let at = c.target.tar.word in
    let here : c.target.device ≡ target_window at (Some 0) =
    e ∙ ap (λ k. target_window k (Some 0)) (sym (tar_is fields c n)) in
    ap (λ (m : PlainMemory). pending_fails c.target.pending at (bus_of m)) here ∙ ready_window c.target.pending at 0

-- and so is what the caller has ready
pub c_api_caller_word_is_ready : {D : Type 0} (fields : ClockedFields) (c : Clocked D) (b : Bus) → CApiNumbers fields c
    → CApiCallerIsReady fields b → IsTargetReady b c.target
c_api_caller_word_is_ready fields c b n h =
    ready_by c.target.pending c.target.tar.word b (λ a e. h a (c_api_wanted_is_pending fields c n ∙ e))

abbrev access_or : Option Access → Access
access_or None = Read 0
access_or (Some a) = a

abbrev answer_or : Option Answer → Answer
answer_or None = BusFault
answer_or (Some a) = a

alike_by : (p : Option Drw) (at : ℕ) (m n : Bus) (a x : Access) → c_api_access_of_drw p at ≡ Some a
    → c_api_access_of_drw p at ≡ Some x
    → bus_answer a m ≡ bus_answer x n → IsTargetAnsweredAlike p at m n
alike_by None at m n a x e f h = tt
alike_by (Some drw) at m n a x e f h =
    ap (λ b. bus_answer b m) (ap access_or e) ∙ (h ∙ ap (λ b. bus_answer b n) (sym (ap access_or f)))

-- what came of the pending transfer is what comes of it over a memory that answers so
pub c_api_buses_are_alike : (fields : ClockedFields) (c : Clocked PlainMemory) (kind word : ℕ) (a x : Access)
    (b : Bus) (m : PlainMemory) → CApiNumbers fields c → clocked_device c ≡ m
    → CApiTargetAnswered fields kind word a b → CApiTargetAnswered fields kind word x (bus_of m)
    → IsTargetAnsweredAlike c.target.pending c.target.tar.word b (bus_of c.target.device)
c_api_buses_are_alike fields c kind word a x b m has here told found =
    let wants = c_api_wanted_is_pending fields c has in
    let answers : bus_answer a b ≡ bus_answer x (bus_of c.target.device) =
    ap answer_or (sym told.answer ∙ found.answer)
    ∙ ap (λ (n : PlainMemory). bus_answer x (bus_of n)) (sym here) in
    alike_by c.target.pending c.target.tar.word b (bus_of c.target.device) a x (sym wants ∙ told.access)
    (sym wants ∙ found.access) answers

after_by : (p : Option Drw) (at : ℕ) (b : Bus) (a : Access) → c_api_access_of_drw p at ≡ Some a
    → memory_after_pending p at b ≡ bus_after a b
after_by None at b a e = cc
after_by (Some drw) at b a e = ap (λ x. bus_after x b) (ap access_or e)

-- the bus, once the pending transfer took effect, is that after the access that was answered in its place
pub c_api_bus_after_answer : {D : Type 0} (fields : ClockedFields) (c : Clocked D) (kind word : ℕ) (a : Access)
    (b : Bus) → CApiNumbers fields c → CApiTargetAnswered fields kind word a b
    → memory_after_pending c.target.pending c.target.tar.word b ≡ bus_after a b
c_api_bus_after_answer fields c kind word a b has told = after_by c.target.pending c.target.tar.word b a
    (sym (c_api_wanted_is_pending fields c has) ∙ told.access)
