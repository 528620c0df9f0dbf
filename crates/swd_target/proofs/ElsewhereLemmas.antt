-- What a target does without a transfer, it does over every bus on which the pending one would succeed.
use Rattle.std.proofs.Common.{◌≡◌, ◌⊎◌, not, unwrap_or, inr, Bool, true, false, ℕ, Option, Some, None, List, ◌∷◌, []}
use Rattle.std.proofs.Common.{◌++◌, refl, sym, ap, subst, ◌∙◌, inl, arith, if◌then◌else◌}
use Rattle.swd_bits.specs.declared.request.Request.{Request}
use Rattle.swd_port.specs.Bus.{Bus, bus_answer, bus_succeeds, bus_transfer_of, bus_word_at}
use Rattle.swd_port.specs.declared.access.Answer.{Answer}
use Rattle.swd_port.specs.declared.access.Answer.TheVariants.{Value, Written, BusFault}
use Rattle.swd_port.specs.declared.access.Access.TheVariants.{Read, Write}
use Rattle.swd_port.specs.Port.{Target as State, port_register}
use Rattle.swd_port.specs.declared.mark.Mark.{Mark}
use Rattle.swd_port.specs.declared.register.Register.{Register}
use Rattle.swd_port.specs.declared.register.Register.TheVariants.{DrwRead, ResendRead}
use Rattle.swd_port.specs.declared.access.Transfer.{Transfer}
use Rattle.swd_port.specs.declared.state.Drw.{Drw}
use Rattle.swd_port.specs.declared.state.Drw.TheVariants.{Reads, Writes}
use Rattle.swd_port.specs.declared.state.AfterAck.{AfterAck}
use Rattle.swd_port.specs.declared.state.AfterAck.TheVariants.{Idle}
use Rattle.swd_port.specs.declared.state.Reset.{Reset}
use Rattle.swd_port.specs.declared.state.Reply.{Reply}
use Rattle.swd_port.specs.declared.state.Reply.TheVariants.{Okay, Waits, Faults, Silent}
use Rattle.swd_port.specs.Choices.{Choice, IsPortMark, is_port_deaf, is_port_wait}
use Rattle.swd_port.specs.Completion.{pending_access_at, buffer_after_pending, port_completion, pending_fails}
use Rattle.swd_port.specs.Completion.{memory_after_pending}
use Rattle.swd_port.specs.Answers.{port_answer_by, is_exempt_register, is_port_okay, is_port_unpowered}
use Rattle.swd_port.specs.Moving.{PortArrival, Arrives}
use Rattle.swd_port.specs.Asking.{port_has_power, IsPendingSettled, IsPortWordRead, port_line_after, port_phase_after}
use Rattle.swd_port.specs.Asking.{port_target_after, port_value_in}
use Rattle.swd_target.specs.declared.target.Target.{Target}
use Rattle.swd_target.specs.declared.quirks.Quirks.{Quirks}
use Rattle.swd_target.specs.Contents.{target_known_word}
use Rattle.swd_target.specs.Flips.{target_line_under}
use Rattle.swd_target.specs.Simulations.{Simulation, simulation_accepted, simulation_accepted_after, simulation_arrived}
use Rattle.swd_target.specs.Simulations.{simulation_choice, simulation_filled, simulation_is_owed}
use Rattle.swd_target.specs.Simulations.{simulation_choice_at, simulation_replied, simulation_written}
use Rattle.swd_target.specs.Simulations.{simulated_tar_after}
use Rattle.swd_target.specs.Simulations.{simulation_stepped, simulation_transferred}
use Rattle.swd_target.specs.Targets.{TargetCompletes, target_answer_at, target_choice_for, is_target_settling}
use Rattle.swd_target.specs.Targets.{target_choice_at, simulation_tar_at}
use Rattle.swd_target.specs.Targets.{target_reply_when, target_settled_when, target_simulation}
use Rattle.swd_target.specs.Targets.{target_stand_in, target_state}
use Rattle.swd_target.specs.Requests.{TargetAnswersUnder}
use Rattle.swd_target.specs.Elsewhere.{IsTargetReady, IsTargetReadyIf, TargetStays, bus_itself, target_over_device}
use Rattle.swd_target.proofs.AskLemmas.{simulated_answers_under}
use Rattle.swd_target.proofs.TargetLemmas.{simulation_at_rest, target_settling_owed, simulation_settled_at_rest}

-- a list isn't the same with one more at its end
abbrev rest : List Transfer → List Transfer
rest [] = []
rest (x ∷ xs) = xs

grows : (xs : List Transfer) (x : Transfer) → xs ++ x ∷ [] ≡ xs → ⊥
grows [] x e = cc
grows (y ∷ ys) x e = grows ys x (ap rest e)

logs_if : (b : Bool) (log : List Transfer) (x : Transfer) → not b ≡ false → (if b then log ++ x ∷ [] else log) ≡ log
    → ⊥
logs_if true log x h e = grows log x e
logs_if false log x h e = cc

-- a transfer that succeeds is logged
logs : (p : Option Drw) (at : ℕ) (m : Bus) → pending_fails p at m ≡ false
    → (memory_after_pending p at m).log ≡ m.log → p ≡ None
logs None at m h e = refl
logs (Some Reads) at m h e = absurd (logs_if (bus_succeeds (Read at) m) m.log (bus_transfer_of (Read at) m) h e)
logs (Some (Writes word)) at m h e =
    absurd (logs_if (bus_succeeds (Write at word) m) m.log (bus_transfer_of (Write at word) m) h e)

-- the address of a transfer
tar_is : (known : Bool) (word : ℕ) → unwrap_or (if known then Some word else None) word ≡ word
tar_is true word = refl
tar_is false word = refl

-- so where the log stays, none was pending
none_pending : {D : Type 0} (bus : D → Bus) (s t : Target D) → TargetCompletes bus s t → IsTargetReady (bus s.device) s
    → (bus t.device).log ≡ (bus s.device).log → s.pending ≡ None
none_pending bus s t steps ready same =
    let at = unwrap_or (target_known_word s.tar) s.tar.word in
    let here : at ≡ s.tar.word = tar_is s.tar.known s.tar.word in
    let after : bus t.device ≡ memory_after_pending s.pending at (bus s.device) =
    ap (λ (x : State). x.memory) steps.state in
    logs s.pending at (bus s.device) (ap (λ n. pending_fails s.pending n (bus s.device)) here ∙ ready)
    (ap (λ (m : Bus). m.log) (sym after) ∙ same)

-- with nothing pending no completion changes anything
state_at_rest : {D : Type 0} (bus : D → Bus) (c : Choice) (t : Target D) → t.pending ≡ None
    → port_completion c (target_state bus t) ≡ target_state bus t
state_at_rest bus c t e = grind arith

-- a completion that leaves the log unchanged, though the pending transfer would have succeeded, changes nothing
pub target_stays_if_unlogged : {D : Type 0} (bus : D → Bus) (s t : Target D) → TargetCompletes bus s t
    → IsTargetReady (bus s.device) s → (bus t.device).log ≡ (bus s.device).log → TargetStays bus s t
target_stays_if_unlogged bus s t steps ready same =
    let none = none_pending bus s t steps ready same in
    record {
      state = steps.state ∙ state_at_rest bus (target_choice_for DrwRead s) s none;
      exact = steps.exact ∙ simulation_at_rest bus s none;
    }

true_or_false : (b : Bool) → (b ≡ true) ⊎ (b ≡ false)
true_or_false true = inl refl
true_or_false false = inr refl

-- what has to settle before the reply isn't pending then
decided_by : (exempt : Bool) (waits : Bool) (r : Register) (reset : Reset) (sticky write unpowered : Bool)
    (p : Option Drw) → is_exempt_register r ≡ exempt
    → is_target_settling waits r (port_answer_by reset sticky write unpowered r) false ≡ true
    → IsPendingSettled (target_reply_when waits r (port_answer_by reset sticky write unpowered r)) r p → p ≡ None
decided_by exempt waits r reset sticky write unpowered p x e h = grind arith

decided : {D : Type 0} (bus : D → Bus) (waits : Bool) (r : Register) (ap_ : Bool) (t : Target D)
    → is_target_settling waits r (target_answer_at r ap_ (target_state bus t)) false ≡ true
    → IsPendingSettled (target_reply_when waits r (target_answer_at r ap_ (target_state bus t))) r t.pending
    → t.pending ≡ None
decided bus waits r ap_ t e h = decided_by _ waits r t.reset t.sticky_error t.write_error
    (is_port_unpowered ap_ (port_has_power (target_state bus t))) t.pending refl e h

-- whether it would fail tells where WAIT is asked for alone
settling_alike : (waits : Bool) (r : Register) (a : Reply) (failing : Bool) → (waits ≡ true → failing ≡ false)
    → is_target_settling waits r a failing ≡ is_target_settling waits r a false
settling_alike true r a failing h = ap (is_target_settling true r a) (h refl)
settling_alike false r Okay failing h = refl
settling_alike false r Waits failing h = refl
settling_alike false r Faults failing h = refl
settling_alike false r Silent failing h = refl

-- so nothing settles over another bus either
settles_over : {D : Type 0} (bus : D → Bus) (waits : Bool) (r : Register) (ap_ : Bool) (t : Target D)
    → IsTargetReadyIf waits (bus t.device) t
    → IsPendingSettled (target_reply_when waits r (target_answer_at r ap_ (target_state bus t))) r t.pending
    → target_simulation bus t ≡ target_settled_when waits r ap_ (target_simulation bus t)
settles_over bus waits r ap_ t ready settled =
    let a = target_answer_at r ap_ (target_state bus t) in
    let owes : simulation_is_owed r (target_reply_when waits r
    (target_answer_at r ap_ (simulation_transferred (target_simulation bus t)).state)) ≡ is_target_settling waits r
    a false = target_settling_owed bus waits r ap_ t ∙ settling_alike waits r a
    (pending_fails t.pending t.tar.word (bus t.device)) ready in
    elim (true_or_false (is_target_settling waits r a false)) [
      | inl e ↦ simulation_settled_at_rest bus waits r ap_ t (decided bus waits r ap_ t e settled)
      | inr e ↦ ap (λ b. if b then simulation_transferred (target_simulation bus t) else target_simulation bus t)
          (sym (owes ∙ e))
    ]

-- a reply changes no bus, and looks at none
state_over : (m : Bus) (c : Choice) (reply : Reply) (r : Register) (ap_ : Bool) (x : State)
    → record (port_target_after c reply r ap_ x) { memory = m } ≡ port_target_after c reply r ap_
    (record x { memory = m })
state_over m c Okay r ap_ x = refl
state_over m c Waits r ap_ x = refl
state_over m c Faults r ap_ x = refl
state_over m c Silent r ap_ x = refl

-- a simulated target over another bus
abbrev pub simulation_placed : Bus → Simulation → Simulation
simulation_placed m s = record s { state = record s.state { memory = m } }

exact_over : (m : Bus) (waits : Bool) (reply : Reply) (r : Register) (q : Request) (s : Simulation)
    → simulation_placed m (simulation_replied waits reply r q s)
    ≡ simulation_replied waits reply r q (simulation_placed m s)
exact_over m waits Okay r q s = refl
exact_over m waits Waits r q s = refl
exact_over m waits Faults r q s = refl
exact_over m waits Silent r q s = refl

-- nor does it change the quirks
target_reply_keeps_memory : (c : Choice) (reply : Reply) (r : Register) (ap_ : Bool) (x : State)
    → (port_target_after c reply r ap_ x).memory ≡ x.memory
target_reply_keeps_memory c Okay r ap_ x = refl
target_reply_keeps_memory c Waits r ap_ x = refl
target_reply_keeps_memory c Faults r ap_ x = refl
target_reply_keeps_memory c Silent r ap_ x = refl

quirks_if : (b : Bool) (s t : Simulation) → t.quirks ≡ s.quirks → (if b then t else s).quirks ≡ s.quirks
quirks_if true s t e = e
quirks_if false s t e = refl

-- accepting a transfer doesn't change the quirks
pub quirks_kept_by_accepting : (s : Simulation) → (simulation_accepted s).quirks ≡ s.quirks
quirks_kept_by_accepting s = quirks_if s.quirks.late (simulation_transferred s) s refl

-- a request doesn't change the quirks
pub quirks_kept_by_request : {D : Type 0} (bus : D → Bus) (waits : Bool) (reply : Reply) (r : Register) (q : Request)
    (s a b t : Target D) → target_simulation bus a ≡ target_settled_when waits r q.ap (target_simulation bus s)
    → target_simulation bus b ≡ simulation_replied waits reply r q (target_simulation bus a)
    → target_simulation bus t ≡ simulation_accepted_after reply (target_simulation bus b) → t.quirks ≡ s.quirks
quirks_kept_by_request bus waits reply r q s a b t settles after accepts =
    let first : a.quirks ≡ s.quirks = ap (λ (x : Simulation). x.quirks) settles
    ∙ quirks_if _ (target_simulation bus s) (simulation_transferred (target_simulation bus s)) refl in
    let second : b.quirks ≡ a.quirks = ap (λ (x : Simulation). x.quirks) after in
    let third : t.quirks ≡ b.quirks = ap (λ (x : Simulation). x.quirks) accepts
    ∙ quirks_if (is_port_okay reply) (target_simulation bus b) (simulation_accepted (target_simulation bus b))
    (quirks_kept_by_accepting (target_simulation bus b)) in
    third ∙ (second ∙ first)

-- up to its reply a request leaves the quirk `late` set
pub late_quirk_kept : {D : Type 0} (bus : D → Bus) (waits : Bool) (reply : Reply) (r : Register) (q : Request)
    (s a b : Target D)
    → s.quirks.late ≡ true
    → target_simulation bus a ≡ target_settled_when waits r q.ap (target_simulation bus s)
    → target_simulation bus b ≡ simulation_replied waits reply r q (target_simulation bus a)
    → b.quirks.late ≡ true
late_quirk_kept bus waits reply r q s a b late settles after =
    let first : a.quirks ≡ s.quirks = ap (λ (x : Simulation). x.quirks) settles
    ∙ quirks_if _ (target_simulation bus s) (simulation_transferred (target_simulation bus s)) refl in
    let second : b.quirks ≡ a.quirks = ap (λ (x : Simulation). x.quirks) after in
    ap (λ (x : Quirks). x.late) (second ∙ first) ∙ late

-- where a request left the log unchanged, and nothing took effect after the reply, it was unchanged before the reply
pub target_log_before_reply : {D : Type 0} (bus : D → Bus) (waits : Bool) (reply : Reply) (r : Register) (q : Request)
    (s a b t : Target D)
    → target_state bus b ≡ port_target_after (target_choice_at waits r q.addr a) reply r q.ap (target_state bus a)
    → t ≡ b → (bus t.device).log ≡ (bus s.device).log → (bus a.device).log ≡ (bus s.device).log
target_log_before_reply bus waits reply r q s a b t after last log =
    let memory : bus b.device ≡ bus a.device = ap (λ (x : State). x.memory) after
    ∙ target_reply_keeps_memory (target_choice_at waits r q.addr a) reply r q.ap (target_state bus a) in
    ap (λ (m : Bus). m.log) (sym memory) ∙ (ap (λ (x : Target _). (bus x.device).log) (sym last) ∙ log)

-- the word that stands for an unknown one is the target's own
stand_over : {D : Type 0} (m : Bus) (r : Register) (t : Target D)
    → target_stand_in r (target_over_device m t) ≡ target_stand_in r t
stand_over m ResendRead t = refl
stand_over m r t = refl

-- what is accepted takes effect later
pub late_quirk_arrival : (a : PortArrival) (s : Simulation) → s.quirks.late ≡ true
    → simulation_arrived a s ≡ simulation_written a s
late_quirk_arrival (Arrives r word) s e = rw e refl
late_quirk_arrival a s e = refl

accepts_late : (reply : Reply) (s : Simulation) → s.quirks.late ≡ true → simulation_accepted_after reply s ≡ s
accepts_late Okay s e = rw e refl
accepts_late Waits s e = refl
accepts_late Faults s e = refl
accepts_late Silent s e = refl

pub target_state_placed : {D : Type 0} (bus : D → Bus) (m : Bus) (s t : Target D) → target_state bus t
    ≡ target_state bus s
    → target_state bus_itself (target_over_device m t) ≡ target_state bus_itself (target_over_device m s)
target_state_placed bus m s t e = ap (λ (x : State). record x { memory = m }) e

pub simulation_same_placed : {D : Type 0} (bus : D → Bus) (m : Bus) (s t : Target D) → target_simulation bus t
    ≡ target_simulation bus s
    → target_simulation bus_itself (target_over_device m t) ≡ target_simulation bus_itself (target_over_device m s)
simulation_same_placed bus m s t e = ap (simulation_placed m) e

-- a request over another bus, from the parts that it has over its own
pub target_answers_elsewhere : {D : Type 0} (bus : D → Bus) (m : Bus) (mark : Mark) (waits : Bool) (q : Request)
    (s a b : Target D) (r : Register) (reply : Reply) (phase : AfterAck)
    → IsPortMark mark → is_port_deaf mark ≡ false → is_port_wait mark ≡ waits → port_register s.select q ≡ r
    → port_register a.select q ≡ r
    → TargetStays bus s a → IsTargetReadyIf waits m s → s.quirks.late ≡ true
    → reply ≡ target_reply_when waits r (target_answer_at r q.ap (target_state bus a))
    → IsPendingSettled reply r a.pending
    → IsPortWordRead reply q.read (port_value_in (target_choice_at waits r q.addr a) r (target_state bus a))
    → phase ≡ port_line_after reply (port_phase_after q.read r None
    (port_value_in (target_choice_at waits r q.addr a) r (target_state bus a))) Idle
    → phase ≡ port_line_after reply (port_phase_after q.read r None
    (port_value_in (simulation_choice_at waits r q.addr (target_simulation bus a)) r (target_simulation bus a).state))
    Idle
    → target_state bus b ≡ port_target_after (target_choice_at waits r q.addr a) reply r q.ap (target_state bus a)
    → target_simulation bus b ≡ simulation_replied waits reply r q (target_simulation bus a)
    → TargetAnswersUnder bus_itself mark q (target_over_device m s) reply (target_line_under mark phase)
    (target_over_device m b)
target_answers_elsewhere bus m mark waits q s a b r reply phase legal deaf wait named same kept ready late replies
    settled
    word lawful exact after after' =
    let pending : a.pending ≡ s.pending = ap (λ (x : State). x.pending) kept.state in
    let answers : target_answer_at r q.ap (target_state bus a) ≡ target_answer_at r q.ap (target_state bus s) =
    ap (target_answer_at r q.ap) kept.state in
    let now : IsPendingSettled (target_reply_when waits r (target_answer_at r q.ap (target_state bus s))) r s.pending =
    subst (λ (x : Reply). IsPendingSettled x r s.pending) (replies ∙ ap (target_reply_when waits r) answers)
    (subst (λ (p : Option Drw). IsPendingSettled reply r p) pending settled) in
    let quirks : b.quirks ≡ s.quirks = ap (λ (x : Simulation). x.quirks) after'
    ∙ ap (λ (x : Simulation). x.quirks) kept.exact in
    let last : simulation_accepted_after reply (target_simulation bus_itself (target_over_device m b))
    ≡ target_simulation bus_itself (target_over_device m b) = accepts_late reply
    (target_simulation bus_itself (target_over_device m b)) (ap (λ (x : Quirks). x.late) quirks ∙ late) in
    simulated_answers_under bus_itself mark waits q (target_over_device m s) (target_over_device m a)
    (target_over_device m b)
    (target_over_device m b) r reply phase legal deaf wait named same (inl (target_state_placed bus m s a kept.state))
    (simulation_same_placed bus m s a kept.exact ∙ settles_over bus_itself waits r q.ap (target_over_device m s) ready
    now)
    replies settled (subst (λ f. IsPortWordRead reply q.read
    (port_value_in (record (target_choice_at waits r q.addr a) { filler = f }) r
    (target_state bus_itself (target_over_device m a))))
    (sym (stand_over m r a)) word) (lawful ∙ ap (λ f. port_line_after reply
    (port_phase_after q.read r None (port_value_in (record (target_choice_at waits r q.addr a) { filler = f }) r
    (target_state bus_itself (target_over_device m a)))) Idle)
    (sym (stand_over m r a))) exact
    (ap (λ (x : State). record x { memory = m }) after
    ∙ state_over m (target_choice_at waits r q.addr a) reply r q.ap (target_state bus a)
    ∙ ap (λ f. port_target_after (record (target_choice_at waits r q.addr a) { filler = f }) reply r q.ap
    (target_state bus_itself (target_over_device m a))) (sym (stand_over m r a)))
    (ap (simulation_placed m) after' ∙ exact_over m waits reply r q (target_simulation bus a))
    (inl refl) (sym last)

-- the pending transfer is answered alike by two buses
abbrev pub IsTargetAnsweredAlike : Option Drw → ℕ → Bus → Bus → Type 0
IsTargetAnsweredAlike None at m n = Unit {0}
IsTargetAnsweredAlike (Some drw) at m n = bus_answer (pending_access_at at drw) m
    ≡ bus_answer (pending_access_at at drw) n

reads_alike : (b c : Bool) (v w : ℕ) → (if b then Value v else BusFault) ≡ (if c then Value w else BusFault) → b ≡ c
reads_alike true true v w e = refl
reads_alike true false v w e = cc
reads_alike false true v w e = cc
reads_alike false false v w e = refl

writes_alike : (b c : Bool) → (if b then Written else BusFault) ≡ (if c then Written else BusFault) → b ≡ c
writes_alike true true e = refl
writes_alike true false e = cc
writes_alike false true e = cc
writes_alike false false e = refl

abbrev value_in_answer : Answer → ℕ
value_in_answer (Value w) = w
value_in_answer a = 0

words_alike : (b c : Bool) (v w : ℕ) → (if b then Value v else BusFault) ≡ (if c then Value w else BusFault)
    → not b ≡ false → v ≡ w
words_alike true true v w e h = ap value_in_answer e
words_alike true false v w e h = cc
words_alike false c v w e h = cc

fails_alike : (p : Option Drw) (at : ℕ) (m n : Bus) → IsTargetAnsweredAlike p at m n
    → pending_fails p at m ≡ pending_fails p at n
fails_alike None at m n e = refl
fails_alike (Some Reads) at m n e = ap not
    (reads_alike (bus_succeeds (Read at) m) (bus_succeeds (Read at) n) (bus_word_at at m) (bus_word_at at n) e)
fails_alike (Some (Writes word)) at m n e = ap not (writes_alike (bus_succeeds (Write at word) m)
    (bus_succeeds (Write at word) n) e)

buffer_alike : (p : Option Drw) (failed : Bool) (at : ℕ) (m n : Bus) (buffer : Option ℕ)
    → pending_fails p at m ≡ failed → IsTargetAnsweredAlike p at m n
    → buffer_after_pending p failed at m buffer ≡ buffer_after_pending p failed at n buffer
buffer_alike None failed at m n buffer f e = refl
buffer_alike (Some Reads) true at m n buffer f e = refl
buffer_alike (Some Reads) false at m n buffer f e = ap Some
    (words_alike (bus_succeeds (Read at) m) (bus_succeeds (Read at) n) (bus_word_at at m) (bus_word_at at n) e f)
buffer_alike (Some (Writes word)) failed at m n buffer f e = refl

-- so it does the same over both, but for the bus
completion_alike : (c : Choice) (x : State) (m : Bus)
    → IsTargetAnsweredAlike x.pending (unwrap_or x.tar c.address) m x.memory
    → record (port_completion c x) { memory = memory_after_pending x.pending (unwrap_or x.tar c.address) m }
    ≡ port_completion c (record x { memory = m })
completion_alike c x m e =
    let at = unwrap_or x.tar c.address in
    let f : pending_fails x.pending at m ≡ pending_fails x.pending at x.memory =
    fails_alike x.pending at m x.memory e in
    let b : buffer_after_pending x.pending (pending_fails x.pending at x.memory) at m x.buffer
    ≡ buffer_after_pending x.pending (pending_fails x.pending at x.memory) at x.memory x.buffer =
    buffer_alike x.pending (pending_fails x.pending at x.memory) at m x.memory x.buffer f e in
    rw (f, b) refl

-- a completion takes the same step over a bus that gives the pending transfer the same answer
pub target_completes_elsewhere : {D : Type 0} (bus : D → Bus) (m : Bus) (s t : Target D)
    → IsTargetAnsweredAlike s.pending s.tar.word m (bus s.device) → TargetCompletes bus s t
    → TargetCompletes bus_itself (target_over_device m s)
    (target_over_device (memory_after_pending s.pending s.tar.word m) t)
target_completes_elsewhere bus m s t e steps =
    let here : unwrap_or (target_known_word s.tar) s.tar.word ≡ s.tar.word = tar_is s.tar.known s.tar.word in
    let after = memory_after_pending s.pending s.tar.word m in
    let there = completion_alike (target_choice_for DrwRead s) (target_state bus s) m
    (subst (λ at. IsTargetAnsweredAlike s.pending at m (bus s.device)) (sym here) e) in
    record {
      state = ap (λ (x : State). record x { memory = after }) steps.state
          ∙ (ap (λ at. record (port_completion (target_choice_for DrwRead s) (target_state bus s))
          { memory = memory_after_pending s.pending at m }) (sym here) ∙ there);
      exact = ap (simulation_placed after) steps.exact
          ∙ (ap (λ z. simulation_tar_at (simulated_tar_after s.pending
          (pending_fails s.pending s.tar.word (bus s.device)) s.increments s.quirks.wrap s.tar.word)
          (simulation_filled (target_simulation bus_itself (target_over_device m s)) z))
          (completion_alike (simulation_choice (target_simulation bus s)) (target_simulation bus s).state m e)
          ∙ ap (λ f. simulation_tar_at (simulated_tar_after s.pending f s.increments s.quirks.wrap s.tar.word)
          (simulation_stepped port_completion (target_simulation bus_itself (target_over_device m s))))
          (sym (fails_alike s.pending s.tar.word m (bus s.device) e)));
    }
