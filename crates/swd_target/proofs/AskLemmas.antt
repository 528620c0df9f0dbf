-- What a simulated target does at a request is a step of the port machine, and exactly the step that its quirks and
-- the mark choose.
use Rattle.std.proofs.Common.{◌≡◌, Bool, true, false, ℕ, ◌+◌, Option, None, refl, sym, ap, subst, ◌∙◌, inl, inr}
use Rattle.std.proofs.Common.{if◌then◌else◌}
use Rattle.swd_bits.specs.declared.request.Request.{Request}
use Rattle.swd_port.specs.Port.{Port, PortLink, port_idle_link, PortTally, Target as State, port_register}
use Rattle.swd_port.specs.Bus.{Bus}
use Rattle.swd_port.specs.declared.wire.Due.{Due}
use Rattle.swd_port.specs.declared.mark.Mark.{Mark}
use Rattle.swd_port.specs.declared.mark.Mark.TheVariants.{Deaf}
use Rattle.swd_port.specs.declared.register.Register.{Register}
use Rattle.swd_port.specs.declared.state.AfterAck.{AfterAck}
use Rattle.swd_port.specs.declared.state.AfterAck.TheVariants.{Idle}
use Rattle.swd_port.specs.declared.state.Reply.{Reply}
use Rattle.swd_port.specs.declared.state.Reply.TheVariants.{Okay, Waits, Faults, Silent}
use Rattle.swd_port.specs.Choices.{IsPortMark, is_port_deaf, is_port_wait, port_flip_of, port_disturbs, port_loses}
use Rattle.swd_port.specs.Choices.{Choice, IsPortChoice, PortMayBeLate}
use Rattle.swd_port.specs.Answers.{port_reply_under, port_seen_at, PortSees, port_due_after}
use Rattle.swd_port.specs.Completion.{PortCompletes}
use Rattle.swd_port.specs.Asking.{PortAsks, PortAsksNow, IsPendingSettled, IsPortWordRead, port_value_in}
use Rattle.swd_port.specs.Asking.{port_line_after, port_phase_after, port_after_reply, port_target_after}
use Rattle.swd_port.specs.Asking.{port_tally_after}
use Rattle.swd_port.specs.Moving.{PortGives, PortGivesNow, PortArrival, port_after_bits, port_arrival}
use Rattle.swd_target.specs.declared.target.Target.{Target}
use Rattle.swd_target.specs.Flips.{target_line_flipped, target_line_under}
use Rattle.swd_target.specs.Simulations.{Simulation, simulation_replied, simulation_choice_at, simulation_transferred}
use Rattle.swd_target.specs.Simulations.{simulation_accepted_after, simulation_is_owed, simulation_settled}
use Rattle.swd_target.specs.Simulations.{simulation_reply, simulation_phase, simulation_link_after, simulation_asked}
use Rattle.swd_target.specs.Targets.{target_state, target_simulation, target_choice_at, target_choice_for}
use Rattle.swd_target.specs.Targets.{target_answer_at, target_reply_when, target_settled_when}
use Rattle.swd_target.specs.Requests.{target_port_at, TargetTransfers, TargetAsksUnder, TargetAnswersUnder, DataComes}
use Rattle.swd_port.proofs.AnswerLaws.{port_sees_seen_at, port_deaf_silent}
use Rattle.swd_target.proofs.TargetLemmas.{target_choice_is_choice, target_choice_at_is_choice, target_may_be_late}
use Rattle.swd_target.proofs.TargetLemmas.{system_on_time}

-- Flip and Mute leave the reply alone
same_reply : (mark : Mark) (waits : Bool) (r : Register) (a : Reply) → is_port_deaf mark ≡ false
    → is_port_wait mark ≡ waits → port_reply_under mark r a ≡ target_reply_when waits r a
same_reply mark waits r a deaf wait = rw (deaf, wait) refl

-- the data phase under a mark, in place of another line
phase_under : (reply : Reply) (read : Bool) (r : Register) (flip : Option ℕ) (v : ℕ) (line : AfterAck)
    → port_line_after reply (target_line_flipped flip (port_line_after reply (port_phase_after read r None v) Idle))
    line ≡ port_line_after reply (port_phase_after read r flip v) line
phase_under Okay true r flip v line = refl
phase_under Okay false r flip v line = refl
phase_under Waits read r flip v line = refl
phase_under Faults read r flip v line = refl
phase_under Silent read r flip v line = refl

phase_idle : (reply : Reply) (read : Bool) (r : Register) (flip : Option ℕ) (v : ℕ)
    → target_line_flipped flip (port_line_after reply (port_phase_after read r None v) Idle) ≡ port_line_after reply
    (port_phase_after read r flip v) Idle
phase_idle Okay true r flip v = refl
phase_idle Okay false r flip v = refl
phase_idle Waits read r flip v = refl
phase_idle Faults read r flip v = refl
phase_idle Silent read r flip v = refl

-- a transfer that takes effect at a target does so in the port machine
pub simulated_target_completes : (l : PortLink) (n : PortTally) (s t : State) → TargetTransfers s t
    → PortCompletes (target_port_at l n s) (target_port_at l n t)
simulated_target_completes l n s t (inl same) = inl (ap (target_port_at l n) same)
simulated_target_completes l n s t (inr (c, legal, is)) = inr (c, legal, ap (target_port_at l n) is)

-- the reply in a state to what this is a request for
abbrev pub simulated_reply_at : Mark → Register → Request → State → Reply
simulated_reply_at mark r q s = port_reply_under mark r (target_answer_at r q.ap s)

asks_under : (l : PortLink) (n : PortTally) (s a b t : State) (mark : Mark) (r : Register) (reply : Reply) (c : Choice)
    (q : Request) (phase : AfterAck)
    → IsPortMark mark → IsPortChoice c → PortMayBeLate mark c → TargetTransfers s a → port_register a.select q ≡ r
    → simulated_reply_at mark r q a ≡ reply
    → IsPendingSettled reply r a.pending
    → IsPortWordRead reply q.read (port_value_in c r a)
    → port_line_after reply phase l.line ≡ port_line_after reply
    (port_phase_after q.read r (port_flip_of mark) (port_value_in c r a)) l.line
    → b ≡ port_target_after c reply r q.ap a → TargetTransfers b t
    → TargetAsksUnder mark (target_port_at l n s) q (port_seen_at mark reply)
    (target_port_at (simulation_link_after mark q reply phase l) (port_tally_after mark n) t)
asks_under l n s a b t mark r reply c q phase legal choice late before named replies settled word line after later =
    let k : PortLink = simulation_link_after mark q reply phase l in
    let P = λ (x : Register). IsPendingSettled (simulated_reply_at mark x q a) x a.pending in
    let V = λ (x : Register). IsPortWordRead (simulated_reply_at mark x q a) q.read
    (port_value_in c x a) in
    let S = λ (x : Register). PortSees mark (simulated_reply_at mark x q a) (port_seen_at mark reply) in
    let silent = λ (deaf : is_port_deaf mark ≡ true). sym replies ∙ port_deaf_silent mark r (target_answer_at r q.ap a)
    deaf in
    let T = λ (x : Register). target_port_at k (port_tally_after mark n) b
    ≡ port_after_reply mark (simulated_reply_at mark x q a) x q c (target_port_at l n a) in
    let whole : target_port_at k (port_tally_after mark n) b
    ≡ port_after_reply mark reply r q c (target_port_at l n a) =
    ap (target_port_at k (port_tally_after mark n)) after
    ∙ ap (λ (x : AfterAck). target_port_at (record k { line = x }) (port_tally_after mark n)
    (port_target_after c reply r q.ap a)) line in
    let now : PortAsksNow mark c (target_port_at l n a) q (port_seen_at mark reply)
    (target_port_at k (port_tally_after mark n) b) =
    record {
      legal = legal;
      choice = choice;
      late = late;
      settled = subst P (sym named) (subst (λ x. IsPendingSettled x r a.pending) (sym replies) settled);
      word = subst V (sym named)
          (subst (λ x. IsPortWordRead x q.read (port_value_in c r a)) (sym replies) word);
      sees = subst S (sym named) (subst (λ x. PortSees mark x (port_seen_at mark reply)) (sym replies)
          (port_sees_seen_at mark reply legal silent));
      after = subst T (sym named) (whole ∙ ap (λ x. port_after_reply mark x r q c (target_port_at l n a))
          (sym replies));
    } in (
      target_port_at l n a,
      target_port_at k (port_tally_after mark n) b,
      c,
      simulated_target_completes l n s a before,
      now,
      simulated_target_completes k
          (port_tally_after mark n) b t later,
    )

settled_at : (mark : Mark) (waits : Bool) (q : Request) (s : Simulation) → is_port_deaf mark ≡ false
    → is_port_wait mark ≡ waits
    → simulation_settled mark q s ≡ target_settled_when waits (port_register s.state.select q) q.ap s
settled_at mark waits q s deaf wait =
    let r = port_register s.state.select q in
    ap (λ (x : Reply). if simulation_is_owed r x then simulation_transferred s else s)
    (same_reply mark waits r (target_answer_at r q.ap (simulation_transferred s).state) deaf wait)

-- the simulated target after a reply
abbrev pub simulated_after_reply : Mark → Request → Simulation → Reply → Register → Simulation
simulated_after_reply mark q a reply r =
    simulation_accepted_after reply (simulation_replied (is_port_wait mark) reply r q a)

-- what a request is exactly, from its parts
pub record SimulatedExactly (mark : Mark) (q : Request) (s t : Simulation) (reply : Reply) (phase : AfterAck) : Type 0
  where
    pub replies : reply ≡ simulation_reply mark q s
    pub phases : phase ≡ simulation_phase mark q s
    pub exact : t ≡ simulation_asked mark q s

asks_exactly : (mark : Mark) (waits : Bool) (q : Request) (s a b t : Simulation) (r : Register) (reply : Reply)
    (phase : AfterAck)
    → is_port_deaf mark ≡ false → is_port_wait mark ≡ waits → port_register s.state.select q ≡ r
    → a ≡ target_settled_when waits r q.ap s
    → port_register a.state.select q ≡ r
    → reply ≡ target_reply_when waits r (target_answer_at r q.ap a.state)
    → phase ≡ port_line_after reply (port_phase_after q.read r None
    (port_value_in (simulation_choice_at (is_port_wait mark) r q.addr a) r a.state)) Idle
    → b ≡ simulation_replied (is_port_wait mark) reply r q a
    → t ≡ simulation_accepted_after reply b
    → SimulatedExactly mark q s t reply (target_line_under mark phase)
asks_exactly mark waits q s a b t r reply phase deaf wait named settles same replies phases after last =
    let S : simulation_settled mark q s ≡ a =
    subst (λ (x : Register). simulation_settled mark q s ≡ target_settled_when waits x q.ap s) named
    (settled_at mark waits q s deaf wait) ∙ sym settles in
    let is : reply ≡ port_reply_under mark r (target_answer_at r q.ap a.state) = replies
    ∙ sym (same_reply mark waits r (target_answer_at r q.ap a.state) deaf wait) in
    let there : reply ≡ port_reply_under mark (port_register a.state.select q)
    (target_answer_at (port_register a.state.select q) q.ap a.state) =
    subst (λ (x : Register). reply ≡ port_reply_under mark x (target_answer_at x q.ap a.state)) (sym same) is in
    let told : reply ≡ simulation_reply mark q s =
    subst (λ (x : Simulation). reply ≡ port_reply_under mark (port_register x.state.select q)
    (target_answer_at (port_register x.state.select q) q.ap x.state)) (sym S) there in
    let lines : target_line_under mark phase ≡ port_line_after reply
    (port_phase_after q.read r (port_flip_of mark)
    (port_value_in (simulation_choice_at (is_port_wait mark) r q.addr a) r
    a.state)) Idle =
    ap (target_line_under mark) phases
    ∙ phase_idle reply q.read r (port_flip_of mark)
    (port_value_in (simulation_choice_at (is_port_wait mark) r q.addr a) r
    a.state) in
    let lined : target_line_under mark phase ≡ port_line_after reply
    (port_phase_after q.read (port_register a.state.select q) (port_flip_of mark)
    (port_value_in (simulation_choice_at (is_port_wait mark) (port_register a.state.select q) q.addr a)
    (port_register a.state.select q) a.state)) Idle =
    subst (λ (x : Register). target_line_under mark phase ≡ port_line_after reply
    (port_phase_after q.read x (port_flip_of mark)
    (port_value_in (simulation_choice_at (is_port_wait mark) x q.addr a) x
    a.state)) Idle)
    (sym same) lines in
    let P = λ (x : Simulation) (y : Reply). target_line_under mark phase ≡ port_line_after y
    (port_phase_after q.read (port_register x.state.select q) (port_flip_of mark)
    (port_value_in (simulation_choice_at (is_port_wait mark) (port_register x.state.select q) q.addr x)
    (port_register x.state.select q) x.state)) Idle in
    let ended : t ≡ simulated_after_reply mark q a reply r = last ∙ ap (simulation_accepted_after reply) after in
    let there' : t ≡ simulated_after_reply mark q a reply (port_register a.state.select q) =
    subst (λ (x : Register). t ≡ simulated_after_reply mark q a reply x) (sym same) ended in
    let Q = λ (x : Simulation) (y : Reply). t ≡ simulated_after_reply mark q x y (port_register x.state.select q) in
    record {
      replies = told;
      phases = subst (λ (y : Reply). P (simulation_settled mark q s) y) told
          (subst (λ (x : Simulation). P x reply) (sym S) lined);
      exact = subst (λ (y : Reply). Q (simulation_settled mark q s) y) told
          (subst (λ (x : Simulation). Q x reply) (sym S) there');
    }

-- both, from the parts of a request: the target before it, at the reply, after the reply, and in the end
pub simulated_answers_under : {D : Type 0} (bus : D → Bus) (mark : Mark) (waits : Bool) (q : Request)
    (s a b t : Target D)
    (r : Register) (reply : Reply) (phase : AfterAck)
    → IsPortMark mark → is_port_deaf mark ≡ false → is_port_wait mark ≡ waits → port_register s.select q ≡ r
    → port_register a.select q ≡ r
    → TargetTransfers (target_state bus s) (target_state bus a)
    → target_simulation bus a ≡ target_settled_when waits r q.ap (target_simulation bus s)
    → reply ≡ target_reply_when waits r (target_answer_at r q.ap (target_state bus a))
    → IsPendingSettled reply r a.pending
    → IsPortWordRead reply q.read (port_value_in (target_choice_at waits r q.addr a) r (target_state bus a))
    → phase ≡ port_line_after reply (port_phase_after q.read r None
    (port_value_in (target_choice_at waits r q.addr a) r (target_state bus a))) Idle
    → phase ≡ port_line_after reply (port_phase_after q.read r None
    (port_value_in (simulation_choice_at waits r q.addr (target_simulation bus a)) r (target_simulation bus a).state))
    Idle
    → target_state bus b ≡ port_target_after (target_choice_at waits r q.addr a) reply r q.ap (target_state bus a)
    → target_simulation bus b ≡ simulation_replied waits reply r q (target_simulation bus a)
    → TargetTransfers (target_state bus b) (target_state bus t)
    → target_simulation bus t ≡ simulation_accepted_after reply (target_simulation bus b)
    → TargetAnswersUnder bus mark q s reply (target_line_under mark phase) t
simulated_answers_under bus mark waits q s a b t r reply phase legal deaf wait named same before settles replies
    simulation_settled word lawful exact after after' later last =
    let law = λ (l : PortLink) (n : PortTally). asks_under l n (target_state bus s) (target_state bus a)
    (target_state bus b)
    (target_state bus t) mark r reply (target_choice_at waits r q.addr a) q (target_line_under mark phase)
    legal (target_choice_at_is_choice waits r q.addr a) (target_may_be_late mark waits r q.addr a wait) before same
    (same_reply mark waits r (target_answer_at r q.ap (target_state bus a)) deaf wait ∙ sym replies) simulation_settled
    word (ap (λ (x : AfterAck). port_line_after reply (target_line_under mark x) l.line) lawful
    ∙ phase_under reply q.read r (port_flip_of mark)
    (port_value_in (target_choice_at waits r q.addr a) r (target_state bus a)) l.line) after later in
    let x = asks_exactly mark waits q (target_simulation bus s) (target_simulation bus a) (target_simulation bus b)
    (target_simulation bus t) r reply phase deaf wait named settles same replies (exact ∙ ap (λ w. port_line_after reply
    (port_phase_after q.read r None
    (port_value_in (simulation_choice_at w r q.addr (target_simulation bus a)) r (target_simulation bus a).state)) Idle)
    (sym wait))
    (after' ∙ ap (λ w. simulation_replied w reply r q (target_simulation bus a)) (sym wait))
    last in
    record { step = law; replies = x.replies; phases = x.phases; exact = x.exact }

-- a request that the target doesn't see
pub simulated_answers_deaf : {D : Type 0} (bus : D → Bus) (q : Request) (s : Target D)
    → TargetAnswersUnder bus Deaf q s Silent Idle s
simulated_answers_deaf bus q s =
    let r = port_register s.select q in
    let law = λ (l : PortLink) (n : PortTally). asks_under l n (target_state bus s) (target_state bus s)
    (target_state bus s)
    (target_state bus s) Deaf r Silent (target_choice_for r s) q Idle
    tt (target_choice_is_choice r s) (λ e. (refl, system_on_time false s.debug_up refl)) (inl refl) refl refl tt tt
    refl refl (inl refl) in
    record { step = law; replies = refl; phases = refl; exact = refl }

-- a request keeps the law of the wire
pub simulated_asks_lawful : (mark : Mark) (s : Port) (q : Request) (seen : ℕ) (t : Port)
    → TargetAsksUnder mark s q seen t → PortAsks s q seen t
simulated_asks_lawful mark s q seen t (a, b, c, before, now, later) =
    (a, a, b, mark, c, before, inl refl, now, later)

-- the same for a bench, from what it has after the request
pub bench_asks_lawful : {D : Type 0} (bus : D → Bus) (mark : Mark) (q : Request) (s t : Target D) (reply : Reply)
    (phase : AfterAck)
    (l : PortLink) (n : PortTally) (due : Due) (line : AfterAck) (asked disturbed lost seen : ℕ)
    → TargetAnswersUnder bus mark q s reply phase t → seen ≡ port_seen_at mark reply → due ≡ port_due_after q.read seen
    → line ≡ port_line_after reply phase l.line
    → asked ≡ n.asked + 1 → disturbed ≡ n.disturbed + port_disturbs mark → lost ≡ n.lost + port_loses mark
    → TargetAsksUnder mark (target_port_at l n (target_state bus s)) q seen
    (target_port_at (record { due = due; line = line }) (record { asked = asked; disturbed = disturbed; lost = lost })
    (target_state bus t))
bench_asks_lawful bus mark q s t reply phase l n due line asked disturbed lost seen answers sees dues lines a d o =
    rw (lines, dues, a, d, o, sees) (answers.step l n)

-- the data of a write keeps it
pub simulated_gives_lawful : {D : Type 0} (bus : D → Bus) (a : PortArrival) (l : PortLink) (n : PortTally)
    (s t : Target D) (sent : ℕ)
    → port_arrival l.line sent ≡ a → DataComes bus a s t
    → PortGives (target_port_at l n (target_state bus s)) sent (target_port_at port_idle_link n (target_state bus t))
simulated_gives_lawful bus a l n s t sent is comes =
    let now = λ (x : PortArrival). PortGivesNow (target_port_at l n (target_state bus s)) sent
    (target_port_at port_idle_link n (port_after_bits false x (target_state bus s))) in (
      target_port_at l n (target_state bus s),
      target_port_at port_idle_link n (port_after_bits false a (target_state bus s)),
      inl refl,
      subst now is
          (record { refuses = false; after = refl }),
      simulated_target_completes port_idle_link n (port_after_bits false a (target_state bus s)) (target_state bus t)
          comes.later,
    )
