-- Laws of every call, whatever the state: what is due after it, and the numbers.
use Rattle.std.proofs.Common.{true}
use Rattle.std.proofs.Common.{◌≡◌, ◌≢◌, ◌+◌, ◌≤◌, ℕ, false, refl, sym, ap, subst, inl, inr, arith, ◌∙◌}
use Rattle.std.specs.Prelude.{◌==◌}
use Rattle.swd_bits.specs.declared.ack.Ack.{Ack}
use Rattle.swd_bits.specs.declared.ack.Ack.TheVariants.{Ok as AckOk, Wait as AckWait, Fault as AckFault}
use Rattle.swd_bits.specs.Bits.{low_bits, bits_number}
use Rattle.swd_bits.specs.Acks.{bits_of_ack}
use Rattle.swd_bits.proofs.BitsLemmas.{number-low_bits}
use Rattle.swd_port.specs.declared.wire.Due.TheVariants.{Nothing}
use Rattle.swd_port.specs.Port.{Port}
use Rattle.swd_port.specs.Choices.{Mark, Clean, Wait, Flip, Deaf, Mute, Choice, port_disturbs, port_loses}
use Rattle.swd_bits.specs.declared.request.Request.{Request}
use Rattle.swd_port.specs.Answers.{Reply, port_ack_driven, port_seen_at, port_due_after}
use Rattle.swd_port.specs.Completion.{PortCompletes}
use Rattle.swd_port.specs.Moves.{PortKept, PortAround}
use Rattle.swd_port.specs.Outcomes.{PortSteady}
use Rattle.swd_port.specs.Asking.{PortAsks, PortAsksNow, port_reply, port_tally_after}
use Rattle.swd_port.specs.Asking.{PortKeepsOrGivesUp, port_without_write}
use Rattle.swd_port.specs.declared.cue.Cue.TheVariants.{Lead, Ask, Take, Give, Pass}
use Rattle.swd_port.specs.Leading.{PortLeadsNow}
use Rattle.swd_port.specs.Moving.{PortTakesNow, PortGivesNow, PortPassesNow}
use Rattle.swd_port.specs.Laws.Calls.{PortDueAfterStep, PortAckSeen, PortNoAckSeen, PortAsked, PortRequestCounted}
use Rattle.swd_port.specs.Laws.Calls.{PortOthersUncounted, PortIdentificationKept, port_with_asked, PortCountedApart}
use Rattle.swd_port.proofs.CompletionLaws.{port_kept}
use Rattle.swd_port.proofs.AnswerLaws.{port_due_lost, port_due_after_no_ack, port_due_after_muted}
use Rattle.swd_port.proofs.RequestLaws.{port_steady}

-- acknowledgements by their numbers
ack_bits : (a : Ack) → low_bits 3 (bits_number (bits_of_ack a)) ≡ bits_of_ack a
unfolding low_bits
ack_bits AckOk = refl
ack_bits AckWait = refl
ack_bits AckFault = refl

-- three bits are an acknowledgement exactly if their number is its number: 1 for OK, 2 for WAIT, 4 for FAULT
pub port_ack_seen : PortAckSeen
port_ack_seen seen a range =
    (λ e. sym (ap bits_number e ∙ number-low_bits 3 seen range), λ e. sym (ap (low_bits 3) e ∙ ack_bits a))

differs : (seen n : ℕ) → seen ≢ n → (seen == n) ≡ false
differs seen n other = grind arith

-- a request that isn't lost shows what is driven
plain_seen : (mark : Mark) (reply : Reply) → port_loses mark ≡ 0 → port_seen_at mark reply ≡ port_ack_driven reply
plain_seen mark reply h = grind arith

plain_due : (mark : Mark) (c : Choice) (q : Request) (seen : ℕ) (s t : Port) → PortAsksNow mark c s q seen t
    → port_seen_at mark (port_reply mark s.target q) ≡ port_ack_driven (port_reply mark s.target q)
    → seen ≡ port_ack_driven (port_reply mark s.target q) → t.link.due ≡ port_due_after q.read seen
plain_due mark c q seen s t now same sees =
    ap (λ p. p.link.due) now.after ∙ ap (port_due_after q.read) (same ∙ sym sees)

-- three bits that are none of these have another number than 1, 2 and 4, and only a line reset is due after them
pub port_no_ack_seen : PortNoAckSeen
port_no_ack_seen seen read range none =
    let not_okay : (seen == 1) ≡ false = differs seen 1
    (λ e. none AckOk ((port_ack_seen seen AckOk range).1 e)) in
    let not_wait : (seen == 2) ≡ false = differs seen 2
    (λ e. none AckWait ((port_ack_seen seen AckWait range).1 e)) in
    let not_fault : (seen == 4) ≡ false = differs seen 4
    (λ e. none AckFault ((port_ack_seen seen AckFault range).1 e)) in (
      record { not_okay = not_okay; not_wait = not_wait; not_fault = not_fault },
      port_due_lost read seen not_okay not_wait
          not_fault,
    )

due_now : (mark : Mark) (c : Choice) (q : Request) (seen : ℕ) (s t : Port) → PortAsksNow mark c s q seen t
    → t.link.due ≡ port_due_after q.read seen
due_now Clean c q seen s t now = plain_due Clean c q seen s t now (plain_seen Clean _ refl) now.sees
due_now Wait c q seen s t now = plain_due Wait c q seen s t now (plain_seen Wait _ refl) now.sees
due_now (Flip place) c q seen s t now = plain_due (Flip place) c q seen s t now (plain_seen (Flip place) _ refl)
    now.sees
due_now Deaf c q seen s t now = ap (λ p. p.link.due) now.after ∙ sym (port_due_after_no_ack q.read seen now.sees)
due_now (Mute place) c q seen s t now = ap (λ p. p.link.due) now.after
    ∙ (port_due_after_muted place (port_reply (Mute place) s.target q) q.read now.legal ∙ sym
    (port_due_after_no_ack q.read seen now.sees))

due_after_request : (q : Request) (seen : ℕ) (s t : Port) → PortAsks s q seen t
    → t.link.due ≡ port_due_after q.read seen
due_after_request q seen s t (a, d, b, mark, c, first, kept, now, last) =
    let k : PortKept b t = port_kept b t last in
    ap (λ l. l.due) k.link ∙ due_now mark c q seen d b now

-- nothing is due after a step that leaves it so
due_stays : (b t : Port) → b.link.due ≡ Nothing → PortCompletes b t → t.link.due ≡ Nothing
due_stays b t e last = let k : PortKept b t = port_kept b t last in ap (λ l. l.due) k.link ∙ e

-- what is due after a call follows from its cue and from what was seen
pub port_due_after_step : PortDueAfterStep
port_due_after_step (Lead ones undriven switch zeros) seen s t h = due_stays h.1 t (ap (λ p. p.link.due) h.3.after) h.4
port_due_after_step (Ask q) seen s t h = due_after_request q seen s t h
port_due_after_step Take seen s t h = due_stays h.1 t (ap (λ p. p.link.due) h.3.after) h.4
port_due_after_step (Give sent) seen s t h = due_stays h.1 t (ap (λ p. p.link.due) h.3.after) h.4
port_due_after_step Pass seen s t h = due_stays h.1 t (ap (λ p. p.link.due) h.3.after) h.4

-- the numbers over a step and its completions
counted_around : (s a b t : Port) → PortCompletes s a → b.tally ≡ a.tally → PortCompletes b t → t.tally ≡ s.tally
counted_around s a b t first u last = let k : PortKept s a = port_kept s a first in
    let l : PortKept b t = port_kept b t last in l.tally
    ∙ u ∙ k.tally

-- a call that isn't a request changes none of the three counts
pub port_others_uncounted : PortOthersUncounted
port_others_uncounted (Lead ones undriven switch zeros) seen s t other h =
    counted_around s h.0 h.1 t h.2 (ap (λ p. p.tally) h.3.after) h.4
port_others_uncounted (Ask q) seen s t other h = grind arith
port_others_uncounted Take seen s t other h = counted_around s h.0 h.1 t h.2 (ap (λ p. p.tally) h.3.after) h.4
port_others_uncounted (Give sent) seen s t other h = counted_around s h.0 h.1 t h.2 (ap (λ p. p.tally) h.3.after) h.4
port_others_uncounted Pass seen s t other h = counted_around s h.0 h.1 t h.2 (ap (λ p. p.tally) h.3.after) h.4

-- what DPIDR gives over a step and its completions
identified_around : (s a b t : Port) → PortCompletes s a → b.target.identification ≡ a.target.identification
    → PortCompletes b t → t.target.identification ≡ s.target.identification
identified_around s a b t first u last = let k : PortKept s a = port_kept s a first in
    let l : PortKept b t = port_kept b t last in
    l.identification ∙ u ∙ k.identification

one_disturbed : (mark : Mark) → port_disturbs mark ≤ 1
one_disturbed Clean = omega arith
one_disturbed Wait = omega arith
one_disturbed (Flip place) = omega arith
one_disturbed Deaf = omega arith
one_disturbed (Mute place) = omega arith

one_lost : (mark : Mark) → port_loses mark ≤ 1
one_lost Clean = omega arith
one_lost Wait = omega arith
one_lost (Flip place) = omega arith
one_lost Deaf = omega arith
one_lost (Mute place) = omega arith

grows : (a b n : ℕ) → b ≡ a + n → a ≤ b
grows a b n e = omega arith

grows_one : (a b n : ℕ) → b ≡ a + n → n ≤ 1 → b ≤ a + 1
grows_one a b n e h = omega arith

grows_on : (a b d n : ℕ) → b ≡ d + n → a ≤ d → a ≤ b
grows_on a b d n e h = omega arith

grows_two : (a b d n : ℕ) → b ≡ d + n → n ≤ 1 → d ≤ a + 1 → b ≤ a + 2
grows_two a b d n e h m = omega arith

-- what is kept where a pending write is given up
record GivenUpKeeps (s t : Port) : Type 0 where
  asked : t.tally.asked ≡ s.tally.asked
  lost : t.tally.lost ≡ s.tally.lost
  disturbed_least : s.tally.disturbed ≤ t.tally.disturbed
  disturbed_most : t.tally.disturbed ≤ s.tally.disturbed + 1
  write_error : s.target.write_error ≡ true → t.target.write_error ≡ true
  debug_power : t.target.debug_power ≡ s.target.debug_power
  system_power : t.target.system_power ≡ s.target.system_power
  debug_up : t.target.debug_up ≡ s.target.debug_up
  system_up : t.target.system_up ≡ s.target.system_up
  select : t.target.select ≡ s.target.select
  increments : t.target.increments ≡ s.target.increments
  identification : t.target.identification ≡ s.target.identification

given_up_same : (s : Port) → GivenUpKeeps s s
given_up_same s = record {
  asked = refl;
  lost = refl;
  disturbed_least = omega arith;
  disturbed_most = omega arith;
  write_error = λ e. e;
  debug_power = refl;
  system_power = refl;
  debug_up = refl;
  system_up = refl;
  select = refl;
  increments = refl;
  identification = refl;
}

given_up_done : (s : Port) → GivenUpKeeps s (port_without_write s)
given_up_done s = record {
  asked = refl;
  lost = refl;
  disturbed_least = omega arith;
  disturbed_most = omega arith;
  write_error = λ e. refl;
  debug_power = refl;
  system_power = refl;
  debug_up = refl;
  system_up = refl;
  select = refl;
  increments = refl;
  identification = refl;
}

given_up_keeps : (mark : Mark) (q : Request) (s t : Port) → PortKeepsOrGivesUp mark q s t → GivenUpKeeps s t
given_up_keeps mark q s t (inl e) = subst (GivenUpKeeps s) (sym e) (given_up_same s)
given_up_keeps mark q s t (inr g) = subst (GivenUpKeeps s) (sym g.after) (given_up_done s)

-- A request raises the count of requests by one, that of lost ones by at most one, and that of disturbances by at most
-- two. WDATAERR stays set; the power requests, SELECT, CSW, the identification, and power seen as acknowledged are
-- unchanged.
pub port_request_counted : PortRequestCounted
port_request_counted q seen s t (a, d, b, mark, c, first, kept, now, last) =
    let k : PortKept s a = port_kept s a first in let l : PortKept b t = port_kept b t last in
    let g : GivenUpKeeps a d = given_up_keeps mark q a d kept in
    let n : t.tally ≡ port_tally_after mark d.tally = l.tally ∙ ap (λ p. p.tally) now.after in
    let least : s.tally.disturbed ≤ d.tally.disturbed =
    subst (λ i. i.disturbed ≤ d.tally.disturbed) k.tally g.disturbed_least in
    let most : d.tally.disturbed ≤ s.tally.disturbed + 1 =
    subst (λ i. d.tally.disturbed ≤ i.disturbed + 1) k.tally g.disturbed_most in
    let lost : t.tally.lost ≡ s.tally.lost + port_loses mark =
    ap (λ n. n.lost) n ∙ ap (λ n. n + port_loses mark) (g.lost ∙ ap (λ i. i.lost) k.tally) in
    let y : PortSteady d.target b.target = port_steady _ _ _ q.ap d.target b.target (ap (λ p. p.target) now.after) in
    record {
      asked = ap (λ n. n.asked) n ∙ ap (λ n. n + 1) (g.asked ∙ ap (λ i. i.asked) k.tally);
      disturbed_least = grows_on _ _ _ _ (ap (λ n. n.disturbed) n) least;
      disturbed_most = grows_two _ _ _ _ (ap (λ n. n.disturbed) n) (one_disturbed mark) most;
      lost_least = grows _ _ _ lost;
      lost_most = grows_one _ _ _ lost (one_lost mark);
      write_error = λ e. l.write_error ∙ y.write_error ∙ g.write_error (k.write_error ∙ e);
      debug_power = l.debug_power ∙ y.debug_power ∙ g.debug_power ∙ k.debug_power;
      system_power = l.system_power ∙ y.system_power ∙ g.system_power ∙ k.system_power;
      debug_seen = λ e. l.debug_up ∙ y.debug_seen (g.debug_up ∙ k.debug_up ∙ e);
      system_seen = λ e. l.system_up ∙ y.system_seen (g.system_up ∙ k.system_up ∙ e);
      select = l.select ∙ y.select ∙ g.select ∙ k.select;
      increments = l.increments ∙ y.increments ∙ g.increments ∙ k.increments;
      identification = l.identification ∙ y.identification ∙ g.identification ∙ k.identification;
    }

-- no call changes the word that DPIDR returns
pub port_identification_kept : PortIdentificationKept
port_identification_kept (Lead ones undriven switch zeros) seen s t h =
    identified_around s h.0 h.1 t h.2 (ap (λ p. p.target.identification) h.3.after) h.4
port_identification_kept (Ask q) seen s t h = let c : PortAsked s t = port_request_counted q seen s t h in
    c.identification
port_identification_kept Take seen s t h =
    identified_around s h.0 h.1 t h.2 (ap (λ p. p.target.identification) h.3.after) h.4
port_identification_kept (Give sent) seen s t h =
    identified_around s h.0 h.1 t h.2 (ap (λ p. p.target.identification) h.3.after) h.4
port_identification_kept Pass seen s t h =
    identified_around s h.0 h.1 t h.2 (ap (λ p. p.target.identification) h.3.after) h.4

-- another number of requests
completed_apart : (n : ℕ) (s t : Port) → PortCompletes s t → PortCompletes (port_with_asked n s) (port_with_asked n t)
completed_apart n s t (inl e) = inl (ap (port_with_asked n) e)
completed_apart n s t (inr (c, fits, e)) = inr (c, fits, ap (port_with_asked n) e)

-- a step that doesn't count, and its completions
moved_apart : (Step : Port → Port → Type 0) (n : ℕ) (s t : Port)
    → ((a b : Port) → Step a b → Step (port_with_asked n a) (port_with_asked n b)) → PortAround Step s t
    → PortAround Step (port_with_asked n s) (port_with_asked (n + 0) t)
moved_apart Step n s t apart h =
    subst (λ m. PortAround Step (port_with_asked n s) (port_with_asked m t)) (omega arith) (
      port_with_asked n h.0,
      port_with_asked n h.1,
      completed_apart n s h.0 h.2,
      apart h.0 h.1 h.3,
      completed_apart n h.1 t h.4,
    )

given_up_apart : (n : ℕ) (mark : Mark) (q : Request) (s t : Port) → PortKeepsOrGivesUp mark q s t
    → PortKeepsOrGivesUp mark q (port_with_asked n s) (port_with_asked n t)
given_up_apart n mark q s t (inl e) = inl (ap (port_with_asked n) e)
given_up_apart n mark q s t (inr g) = inr (record {
  exempt = g.exempt;
  seen = g.seen;
  write = g.write;
  after = ap (port_with_asked n) g.after;
})

-- a step stays one if another number replaces the count of requests; a request still raises it by one, and no other
-- call does
pub port_counted_apart : PortCountedApart
port_counted_apart n (Lead ones undriven switch zeros) seen s t h =
    moved_apart (λ a b. PortLeadsNow a ones b) n s t (λ a b now. record { after = ap (port_with_asked n) now.after }) h
port_counted_apart n (Ask q) seen s t h = (
  port_with_asked n h.0,
  port_with_asked n h.1,
  port_with_asked (n + 1) h.2,
  h.3,
  h.4,
  completed_apart n s h.0 h.5,
  given_up_apart n h.3 q h.0 h.1 h.6,
  record {
    legal = h.7.legal;
    choice = h.7.choice;
    late = h.7.late;
    settled = h.7.settled;
    word = h.7.word;
    sees = h.7.sees;
    after = ap (port_with_asked (n + 1)) h.7.after;
  },
  completed_apart (n + 1) h.2 t h.8,
)
port_counted_apart n Take seen s t h =
    moved_apart (λ a b. PortTakesNow a seen b) n s t
    (λ a b now. record { gets = now.gets; after = ap (port_with_asked n) now.after }) h
port_counted_apart n (Give sent) seen s t h =
    moved_apart (λ a b. PortGivesNow a sent b) n s t
    (λ a b now. record { refuses = now.refuses; after = ap (port_with_asked n) now.after }) h
port_counted_apart n Pass seen s t h =
    moved_apart PortPassesNow n s t (λ a b now. record { after = ap (port_with_asked n) now.after }) h
