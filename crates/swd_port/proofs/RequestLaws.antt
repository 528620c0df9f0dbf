-- Laws of requests: what each answer leaves, whatever the mark.
use Rattle.std.proofs.Common.{◌≡◌, ◌≢◌, ◌+◌, ◌<◌, ◌≤◌, ◌^◌, ℕ, Bool, true, false, refl, sym, ap, subst, inl, inr, arith}
use Rattle.std.proofs.Common.{◌∙◌}
use Rattle.std.specs.Prelude.{Option, Some, None, ◌⊎◌, ◌||◌, ◌&&◌, if◌then◌else◌}
use Rattle.swd_bits.specs.declared.request.Request.{Request}
use Rattle.swd_port.specs.declared.wire.Due.TheVariants.{Lost}
use Rattle.swd_port.specs.Bus.{Bus}
use Rattle.swd_port.specs.declared.access.Access.{Access}
use Rattle.swd_port.specs.Port.{Port, Target, PowerUp, Seen, Register, DpidrRead, DrwRead, ApOtherRead, Drw}
use Rattle.swd_port.specs.Port.{Reset, Unreset, Live}
use Rattle.swd_port.specs.Port.{port_register}
use Rattle.swd_port.specs.Choices.{Mark, Clean, Wait, Flip, Deaf, Mute, IsPortMark, Choice, IsPortChoice, PortMayBeLate}
use Rattle.swd_port.specs.Choices.{is_port_wait}
use Rattle.swd_port.specs.Choices.{is_port_deaf, port_flip_of, port_disturbs}
use Rattle.swd_port.specs.Answers.{Reply, Okay, Waits, Faults, Silent, is_exempt_register, is_port_power_there}
use Rattle.swd_port.specs.Answers.{is_port_unpowered, port_seen_at, PortSees, IsPortNoAck, port_due_after}
use Rattle.swd_port.specs.Asking.{PortAsksNow, port_after_reply, port_reply, IsPendingSettled, IsPortWordRead}
use Rattle.swd_port.specs.Asking.{port_value_in, port_has_power, power_up_after, debug_up_after, stickyerr_once_read}
use Rattle.swd_port.specs.Asking.{pending_drw_once_read, port_after_okay}
use Rattle.swd_port.specs.Asking.{port_target_after}
use Rattle.swd_port.specs.Outcomes.{PortSteady, PortUnmoved, PortIgnores, PortDefers, PortRefuses, PortAccepts}
use Rattle.swd_port.specs.Outcomes.{PortHeard, PortOkaySeen, PortFaultSeen, PortNoneSeen, PortOkayOrLost}
use Rattle.swd_port.specs.Outcomes.{PortOkayWaitOrLost, PortFaultOrLost, okay, wait, lost, fault}
use Rattle.swd_port.specs.Completion.{PortCompletes}
use Rattle.swd_port.specs.Moves.{PortAround, PortKept}
use Rattle.swd_port.proofs.GivingUpLaws.{asks_kept_plain, asks_kept_at_rest}
use Rattle.swd_port.specs.Transfers.{PortSent}
use Rattle.swd_port.specs.Laws.Requests.{PortFreeOrFault, PortLeftByLost, PortExemptRequest, PortExemptAtRest}
use Rattle.swd_port.specs.Laws.Requests.{PortIdentificationRead, PortIdentificationAtRest, PortFlaggedRequest}
use Rattle.swd_port.specs.Laws.Requests.{PortFlaggedAtRest, PortUnpoweredAtRest, PortFreeRequest, PortFreeAtRest}
use Rattle.swd_port.specs.Laws.Requests.{PortFreeExact, PortLostRequest, PortRefusedWithPower, PortUnmovedByExempt}
use Rattle.swd_port.specs.Laws.Requests.{PortUnmovedByFree, PortUnmovedByRefused, PortConfirms, confirms_okay}
use Rattle.swd_port.specs.Laws.Requests.{confirms_wait, confirms_fault, confirms_lost, PortConfirmingRequest}
use Rattle.swd_port.proofs.AnswerLaws.{port_due_after_muted}
use Rattle.swd_port.proofs.CompletionLaws.{port_kept, no_pending_same, port_sent_stays, port_sent_succeeds}
use Rattle.swd_port.proofs.CompletionLaws.{port_sent_fails}

-- the request with its reply and its register as variables
pub record PortReplied (mark : Mark) (c : Choice) (reply : Reply) (r : Register) (s : Port) (q : Request) (seen : ℕ)
    (t : Port) : Type 0 where
  pub legal : IsPortMark mark
  pub choice : IsPortChoice c
  pub settled : IsPendingSettled reply r s.target.pending
  pub late : PortMayBeLate mark c
  pub word : IsPortWordRead reply q.read (port_value_in c r s.target)
  pub sees : PortSees mark reply seen
  pub after : t ≡ port_after_reply mark reply r q c s

-- a request's step, stated over a reply and a register that are known to be its own
pub port_replied : (mark : Mark) (c : Choice) (reply : Reply) (r : Register) (s : Port) (q : Request) (seen : ℕ)
    (t : Port) → port_reply mark s.target q ≡ reply → port_register s.target.select q ≡ r
    → PortAsksNow mark c s q seen t → PortReplied mark c reply r s q seen t
port_replied mark c reply r s q seen t is named h =
    subst (λ x. PortReplied mark c x r s q seen t) is
    (subst (λ y. PortReplied mark c (port_reply mark s.target q) y s q seen t) named (record {
      legal = h.legal;
      choice = h.choice;
      late = h.late;
      settled = h.settled;
      word = h.word;
      sees = h.sees;
      after = h.after;
    }))

seen_stays : (late : Bool) (r : Register) (u : PowerUp) → u ≡ Seen → power_up_after late r u ≡ Seen
seen_stays late r u e = grind arith

debug_seen_stays : (late : Bool) (r : Register) (u : PowerUp) → u ≡ Seen → debug_up_after late r u ≡ Seen
debug_seen_stays late r u e = grind arith

same_steady : (x : Target) → PortSteady x x
same_steady x = record {
  write_error = refl;
  debug_power = refl;
  system_power = refl;
  debug_seen = λ e. e;
  system_seen = λ e. e;
  select = refl;
  increments = refl;
  tar = refl;
  identification = refl;
  memory = refl;
}

-- whatever is answered to a request, it leaves these registers and the memory as they were
pub port_steady_after : (c : Choice) (reply : Reply) (r : Register) (ap : Bool) (x : Target)
    → PortSteady x (port_target_after c reply r ap x)
port_steady_after c Okay r ap x = record {
  write_error = refl;
  debug_power = refl;
  system_power = refl;
  debug_seen = debug_seen_stays c.debug_late r x.debug_up;
  system_seen = seen_stays c.system_late r x.system_up;
  select = refl;
  increments = refl;
  tar = refl;
  identification = refl;
  memory = refl;
}
port_steady_after c Waits r ap x = record {
  write_error = refl;
  debug_power = refl;
  system_power = refl;
  debug_seen = λ e. e;
  system_seen = λ e. e;
  select = refl;
  increments = refl;
  tar = refl;
  identification = refl;
  memory = refl;
}
port_steady_after c Faults r ap x = record {
  write_error = refl;
  debug_power = refl;
  system_power = refl;
  debug_seen = λ e. e;
  system_seen = λ e. e;
  select = refl;
  increments = refl;
  tar = refl;
  identification = refl;
  memory = refl;
}
port_steady_after c Silent r ap x = same_steady x

-- no reply changes the registers that are written, the identification or the memory, and power seen as acknowledged
-- stays so
pub port_steady : (c : Choice) (reply : Reply) (r : Register) (ap : Bool) (x y : Target)
    → y ≡ port_target_after c reply r ap x → PortSteady x y
port_steady c reply r ap x y e = subst (PortSteady x) (sym e) (port_steady_after c reply r ap x)

pub stickyerr_or_false : (b : Bool) → (b || false) ≡ b
stickyerr_or_false true = refl
stickyerr_or_false false = refl

-- what each reply leaves
stays : (mark : Mark) (r : Register) (q : Request) (c : Choice) (s t : Port) → t ≡ port_after_reply mark Silent r q c s
    → PortIgnores s t
stays mark r q c s t e = record { line = ap (λ p. p.link.line) e; target = ap (λ p. p.target) e }

defers : (mark : Mark) (r : Register) (q : Request) (c : Choice) (s t : Port) → t ≡ port_after_reply mark Waits r q c s
    → PortDefers r s t
defers mark r q c s t e = record { line = ap (λ p. p.link.line) e; target = ap (λ p. p.target) e }

refuses : (mark : Mark) (r : Register) (q : Request) (c : Choice) (s t : Port) → is_exempt_register r ≡ false
    → IsPendingSettled Faults r s.target.pending → t ≡ port_after_reply mark Faults r q c s → PortRefuses r q.ap s t
refuses mark r q c s t plain settled e =
    record { line = ap (λ p. p.link.line) e; target = ap (λ p. p.target) e; settled = settled plain }

word_read : (read : Bool) (value : ℕ) → IsPortWordRead Okay read value → read ≡ true → value < 2 ^ 32
word_read true value h e = h
word_read false value h e = absurd (cc)

on_time : (a b : Bool) → (a ≡ false) × (b ≡ false) → (a || b) ≡ true → ⊥
on_time a b h e = let f : a ≡ false = h.0 in let g : b ≡ false = h.1 in grind arith

-- a target that finds a power late is asked under a Wait mark
late_disturbed : (mark : Mark) (r : Register) (q : Request) (c : Choice) (s t : Port) → PortMayBeLate mark c
    → (c.debug_late || c.system_late) ≡ true → t ≡ port_after_reply mark Okay r q c s
    → (port_flip_of mark ≡ None) × (t.tally.disturbed ≡ s.tally.disturbed + 1)
late_disturbed Wait r q c s t may e after = (refl, ap (λ p. p.tally.disturbed) after)
late_disturbed Clean r q c s t may e after = absurd (on_time c.debug_late c.system_late (may refl) e)
late_disturbed (Flip place) r q c s t may e after = absurd (on_time c.debug_late c.system_late (may refl) e)
late_disturbed Deaf r q c s t may e after = absurd (on_time c.debug_late c.system_late (may refl) e)
late_disturbed (Mute place) r q c s t may e after = absurd (on_time c.debug_late c.system_late (may refl) e)

accepts : (mark : Mark) (c : Choice) (r : Register) (s : Port) (q : Request) (seen : ℕ) (t : Port)
    → (port_after_okay c r s.target).reset ≡ Live →
    PortReplied mark c Okay r s q seen t → PortAccepts r q.read (port_flip_of mark) s t
accepts mark c r s q seen t live h = record {
  target = ap (λ p. p.target) h.after;
  live = ap (λ p. p.target.reset) h.after ∙ live;
  choice = c;
  legal = h.choice;
  disturbed = λ e. late_disturbed mark r q c s t h.late e h.after;
  settled = h.settled;
  value_range = word_read q.read _ h.word;
  line = ap (λ p. p.link.line) h.after;
}

-- the numbers, by the mark
heard : (mark : Mark) (reply : Reply) (r : Register) (q : Request) (c : Choice) (s t : Port) (n : ℕ)
    → port_disturbs mark ≡ n → n ≤ 1 → t.tally.lost ≡ s.tally.lost →
    t ≡ port_after_reply mark reply r q c s → PortHeard s t
heard mark reply r q c s t n is few none e =
    let d : t.tally.disturbed ≡ s.tally.disturbed + n = ap (λ p. p.tally.disturbed) e
    ∙ ap (λ k. s.tally.disturbed + k) is in
    record {
      asked = ap (λ p. p.tally.asked) e;
      lost = none;
      disturbed_least = omega arith;
      disturbed_most = omega arith;
    }

no_loss : (a b : ℕ) → b ≡ a + 0 → b ≡ a
no_loss a b e = omega arith

-- a lost request
sees_none : (mark : Mark) (c : Choice) (reply : Reply) (r : Register) (s : Port) (q : Request) (seen : ℕ) (t : Port)
    → PortReplied mark c reply r s q seen t → IsPortNoAck seen → port_due_after q.read (port_seen_at mark reply) ≡ Lost
    → t.tally.disturbed ≡ s.tally.disturbed + 0
    → t.tally.lost ≡ s.tally.lost + 1 → PortNoneSeen seen s t
sees_none mark c reply r s q seen t h none due disturbed one = record {
  none = none;
  due = ap (λ p. p.link.due) h.after ∙ due;
  asked = ap (λ p. p.tally.asked) h.after;
  disturbed = omega arith;
  lost = one;
}

deaf_none : (c : Choice) (r : Register) (s : Port) (q : Request) (seen : ℕ) (t : Port)
    → PortReplied Deaf c Silent r s q seen t → PortNoneSeen seen s t
deaf_none c r s q seen t h = sees_none Deaf c Silent r s q seen t h h.sees refl (ap (λ p. p.tally.disturbed) h.after)
    (ap (λ p. p.tally.lost) h.after)

mute_none : (place : ℕ) (c : Choice) (reply : Reply) (r : Register) (s : Port) (q : Request) (seen : ℕ) (t : Port)
    → PortReplied (Mute place) c reply r s q seen t → PortNoneSeen seen s t
mute_none place c reply r s q seen t h = sees_none (Mute place) c reply r s q seen t h h.sees
    (port_due_after_muted place reply q.read h.legal) (ap (λ p. p.tally.disturbed) h.after)
    (ap (λ p. p.tally.lost) h.after)

-- an OK that is seen
clean_okay : (c : Choice) (r : Register) (s : Port) (q : Request) (seen : ℕ) (t : Port)
    → (port_after_okay c r s.target).reset ≡ Live → PortReplied Clean c Okay r s q seen t
    → PortOkaySeen r q.read seen s t
clean_okay c r s q seen t live h = record {
  is = h.sees;
  due = ap (λ p. p.link.due) h.after;
  heard = heard Clean Okay r q c s t 0 refl (omega arith) (no_loss _ _ (ap (λ p. p.tally.lost) h.after)) h.after;
  flip = None;
  spares = inl refl;
  accepts = accepts Clean c r s q seen t live h;
}

wait_okay : (c : Choice) (r : Register) (s : Port) (q : Request) (seen : ℕ) (t : Port)
    → (port_after_okay c r s.target).reset ≡ Live → PortReplied Wait c Okay r s q seen t
    → PortOkaySeen r q.read seen s t
wait_okay c r s q seen t live h = record {
  is = h.sees;
  due = ap (λ p. p.link.due) h.after;
  heard = heard Wait Okay r q c s t 1 refl (omega arith) (no_loss _ _ (ap (λ p. p.tally.lost) h.after)) h.after;
  flip = None;
  spares = inl refl;
  accepts = accepts Wait c r s q seen t live h;
}

flip_okay : (place : ℕ) (c : Choice) (r : Register) (s : Port) (q : Request) (seen : ℕ) (t : Port)
    → (port_after_okay c r s.target).reset ≡ Live → PortReplied (Flip place) c Okay r s q seen t
    → PortOkaySeen r q.read seen s t
flip_okay place c r s q seen t live h = record {
  is = h.sees;
  due = ap (λ p. p.link.due) h.after;
  heard = heard (Flip place) Okay r q c s t 1 refl (omega arith) (no_loss _ _ (ap (λ p. p.tally.lost) h.after)) h.after;
  flip = Some place;
  spares = inr (place, h.legal, refl, ap (λ p. p.tally.disturbed) h.after);
  accepts = accepts (Flip place) c r s q seen t live h;
}

-- OK, unless it is lost
okay_told : (mark : Mark) (c : Choice) (r : Register) (s : Port) (q : Request) (seen : ℕ) (t : Port)
    → (port_after_okay c r s.target).reset ≡ Live →
    PortReplied mark c (if is_port_deaf mark then Silent else Okay) r s q seen t → PortOkayOrLost r q.read seen s t
okay_told Clean c r s q seen t live h = okay (clean_okay c r s q seen t live h)
okay_told Wait c r s q seen t live h = okay (wait_okay c r s q seen t live h)
okay_told (Flip place) c r s q seen t live h = okay (flip_okay place c r s q seen t live h)
okay_told Deaf c r s q seen t live h = lost (deaf_none c r s q seen t h) (inl (stays Deaf r q c s t h.after))
okay_told (Mute place) c r s q seen t live h = lost (mute_none place c Okay r s q seen t h)
    (inr (accepts (Mute place) c r s q seen t live h))

-- OK, or WAIT at a Wait mark, unless it is lost
free_told : (mark : Mark) (c : Choice) (r : Register) (s : Port) (q : Request) (seen : ℕ) (t : Port)
    → (port_after_okay c r s.target).reset ≡ Live →
    PortReplied mark c (if is_port_deaf mark then Silent else if is_port_wait mark then Waits else Okay) r s q seen t
    → PortOkayWaitOrLost r q.read seen s t
free_told Clean c r s q seen t live h = okay (clean_okay c r s q seen t live h)
free_told Wait c r s q seen t live h = wait (record {
  is = h.sees;
  due = ap (λ p. p.link.due) h.after;
  heard = heard Wait Waits r q c s t 1 refl (omega arith) (no_loss _ _ (ap (λ p. p.tally.lost) h.after)) h.after;
  disturbed = ap (λ p. p.tally.disturbed) h.after;
  defers = defers Wait r q c s t h.after;
})
free_told (Flip place) c r s q seen t live h = okay (flip_okay place c r s q seen t live h)
free_told Deaf c r s q seen t live h = lost (deaf_none c r s q seen t h) (inl (stays Deaf r q c s t h.after))
free_told (Mute place) c r s q seen t live h = lost (mute_none place c Okay r s q seen t h)
    (inr (accepts (Mute place) c r s q seen t live h))

-- FAULT, unless it is lost
sees_fault : (mark : Mark) (c : Choice) (r : Register) (s : Port) (q : Request) (seen : ℕ) (t : Port) (n : ℕ)
    → is_exempt_register r ≡ false → port_disturbs mark ≡ n → n ≤ 1 → port_seen_at mark Faults ≡ 4 → seen ≡ 4 →
    t.tally.lost ≡ s.tally.lost → PortReplied mark c Faults r s q seen t → PortFaultSeen r q.ap seen s t
sees_fault mark c r s q seen t n plain is few four sees none h = record {
  is = sees;
  due = ap (λ p. p.link.due) h.after ∙ ap (port_due_after q.read) four;
  heard = heard mark Faults r q c s t n is few none h.after;
  refuses = refuses mark r q c s t plain h.settled h.after;
}

fault_told : (mark : Mark) (c : Choice) (r : Register) (s : Port) (q : Request) (seen : ℕ) (t : Port)
    → is_exempt_register r ≡ false →
    PortReplied mark c (if is_port_deaf mark then Silent else Faults) r s q seen t → PortFaultOrLost r q.ap seen s t
fault_told Clean c r s q seen t plain h = fault
    (sees_fault Clean c r s q seen t 0 plain refl (omega arith) refl h.sees
    (no_loss _ _ (ap (λ p. p.tally.lost) h.after)) h)
fault_told Wait c r s q seen t plain h = fault
    (sees_fault Wait c r s q seen t 1 plain refl (omega arith) refl h.sees
    (no_loss _ _ (ap (λ p. p.tally.lost) h.after)) h)
fault_told (Flip place) c r s q seen t plain h = fault
    (sees_fault (Flip place) c r s q seen t 1 plain refl (omega arith) refl h.sees
    (no_loss _ _ (ap (λ p. p.tally.lost) h.after)) h)
fault_told Deaf c r s q seen t plain h = lost (deaf_none c r s q seen t h) (inl (stays Deaf r q c s t h.after))
fault_told (Mute place) c r s q seen t plain h = lost (mute_none place c Faults r s q seen t h)
    (inr (refuses (Mute place) r q c s t plain h.settled h.after))

-- the reply, by what the state is
reply_exempt : (mark : Mark) (q : Request) (x : Target) → is_exempt_register (port_register x.select q) ≡ true
    → x.reset ≡ Live → port_reply mark x q ≡ (if is_port_deaf mark then Silent else Okay)
reply_exempt mark q x exempt live = grind arith

reply_free : (mark : Mark) (q : Request) (x : Target) → is_exempt_register (port_register x.select q) ≡ false
    → x.reset ≡ Live → x.write_error ≡ false → x.sticky_error ≡ false → (q.ap ≡ true → port_has_power x ≡ true) →
    port_reply mark x q ≡ (if is_port_deaf mark then Silent else if is_port_wait mark then Waits else Okay)
reply_free mark q x plain live write sticky power = grind arith

reply_flag : (mark : Mark) (q : Request) (x : Target) → is_exempt_register (port_register x.select q) ≡ false
    → x.reset ≡ Live → (x.sticky_error ≡ true) ⊎ (x.write_error ≡ true) →
    port_reply mark x q ≡ (if is_port_deaf mark then Silent else Faults)
reply_flag mark q x plain live (inl flag) = grind arith
reply_flag mark q x plain live (inr flag) = grind arith

reply_unpowered : (mark : Mark) (q : Request) (x : Target) → is_exempt_register (port_register x.select q) ≡ false
    → x.reset ≡ Live → q.ap ≡ true → port_has_power x ≡ false →
    port_reply mark x q ≡ (if is_port_deaf mark then Silent else Faults)
reply_unpowered mark q x plain live ap power = grind arith

reply_identification : (mark : Mark) (q : Request) (x : Target) → port_register x.select q ≡ DpidrRead
    → x.reset ≢ Unreset → port_reply mark x q ≡ (if is_port_deaf mark then Silent else Okay)
reply_identification mark q x named reset = grind arith

live_stays : (c : Choice) (r : Register) (x : Target) → x.reset ≡ Live → (port_after_okay c r x).reset ≡ Live
live_stays c r x e = grind arith

-- one request, with no completion
pub port_exempt_now : (mark : Mark) (c : Choice) (r : Register) (q : Request) (seen : ℕ) (s t : Port)
    → port_register s.target.select q ≡ r → is_exempt_register r ≡ true → s.target.reset ≡ Live →
    PortAsksNow mark c s q seen t → PortOkayOrLost r q.read seen s t
port_exempt_now mark c r q seen s t named exempt live h =
    okay_told mark c r s q seen t (live_stays c r s.target live)
    (port_replied mark c _ r s q seen t (reply_exempt mark q s.target (ap is_exempt_register named ∙ exempt) live) named
    h)

pub port_identification_now : (mark : Mark) (c : Choice) (q : Request) (seen : ℕ) (s t : Port)
    → port_register s.target.select q ≡ DpidrRead → s.target.reset ≢ Unreset →
    PortAsksNow mark c s q seen t → PortOkayOrLost DpidrRead q.read seen s t
port_identification_now mark c q seen s t named reset h = okay_told mark c DpidrRead s q seen t refl
    (port_replied mark c _ DpidrRead s q seen t (reply_identification mark q s.target named reset) named h)

pub port_flagged_now : (mark : Mark) (c : Choice) (r : Register) (q : Request) (seen : ℕ) (s t : Port)
    → port_register s.target.select q ≡ r → is_exempt_register r ≡ false → s.target.reset ≡ Live →
    (s.target.sticky_error ≡ true) ⊎ (s.target.write_error ≡ true) → PortAsksNow mark c s q seen t
    → PortFaultOrLost r q.ap seen s t
port_flagged_now mark c r q seen s t named plain live flag h =
    fault_told mark c r s q seen t plain
    (port_replied mark c _ r s q seen t (reply_flag mark q s.target (ap is_exempt_register named ∙ plain) live flag)
    named h)

pub port_unpowered_now : (mark : Mark) (c : Choice) (r : Register) (q : Request) (seen : ℕ) (s t : Port)
    → port_register s.target.select q ≡ r → is_exempt_register r ≡ false → s.target.reset ≡ Live →
    q.ap ≡ true → port_has_power s.target ≡ false → PortAsksNow mark c s q seen t → PortFaultOrLost r q.ap seen s t
port_unpowered_now mark c r q seen s t named plain live ap_access power h =
    fault_told mark c r s q seen t plain
    (port_replied mark c _ r s q seen t (reply_unpowered mark q s.target (ap is_exempt_register named ∙ plain) live
    ap_access power) named h)

pub port_free_now : (mark : Mark) (c : Choice) (r : Register) (q : Request) (seen : ℕ) (s t : Port)
    → port_register s.target.select q ≡ r → is_exempt_register r ≡ false → s.target.reset ≡ Live
    → s.target.write_error ≡ false → s.target.sticky_error ≡ false →
    (q.ap ≡ true → port_has_power s.target ≡ true) → PortAsksNow mark c s q seen t
    → PortOkayWaitOrLost r q.read seen s t
port_free_now mark c r q seen s t named plain live write sticky power h =
    free_told mark c r s q seen t (live_stays c r s.target live)
    (port_replied mark c _ r s q seen t (reply_free mark q s.target (ap is_exempt_register named ∙ plain) live write
    sticky power) named h)

-- a completion leaves the power as it is
power_kept : (s a : Port) → PortKept s a → port_has_power a.target ≡ port_has_power s.target
power_kept s a k =
    ap (λ b. b && is_port_power_there a.target.debug_up) k.debug_power ∙ ap
    (λ u. s.target.debug_power && is_port_power_there u) k.debug_up

-- the whole call, with its completions
pub port_exempt_request : PortExemptRequest
port_exempt_request r q seen s t named exempt live (a, b, mark, c, first, now, last) =
    let k : PortKept s a = port_kept s a first in (
      a,
      b,
      first,
      port_exempt_now mark c r q seen a b (ap (λ x. port_register x q) k.select ∙ named) exempt (k.reset ∙ live) now,
      last,
    )

-- a target that had a line reset answers a DPIDR read OK, and is live then, unless the request is lost
pub port_identification_read : PortIdentificationRead
port_identification_read q seen s t named reset (a, b, mark, c, first, now, last) =
    let k : PortKept s a = port_kept s a first in (
      a,
      b,
      first,
      port_identification_now mark c q seen a b (ap (λ x. port_register x q) k.select ∙ named)
          (λ e. reset (sym k.reset ∙ e)) now,
      last,
    )

flag_stays : (s a : Port) → PortKept s a → (s.target.sticky_error ≡ true) ⊎ (s.target.write_error ≡ true)
    → (a.target.sticky_error ≡ true) ⊎ (a.target.write_error ≡ true)
flag_stays s a k (inl e) = inl (k.sticky_error e)
flag_stays s a k (inr e) = inr (k.write_error ∙ e)

-- a live target with a flag set answers a request that isn't exempt FAULT, unless it is lost
pub port_flagged_request : PortFlaggedRequest
port_flagged_request r q seen s t named plain live flag h =
    let (a, b, mark, c, first, now, last) = asks_kept_plain r q seen s t named plain h in
    let k : PortKept s a = port_kept s a first in (
      a,
      b,
      first,
      port_flagged_now mark c r q seen a b (ap (λ x. port_register x q) k.select ∙ named) plain (k.reset ∙ live)
          (flag_stays s a k flag) now,
      last,
    )

free_or_fault : (mark : Mark) (c : Choice) (r : Register) (q : Request) (seen : ℕ) (s t : Port)
    → port_register s.target.select q ≡ r → is_exempt_register r ≡ false → s.target.reset ≡ Live
    → s.target.write_error ≡ false → (q.ap ≡ true → port_has_power s.target ≡ true) → PortAsksNow mark c s q seen t
    → (b : Bool) → s.target.sticky_error ≡ b
    → PortFreeOrFault r q seen s t
free_or_fault mark c r q seen s t named plain live write power h false e = inl
    (e, port_free_now mark c r q seen s t named plain live write e power h)
free_or_fault mark c r q seen s t named plain live write power h true e = inr
    (e, port_flagged_now mark c r q seen s t named plain live (inl e) h)

-- a live target with WDATAERR clear and power for the request answers one that isn't exempt OK or WAIT, or FAULT if
-- STICKYERR is set by then, unless it is lost
pub port_free_request : PortFreeRequest
port_free_request r q seen s t named plain live write power h =
    let (a, b, mark, c, first, now, last) = asks_kept_plain r q seen s t named plain h in
    let k : PortKept s a = port_kept s a first in (
      a,
      b,
      first,
      free_or_fault mark c r q seen a b (ap (λ x. port_register x q) k.select ∙ named) plain (k.reset ∙ live)
          (k.write_error ∙ write)
          (λ e. power_kept s a k ∙ power e) now a.target.sticky_error refl,
      last,
    )

-- with nothing pending, by what may be pending after it
exempt_starts_none : (r : Register) (pending : Option Drw) → is_exempt_register r ≡ true → pending ≡ None
    → pending_drw_once_read r pending ≡ None
exempt_starts_none r pending e none = grind arith

only_drw_starts : (r : Register) (pending : Option Drw) → r ≢ DrwRead → pending_drw_once_read r pending ≡ pending
only_drw_starts DrwRead pending other = absurd (other refl)
only_drw_starts r pending other = refl

okay_or_lost_rests : (r : Register) (read : Bool) (seen : ℕ) (s t : Port)
    → pending_drw_once_read r s.target.pending ≡ None
    → s.target.pending ≡ None → PortOkayOrLost r read seen s t → t.target.pending ≡ None
okay_or_lost_rests r read seen s t starts none (okay h) = ap (λ x. x.pending) h.accepts.target ∙ starts
okay_or_lost_rests r read seen s t starts none (lost h (inl stays)) = ap (λ x. x.pending) stays.target ∙ none
okay_or_lost_rests r read seen s t starts none (lost h (inr accepts)) = ap (λ x. x.pending) accepts.target ∙ starts

fault_or_lost_rests : (r : Register) (access : Bool) (seen : ℕ) (s t : Port) → s.target.pending ≡ None
    → PortFaultOrLost r access seen s t → t.target.pending ≡ None
fault_or_lost_rests r access seen s t none (fault h) = ap (λ x. x.pending) h.refuses.target ∙ none
fault_or_lost_rests r access seen s t none (lost h (inl stays)) = ap (λ x. x.pending) stays.target ∙ none
fault_or_lost_rests r access seen s t none (lost h (inr refuses)) = ap (λ x. x.pending) refuses.target ∙ none

okay_wait_or_lost_rests : (r : Register) (read : Bool) (seen : ℕ) (s t : Port)
    → pending_drw_once_read r s.target.pending ≡ s.target.pending → s.target.pending ≡ None
    → PortOkayWaitOrLost r read seen s t → t.target.pending ≡ None
okay_wait_or_lost_rests r read seen s t starts none (okay h) = ap (λ x. x.pending) h.accepts.target ∙ starts ∙ none
okay_wait_or_lost_rests r read seen s t starts none (wait h) = ap (λ x. x.pending) h.defers.target ∙ none
okay_wait_or_lost_rests r read seen s t starts none (lost h (inl stays)) = ap (λ x. x.pending) stays.target ∙ none
okay_wait_or_lost_rests r read seen s t starts none (lost h (inr accepts)) = ap (λ x. x.pending) accepts.target ∙ starts
    ∙ none

-- a step with nothing pending before it
pub port_step_at_rest : (Step : Port → Port → Type 0) (s t : Port) → s.target.pending ≡ None → PortAround Step s t
    → (b : Port) × Step s b × PortCompletes b t
port_step_at_rest Step s t none (a, b, first, step, last) =
    (b, subst (λ x. Step x b) (no_pending_same s a none first) step, last)

-- nor after it
pub port_step_exactly : (Step : Port → Port → Type 0) (s t : Port) → ((b : Port) → Step s b → b.target.pending ≡ None)
    → (b : Port) × Step s b × PortCompletes b t → Step s t
port_step_exactly Step s t rests (b, step, last) = subst (Step s) (sym (no_pending_same b t (rests b step) last)) step

-- a live target without a pending transfer answers an exempt request OK, unless it is lost; no completion takes part
pub port_exempt_at_rest : PortExemptAtRest
port_exempt_at_rest r q seen s t named exempt live none h =
    port_step_exactly (PortOkayOrLost r q.read seen) s t
    (λ b. okay_or_lost_rests r q.read seen s b (exempt_starts_none r s.target.pending exempt none) none)
    (port_step_at_rest (PortOkayOrLost r q.read seen) s t none
    (port_exempt_request r q seen s t named exempt live (asks_kept_at_rest q seen s t none h)))

-- the same for a DPIDR read at a target that had a line reset
pub port_identification_at_rest : PortIdentificationAtRest
port_identification_at_rest q seen s t named reset none h =
    port_step_exactly (PortOkayOrLost DpidrRead q.read seen) s t
    (λ b. okay_or_lost_rests DpidrRead q.read seen s b none none)
    (port_step_at_rest (PortOkayOrLost DpidrRead q.read seen) s t none
    (port_identification_read q seen s t named reset (asks_kept_at_rest q seen s t none h)))

-- the same for FAULT to a request that isn't exempt, at a live target with a flag set
pub port_flagged_at_rest : PortFlaggedAtRest
port_flagged_at_rest r q seen s t named plain live none flag h =
    port_step_exactly (PortFaultOrLost r q.ap seen) s t (λ b. fault_or_lost_rests r q.ap seen s b none)
    (port_step_at_rest (PortFaultOrLost r q.ap seen) s t none
    (port_flagged_request r q seen s t named plain live flag h))

-- the same for FAULT to an AP access, at a live target without debug power
pub port_unpowered_at_rest : PortUnpoweredAtRest
port_unpowered_at_rest r q seen s t named plain live none access power h =
    let (a, b, mark, c, first, now, last) = asks_kept_plain r q seen s t named plain h in
    let k : PortKept s a = port_kept s a first in
    let step : PortFaultOrLost r q.ap seen a b =
    port_unpowered_now mark c r q seen a b (ap (λ x. port_register x q) k.select ∙ named)
    plain (k.reset ∙ live) access (power_kept s a k ∙ power) now in
    port_step_exactly (PortFaultOrLost r q.ap seen) s t (λ p. fault_or_lost_rests r q.ap seen s p none)
    (port_step_at_rest (PortFaultOrLost r q.ap seen) s t none (a, b, first, step, last))

free_at_rest : (r : Register) (q : Request) (seen : ℕ) (s b : Port) → s.target.sticky_error ≡ false
    → PortFreeOrFault r q seen s b → PortOkayWaitOrLost r q.read seen s b
free_at_rest r q seen s b sticky (inl h) = h.1
free_at_rest r q seen s b sticky (inr h) = absurd (let e : s.target.sticky_error ≡ true = h.0 in cc)

-- a live target with power for the request, without a flag or a pending transfer, answers one that isn't exempt OK or
-- WAIT, unless it is lost; a completion may follow
pub port_free_at_rest : PortFreeAtRest
port_free_at_rest r q seen s t named plain live none write sticky power h =
    let found : (b : Port) × PortFreeOrFault r q seen s b
    × PortCompletes b t = port_step_at_rest (PortFreeOrFault r q seen) s t none
    (port_free_request r q seen s t named plain live write power h) in
    (found.0, free_at_rest r q seen s found.0 sticky found.1, found.2)

-- the same for every request but a DRW read: no completion follows
pub port_free_exact : PortFreeExact
port_free_exact r q seen s t named plain other live none write sticky power h =
    port_step_exactly (PortOkayWaitOrLost r q.read seen) s t
    (λ b. okay_wait_or_lost_rests r q.read seen s b (only_drw_starts r s.target.pending other) none)
    (port_free_at_rest r q seen s t named plain live none write sticky power h)

powered : (access power : Bool) → (access ≡ true → power ≡ true) → is_port_unpowered access power ≡ false
powered true power h = rw (h refl) refl
powered false power h = refl

-- FAULT leaves STICKYERR unchanged, unless it was to an AP access without debug power
pub port_refused_with_power : PortRefusedWithPower
port_refused_with_power r access s t h power = ap (λ x. x.sticky_error) h.target
    ∙ ap (λ x. s.target.sticky_error || x) (powered access (port_has_power s.target) power) ∙ stickyerr_or_false
    s.target.sticky_error

-- what a lost request leaves
starts_drw : (r : Register) (pending : Option Drw) → (pending_drw_once_read r pending ≡ pending) ⊎ (r ≡ DrwRead)
starts_drw DrwRead pending = inr refl
starts_drw r pending = inl refl

sets_elsewhere : (refuses : Bool) (r : Register) (flag : Bool)
    → (stickyerr_once_read refuses r flag ≡ flag) ⊎ (r ≡ ApOtherRead)
sets_elsewhere refuses ApOtherRead flag = inr refl
sets_elsewhere refuses r flag = inl refl

-- a lost request changes no register that is written, no memory, STICKYERR only if it reads an AP register elsewhere,
-- and the pending transfer only if it reads DRW
pub port_lost_request : PortLostRequest
port_lost_request r read s t (inl h) = subst (PortLeftByLost r s.target) (sym h.target)
    (same_steady s.target, inl refl, inl refl)
port_lost_request r read s t (inr h) = subst (PortLeftByLost r s.target) (sym h.target) (
  port_steady_after h.choice Okay r false s.target,
  sets_elsewhere h.choice.refuses r s.target.sticky_error,
  starts_drw r s.target.pending,
)

-- what it leaves in all cases
unreset_other : (a b : Reset) → b ≡ Live → a ≢ Unreset → b ≢ Unreset
unreset_other a b e other f = absurd (let g : Live ≡ Unreset = sym e ∙ f in cc)

stays_unmoved : (s t : Port) → PortIgnores s t → PortUnmoved s.target t.target
stays_unmoved s t h = subst (PortUnmoved s.target) (sym h.target)
    (record {
      steady = same_steady s.target;
      sticky_error = refl;
      pending = refl;
      live =
          λ e. e;
      reset = λ e. e;
    })

defers_unmoved : (r : Register) (s t : Port) → PortDefers r s t → PortUnmoved s.target t.target
defers_unmoved r s t h = subst (PortUnmoved s.target) (sym h.target)
    (record {
      steady = record {
        write_error = refl;
        debug_power = refl;
        system_power = refl;
        debug_seen = λ e. e;
        system_seen = λ e. e;
        select = refl;
        increments = refl;
        tar = refl;
        identification = refl;
        memory = refl;
      };
      sticky_error = refl;
      pending = refl;
      live = λ e. e;
      reset = λ e. e;
    })

refuses_unmoved : (r : Register) (access : Bool) (s t : Port) → (access ≡ true → port_has_power s.target ≡ true)
    → PortRefuses r access s t → PortUnmoved s.target t.target
refuses_unmoved r access s t power h = record {
  steady = subst (PortSteady s.target) (sym h.target) (record {
    write_error = refl;
    debug_power = refl;
    system_power = refl;
    debug_seen = λ e. e;
    system_seen = λ e. e;
    select = refl;
    increments = refl;
    tar = refl;
    identification = refl;
    memory = refl;
  });
  sticky_error = port_refused_with_power r access s t h power;
  pending = ap (λ x. x.pending) h.target;
  live = λ e. ap (λ x. x.reset) h.target ∙ e;
  reset = λ other e. other (sym (ap (λ x. x.reset) h.target) ∙ e);
}

only_elsewhere_sets : (refuses : Bool) (r : Register) (flag : Bool) → r ≢ ApOtherRead
    → stickyerr_once_read refuses r flag ≡ flag
only_elsewhere_sets refuses ApOtherRead flag other = absurd (other refl)
only_elsewhere_sets refuses r flag other = refl

accepts_unmoved : (r : Register) (read : Bool) (flip : Option ℕ) (s t : Port) → r ≢ DrwRead → r ≢ ApOtherRead
    → PortAccepts r read flip s t → PortUnmoved s.target t.target
accepts_unmoved r read flip s t other near h = record {
  steady = port_steady h.choice Okay r false s.target t.target h.target;
  sticky_error = ap (λ x. x.sticky_error) h.target
      ∙ only_elsewhere_sets h.choice.refuses r s.target.sticky_error near;
  pending = ap (λ x. x.pending) h.target ∙ only_drw_starts r s.target.pending other;
  live = λ e. h.live;
  reset = unreset_other s.target.reset t.target.reset h.live;
}

exempt_other : (r : Register) → is_exempt_register r ≡ true → r ≢ DrwRead
exempt_other r e f = absurd (let g : is_exempt_register DrwRead ≡ true = ap is_exempt_register (sym f) ∙ e in cc)

exempt_near : (r : Register) → is_exempt_register r ≡ true → r ≢ ApOtherRead
exempt_near r e f = absurd (let g : is_exempt_register ApOtherRead ≡ true = ap is_exempt_register (sym f) ∙ e in cc)

-- whatever its result, an exempt request changes no register that is written, no flag, no memory and no pending
-- transfer
pub port_unmoved_by_exempt : PortUnmovedByExempt
port_unmoved_by_exempt r read seen s t e (okay h) = accepts_unmoved r read h.flip s t (exempt_other r e)
    (exempt_near r e) h.accepts
port_unmoved_by_exempt r read seen s t e (lost n (inl h)) = stays_unmoved s t h
port_unmoved_by_exempt r read seen s t e (lost n (inr h)) = accepts_unmoved r read None s t (exempt_other r e)
    (exempt_near r e) h

-- the same for a request that gets OK or WAIT, or is lost, unless it reads DRW or an AP register elsewhere
pub port_unmoved_by_free : PortUnmovedByFree
port_unmoved_by_free r read seen s t other near (okay h) = accepts_unmoved r read h.flip s t other near h.accepts
port_unmoved_by_free r read seen s t other near (wait h) = defers_unmoved r s t h.defers
port_unmoved_by_free r read seen s t other near (lost n (inl h)) = stays_unmoved s t h
port_unmoved_by_free r read seen s t other near (lost n (inr h)) = accepts_unmoved r read None s t other near h

-- the same for one that gets FAULT, or is lost, unless it is an AP access without debug power
pub port_unmoved_by_refused : PortUnmovedByRefused
port_unmoved_by_refused r access seen s t power (fault h) = refuses_unmoved r access s t power h.refuses
port_unmoved_by_refused r access seen s t power (lost n (inl h)) = stays_unmoved s t h
port_unmoved_by_refused r access seen s t power (lost n (inr h)) = refuses_unmoved r access s t power h

-- a request that tells what came of a transfer
confirms : (access : Access) (m : Bus) (r : Register) (q : Request) (seen : ℕ) (s t : Port)
    → PortSent access m s.target → is_exempt_register r ≡ false → PortFreeOrFault r q seen s t
    → PortConfirms access m r q seen s t
confirms access m r q seen s t sent plain (inl h) =
    elim h.1 [
      | okay o ↦ confirms_okay (port_sent_succeeds access m s.target (o.accepts.settled plain) h.0 sent) o
      | wait w ↦ confirms_wait sent w
      | lost n (inl stays) ↦ confirms_lost sent n (inl stays)
      | lost n (inr accepts) ↦ confirms_lost sent n
          (inr (inl (port_sent_succeeds access m s.target (accepts.settled plain) h.0 sent, accepts)))
    ]
confirms access m r q seen s t sent plain (inr h) =
    elim h.1 [
      | fault f ↦ confirms_fault (port_sent_fails access m s.target f.refuses.settled h.0 sent) f
      | lost n (inl stays) ↦ confirms_lost sent n (inl stays)
      | lost n (inr refuses) ↦ confirms_lost sent n
          (inr (inr (port_sent_fails access m s.target refuses.settled h.0 sent, refuses)))
    ]

-- after a sent transfer, at a live target with WDATAERR clear and power: OK to a request that isn't exempt shows that
-- it was done, FAULT that it was a bus error, WAIT neither; a lost one had no effect, or that of such an OK or FAULT
pub port_confirming_request : PortConfirmingRequest
port_confirming_request access m r q seen s t sent named plain live write power h =
    let found : PortAround (PortFreeOrFault r q seen) s t =
    port_free_request r q seen s t named plain live write power h in (
      found.0,
      found.1,
      found.2,
      confirms access m r q seen found.0 found.1 (port_sent_stays access m s found.0 found.2 sent)
          plain found.3,
      found.4,
    )
