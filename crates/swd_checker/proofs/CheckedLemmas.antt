-- What a transaction that is seen shows of a target: its answer, and the state after it.
use Rattle.std.proofs.Common.{◌≡◌, ◌<◌, ◌^◌, ℕ, Bool, true, false, refl, sym, ap, subst, arith, ◌∙◌, ◌⊎◌, inl, inr}
use Rattle.std.specs.Prelude.{None, not, ◌&&◌, ◌==◌, if◌then◌else◌}
use Rattle.swd_bits.specs.declared.request.Request.{Request}
use Rattle.swd_port.specs.declared.register.Register.{Register}
use Rattle.swd_port.specs.declared.state.Reply.{Reply}
use Rattle.swd_port.specs.declared.state.Reply.TheVariants.{Okay, Waits, Faults, Silent}
use Rattle.swd_port.specs.declared.mark.Mark.{Mark}
use Rattle.swd_port.specs.declared.mark.Mark.TheVariants.{Clean, Wait, Flip, Deaf, Mute}
use Rattle.swd_port.specs.Port.{Port, port_register}
use Rattle.swd_port.specs.Choices.{Choice, IsPortMark, PortMayBeLate, port_flip_of}
use Rattle.swd_port.specs.Answers.{PortSees, IsPortNoAck, port_ack_driven, port_reply_under, port_may_wait}
use Rattle.swd_port.specs.Answers.{is_exempt_register, is_port_okay, port_is_answered, is_port_unpowered}
use Rattle.swd_port.specs.Asking.{PortAsksNow, port_reply, port_answer, port_after_okay, port_after_wait}
use Rattle.swd_port.specs.Asking.{port_after_fault, port_value_in, port_phase_after, port_has_power, IsPortWordRead}
use Rattle.swd_port.proofs.AnswerLaws.{port_answer_never_wait}
use Rattle.swd_port.proofs.RequestLaws.{PortReplied, port_replied}
use Rattle.swd_checker.specs.Adding.{IsCheckedPrompt}
use Rattle.swd_checker.specs.Checked.{CheckedAsks, is_checked_clean}

-- what is seen is what was driven, or no acknowledgement
driven : (mark : Mark) (reply : Reply) (seen : ℕ) → PortSees mark reply seen
    → IsPortNoAck seen ⊎ (seen ≡ port_ack_driven reply)
driven Clean reply seen h = inr h
driven Wait reply seen h = inr h
driven (Flip place) reply seen h = inr h
driven Deaf reply seen h = inl h
driven (Mute place) reply seen h = inl h

okay_driven : (reply : Reply) → 1 ≡ port_ack_driven reply → reply ≡ Okay
okay_driven Okay e = refl
okay_driven Waits e = absurd (omega arith)
okay_driven Faults e = absurd (omega arith)
okay_driven Silent e = absurd (omega arith)

wait_driven : (reply : Reply) → 2 ≡ port_ack_driven reply → reply ≡ Waits
wait_driven Waits e = refl
wait_driven Okay e = absurd (omega arith)
wait_driven Faults e = absurd (omega arith)
wait_driven Silent e = absurd (omega arith)

fault_driven : (reply : Reply) → 4 ≡ port_ack_driven reply → reply ≡ Faults
fault_driven Faults e = refl
fault_driven Okay e = absurd (omega arith)
fault_driven Waits e = absurd (omega arith)
fault_driven Silent e = absurd (omega arith)

-- OK that was seen was answered
pub checked_reply_okay : (mark : Mark) (reply : Reply) → PortSees mark reply 1 → reply ≡ Okay
checked_reply_okay mark reply h = elim (driven mark reply 1 h) as (λ _. reply ≡ Okay) [
  | inl none ↦ absurd (let e : true ≡ false = none.not_okay in cc)
  | inr e ↦ okay_driven reply e
]

wait_seen : (mark : Mark) (reply : Reply) → PortSees mark reply 2 → reply ≡ Waits
wait_seen mark reply h = elim (driven mark reply 2 h) as (λ _. reply ≡ Waits) [
  | inl none ↦ absurd (let e : true ≡ false = none.not_wait in cc)
  | inr e ↦ wait_driven reply e
]

fault_seen : (mark : Mark) (reply : Reply) → PortSees mark reply 4 → reply ≡ Faults
fault_seen mark reply h = elim (driven mark reply 4 h) as (λ _. reply ≡ Faults) [
  | inl none ↦ absurd (let e : true ≡ false = none.not_fault in cc)
  | inr e ↦ fault_driven reply e
]

-- the reply, and the answer that it replaces
not_waits : (b : Bool) (a reply : Reply) → (if b then Waits else a) ≡ reply → (Waits ≡ reply → ⊥) → a ≡ reply
not_waits true a reply e other = absurd (other e)
not_waits false a reply e other = e

answered : (mark : Mark) (r : Register) (a reply : Reply) → port_reply_under mark r a ≡ reply → (Waits ≡ reply → ⊥)
    → (Silent ≡ reply → ⊥) → a ≡ reply
answered Clean r a reply e waits silent = e
answered Wait r a reply e waits silent = not_waits (port_may_wait r a) a reply e waits
answered (Flip place) r a reply e waits silent = e
answered Deaf r a reply e waits silent = absurd (silent e)
answered (Mute place) r a reply e waits silent = e

-- OK that the target answered, whatever was seen of it
pub record CheckedOkayed (mark : Mark) (c : Choice) (q : Request) (r : Register) (a b : Port) : Type 0 where
  pub legal : IsPortMark mark
  pub late : PortMayBeLate mark c
  pub settled : is_exempt_register r ≡ false → a.target.pending ≡ None
  pub answer : port_answer a.target q ≡ Okay
  pub word : q.read ≡ true → port_value_in c r a.target < 2 ^ 32
  pub target : b.target ≡ port_after_okay c r a.target
  pub line : b.link.line ≡ port_phase_after q.read r (port_flip_of mark) (port_value_in c r a.target)

word_read : (read : Bool) (value : ℕ) → IsPortWordRead Okay read value → read ≡ true → value < 2 ^ 32
word_read true value h e = h
word_read false value h e = absurd (cc)

checked_okayed : (mark : Mark) (c : Choice) (r : Register) (a : Port) (q : Request) (seen : ℕ) (b : Port)
    → port_reply mark a.target q ≡ Okay → port_register a.target.select q ≡ r → PortAsksNow mark c a q seen b
    → CheckedOkayed mark c q r a b
checked_okayed mark c r a q seen b is named h =
    let k : PortReplied mark c Okay r a q seen b = port_replied mark c Okay r a q seen b is named h in
    record {
      legal = k.legal;
      late = k.late;
      settled = k.settled;
      answer = answered mark (port_register a.target.select q) (port_answer a.target q) Okay is (λ e. cc) (λ e. cc);
      word = word_read q.read _ k.word;
      target = ap (λ p. p.target) k.after;
      line = ap (λ p. p.link.line) k.after;
    }

-- OK that was seen
pub checked_okay_seen : (clean : Bool) (s : Port) (q : Request) (t : Port) (r : Register)
    → (h : CheckedAsks clean s q 1 t) → port_register h.before.target.select q ≡ r
    → CheckedOkayed h.mark h.choice q r h.before h.after
checked_okay_seen clean s q t r h named = checked_okayed h.mark h.choice r h.before q 1 h.after
    (checked_reply_okay h.mark (port_reply h.mark h.before.target q) h.asks.sees) named h.asks

-- FAULT that the target answered: nothing is pending, and the request is one that can be refused
plain_faults : (a b c : Bool) → (if not a then Silent else if b then Okay else if c then Faults else Okay) ≡ Faults
    → b ≡ false
plain_faults true false c e = refl
plain_faults true true c e = absurd (cc)
plain_faults false b c e = absurd (cc)

pub record CheckedFaulted (q : Request) (r : Register) (a b : Port) : Type 0 where
  pub settled : a.target.pending ≡ None
  pub answer : port_answer a.target q ≡ Faults
  pub target : b.target ≡ port_after_fault r q.ap a.target
  pub line : b.link.line ≡ a.link.line

pub checked_faulted : (mark : Mark) (c : Choice) (r : Register) (a : Port) (q : Request) (seen : ℕ) (b : Port)
    → port_reply mark a.target q ≡ Faults → port_register a.target.select q ≡ r → PortAsksNow mark c a q seen b
    → CheckedFaulted q r a b
checked_faulted mark c r a q seen b is named h =
    let k : PortReplied mark c Faults r a q seen b = port_replied mark c Faults r a q seen b is named h in
    let answer : port_answer a.target q ≡ Faults =
    answered mark (port_register a.target.select q) (port_answer a.target q) Faults is (λ e. cc) (λ e. cc) in
    record {
      settled = k.settled (sym (ap is_exempt_register named) ∙ plain_faults (port_is_answered a.target.reset
          (port_register a.target.select q)) (is_exempt_register (port_register a.target.select q)) _ answer);
      answer = answer;
      target = ap (λ p. p.target) k.after;
      line = ap (λ p. p.link.line) k.after;
    }

-- WAIT that was seen
pub record CheckedWaited (q : Request) (r : Register) (a b : Port) : Type 0 where
  pub answer : port_answer a.target q ≡ Okay
  pub plain : is_exempt_register r ≡ false
  pub target : b.target ≡ port_after_wait r a.target
  pub line : b.link.line ≡ a.link.line

waits_for : (b : Bool) (a : Reply) → (if b then Waits else a) ≡ Waits → (a ≡ Waits → ⊥) → b ≡ true
waits_for true a e never = refl
waits_for false a e never = absurd (never e)

may_wait : (mark : Mark) (r : Register) (a : Reply) → port_reply_under mark r a ≡ Waits → (a ≡ Waits → ⊥)
    → port_may_wait r a ≡ true
may_wait Clean r a e never = absurd (never e)
may_wait Wait r a e never = waits_for (port_may_wait r a) a e never
may_wait (Flip place) r a e never = absurd (never e)
may_wait Deaf r a e never = absurd (cc)
may_wait (Mute place) r a e never = absurd (never e)

both_parts : (a : Reply) (exempt : Bool) → (is_port_okay a && not exempt) ≡ true → (a ≡ Okay) × (exempt ≡ false)
both_parts Okay false e = (refl, refl)
both_parts Okay true e = absurd (cc)
both_parts Waits b e = absurd (cc)
both_parts Faults b e = absurd (cc)
both_parts Silent b e = absurd (cc)

pub checked_waited : (mark : Mark) (c : Choice) (r : Register) (a : Port) (q : Request) (seen : ℕ) (b : Port)
    → port_reply mark a.target q ≡ Waits → port_register a.target.select q ≡ r → PortAsksNow mark c a q seen b
    → CheckedWaited q r a b
checked_waited mark c r a q seen b is named h =
    let k : PortReplied mark c Waits r a q seen b = port_replied mark c Waits r a q seen b is named h in
    let parts : (port_answer a.target q ≡ Okay)
    × (is_exempt_register (port_register a.target.select q) ≡ false) =
    both_parts (port_answer a.target q) (is_exempt_register (port_register a.target.select q))
    (may_wait mark (port_register a.target.select q) (port_answer a.target q) is
    (port_answer_never_wait a.target.reset a.target.sticky_error a.target.write_error
    (is_port_unpowered q.ap (port_has_power a.target)) (port_register a.target.select q))) in
    record {
      answer = parts.0;
      plain = sym (ap is_exempt_register named) ∙ parts.1;
      target = ap (λ p. p.target) k.after;
      line = ap (λ p. p.link.line) k.after;
    }

-- WAIT that was seen, of a request
pub checked_wait_seen : (clean : Bool) (s : Port) (q : Request) (t : Port) (r : Register)
    → (h : CheckedAsks clean s q 2 t) → port_register h.before.target.select q ≡ r
    → CheckedWaited q r h.before h.after
checked_wait_seen clean s q t r h named = checked_waited h.mark h.choice r h.before q 2 h.after
    (wait_seen h.mark (port_reply h.mark h.before.target q) h.asks.sees) named h.asks

-- FAULT that was seen, of a request
pub checked_fault_seen : (clean : Bool) (s : Port) (q : Request) (t : Port) (r : Register)
    → (h : CheckedAsks clean s q 4 t) → port_register h.before.target.select q ≡ r
    → CheckedFaulted q r h.before h.after
checked_fault_seen clean s q t r h named = checked_faulted h.mark h.choice r h.before q 4 h.after
    (fault_seen h.mark (port_reply h.mark h.before.target q) h.asks.sees) named h.asks

-- NO ACKNOWLEDGEMENT
-- what the target did: nothing, it answered OK, or FAULT
pub data CheckedUnseen (q : Request) (r : Register) (seen : ℕ) (clean : Bool) (a b : Port) : Type 0 where
  -- nothing
  ignored : b.target ≡ a.target → b.link.line ≡ a.link.line
      → (clean ≡ true → (seen ≡ 7) × (port_answer a.target q ≡ Silent)) → CheckedUnseen q r seen clean a b
  -- it answered OK
  accepted : (mark : Mark) (c : Choice) → CheckedOkayed mark c q r a b → IsCheckedPrompt c → clean ≡ false
      → CheckedUnseen q r seen clean a b
  -- it answered FAULT
  refused : CheckedFaulted q r a b → clean ≡ false → CheckedUnseen q r seen clean a b

silent_driven : (reply : Reply) (seen : ℕ) → seen ≡ port_ack_driven reply → IsPortNoAck seen
    → (reply ≡ Silent) × (seen ≡ 7)
silent_driven Silent seen e none = (refl, e)
silent_driven Okay seen e none = absurd (let f : true ≡ false = subst (λ n. (n == 1) ≡ false) e none.not_okay in cc)
silent_driven Waits seen e none = absurd (let f : true ≡ false = subst (λ n. (n == 2) ≡ false) e none.not_wait in cc)
silent_driven Faults seen e none = absurd (let f : true ≡ false = subst (λ n. (n == 4) ≡ false) e none.not_fault in cc)

silent_waits : (b : Bool) (a : Reply) → (if b then Waits else a) ≡ Silent → a ≡ Silent
silent_waits true a e = absurd (cc)
silent_waits false a e = e

silent : (mark : Mark) (c : Choice) (r : Register) (clean : Bool) (a : Port) (q : Request) (seen : ℕ) (b : Port)
    → port_reply mark a.target q ≡ Silent → port_register a.target.select q ≡ r → PortAsksNow mark c a q seen b
    → (clean ≡ true → (seen ≡ 7) × (port_answer a.target q ≡ Silent)) → CheckedUnseen q r seen clean a b
silent mark c r clean a q seen b is named h plain =
    let k : PortReplied mark c Silent r a q seen b = port_replied mark c Silent r a q seen b is named h in
    ignored (ap (λ p. p.target) k.after) (ap (λ p. p.link.line) k.after) plain

damaged : (clean : Bool) (mark : Mark) → is_checked_clean mark ≡ false → (clean ≡ true → is_checked_clean mark ≡ true)
    → clean ≡ false
damaged true mark e h = absurd (let f : true ≡ false = sym (h refl) ∙ e in cc)
damaged false mark e h = refl

lost_plainly : (clean : Bool) (P : Type 0) → clean ≡ false → clean ≡ true → P
lost_plainly clean P e f = absurd (let g : true ≡ false = sym f ∙ e in cc)

muted : (place : ℕ) (c : Choice) (r : Register) (clean : Bool) (a : Port) (q : Request) (seen : ℕ) (b : Port)
    (answer : Reply) → port_answer a.target q ≡ answer → clean ≡ false → port_register a.target.select q ≡ r
    → PortAsksNow (Mute place) c a q seen b → CheckedUnseen q r seen clean a b
muted place c r clean a q seen b Silent e f named h =
    silent (Mute place) c r clean a q seen b e named h (λ g. lost_plainly clean _ f g)
muted place c r clean a q seen b Okay e f named h =
    let k : CheckedOkayed (Mute place) c q r a b = checked_okayed (Mute place) c r a q seen b e named h in
    let p = k.late refl in
    accepted (Mute place) c k (record { debug = p.0; system = p.1 }) f
muted place c r clean a q seen b Faults e f named h =
    refused (checked_faulted (Mute place) c r a q seen b e named h) f
muted place c r clean a q seen b Waits e f named h = absurd (port_answer_never_wait a.target.reset
    a.target.sticky_error a.target.write_error (is_port_unpowered q.ap (port_has_power a.target))
    (port_register a.target.select q) e)

-- what a request without an acknowledgement leaves
pub checked_unseen : (clean : Bool) (mark : Mark) (c : Choice) (r : Register) (a : Port) (q : Request) (seen : ℕ)
    (b : Port) → IsPortNoAck seen → (clean ≡ true → is_checked_clean mark ≡ true)
    → port_register a.target.select q ≡ r → PortAsksNow mark c a q seen b → CheckedUnseen q r seen clean a b
checked_unseen clean Clean c r a q seen b unseen undamaged named h =
    let k = silent_driven (port_reply Clean a.target q) seen h.sees unseen in
    silent Clean c r clean a q seen b k.0 named h (λ g. (k.1, k.0))
checked_unseen clean Wait c r a q seen b unseen undamaged named h =
    let k = silent_driven (port_reply Wait a.target q) seen h.sees unseen in
    silent Wait c r clean a q seen b k.0 named h (λ g. (
      k.1,
      silent_waits (port_may_wait (port_register a.target.select q) (port_answer a.target q)) (port_answer a.target q)
          k.0,
    ))
checked_unseen clean (Flip place) c r a q seen b unseen undamaged named h =
    let k = silent_driven (port_reply (Flip place) a.target q) seen h.sees unseen in
    silent (Flip place) c r clean a q seen b k.0 named h (λ g. (k.1, k.0))
checked_unseen clean Deaf c r a q seen b unseen undamaged named h =
    silent Deaf c r clean a q seen b refl named h (λ g. lost_plainly clean _ (damaged clean Deaf refl undamaged) g)
checked_unseen clean (Mute place) c r a q seen b unseen undamaged named h =
    muted place c r clean a q seen b (port_answer a.target q) refl (damaged clean (Mute place) refl undamaged) named h

-- OK that the target answered, and that wasn't seen: it was lost, and no power is found late
pub record CheckedOkayLost (clean : Bool) (mark : Mark) (c : Choice) (q : Request) (r : Register) (a b : Port) : Type 0
  where
    pub okayed : CheckedOkayed mark c q r a b
    pub prompt : IsCheckedPrompt c
    pub may : clean ≡ false

okay_driven_seen : (reply : Reply) (seen : ℕ) (P : Type 0) → seen ≡ port_ack_driven reply → IsPortNoAck seen
    → reply ≡ Okay → P
okay_driven_seen reply seen P e none okay =
    absurd (let f : Silent ≡ Okay = sym (silent_driven reply seen e none).0 ∙ okay in cc)

-- what such a request leaves
pub checked_okay_lost : (clean : Bool) (mark : Mark) (c : Choice) (r : Register) (a : Port) (q : Request) (seen : ℕ)
    (b : Port) → IsPortNoAck seen → (clean ≡ true → is_checked_clean mark ≡ true)
    → port_register a.target.select q ≡ r → port_reply mark a.target q ≡ Okay → PortAsksNow mark c a q seen b
    → CheckedOkayLost clean mark c q r a b
checked_okay_lost clean Clean c r a q seen b none undamaged named okay h =
    okay_driven_seen (port_reply Clean a.target q) seen _ h.sees none okay
checked_okay_lost clean Wait c r a q seen b none undamaged named okay h =
    okay_driven_seen (port_reply Wait a.target q) seen _ h.sees none okay
checked_okay_lost clean (Flip place) c r a q seen b none undamaged named okay h =
    okay_driven_seen (port_reply (Flip place) a.target q) seen _ h.sees none okay
checked_okay_lost clean Deaf c r a q seen b none undamaged named okay h =
    absurd (let e : Silent ≡ Okay = okay in cc)
checked_okay_lost clean (Mute place) c r a q seen b none undamaged named okay h =
    let k : CheckedOkayed (Mute place) c q r a b = checked_okayed (Mute place) c r a q seen b okay named h in
    let p = k.late refl in record {
      okayed = k;
      prompt = record { debug = p.0; system = p.1 };
      may = damaged clean (Mute place) refl undamaged;
    }
