-- A step for each state: the pending transfer takes effect, and an unknown word is 0.
use Rattle.std.proofs.Common.{ℕ, ◌<◌, ◌^◌, Bool, true, false, Option, Some, None, [], refl, inl, inr, arith}
use Rattle.std.specs.Prelude.{IfSome, unwrap_or}
use Rattle.swd_port.specs.Bus.{Bus}
use Rattle.swd_port.specs.Port.{Target, Register, DpidrRead, CtrlStatRead, ResendRead, DpOtherRead, Drw, Reads, Writes}
use Rattle.swd_port.specs.Port.{port_register, Port}
use Rattle.swd_port.specs.Choices.{Choice, IsPortChoice, Mark, IsPortMark}
use Rattle.swd_port.specs.Answers.{Reply, Okay, Waits, Faults, Silent, port_seen_at}
use Rattle.swd_port.specs.Completion.{port_completed, pending_fails, buffer_after_pending}
use Rattle.swd_port.specs.Asking.{port_value_in, port_reply, port_after_reply, IsPendingSettled, IsPortWordRead}
use Rattle.swd_port.specs.Asking.{PortAsksNow}
use Rattle.swd_port.specs.Moving.{port_bits_driven, port_after_take, port_arrival, port_after_arrival, port_after_pass}
use Rattle.swd_port.specs.Leading.{port_after_lead}
use Rattle.swd_port.specs.declared.cue.Cue.TheVariants.{Lead, Ask, Take, Give, Pass}
use Rattle.swd_bits.specs.declared.request.Request.{Request}
use Rattle.swd_port.specs.Laws.NeverStuck.{PortRequestNeverStuck, PortCallNeverStuck, PortReadsWords, BusReadsWords}
use Rattle.swd_port.proofs.AnswerLaws.{port_sees_seen_at, port_deaf_silent}
use Rattle.swd_port.proofs.StatusLaws.{ctrl_stat_word_range}

-- a target's choice: 0 for an unknown address, an unknown word, the bits that the model leaves open, and a register
-- elsewhere, which is no bus error; and no power is late
abbrev pub port_zeros : Choice
port_zeros = record {
  address = 0;
  filler = 0;
  others = 0;
  elsewhere = 0;
  refuses = false;
  debug_late = false;
  system_late = false;
}

-- its address and its words are below 2^32
pub port_zeros_fit : IsPortChoice port_zeros
port_zeros_fit = record {
  address = omega arith;
  filler = omega arith;
  others = omega arith;
  elsewhere = omega arith;
}

known : (o : Option ℕ) → IfSome o (λ word. word < 2 ^ 32) → unwrap_or o 0 < 2 ^ 32
known None h = omega arith
known (Some word) h = h

-- the read buffer, once the pending transfer took effect
pub buffer_word_after_pending : (pending : Option Drw) (failed : Bool) (at : ℕ) (m : Bus) (buffer : Option ℕ) →
    BusReadsWords m → IfSome buffer (λ word. word < 2 ^ 32) →
    IfSome (buffer_after_pending pending failed at m buffer) (λ word. word < 2 ^ 32)
buffer_word_after_pending None failed at m buffer words h = h
buffer_word_after_pending (Some Reads) true at m buffer words h = tt
buffer_word_after_pending (Some Reads) false at m buffer words h = words [] tt at
buffer_word_after_pending (Some (Writes word)) true at m buffer words h = tt
buffer_word_after_pending (Some (Writes word)) false at m buffer words h = h

-- a read returns 32 bits, with 0 for an unknown word, where the identification, the read buffer and the last returned
-- value have 32 bits, or are unknown
pub port_value_range : (r : Register) (x : Target) → x.identification < 2 ^ 32
    → IfSome x.buffer (λ word. word < 2 ^ 32) →
    IfSome x.last_returned (λ word. word < 2 ^ 32) → port_value_in port_zeros r x < 2 ^ 32
port_value_range DpidrRead x i b l = i
port_value_range CtrlStatRead x i b l =
    ctrl_stat_word_range 0 x.sticky_error x.read_ok x.write_error x.debug_power _ x.system_power _
port_value_range ResendRead x i b l = known x.last_returned l
port_value_range DpOtherRead x i b l = omega arith
port_value_range r x i b l = known x.buffer b

settled : (reply : Reply) (r : Register) → IsPendingSettled reply r None
settled Okay r = λ e. refl
settled Faults r = λ e. refl
settled Waits r = tt
settled Silent r = tt

word_read : (reply : Reply) (read : Bool) (value : ℕ) → value < 2 ^ 32 → IsPortWordRead reply read value
word_read Okay true value h = h
word_read Okay false value h = tt
word_read Faults read value h = tt
word_read Waits read value h = tt
word_read Silent read value h = tt

-- a request under a mark, once the pending transfer took effect
pub port_asks_with_zeros : (mark : Mark) (s : Port) (q : Request) → IsPortMark mark → PortReadsWords s.target →
    let a = port_completed port_zeros s in
    let reply = port_reply mark a.target q in
    PortAsksNow mark port_zeros a q (port_seen_at mark reply)
    (port_after_reply mark reply (port_register a.target.select q) q port_zeros a)
port_asks_with_zeros mark s q legal words =
    let a = port_completed port_zeros s in
    let r = port_register a.target.select q in
    let reply = port_reply mark a.target q in
    let x = s.target in
    let at = unwrap_or x.tar 0 in
    let buffer = buffer_word_after_pending x.pending (pending_fails x.pending at x.memory) at x.memory x.buffer
    words.memory words.buffer in
    record {
      legal = legal;
      choice = port_zeros_fit;
      settled = settled reply r;
      late = λ e. (refl, refl);
      word = word_read reply q.read (port_value_in port_zeros r a.target)
          (port_value_range r a.target words.identification buffer words.last_returned);
      sees = port_sees_seen_at mark (port_reply mark (port_completed port_zeros s).target q) legal
          (port_deaf_silent mark _ _);
      after = refl;
    }

-- a request has a step under every mark, from each state whose values are words
pub port_request_never_stuck : PortRequestNeverStuck
port_request_never_stuck mark s q legal words =
    let a = port_completed port_zeros s in
    let reply = port_reply mark a.target q in (
      port_seen_at mark reply,
      port_after_reply mark reply (port_register a.target.select q) q port_zeros a,
      a,
      port_zeros,
      inr (port_zeros, port_zeros_fit, refl),
      port_asks_with_zeros mark s q legal words,
    )

-- every other call has a step from each state
pub port_call_never_stuck : PortCallNeverStuck
port_call_never_stuck (Lead ones undriven switch zeros) s other =
    (0, port_after_lead ones s, (s, port_after_lead ones s, inl refl, record { after = refl }, inl refl))
port_call_never_stuck (Ask q) s other = grind arith
port_call_never_stuck Take s other = (
  port_bits_driven s.link.line,
  port_after_take s,
  (s, port_after_take s, inl refl, record { gets = refl; after = refl }, inl refl),
)
port_call_never_stuck (Give sent) s other =
    let t = port_after_arrival false (port_arrival s.link.line sent) s in
    (0, t, (s, t, inl refl, record { refuses = false; after = refl }, inl refl))
port_call_never_stuck Pass s other = (
  0,
  port_after_pass s,
  (s, port_after_pass s, inl refl, record { after = refl }, inl refl),
)
