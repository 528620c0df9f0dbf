-- A story for every session, step by step: the pending transfer takes effect before each request, and an unknown word
-- is 0.
use Rattle.std.proofs.Common.{◌≡◌, ◌<◌, ◌^◌, ◌%◌, ℕ, zero, suc, Bool, true, false, List, [], ◌∷◌, length, Option, Some}
use Rattle.std.proofs.Common.{None, refl, sym, ap, subst, inl, inr, arith}
use Rattle.std.specs.Prelude.{IfSome, unwrap_or, if◌then◌else◌, ◌==◌, not, nat_lt, ◌+◌}
use Rattle.std.specs.Int.RustNames.{count_ones}
use Rattle.std.proofs.lemmas.Nat.{xor_lt}
use Rattle.std.proofs.Math.Pow.{pow-lt}
use Rattle.swd_bits.specs.declared.request.Request.{Request}
use Rattle.swd_bits.specs.Phases.{data_phase_number, data_phase_word}
use Rattle.swd_port.specs.declared.cue.Cue.{Cue}
use Rattle.swd_port.specs.declared.cue.Cue.TheVariants.{Lead, Ask, Take, Give, Pass}
use Rattle.swd_port.specs.declared.call.Call.{Call}
use Rattle.swd_port.specs.declared.wire.Due.{Due}
use Rattle.swd_port.specs.declared.wire.Due.TheVariants.{Nothing}
use Rattle.swd_port.specs.declared.access.Access.TheVariants.{Read, Write}
use Rattle.swd_port.specs.Bus.{Bus}
use Rattle.swd_port.specs.Choices.{port_flipped}
use Rattle.swd_port.specs.Port.{Port, Target, Register, Drw, Reads, Writes, AfterAck, Drives, Awaits, Idle}
use Rattle.swd_port.specs.Port.{port_register, TarWrite, DrwWrite, RdbuffRead, CswRead, TarRead, ApOtherRead, DrwRead}
use Rattle.swd_port.specs.Choices.{Mark, Clean, Wait, Flip, Deaf, Mute, IsPortMark, port_flip_of, Choice}
use Rattle.swd_port.specs.Answers.{Reply, Okay, Waits, Faults, Silent, port_seen_at}
use Rattle.swd_port.specs.Completion.{port_completed, pending_fails, memory_after_pending, tar_after_pending}
use Rattle.swd_port.specs.Completion.{port_tar_next_address}
use Rattle.swd_port.specs.Asking.{port_reply, port_after_reply, port_target_after, port_buffer_once_read}
use Rattle.swd_port.specs.Asking.{is_port_posted, port_line_after, port_phase_after, pending_drw_once_read}
use Rattle.swd_port.specs.Moving.{port_bits_driven, port_after_take, PortArrival, Arrives, Damaged, Unawaited}
use Rattle.swd_port.specs.Moving.{port_arrival, port_arrival_of, port_after_arrival, port_after_pass}
use Rattle.swd_port.specs.Moving.{port_value_forgotten, tar_after_write, pending_after_write}
use Rattle.swd_port.specs.Leading.{port_after_lead}
use Rattle.swd_port.specs.Steps.{IsPortStep}
use Rattle.swd_port.specs.Stories.{port_due_by, port_at, FitsStory}
use Rattle.swd_port.specs.Laws.NeverStuck.{PortReadsWords, BusReadsWords}
use Rattle.swd_port.specs.Laws.Sessions.{PortHasWords, PortCallsChosen, PortSession, pending_write_word}
use Rattle.swd_port.specs.Laws.Sessions.{FitsStoryUnder, IsPortStepUnder}
use Rattle.swd_port.specs.Laws.Sessions.{MadePortHasWords, PortStepForEachCue, PortSessionFits}
use Rattle.swd_port.proofs.AnswerLaws.{answer_laws}
use Rattle.swd_port.proofs.CallLaws.{port_due_after_step}
use Rattle.swd_port.proofs.NeverStuckLaws.{port_zeros, port_zeros_fit, port_asks_with_zeros, buffer_word_after_pending}
use Rattle.swd_port.proofs.NeverStuckLaws.{port_value_range}

-- the words of the bus after the pending transfer
stored_after : (pending : Option Drw) (at : ℕ) (m : Bus) → pending_write_word pending < 2 ^ 32 → BusReadsWords m
    → BusReadsWords (memory_after_pending pending at m)
stored_after None at m word h = h
stored_after (Some Reads) at m word h = λ made are. h (Read at ∷ made) are
stored_after (Some (Writes v)) at m word h = λ made are. h (Write at v ∷ made) (word, are)

-- TAR after the pending transfer
next_word : (at : ℕ) → at < 2 ^ 32 → IfSome (port_tar_next_address at) (λ word. word < 2 ^ 32)
next_word at h =
    elim (nat_lt (at % 1024 + 4) 1024) as
    (λ b. nat_lt (at % 1024 + 4) 1024 ≡ b → IfSome (if b then Some (at + 4) else None) (λ word. word < 2 ^ 32)) [
      | true ↦ λ e. let below : at % 1024 + 4 < 1024 = grind arith in omega arith
      | false ↦ λ e. tt
    ] refl

advanced : (pending : Option Drw) (failed increments : Bool) (tar : Option ℕ) → IfSome tar (λ word. word < 2 ^ 32)
    → IfSome (tar_after_pending pending failed increments tar) (λ word. word < 2 ^ 32)
advanced None failed increments tar h = h
advanced (Some drw) true increments tar h = tt
advanced (Some drw) false true None h = tt
advanced (Some drw) false true (Some at) h = next_word at h
advanced (Some drw) false false tar h = h

completed_words : (s : Port) → PortHasWords s → PortHasWords (port_completed port_zeros s)
completed_words s w =
    let x = s.target in
    let at = unwrap_or x.tar 0 in
    let failed = pending_fails x.pending at x.memory in
    record {
      reads = record {
        identification = w.reads.identification;
        buffer = buffer_word_after_pending x.pending failed at x.memory x.buffer w.reads.memory w.reads.buffer;
        last_returned = w.reads.last_returned;
        memory = stored_after x.pending at x.memory w.pending w.reads.memory;
      };
      tar = advanced x.pending failed x.increments x.tar w.tar;
      pending = omega arith;
      driven = w.driven;
    }

-- what an OK leaves in the read buffer, in the last returned value, and pending
buffered : (r : Register) (increments : Bool) (tar buffer : Option ℕ) → IfSome tar (λ word. word < 2 ^ 32)
    → IfSome buffer (λ word. word < 2 ^ 32)
    → IfSome (port_buffer_once_read r port_zeros increments tar buffer) (λ word. word < 2 ^ 32)
buffered RdbuffRead increments tar buffer t b = tt
buffered CswRead true tar buffer t b = omega arith
buffered CswRead false tar buffer t b = omega arith
buffered TarRead increments tar buffer t b = t
buffered ApOtherRead increments tar buffer t b = omega arith
buffered r increments tar buffer t b = b

chosen : (b : Bool) (x y : Option ℕ) → IfSome x (λ word. word < 2 ^ 32) → IfSome y (λ word. word < 2 ^ 32)
    → IfSome (if b then x else y) (λ word. word < 2 ^ 32)
chosen true x y g h = g
chosen false x y g h = h

pending_read : (r : Register) (pending : Option Drw) → pending_write_word pending < 2 ^ 32
    → pending_write_word (pending_drw_once_read r pending) < 2 ^ 32
pending_read DrwRead pending h = omega arith
pending_read r pending h = h

flipped_range : (mark : Mark) (bits : ℕ) → IsPortMark mark → bits < 2 ^ 33
    → port_flipped (port_flip_of mark) bits < 2 ^ 33
flipped_range (Flip place) bits legal h = xor_lt 33 bits (2 ^ place) h (pow-lt legal)
flipped_range Clean bits legal h = h
flipped_range Wait bits legal h = h
flipped_range Deaf bits legal h = h
flipped_range (Mute place) bits legal h = h

driven_after : (mark : Mark) (reply : Reply) (read : Bool) (r : Register) (value : ℕ) (line : AfterAck)
    → IsPortMark mark → value < 2 ^ 32 → port_bits_driven line < 2 ^ 33
    → port_bits_driven (port_line_after reply (port_phase_after read r (port_flip_of mark) value) line) < 2 ^ 33
driven_after mark Okay true r value line legal word h = flipped_range mark (data_phase_number value) legal (omega arith)
driven_after mark Okay false r value line legal word h = omega arith
driven_after mark Waits read r value line legal word h = h
driven_after mark Faults read r value line legal word h = h
driven_after mark Silent read r value line legal word h = h

replied_words : (reply : Reply) (r : Register) (ap : Bool) (x : Target) → PortReadsWords x
    → IfSome x.tar (λ word. word < 2 ^ 32) → PortReadsWords (port_target_after port_zeros reply r ap x)
replied_words Okay r ap x w tar = record {
  identification = w.identification;
  buffer = buffered r x.increments x.tar x.buffer tar w.buffer;
  last_returned = chosen (is_port_posted r) x.buffer x.last_returned w.buffer w.last_returned;
  memory = w.memory;
}
replied_words Waits r ap x w tar = record {
  identification = w.identification;
  buffer = w.buffer;
  last_returned = w.last_returned;
  memory = w.memory;
}
replied_words Faults r ap x w tar = record {
  identification = w.identification;
  buffer = w.buffer;
  last_returned = w.last_returned;
  memory = w.memory;
}
replied_words Silent r ap x w tar = w

-- what a reply leaves as it was
replied_tar : (c : Choice) (reply : Reply) (r : Register) (ap : Bool) (x : Target)
    → (port_target_after c reply r ap x).tar ≡ x.tar
replied_tar c Okay r ap x = refl
replied_tar c Waits r ap x = refl
replied_tar c Faults r ap x = refl
replied_tar c Silent r ap x = refl

replied_pending : (c : Choice) (reply : Reply) (r : Register) (ap : Bool) (x : Target)
    → pending_write_word x.pending < 2 ^ 32 → pending_write_word (port_target_after c reply r ap x).pending < 2 ^ 32
replied_pending c Okay r ap x h = pending_read r x.pending h
replied_pending c Waits r ap x h = h
replied_pending c Faults r ap x h = h
replied_pending c Silent r ap x h = h

asked_words : (mark : Mark) (q : Request) (a : Port) → IsPortMark mark → PortHasWords a →
    let r = port_register a.target.select q in
    PortHasWords (port_after_reply mark (port_reply mark a.target q) r q port_zeros a)
asked_words mark q a legal w =
    let x = a.target in
    let r = port_register x.select q in
    let reply = port_reply mark x q in
    record {
      reads = replied_words reply r q.ap x w.reads w.tar;
      tar = subst (λ o. IfSome o (λ word. word < 2 ^ 32)) (sym (replied_tar port_zeros reply r q.ap x)) w.tar;
      pending = replied_pending port_zeros reply r q.ap x w.pending;
      driven = driven_after mark reply q.read r _ a.link.line legal
          (port_value_range r x w.reads.identification w.reads.buffer w.reads.last_returned) w.driven;
    }

-- what the 33 bits of a write leave
abbrev IsArrived : PortArrival → Type 0
IsArrived (Arrives r word) = word < 2 ^ 32
IsArrived a = Unit {0}

arrived_if : (even : Bool) (r : Register) (sent : ℕ)
    → IsArrived (port_arrival_of r (if even then Some (sent % 2 ^ 32) else None))
arrived_if true r sent = omega arith
arrived_if false r sent = tt

arrived : (r : Register) (sent : ℕ) → IsArrived (port_arrival_of r (data_phase_word sent))
arrived r sent = arrived_if (count_ones sent % 2 == 0) r sent

forgets : (a : PortArrival) (value : Option ℕ) → IfSome value (λ word. word < 2 ^ 32)
    → IfSome (port_value_forgotten a value) (λ word. word < 2 ^ 32)
forgets (Arrives r word) value h = chosen _ None value tt h
forgets Unawaited value h = h
forgets Damaged value h = h

written_tar : (a : PortArrival) (tar : Option ℕ) → IsArrived a → IfSome tar (λ word. word < 2 ^ 32)
    → IfSome (tar_after_write a tar) (λ word. word < 2 ^ 32)
written_tar (Arrives TarWrite word) tar a h = a
written_tar (Arrives r word) tar a h = h
written_tar Unawaited tar a h = h
written_tar Damaged tar a h = h

written_pending : (a : PortArrival) (pending : Option Drw) → IsArrived a → pending_write_word pending < 2 ^ 32
    → pending_write_word (pending_after_write a pending) < 2 ^ 32
written_pending (Arrives DrwWrite word) pending a h = a
written_pending (Arrives r word) pending a h = h
written_pending Unawaited pending a h = h
written_pending Damaged pending a h = h

arrives : (line : AfterAck) (sent : ℕ) → IsArrived (port_arrival line sent)
arrives (Awaits r flip) sent = arrived r (port_flipped flip sent)
arrives (Drives bits) sent = tt
arrives Idle sent = tt

given_words : (a : PortArrival) (s : Port) → IsArrived a → PortHasWords s → PortHasWords (port_after_arrival false a s)
given_words a s came w =
    let x = s.target in
    record {
      reads = record {
        identification = w.reads.identification;
        buffer = forgets a x.buffer w.reads.buffer;
        last_returned = forgets a x.last_returned w.reads.last_returned;
        memory = w.reads.memory;
      };
      tar = written_tar a x.tar came w.tar;
      pending = written_pending a x.pending came w.pending;
      driven = omega arith;
    }

-- other steps change nothing of these
same_words : (s t : Port) → PortHasWords s → t.target.identification ≡ s.target.identification
    → t.target.buffer ≡ s.target.buffer → t.target.last_returned ≡ s.target.last_returned
    → t.target.memory ≡ s.target.memory → t.target.tar ≡ s.target.tar → t.target.pending ≡ s.target.pending
    → port_bits_driven t.link.line < 2 ^ 33 → PortHasWords t
same_words s t w i b l m a p d = record {
  reads = record {
    identification = subst (λ n. n < 2 ^ 32) (sym i) w.reads.identification;
    buffer = subst (λ o. IfSome o (λ word. word < 2 ^ 32)) (sym b) w.reads.buffer;
    last_returned = subst (λ o. IfSome o (λ word. word < 2 ^ 32)) (sym l) w.reads.last_returned;
    memory = subst BusReadsWords (sym m) w.reads.memory;
  };
  tar = subst (λ o. IfSome o (λ word. word < 2 ^ 32)) (sym a) w.tar;
  pending = subst (λ o. pending_write_word o < 2 ^ 32) (sym p) w.pending;
  driven = d;
}

line_led : (b : Bool) (line : AfterAck) → port_bits_driven line < 2 ^ 33
    → port_bits_driven (if b then Idle else line) < 2 ^ 33
line_led true line h = omega arith
line_led false line h = h

seen_range : (mark : Mark) (reply : Reply) → IsPortMark mark → port_seen_at mark reply < 8
seen_range mark reply legal = grind (arith, answer_laws)

-- from a state whose values are words, each cue has a step to such a state again, under every mark
pub port_step_for_each_cue : PortStepForEachCue
port_step_for_each_cue mark (Lead ones undriven switch zeros) s legal w =
    let t = port_after_lead ones s in (
      0,
      t,
      refl,
      (s, t, inl refl, record { after = refl }, inl refl),
      same_words s t w refl refl refl refl refl refl (line_led (not (ones == 0)) s.link.line w.driven),
    )
port_step_for_each_cue mark (Ask q) s legal w =
    let a = port_completed port_zeros s in
    let reply = port_reply mark a.target q in
    let t = port_after_reply mark reply (port_register a.target.select q) q port_zeros a in (
      port_seen_at mark reply,
      t,
      seen_range mark reply legal,
      (
        a,
        t,
        port_zeros,
        inr (port_zeros, port_zeros_fit, refl),
        port_asks_with_zeros mark s q legal w.reads,
        inl refl,
      ),
      asked_words mark q a legal (completed_words s w),
    )
port_step_for_each_cue mark Take s legal w =
    let t = port_after_take s in (
      port_bits_driven s.link.line,
      t,
      w.driven,
      (s, t, inl refl, record { gets = refl; after = refl }, inl refl),
      same_words s t w refl refl refl refl refl refl (omega arith),
    )
port_step_for_each_cue mark (Give sent) s legal w =
    let t = port_after_arrival false (port_arrival s.link.line sent) s in (
      0,
      t,
      refl,
      (s, t, inl refl, record { refuses = false; after = refl }, inl refl),
      given_words (port_arrival s.link.line sent) s (arrives s.link.line sent) w,
    )
port_step_for_each_cue mark Pass s legal w =
    let t = port_after_pass s in (
      0,
      t,
      refl,
      (s, t, inl refl, record { after = refl }, inl refl),
      same_words s t w refl refl refl refl refl refl w.driven,
    )

-- a state before any call is such a state, where the identification and the memory's words are below 2^32
pub made_port_has_words : MadePortHasWords
made_port_has_words identification m i h = record {
  reads = record { identification = i; buffer = tt; last_returned = tt; memory = h };
  tar = omega arith;
  pending = omega arith;
  driven = omega arith;
}

-- a state in place of which another stands that is the same, and whose `due` is told
shown_as : (s t : Port) (due : Due) → s ≡ t → t.link.due ≡ due → record s { link = record s.link { due = due } } ≡ t
shown_as s t due same e =
    subst (λ x. record x { link = record x.link { due = due } } ≡ t) (sym same)
    (subst (λ d. record t { link = record t.link { due = d } } ≡ t) e refl)

-- a step under a mark is a step
step_of : (mark : Mark) (cue : Cue) (seen : ℕ) (s t : Port) → IsPortStepUnder mark cue seen s t
    → IsPortStep cue seen s t
step_of mark (Lead ones undriven switch zeros) seen s t h = h
step_of mark (Ask request) seen s t (a, b, c, first, now, last) = (a, a, b, mark, c, first, inl refl, now, last)
step_of mark Take seen s t h = h
step_of mark (Give bits) seen s t h = h
step_of mark Pass seen s t h = h

-- so many calls that were made, the last one first, and the state after them
record Reached : Type 0 where
  calls : List Call
  port : Port
  words : PortHasWords port

module _ (next : List Call → Cue) (marks : ℕ → Mark) (s : Port) (legal : (k : ℕ) → IsPortMark (marks k))
    (w : PortHasWords s) (rests : s.link.due ≡ Nothing) where
  -- the next call, under the mark of its number
  abbrev reach : ℕ → Reached
  reach zero = record { calls = []; port = s; words = w }
  reach (suc k) =
      let r = reach k in
      let went = port_step_for_each_cue (marks k) (next r.calls) r.port (legal k) r.words in
      record { calls = record { cue = next r.calls; seen = went.0 } ∷ r.calls; port = went.1; words = went.4 }

  abbrev story : ℕ → Port
  story k = (reach k).port

  long : (k : ℕ) → length (reach k).calls ≡ k
  long zero = refl
  long (suc k) = ap suc (long k)

  due : (k : ℕ) → (story k).link.due ≡ port_due_by (reach k).calls
  due zero = rests
  due (suc k) =
      let r = reach k in
      let went = port_step_for_each_cue (marks k) (next r.calls) r.port (legal k) r.words in
      port_due_after_step (next r.calls) went.0 r.port went.1
      (step_of (marks k) (next r.calls) went.0 r.port went.1 went.3)

  chose : (k : ℕ) → PortCallsChosen next (reach k).calls
  chose zero = tt
  chose (suc k) =
      let r = reach k in
      let went = port_step_for_each_cue (marks k) (next r.calls) r.port (legal k) r.words in
      (refl, went.2, chose k)

  -- the port that a story shows after these calls is its state
  shown : (k : ℕ) → port_at story (reach k).calls ≡ story k
  shown k = shown_as (story (length (reach k).calls)) (story k) (port_due_by (reach k).calls) (ap story (long k))
      (due k)

  fits : (k : ℕ) → FitsStory story (reach k).calls
  fits zero = tt
  fits (suc k) =
      let r = reach k in
      let went = port_step_for_each_cue (marks k) (next r.calls) r.port (legal k) r.words in (
        fits k,
        subst (λ p. IsPortStep (next r.calls) went.0 p (port_at story (reach (suc k)).calls)) (sym (shown k))
            (subst (λ p. IsPortStep (next r.calls) went.0 r.port p) (sym (shown (suc k)))
            (step_of (marks k) (next r.calls) went.0 r.port went.1 went.3)),
      )

  marked : (k : ℕ) → FitsStoryUnder marks story (reach k).calls
  marked zero = tt
  marked (suc k) =
      let r = reach k in
      let went = port_step_for_each_cue (marks k) (next r.calls) r.port (legal k) r.words in (
        marked k,
        subst (λ n. IsPortStepUnder (marks n) (next r.calls) went.0 (port_at story r.calls)
            (port_at story (reach (suc k)).calls)) (sym (long k))
            (subst (λ p. IsPortStepUnder (marks k) (next r.calls) went.0 p (port_at story (reach (suc k)).calls))
            (sym (shown k))
            (subst (λ p. IsPortStepUnder (marks k) (next r.calls) went.0 r.port p) (sym (shown (suc k))) went.3)),
      )

  session : (n : ℕ) → PortSession next marks s n
  session n = record {
    story = story;
    calls = (reach n).calls;
    begins = refl;
    long = long n;
    chosen = chose n;
    fits = fits n;
    marked = marked n;
  }

-- each host has a session of any length that is consistent with states of the model, whatever it chooses and whatever
-- the marks
pub port_session_fits : PortSessionFits
port_session_fits next marks s n legal w rests = session next marks s legal w rests n
