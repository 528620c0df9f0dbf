-- A story stays one where the bus has as its content the accesses that it got. So a theorem about every bus names them.
use Rattle.std.proofs.Common.{◌≡◌, ◌≢◌, ◌≤◌, ℕ, true, false, List, [], ◌∷◌, ◌++◌, length, Option, Some, None}
use Rattle.std.proofs.Common.{refl, sym, ap, subst, inl, inr, arith, ◌∙◌, append-nil}
use Rattle.std.specs.Prelude.{if◌then◌else◌, ◌==◌, unwrap_or}
use Rattle.std.specs.FinMap.{empty}
use Rattle.swd_bits.specs.declared.request.Request.{Request}
use Rattle.swd_port.specs.declared.access.Access.{Access}
use Rattle.swd_port.specs.declared.access.Access.TheVariants.{Read, Write}
use Rattle.swd_port.specs.declared.access.Transfer.{Transfer}
use Rattle.swd_port.specs.declared.call.Call.{Call}
use Rattle.swd_port.specs.declared.cue.Cue.{Cue}
use Rattle.swd_port.specs.declared.cue.Cue.TheVariants.{Lead, Ask, Take, Give, Pass}
use Rattle.swd_port.specs.Bus.{Bus, bus_after}
use Rattle.swd_port.specs.PlainMemory.{PlainMemory}
use Rattle.swd_port.specs.Port.{Port, Register, Drw, Reads, Writes, port_register}
use Rattle.swd_port.specs.Choices.{Mark, Choice}
use Rattle.swd_port.specs.Completion.{PortCompletes, port_completed}
use Rattle.swd_port.specs.Answers.{Reply, Okay, Waits, Faults, Silent}
use Rattle.swd_port.specs.Asking.{PortAsksNow, port_after_reply, port_reply, PortKeepsOrGivesUp}
use Rattle.swd_port.specs.Moving.{PortTakesNow, PortGivesNow, PortPassesNow}
use Rattle.swd_port.specs.Leading.{PortLeadsNow}
use Rattle.swd_port.specs.Steps.{IsPortStep}
use Rattle.swd_port.specs.Stories.{FitsStory, port_at, port_due_by}
use Rattle.swd_port.specs.Reached.{accesses_once_completed, accesses_of_completion, accesses_of_step}
use Rattle.swd_port.specs.Reached.{accesses_of_story, story_before}

-- A LIST OF ACCESSES AS THE CONTENT OF A BUS
access_entry : Access → Transfer
access_entry (Read at) = record { read = true; addr = at; word = 0 }
access_entry (Write at word) = record { read = false; addr = at; word = word }

entry_access : Transfer → Access
entry_access t = if t.read then Read t.addr else Write t.addr t.word

access_entries : List Access → List Transfer
access_entries [] = []
access_entries (a ∷ made) = access_entry a ∷ access_entries made

entry_accesses : List Transfer → List Access
entry_accesses [] = []
entry_accesses (t ∷ log) = entry_access t ∷ entry_accesses log

-- a memory that names a list of accesses
pub accesses_content : List Access → PlainMemory
accesses_content made = record { words = empty; log = access_entries made; room = 0 }

named_access : (a : Access) → entry_access (access_entry a) ≡ a
unfolding access_entry entry_access
named_access (Read at) = refl
named_access (Write at word) = refl

named_accesses : (made : List Access) → entry_accesses (access_entries made) ≡ made
unfolding access_entries entry_accesses
named_accesses [] = refl
named_accesses (a ∷ made) =
    ap (λ first. first ∷ entry_accesses (access_entries made)) (named_access a)
    ∙ ap (λ more. a ∷ more) (named_accesses made)

-- and no other
pub accesses_content_same : (one other : List Access) → accesses_content one ≡ accesses_content other → one ≡ other
unfolding accesses_content
accesses_content_same one other same =
    sym (named_accesses one) ∙ ap (λ m. entry_accesses m.log) same ∙ named_accesses other

-- A BUS THAT RECORDS
-- this bus, with the accesses that it got as its content; it got `past` before
abbrev pub bus_recording : List Access → Bus → Bus
bus_recording past b = record b { content = λ made. accesses_content (past ++ made) }

-- the port over such a bus
abbrev pub port_recording : List Access → Port → Port
port_recording past s = record s { target = record s.target { memory = bus_recording past s.target.memory } }

one_later : (past : List Access) (a : Access) (made : List Access) → past ++ (a ∷ made) ≡ (past ++ a ∷ []) ++ made
one_later [] a made = refl
one_later (x ∷ past) a made = ap (λ l. x ∷ l) (one_later past a made)

-- it records each access
pub bus_recording_after : (past : List Access) (a : Access) (b : Bus) → bus_after a (bus_recording past b)
    ≡ bus_recording (past ++ a ∷ []) (bus_after a b)
bus_recording_after past (Read at) b = ap (λ content. record (bus_after (Read at) b) { content = content })
    (λ i made. accesses_content (one_later past (Read at) made i))
bus_recording_after past (Write at word) b = ap (λ content. record (bus_after (Write at word) b) { content = content })
    (λ i made. accesses_content (one_later past (Write at word) made i))

later_list : (past more last : List Access) → (past ++ more) ++ last ≡ past ++ (more ++ last)
later_list [] more last = refl
later_list (x ∷ past) more last = ap (λ l. x ∷ l) (later_list past more last)

-- EACH STEP
with_pending : Option Drw → Port → Port
with_pending pending s = record s { target = record s.target { pending = pending } }

completed_by : (past : List Access) (c : Choice) (s : Port) (pending : Option Drw)
    → port_completed c (port_recording past (with_pending pending s))
    ≡ port_recording (past ++ accesses_once_completed c (with_pending pending s).target)
    (port_completed c (with_pending pending s))
unfolding with_pending
completed_by past c s None =
    ap (λ p. port_recording p (port_completed c (with_pending None s))) (sym (append-nil past))
completed_by past c s (Some Reads) =
    let t = port_completed c (with_pending (Some Reads) s) in
    ap (λ m. record t { target = record t.target { memory = m } })
    (bus_recording_after past (Read (unwrap_or s.target.tar c.address)) s.target.memory)
completed_by past c s (Some (Writes word)) =
    let t = port_completed c (with_pending (Some (Writes word)) s) in
    ap (λ m. record t { target = record t.target { memory = m } })
    (bus_recording_after past (Write (unwrap_or s.target.tar c.address) word) s.target.memory)

-- a completion, of a bus that records
pub completed_recording : (past : List Access) (c : Choice) (s : Port) → port_completed c (port_recording past s)
    ≡ port_recording (past ++ accesses_once_completed c s.target) (port_completed c s)
unfolding with_pending
completed_recording past c s = completed_by past c s s.target.pending

completes_recording : (past : List Access) (s t : Port) (h : PortCompletes s t) → PortCompletes (port_recording past s)
    (port_recording (past ++ accesses_of_completion s t h) t)
completes_recording past s t (inl same) =
    inl (ap (λ p. port_recording p t) (append-nil past) ∙ ap (port_recording past) same)
completes_recording past s t (inr (c, legal, after)) =
    inr (
      c,
      legal,
      ap (port_recording (past ++ accesses_once_completed c s.target)) after
          ∙ sym (completed_recording past c s),
    )

-- a completion, after others
completes_later : (past more : List Access) (s t : Port) (h : PortCompletes s t)
    → PortCompletes (port_recording (past ++ more) s)
    (port_recording (past ++ (more ++ accesses_of_completion s t h)) t)
completes_later past more s t h =
    subst (λ p. PortCompletes (port_recording (past ++ more) s) (port_recording p t))
    (later_list past more (accesses_of_completion s t h)) (completes_recording (past ++ more) s t h)

led : (p : List Access) (s : Port) (ones : ℕ) (t : Port) → PortLeadsNow s ones t
    → PortLeadsNow (port_recording p s) ones (port_recording p t)
led p s ones t now = record { after = ap (port_recording p) now.after }

replied : (p : List Access) (mark : Mark) (reply : Reply) (r : Register) (q : Request) (c : Choice) (s : Port)
    → port_after_reply mark reply r q c (port_recording p s) ≡ port_recording p (port_after_reply mark reply r q c s)
replied p mark Okay r q c s = refl
replied p mark Waits r q c s = refl
replied p mark Faults r q c s = refl
replied p mark Silent r q c s = refl

asked : (p : List Access) (mark : Mark) (c : Choice) (s : Port) (q : Request) (seen : ℕ) (t : Port)
    → PortAsksNow mark c s q seen t → PortAsksNow mark c (port_recording p s) q seen (port_recording p t)
asked p mark c s q seen t now = record {
  legal = now.legal;
  choice = now.choice;
  late = now.late;
  settled = now.settled;
  word = now.word;
  sees = now.sees;
  after = ap (port_recording p) now.after
      ∙ sym (replied p mark (port_reply mark s.target q) (port_register s.target.select q) q c s);
}

taken : (p : List Access) (s : Port) (bits : ℕ) (t : Port) → PortTakesNow s bits t
    → PortTakesNow (port_recording p s) bits (port_recording p t)
taken p s bits t now = record { gets = now.gets; after = ap (port_recording p) now.after }

given : (p : List Access) (s : Port) (bits : ℕ) (t : Port) → PortGivesNow s bits t
    → PortGivesNow (port_recording p s) bits (port_recording p t)
given p s bits t now = record { refuses = now.refuses; after = ap (port_recording p) now.after }

passed : (p : List Access) (s t : Port) → PortPassesNow s t → PortPassesNow (port_recording p s) (port_recording p t)
passed p s t now = record { after = ap (port_recording p) now.after }

given_up_recording : (p : List Access) (mark : Mark) (q : Request) (s t : Port) → PortKeepsOrGivesUp mark q s t
    → PortKeepsOrGivesUp mark q (port_recording p s) (port_recording p t)
given_up_recording p mark q s t (inl e) = inl (ap (port_recording p) e)
given_up_recording p mark q s t (inr g) = inr (record {
  exempt = g.exempt;
  seen = g.seen;
  write = g.write;
  after = ap (port_recording p) g.after;
})

step_recording : (past : List Access) (cue : Cue) (seen : ℕ) (s t : Port) (h : IsPortStep cue seen s t)
    → IsPortStep cue seen (port_recording past s) (port_recording (past ++ accesses_of_step cue seen s t h) t)
step_recording past (Lead ones undriven switch zeros) seen s t (a, b, first, now, last) =
    let p = past ++ accesses_of_completion s a first in (
      port_recording p a,
      port_recording p b,
      completes_recording past s a first,
      led p a ones b now,
      completes_later past (accesses_of_completion s a first) b t last,
    )
step_recording past (Ask request) seen s t (a, d, b, mark, c, first, kept, now, last) =
    let p = past ++ accesses_of_completion s a first in (
      port_recording p a,
      port_recording p d,
      port_recording p b,
      mark,
      c,
      completes_recording past s a first,
      given_up_recording p mark request a d kept,
      asked p mark c d request seen b now,
      completes_later past (accesses_of_completion s a first) b t last,
    )
step_recording past Take seen s t (a, b, first, now, last) =
    let p = past ++ accesses_of_completion s a first in (
      port_recording p a,
      port_recording p b,
      completes_recording past s a first,
      taken p a seen b now,
      completes_later past (accesses_of_completion s a first) b t last,
    )
step_recording past (Give bits) seen s t (a, b, first, now, last) =
    let p = past ++ accesses_of_completion s a first in (
      port_recording p a,
      port_recording p b,
      completes_recording past s a first,
      given p a bits b now,
      completes_later past (accesses_of_completion s a first) b t last,
    )
step_recording past Pass seen s t (a, b, first, now, last) =
    let p = past ++ accesses_of_completion s a first in (
      port_recording p a,
      port_recording p b,
      completes_recording past s a first,
      passed p a b now,
      completes_later past (accesses_of_completion s a first) b t last,
    )

-- WHOLE STORIES
-- a port with what is due after these calls
due_after : List Call → Port → Port
due_after calls s = record s { link = record s.link { due = port_due_by calls } }

fits_same : (f g : ℕ → Port) (calls : List Call) → ((n : ℕ) → n ≤ length calls → f n ≡ g n) → FitsStory f calls
    → FitsStory g calls
unfolding due_after
fits_same f g [] same fits = tt
fits_same f g (call ∷ calls) same (before, step) = (
  fits_same f g calls (λ n few. same n (omega arith)) before,
  subst (λ s. IsPortStep call.cue call.seen s (port_at g (call ∷ calls)))
      (ap (due_after calls) (same (length calls) (omega arith)))
      (subst (IsPortStep call.cue call.seen (port_at f calls))
      (ap (due_after (call ∷ calls)) (same (length (call ∷ calls)) (omega arith))) step),
)

-- the story over a bus that records from the first call on
pub recorded_story : (story : ℕ → Port) (calls : List Call) → FitsStory story calls → ℕ → Port
recorded_story story [] fits n = port_recording [] (story n)
recorded_story story (call ∷ calls) (before, step) n =
    if n == length (call ∷ calls) then
    port_recording (accesses_of_story story (call ∷ calls) (before, step)) (story n)
    else recorded_story story calls before n

same_number : (n : ℕ) → (n == n) ≡ true
same_number n = grind arith

other_number : (n m : ℕ) → n ≢ m → (n == m) ≡ false
other_number n m other = grind arith

-- its last state
pub recorded_at_end : (story : ℕ → Port) (calls : List Call) (fits : FitsStory story calls)
    → recorded_story story calls fits (length calls)
    ≡ port_recording (accesses_of_story story calls fits) (story (length calls))
unfolding recorded_story
recorded_at_end story [] fits = refl
recorded_at_end story (call ∷ calls) (before, step) = rw (same_number (length (call ∷ calls))) refl

-- its states before a call are those of the calls before
recorded_below : (story : ℕ → Port) (call : Call) (calls : List Call) (fits : FitsStory story (call ∷ calls)) (n : ℕ)
    → n ≤ length calls → recorded_story story (call ∷ calls) fits n ≡ recorded_story story calls fits.0 n
unfolding recorded_story
recorded_below story call calls (before, step) n few =
    rw (other_number n (length (call ∷ calls)) (λ e. absurd (omega arith))) refl

-- it is a story of the same calls
pub recorded_fits : (story : ℕ → Port) (calls : List Call) (fits : FitsStory story calls)
    → FitsStory (recorded_story story calls fits) calls
unfolding due_after
recorded_fits story [] fits = tt
recorded_fits story (call ∷ calls) (before, step) =
    let whole : FitsStory story (call ∷ calls) = (before, step) in
    let recorded = recorded_story story (call ∷ calls) whole in
    let past = accesses_of_story story calls before in
    let now = step_recording past call.cue call.seen (port_at story calls) (port_at story (call ∷ calls)) step in (
      fits_same (recorded_story story calls before) recorded calls
          (λ n few. sym (recorded_below story call calls whole n few)) (recorded_fits story calls before),
      subst (λ s. IsPortStep call.cue call.seen s (port_at recorded (call ∷ calls)))
          (ap (due_after calls) (sym (recorded_below story call calls whole (length calls) (omega arith)
          ∙ recorded_at_end story calls before)))
          (subst (IsPortStep call.cue call.seen (port_recording past (port_at story calls)))
          (ap (due_after (call ∷ calls)) (sym (recorded_at_end story (call ∷ calls) whole))) now),
    )

not_longer : (calls past : List Call) → length past ≤ length (calls ++ past)
not_longer [] past = omega arith
not_longer (call ∷ calls) past = let fewer = not_longer calls past in omega arith

-- its state before the last of these calls
pub recorded_before : (story : ℕ → Port) (calls past : List Call) (fits : FitsStory story (calls ++ past))
    → recorded_story story (calls ++ past) fits (length past)
    ≡ port_recording (accesses_of_story story past (story_before story calls past fits)) (story (length past))
recorded_before story [] past fits = recorded_at_end story past fits
recorded_before story (call ∷ calls) past (before, step) =
    recorded_below story call (calls ++ past) (before, step) (length past) (not_longer calls past)
    ∙ recorded_before story calls past before
