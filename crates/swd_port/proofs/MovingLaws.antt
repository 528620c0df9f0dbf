-- Laws of data phases, turnarounds, ones and zeros.
use Rattle.std.proofs.Common.{◌≡◌, ◌≢◌, ◌<◌, ◌^◌, ℕ, Bool, false, refl, sym, ap, subst, inl, inr, arith, ◌∙◌}
use Rattle.std.specs.Prelude.{Option, Some, None, ◌==◌}
use Rattle.swd_bits.specs.Bits.{low_bits}
use Rattle.swd_bits.specs.Phases.{data_phase_number, data_phase_word}
use Rattle.swd_port.specs.Choices.{port_flipped}
use Rattle.swd_port.specs.Port.{Port, port_idle_link, Register, DrwWrite, Idle, Awaits, Drw}
use Rattle.swd_port.specs.Made.{port_made}
use Rattle.swd_port.specs.Choices.{Choice}
use Rattle.swd_port.specs.Completion.{PortCompletes, port_completed}
use Rattle.swd_port.specs.Moving.{port_bits_driven, port_after_take, port_after_pass, Arrives, Damaged, port_arrival}
use Rattle.swd_port.specs.Moving.{port_after_arrival, pending_after_write}
use Rattle.swd_port.specs.Leading.{PortLeads}
use Rattle.swd_port.specs.Moves.{port_reset_target, PortAround, PortKept, PortPassed, PortPhaseGot, PortWritten}
use Rattle.swd_port.specs.Moves.{PortWriteSpoiled, PortWriteGiven, whole, damaged}
use Rattle.swd_port.specs.Laws.DataPhases.{PortDataTaken, PortTakeKeeps, PortTakeKeepsAtRest, PortDataGiven}
use Rattle.swd_port.specs.Laws.DataPhases.{PortDataGivenAtRest, PortDataGivenExact, PortTurnaroundPassed}
use Rattle.swd_port.specs.Laws.DataPhases.{PortTurnaroundAtRest}
use Rattle.swd_port.specs.Laws.LineResets.{PortLineReset, PortIdleCycles, PortIdleCyclesAtRest, PortFirstLineReset}
use Rattle.swd_bits.proofs.PhaseLemmas.{data_phase_gives_word, flipped_data_phase_no_word, data_phase_number_bits}
use Rattle.swd_bits.proofs.PhaseLemmas.{data_phase_of_found_word, data_phase_word_by_bits}
use Rattle.swd_port.proofs.CompletionLaws.{port_kept, no_pending_same, no_pending_same_port}

-- the 33 bits of a value, as they are got
got_whole : (value bits : ℕ) → bits ≡ data_phase_number value → value < 2 ^ 32 → PortPhaseGot None value bits
got_whole value bits e range = whole refl (sym (ap (low_bits 33) e ∙ data_phase_number_bits value range))
    (ap data_phase_word e ∙ data_phase_gives_word value range)

got_damaged : (place value bits : ℕ) → bits ≡ port_flipped (Some place) (data_phase_number value) → value < 2 ^ 32
    → bits < 2 ^ 33 → PortPhaseGot (Some place) value bits
got_damaged place value bits e range fits =
    let none : data_phase_word bits ≡ None = ap data_phase_word e ∙ flipped_data_phase_no_word value place range in
    damaged place refl (λ word small is.
    absurd (let some : data_phase_word bits ≡ Some word = data_phase_word_by_bits bits word fits small (sym is) in
    let both : Some word ≡
    None = sym some ∙ none in cc)) none

got : (flip : Option ℕ) (value bits : ℕ) → bits ≡ port_flipped flip (data_phase_number value) → value < 2 ^ 32
    → bits < 2 ^ 33 → PortPhaseGot flip value bits
got None value bits e range fits = got_whole value bits e range
got (Some place) value bits e range fits = got_damaged place value bits e range fits

-- a completion after such a step might as well have come before it
before_step : (step : Port → Port) → ((c : Choice) (s : Port) → port_completed c (step s) ≡ step (port_completed c s))
    → (s a b t : Port) → PortCompletes s a → b ≡ step a → PortCompletes b t →
    (d : Port) × PortCompletes s d × (t ≡ step d)
before_step step moves s a b t first is (inl e) = (a, first, e ∙ is)
before_step step moves s a b t (inl f) is (inr (c, fits, e)) =
    (port_completed c s, inr (c, fits, refl), e ∙ ap (port_completed c) (is ∙ ap step f) ∙ moves c s)
before_step step moves s a b t (inr (d, range, f)) is (inr (c, fits, e)) = (
  a,
  inr (d, range, f),
  e ∙ ap (port_completed c) is ∙ moves c a ∙ ap step
      (no_pending_same_port c a (ap (λ p. p.target.pending) f)),
)

-- the data phase of a read
pub port_data_taken : PortDataTaken
port_data_taken flip value bits s t line range fits (a, b, first, now, last) =
    let k : PortKept s a = port_kept s a first in
    got flip value bits (now.gets ∙ ap (λ l. port_bits_driven l.line) k.link ∙ ap port_bits_driven line) range fits

-- apart from a completion before it, taking a read's data phase leaves target and counts unchanged; nothing is due
-- then, and the line is idle
pub port_take_keeps : PortTakeKeeps
port_take_keeps bits s t (a, b, first, now, last) =
    let (d, done, e) : (d : Port) × PortCompletes s d
    × (t ≡ port_after_take d) = before_step port_after_take (λ c p. refl) s a b t first now.after last in (
      d,
      done,
      record { due = ap (λ p. p.link.due) e; target = ap (λ p. p.target) e; tally = ap (λ p. p.tally) e },
      ap (λ p. p.link.line) e,
    )

-- without a pending transfer taking a read's data phase leaves target and counts unchanged
pub port_take_keeps_at_rest : PortTakeKeepsAtRest
port_take_keeps_at_rest bits s t none h =
    let found : (a : Port) × PortCompletes s a × PortPassed a t × (t.link.line ≡ Idle) = port_take_keeps bits s t h in
    (subst (λ p. PortPassed p t) (no_pending_same s found.0 none found.1) found.2, found.3)

-- the turnaround
abbrev PassedAfter : Port → Port → Type 0
PassedAfter s t = (a : Port) × PortCompletes s a × PortPassed a t × (t.link.line ≡ a.link.line)

passed_after : (s a b t : Port) → PortCompletes s a → b ≡ port_after_pass a → PortCompletes b t → PassedAfter s t
passed_after s a b t first now last =
    let (d, done, e) : (d : Port) × PortCompletes s d
    × (t ≡ port_after_pass d) = before_step port_after_pass (λ c p. refl) s a b t first now last in (
      d,
      done,
      record { due = ap (λ p. p.link.due) e; target = ap (λ p. p.target) e; tally = ap (λ p. p.tally) e },
      ap (λ p. p.link.line) e,
    )

passed_at_rest : (s t : Port) → s.target.pending ≡ None → PassedAfter s t → PortPassed s t × (t.link.line ≡ s.link.line)
passed_at_rest s t none h = subst (λ p. PortPassed p t × (t.link.line ≡ p.link.line)) (no_pending_same s h.0 none h.1)
    (h.2, h.3)

-- apart from a completion before it, the turnaround after WAIT or FAULT changes only what is due: nothing then
pub port_turnaround_passed : PortTurnaroundPassed
port_turnaround_passed s t (a, b, first, now, last) = passed_after s a b t first now.after last

-- without a pending transfer that turnaround changes only what is due
pub port_turnaround_at_rest : PortTurnaroundAtRest
port_turnaround_at_rest s t none h = passed_at_rest s t none (port_turnaround_passed s t h)

-- the data phase of a write
gave : (r : Register) (word : ℕ) (refuses : Bool) (s t : Port) → t ≡ port_after_arrival refuses (Arrives r word) s
    → PortWritten r word s t
gave r word refuses s t e = record {
  link = ap (λ p. p.link) e;
  refuses = refuses;
  target = ap (λ p. p.target) e;
  tally = ap (λ p. p.tally) e;
}

spoiled : (refuses : Bool) (s t : Port) → t ≡ port_after_arrival refuses Damaged s → PortWriteSpoiled s t
spoiled refuses s t e = record { link = ap (λ p. p.link) e; target = ap (λ p. p.target) e; tally = ap (λ p. p.tally) e }

arrives : (r : Register) (word sent : ℕ) → sent ≡ data_phase_number word → word < 2 ^ 32
    → port_arrival (Awaits r None) sent ≡ Arrives r word
arrives r word sent e range = rw (e, data_phase_gives_word word range) refl

spoils : (r : Register) (place word sent : ℕ) → sent ≡ data_phase_number word → word < 2 ^ 32
    → port_arrival (Awaits r (Some place)) sent ≡ Damaged
spoils r place word sent e range = rw (e, flipped_data_phase_no_word word place range) refl

given : (r : Register) (flip : Option ℕ) (word sent : ℕ) (refuses : Bool) (s t : Port) → s.link.line ≡ Awaits r flip
    → word < 2 ^ 32 → sent ≡ data_phase_number word → t ≡ port_after_arrival refuses (port_arrival s.link.line sent) s
    → PortWriteGiven r flip word s t
given r None word sent refuses s t line range is e = whole refl
    (gave r word refuses s t (e ∙ ap (λ x. port_after_arrival refuses (port_arrival x sent) s) line
    ∙ ap (λ x. port_after_arrival refuses x s) (arrives r word sent is range)))
given r (Some place) word sent refuses s t line range is e =
    damaged place refl (spoiled refuses s t
    (e ∙ ap (λ x. port_after_arrival refuses (port_arrival x sent) s) line
    ∙ ap (λ x. port_after_arrival refuses x s) (spoils r place word sent is range)))

-- between two possible completions, the data phase of a write does the write, or, with a bit changed, sets WDATAERR
-- alone
pub port_data_given : PortDataGiven
port_data_given r flip word sent s t line range fits is (a, b, first, now, last) =
    let k : PortKept s a = port_kept s a first in
    let number : sent ≡ data_phase_number word =
    data_phase_of_found_word sent word fits (data_phase_word_by_bits sent word fits range (sym is)) in (
      a,
      b,
      first,
      given r flip word sent now.refuses a b (ap (λ l. l.line) k.link ∙ line) range number now.after,
      last,
    )

-- the same without a pending transfer: a completion can only follow
pub port_data_given_at_rest : PortDataGivenAtRest
port_data_given_at_rest r flip word sent s t line range fits is none h =
    let found : PortAround (PortWriteGiven r flip word) s t =
    port_data_given r flip word sent s t line range fits is h in (
      found.1,
      subst (λ p. PortWriteGiven r flip word p found.1) (no_pending_same s found.0 none found.2) found.3,
      found.4,
    )

only_drw_pends : (r : Register) (word : ℕ) (pending : Option Drw) → r ≢ DrwWrite
    → pending_after_write (Arrives r word) pending ≡ pending
only_drw_pends DrwWrite word pending other = absurd (other refl)
only_drw_pends r word pending other = refl

given_rests : (r : Register) (flip : Option ℕ) (word : ℕ) (s t : Port) → s.target.pending ≡ None → r ≢ DrwWrite
    → PortWriteGiven r flip word s t → t.target.pending ≡ None
given_rests r flip word s t none other (whole e g) = ap (λ x. x.pending) g.target
    ∙ only_drw_pends r word s.target.pending other ∙ none
given_rests r flip word s t none other (damaged place e g) = ap (λ x. x.pending) g.target ∙ none

-- the same without a pending transfer, for every write but that of DRW: no completion follows
pub port_data_given_exact : PortDataGivenExact
port_data_given_exact r flip word sent s t line range fits is none other h =
    let found : (b : Port) × PortWriteGiven r flip word s b
    × PortCompletes b t = port_data_given_at_rest r flip word sent s t line range fits is none h in
    subst (PortWriteGiven r flip word s)
    (sym (no_pending_same found.0 t (given_rests r flip word s found.0 none other found.1) found.2)) found.1

-- ones and zeros
resets : (n : ℕ) → n ≢ 0 → (n == 0) ≡ false
resets n other = grind arith

abbrev after_ones : Port → Port
after_ones s = record s { link = port_idle_link; target = port_reset_target s }

led : (ones : ℕ) (s t : Port) → ones ≢ 0 → PortLeads s ones t → (a : Port) × PortCompletes s a × (t ≡ after_ones a)
led ones s t other (a, b, first, now, last) = before_step after_ones (λ c p. refl) s a b t first
    (now.after ∙ rw (resets ones other) refl) last

-- apart from a completion before it, a line reset makes the target fresh, with nothing due and an idle line, and sets
-- WDATAERR where write data was awaited; it changes nothing else
pub port_line_reset : PortLineReset
port_line_reset ones s t other h =
    let (a, done, e) : (a : Port) × PortCompletes s a × (t ≡ after_ones a) = led ones s t other h in
    (a, done, record { link = ap (λ p. p.link) e; target = ap (λ p. p.target) e; tally = ap (λ p. p.tally) e })

-- apart from a completion before them, zeros alone change only what is due: nothing then
pub port_idle_cycles : PortIdleCycles
port_idle_cycles s t (a, b, first, now, last) = passed_after s a b t first now.after last

-- without a pending transfer zeros alone change only what is due
pub port_idle_cycles_at_rest : PortIdleCyclesAtRest
port_idle_cycles_at_rest s t none h = passed_at_rest s t none (port_idle_cycles s t h)

-- a line reset as the first call makes the target fresh and changes nothing else
pub port_first_line_reset : PortFirstLineReset
port_first_line_reset identification ones m t other h =
    let found : (a : Port) × PortCompletes (port_made identification m) a
    × (t ≡ after_ones a) = led ones (port_made identification m) t other h in
    found.2 ∙ ap after_ones (no_pending_same (port_made identification m) found.0 refl found.1)
