-- The requests of a word's write and of a word's read, from the laws of each of them alone.
use Rattle.std.proofs.Common.{◌≡◌, ◌≢◌, ◌+◌, ◌<◌, ◌^◌, ℕ, true, false, refl, sym, ap, subst, inl, inr, arith, ◌∙◌}
use Rattle.std.specs.Prelude.{Option, Some, None}
use Rattle.swd_port.specs.declared.access.Access.TheVariants.{Read, Write}
use Rattle.swd_port.specs.declared.access.Answer.TheVariants.{Value}
use Rattle.swd_bits.specs.Phases.{data_phase_number}
use Rattle.swd_bits.specs.Wire.{IsDataPhaseOf}
use Rattle.swd_port.specs.Choices.{port_flipped}
use Rattle.swd_port.specs.Bus.{Bus, bus_word_at, bus_answer, bus_after}
use Rattle.swd_port.specs.Port.{Port, Target, RdbuffRead, DrwRead, DrwWrite, Idle, Drives, Awaits, Live, port_register}
use Rattle.swd_port.specs.Port.{port_request_for}
use Rattle.swd_port.specs.Completion.{PortCompletes}
use Rattle.swd_port.specs.Asking.{PortAsks}
use Rattle.swd_port.specs.Moving.{PortTakes, PortGives, Arrives, port_after_bits}
use Rattle.swd_port.specs.Moves.{PortAround, PortKept, PortPassed, PortPhaseGot, whole as got_whole}
use Rattle.swd_port.specs.Moves.{damaged as got_damaged, PortWriteGiven, PortWritten}
use Rattle.swd_port.specs.Outcomes.{PortOkaySeen, PortAccepts, PortPhaseSpared, PortOkayWaitOrLost, okay, wait, lost}
use Rattle.swd_port.specs.Transfers.{PortSent, PortAimed, PortSucceeded}
use Rattle.swd_port.specs.Laws.Accesses.{PortReady, PortWordWritten, PortWordRead}
use Rattle.swd_port.specs.Laws.WordsRead.{PortOnLine}
use Rattle.swd_port.specs.Laws.Requests.{PortConfirms, confirms_okay, confirms_wait, confirms_fault, confirms_lost}
use Rattle.swd_port.proofs.CompletionLaws.{no_pending_same, port_kept, port_sent_stays, port_drw_read_sent}
use Rattle.swd_port.proofs.CompletionLaws.{port_drw_write_sent}
use Rattle.swd_port.proofs.RequestLaws.{port_free_exact, port_free_at_rest, port_confirming_request}
use Rattle.swd_port.proofs.MovingLaws.{port_data_taken, port_data_given_at_rest, port_take_keeps}
use Rattle.swd_port.proofs.MovingLaws.{port_take_keeps_at_rest}
use Rattle.swd_port.proofs.StatusLaws.{port_buffer_returned}

not_drw_read : DrwWrite ≢ DrwRead
not_drw_read e = cc

-- the request of DRW, seen as OK
drw_seen : (at : ℕ) (m : Bus) (s t : Port) → PortReady s.target → PortAimed at m s.target
    → PortAsks s (port_request_for DrwWrite) 1 t → PortOkaySeen DrwWrite false 1 s t
drw_seen at m s t r h asks =
    elim (port_free_exact DrwWrite (port_request_for DrwWrite) 1 s t
    (ap (λ x. port_register x (port_request_for DrwWrite)) r.select) refl not_drw_read r.live h.pending r.write_error
    h.sticky_error (λ e. r.power) asks) [
      | okay o ↦ o
      | wait w ↦ absurd (let e : 1 ≡ 2 = w.is in cc)
      | lost n e ↦ absurd (let e : true ≡ false = n.none.not_okay in cc)
    ]

-- it wasn't disturbed
not_flipped : (flip : Option ℕ) (s t : Port) → PortPhaseSpared flip s t → t.tally.disturbed ≡ s.tally.disturbed
    → flip ≡ None
not_flipped flip s t (inl e) same = e
not_flipped flip s t (inr h) same = absurd (let e : t.tally.disturbed ≡ s.tally.disturbed + 1 = h.3 in omega arith)

given_whole : (word : ℕ) (s t : Port) → PortWriteGiven DrwWrite None word s t → PortWritten DrwWrite word s t
given_whole word s t (got_whole e g) = g
given_whole word s t (got_damaged place e g) = absurd (cc)

-- what is due and what stands after its data phase
record WordGiven (at word : ℕ) (m : Bus) (x : Target) : Type 0 where
  pub live : x.reset ≡ Live
  pub write_error : x.write_error ≡ false
  pub sent : PortSent (Write at word) m x

given_word : (at word sent : ℕ) (m : Bus) (s asked given : Port) → PortReady s.target → PortAimed at m s.target
    → word < 2 ^ 32 → sent < 2 ^ 33 → IsDataPhaseOf word sent →
    PortOkaySeen DrwWrite false 1 s asked → asked.tally.disturbed ≡ s.tally.disturbed → PortGives asked sent given
    → WordGiven at word m given.target
given_word at word sent m s asked given r h range fits is o clean gives =
    let a : PortAccepts DrwWrite false o.flip s asked = o.accepts in
    let aimed : PortAimed at m asked.target = subst (PortAimed at m) (sym a.target)
    (record { tar = h.tar; memory = h.memory; pending = h.pending; sticky_error = h.sticky_error }) in
    let line : asked.link.line ≡ Awaits DrwWrite None = a.line
    ∙ ap (λ f. Awaits DrwWrite f) (not_flipped o.flip s asked o.spares clean) in
    let found : (b : Port) × PortWriteGiven DrwWrite None word asked b
    × PortCompletes b given = port_data_given_at_rest DrwWrite None word sent asked given line range fits is
    aimed.pending gives in
    let g : PortWritten DrwWrite word asked found.0 = given_whole word asked found.0 found.1 in
    let k : PortKept found.0 given = port_kept found.0 given found.2 in
    record {
      live = k.reset ∙ ap (λ x. x.reset) g.target ∙ a.live;
      write_error = k.write_error
          ∙ ap (λ x. x.write_error) (g.target ∙ ap (port_after_bits g.refuses (Arrives DrwWrite word)) a.target)
          ∙ r.write_error;
      sent = port_sent_stays (Write at word) m found.0 given found.2
          (port_drw_write_sent at word m asked found.0 aimed g);
    }

-- the confirming read of RDBUFF
confirmed_done : (at word : ℕ) (m : Bus) (s t : Port)
    → PortConfirms (Write at word) m RdbuffRead (port_request_for RdbuffRead) 1 s t
    → PortSucceeded (Write at word) m t.target
confirmed_done at word m s t (confirms_okay done o) = subst (PortSucceeded (Write at word) m) (sym o.accepts.target)
    (record {
      answer = done.answer;
      memory = done.memory;
      pending = done.pending;
      sticky_error = done.sticky_error;
      buffered = tt;
      advanced = done.advanced;
    })
confirmed_done at word m s t (confirms_wait sent w) = absurd (let e : 1 ≡ 2 = w.is in cc)
confirmed_done at word m s t (confirms_fault failed f) = absurd (let e : 1 ≡ 4 = f.is in cc)
confirmed_done at word m s t (confirms_lost sent n e) = absurd (let e : true ≡ false = n.none.not_okay in cc)

confirmed_call : (at word : ℕ) (m : Bus) (s t : Port)
    → PortAround (PortConfirms (Write at word) m RdbuffRead (port_request_for RdbuffRead) 1) s t
    → PortSucceeded (Write at word) m t.target
confirmed_call at word m s t (a, b, first, step, last) =
    let done : PortSucceeded (Write at word) m b.target = confirmed_done at word m a b step in
    subst (λ p. PortSucceeded (Write at word) m p.target) (sym (no_pending_same b t done.pending last)) done

-- at a ready target a DRW write, answered OK and undisturbed, and then an RDBUFF read, answered OK: the write was
-- done once
pub port_word_written : PortWordWritten
port_word_written at word sent bits m s asked given confirmed t r h range fits is asks clean gives reads takes =
    let g : WordGiven at word m given.target = given_word at word sent m s asked given r h range fits is
    (drw_seen at m s asked r h asks) clean gives in
    let done : PortSucceeded (Write at word) m confirmed.target = confirmed_call at word m given confirmed
    (port_confirming_request (Write at word) m RdbuffRead (port_request_for RdbuffRead) 1 given confirmed g.sent refl
    refl g.live g.write_error (λ e. absurd (cc)) reads) in
    subst (PortSucceeded (Write at word) m) (sym (port_take_keeps_at_rest bits confirmed t done.pending takes).0.target)
    done

-- what stands from the request of a DRW read on
record ReadGiven (at : ℕ) (m : Bus) (x : Target) : Type 0 where
  pub live : x.reset ≡ Live
  pub write_error : x.write_error ≡ false
  pub sent : PortSent (Read at) m x

-- the request of a DRW read, seen as OK
read_seen : (at : ℕ) (m : Bus) (s t : Port) → PortReady s.target → PortAimed at m s.target
    → PortAsks s (port_request_for DrwRead) 1 t → ReadGiven at m t.target
read_seen at m s t r h asks =
    let found : (b : Port) × PortOkayWaitOrLost DrwRead true 1 s b × PortCompletes b t =
    port_free_at_rest DrwRead (port_request_for DrwRead) 1 s t
    (ap (λ x. port_register x (port_request_for DrwRead)) r.select) refl
    r.live h.pending r.write_error h.sticky_error (λ e. r.power) asks in
    let k : PortKept found.0 t = port_kept found.0 t found.2 in
    elim found.1 [
      | okay o ↦ record {
        live = k.reset ∙ o.accepts.live;
        write_error = k.write_error ∙ ap (λ x. x.write_error) o.accepts.target ∙ r.write_error;
        sent = port_sent_stays (Read at) m found.0 t found.2 (port_drw_read_sent at m o.flip s found.0 h o.accepts);
      }
      | wait w ↦ absurd (let e : 1 ≡ 2 = w.is in cc)
      | lost n e ↦ absurd (let e : true ≡ false = n.none.not_okay in cc)
    ]

-- its data phase
read_taken : (at bits : ℕ) (m : Bus) (s t : Port) → ReadGiven at m s.target → PortTakes s bits t
    → ReadGiven at m t.target
read_taken at bits m s t h takes =
    let found : (a : Port) × PortCompletes s a × PortPassed a t × (t.link.line ≡ Idle) =
    port_take_keeps bits s t takes in
    let k : PortKept s found.0 = port_kept s found.0 found.1 in
    subst (ReadGiven at m) (sym found.2.target)
    (record {
      live = k.reset ∙ h.live;
      write_error = k.write_error
          ∙ h.write_error;
      sent = port_sent_stays (Read at) m s found.0 found.1 h.sent;
    })

-- RDBUFF, seen as OK and undisturbed, has the word
record WordOut (at : ℕ) (m : Bus) (t : Port) : Type 0 where
  pub answer : bus_answer (Read at) m ≡ Value (bus_word_at at m)
  pub memory : t.target.memory ≡ bus_after (Read at) m
  pub pending : t.target.pending ≡ None
  pub range : bus_word_at at m < 2 ^ 32
  pub line : t.link.line ≡ Drives (port_flipped None (data_phase_number (bus_word_at at m)))

buffer_seen : (at : ℕ) (m : Bus) (s t : Port)
    → PortConfirms (Read at) m RdbuffRead (port_request_for RdbuffRead) 1 s t
    → t.tally.disturbed ≡ s.tally.disturbed → WordOut at m t
buffer_seen at m s t (confirms_okay done o) clean =
    let whole_phase : o.flip ≡ None = not_flipped o.flip s t o.spares clean in
    let back : PortOnLine (bus_word_at at m) o.flip t
    × (t.target.last_returned ≡ Some (bus_word_at at m)) =
    port_buffer_returned RdbuffRead o.flip (bus_word_at at m) s t refl
    done.buffered o.accepts in
    record {
      answer = done.answer;
      memory = ap (λ x. x.memory) o.accepts.target ∙ done.memory;
      pending = ap (λ x. x.pending) o.accepts.target ∙ done.pending;
      range = back.0.range;
      line = back.0.line ∙ ap (λ f. Drives (port_flipped f (data_phase_number (bus_word_at at m)))) whole_phase;
    }
buffer_seen at m s t (confirms_wait sent w) clean = absurd (let e : 1 ≡ 2 = w.is in cc)
buffer_seen at m s t (confirms_fault failed f) clean = absurd (let e : 1 ≡ 4 = f.is in cc)
buffer_seen at m s t (confirms_lost sent n e) clean = absurd (let e : true ≡ false = n.none.not_okay in cc)

buffer_call : (at : ℕ) (m : Bus) (s t : Port)
    → PortAround (PortConfirms (Read at) m RdbuffRead (port_request_for RdbuffRead) 1) s t
    → t.tally.disturbed ≡ s.tally.disturbed → WordOut at m t
buffer_call at m s t (a, b, first, step, last) clean =
    let k : PortKept s a = port_kept s a first in let l : PortKept b t = port_kept b t last in
    let out : WordOut at m b = buffer_seen at m a b step
    (ap (λ n. n.disturbed) (sym l.tally) ∙ clean ∙ ap (λ n. n.disturbed) (sym k.tally)) in
    subst (WordOut at m) (sym (no_pending_same b t out.pending last)) out

got_phase : (value bits : ℕ) → PortPhaseGot None value bits → IsDataPhaseOf value bits
got_phase value bits (got_whole e is told) = is
got_phase value bits (got_damaged place e none told) = absurd (cc)

-- at a ready target a DRW read, answered OK, and then an RDBUFF read, answered OK and undisturbed: the read was done
-- once, and RDBUFF returns its word
pub port_word_read : PortWordRead
port_word_read at first_bits bits m s asked taken confirmed t r h fits asks first reads clean takes =
    let sent : ReadGiven at m taken.target = read_taken at first_bits m asked taken (read_seen at m s asked r h asks)
    first in
    let out : WordOut at m confirmed = buffer_call at m taken confirmed
    (port_confirming_request (Read at) m RdbuffRead (port_request_for RdbuffRead) 1 taken confirmed sent.sent refl refl
    sent.live sent.write_error (λ e. absurd (cc)) reads) clean in (
      got_phase (bus_word_at at m) bits (port_data_taken None (bus_word_at at m) bits confirmed t out.line out.range
          fits takes),
      out.answer,
      ap (λ x. x.memory) ((port_take_keeps_at_rest bits confirmed t out.pending takes).0.target) ∙ out.memory,
    )
