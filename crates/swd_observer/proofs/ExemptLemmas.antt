-- The exempt requests: DPIDR shows nothing, and after ABORT it is unknown whether the transfer in flight took
-- effect.
use Rattle.std.proofs.Common.{◌≡◌, ℕ, Bool, true, false, List, ◌++◌, refl, sym, ap, subst, inl, ◌∙◌}
use Rattle.std.specs.Prelude.{Option, Some, None, if◌then◌else◌, ◌==◌}
use Rattle.swd_bits.specs.declared.request.Request.{Request}
use Rattle.swd_bits.specs.declared.request.Reg4.{Reg4}
use Rattle.swd_bits.specs.declared.request.Reg4.TheVariants.{R0, R4, R8, RC}
use Rattle.swd_port.specs.declared.access.Transfer.{Transfer}
use Rattle.swd_port.specs.declared.select.Select.{Select}
use Rattle.swd_port.specs.declared.mark.Mark.{Mark}
use Rattle.swd_port.specs.declared.register.Register.TheVariants.{DpidrRead, AbortWrite}
use Rattle.swd_port.specs.declared.state.AfterAck.TheVariants.{Awaits}
use Rattle.swd_port.specs.Choices.{port_flipped}
use Rattle.swd_port.specs.Port.{Port, Target, port_register, port_dp_register, port_register_where}
use Rattle.swd_port.specs.Port.{port_selects_mem_ap}
use Rattle.swd_port.specs.Choices.{Choice}
use Rattle.swd_port.specs.Completion.{PortCompletes}
use Rattle.swd_port.specs.Asking.{PortAsks, PortAsksNow, port_after_okay}
use Rattle.swd_port.specs.Moving.{PortTakes, PortGives, port_arrival, port_arrival_of, port_after_bits}
use Rattle.swd_bits.specs.Phases.{data_phase_word}
use Rattle.swd_port.proofs.CompletionLaws.{port_kept}
use Rattle.swd_observer.specs.declared.told.ObservedAccess.{ObservedAccess}
use Rattle.swd_observer.specs.declared.observer.Observer.{Observer}
use Rattle.swd_observer.specs.declared.observer.StartedTransfer.{StartedTransfer}
use Rattle.swd_observer.specs.declared.observer.Standing.{Standing}
use Rattle.swd_observer.specs.Observing.{Passes, Aborts, Confirms, observed_class_dp, observed_class, observed_doubt}
use Rattle.swd_observer.specs.Observing.{observer_doubted, observer_arrival, is_other_bank_observed}
use Rattle.swd_observer.specs.Explained.{ObservedSince, one_observed}
use Rattle.swd_observer.specs.Knows.{ObservedFlying, owed, gone, failed, given_up, ObservedFlight, ObserverHolds}
use Rattle.swd_observer.specs.Knows.{ObserverKnows, here, spoiled, ObservedStands}
use Rattle.swd_observer.specs.Transacts.{ObservedMoves}
use Rattle.swd_observer.specs.Laws.{ObserverAtAbort, ObserverAtDpidr, observed_list_flushed}
use Rattle.swd_observer.proofs.KnownLemmas.{observer_knows_stays}
use Rattle.swd_observer.proofs.AskLemmas.{ObservedOkayed, observed_ask_okayed}
use Rattle.swd_observer.proofs.OlderLemmas.{observer_awaits_by, observer_all_flushed, observed_stands_same}
use Rattle.swd_observer.proofs.OlderLemmas.{observed_stands_stays, observed_stands_taken, observed_stands_before}
use Rattle.swd_observer.proofs.OkayLemmas.{observed_same_at_data}
use Rattle.swd_observer.proofs.GivenUpLemmas.{observer_knows_before}
use Rattle.swd_observer.proofs.StepLemmas.{observed_read_phase_keeps, observed_line_at_write}
use Rattle.swd_observer.proofs.DoubtLemmas.{observer_knows_in_doubt}

-- which they are
abort_dp : (other read : Bool) (addr : Reg4) (b : Bool) → observed_class_dp other read addr ≡ Aborts
    → (port_dp_register read addr b ≡ AbortWrite) × (read ≡ false)
abort_dp other false R0 b e = (refl, refl)
abort_dp other true R0 b e = absurd (cc)
abort_dp true true R4 b e = absurd (cc)
abort_dp false true R4 b e = absurd (cc)
abort_dp other false R4 b e = absurd (cc)
abort_dp other true R8 b e = absurd (cc)
abort_dp other false R8 b e = absurd (cc)
abort_dp other true RC b e = absurd (cc)
abort_dp other false RC b e = absurd (cc)

abort_by : (ap other : Bool) (s : Select) (read : Bool) (addr : Reg4)
    → (if ap then Confirms else observed_class_dp other read addr) ≡ Aborts
    → (port_register_where (port_selects_mem_ap s) (s.dpbanksel == 0) ap read addr ≡ AbortWrite)
    × (read ≡ false)
abort_by true other s read addr e = absurd (cc)
abort_by false other s read addr e = abort_dp other read addr (s.dpbanksel == 0) e

abort_is : (o : Observer) (s : Select) (q : Request) → observed_class o q ≡ Aborts → (port_register s q
    ≡ AbortWrite) × (q.read ≡ false)
abort_is o s q e = abort_by q.ap (is_other_bank_observed o) s q.read q.addr e

dpidr_dp : (other read : Bool) (addr : Reg4) (b : Bool) → observed_class_dp other read addr ≡ Passes
    → (port_dp_register read addr b ≡ DpidrRead) × (read ≡ true)
dpidr_dp other true R0 b e = (refl, refl)
dpidr_dp other false R0 b e = absurd (cc)
dpidr_dp true true R4 b e = absurd (cc)
dpidr_dp false true R4 b e = absurd (cc)
dpidr_dp other false R4 b e = absurd (cc)
dpidr_dp other true R8 b e = absurd (cc)
dpidr_dp other false R8 b e = absurd (cc)
dpidr_dp other true RC b e = absurd (cc)
dpidr_dp other false RC b e = absurd (cc)

dpidr_by : (ap other : Bool) (s : Select) (read : Bool) (addr : Reg4)
    → (if ap then Confirms else observed_class_dp other read addr) ≡ Passes
    → (port_register_where (port_selects_mem_ap s) (s.dpbanksel == 0) ap read addr ≡ DpidrRead)
    × (read ≡ true)
dpidr_by true other s read addr e = absurd (cc)
dpidr_by false other s read addr e = dpidr_dp other read addr (s.dpbanksel == 0) e

dpidr_is : (o : Observer) (s : Select) (q : Request) → observed_class o q ≡ Passes → (port_register s q ≡ DpidrRead) ×
    (q.read ≡ true)
dpidr_is o s q e = dpidr_by q.ap (is_other_bank_observed o) s q.read q.addr e

-- ABORT
abort_asked : (before : List Transfer) (told : List ObservedAccess) (o : Observer) (q : Request) (s a b d t : Port)
    (mark : Mark) (c : Choice) (bits : ℕ) → observed_class o q ≡ Aborts → PortCompletes s a → PortAsksNow mark c a q 1 b
    → PortCompletes b d → PortGives d bits t → ObserverKnows (ObservedSince before told) o s.target
    → ObserverKnows (ObservedSince before (told ++ one_observed (observed_doubt o))) (observer_doubted o) t.target
abort_asked before told o q s a b d t mark c bits is first now last (e, f, third, given, fourth) k =
    let h : ObservedOkayed a q b = observed_ask_okayed mark c a q b now in
    let named : (port_register a.target.select q ≡ AbortWrite) × (q.read ≡ false) = abort_is o a.target.select q is in
    let same : b.target ≡ a.target = h.target ∙ ap (λ r. port_after_okay h.choice r a.target) named.0 in
    let known : ObserverKnows (ObservedSince before told) o e.target =
    observer_knows_stays _ o d e third (observer_knows_stays _ o b d last
    (subst (ObserverKnows (ObservedSince before told) o) (sym same) (observer_knows_stays _ o s a first k))) in
    let line : e.link.line ≡ Awaits AbortWrite h.flip =
    ap (λ l. l.line) (port_kept d e third).link ∙ ap (λ l. l.line) (port_kept b d last).link ∙ h.line
    ∙ observed_line_at_write q.read (port_register a.target.select q) h.flip _ named.1 ∙ ap (λ r. Awaits r h.flip)
    named.0 in
    let after : f.target ≡ port_after_bits given.refuses (port_arrival_of AbortWrite (data_phase_word
    (port_flipped h.flip bits))) e.target =
    ap (λ p. p.target) given.after ∙ ap (λ l. port_after_bits given.refuses (port_arrival l bits) e.target) line in
    observer_knows_stays _ (observer_doubted o) f t fourth
    (subst (ObserverKnows (ObservedSince before (told ++ one_observed (observed_doubt o))) (observer_doubted o))
    (sym after) (observer_knows_in_doubt before told o e.target
    (port_after_bits given.refuses (port_arrival_of AbortWrite (data_phase_word (port_flipped h.flip bits))) e.target)
    (observed_same_at_data AbortWrite (data_phase_word (port_flipped h.flip bits)) given.refuses e.target refl)
    known))

abort_step : (before : List Transfer) (told : List ObservedAccess) (o : Observer) (q : Request) (s d t : Port)
    (bits : ℕ)
    → observed_class o q ≡ Aborts → PortAsks s q 1 d → PortGives d bits t
    → ObserverKnows (ObservedSince before told) o s.target
    → ObserverKnows (ObservedSince before (told ++ one_observed (observed_doubt o))) (observer_doubted o) t.target
abort_step before told o q s d t bits is (a, e, b, mark, c, first, kept, now, last) gives k =
    abort_asked before told o q e e b d t mark c bits is (inl refl) now last gives
    (observer_knows_before _ o q s e (a, mark, first, kept) k)

gives_of : (read : Bool) (a : Port) (bits : ℕ) (t : Port) → read ≡ false → ObservedMoves read a bits t
    → PortGives a bits t
gives_of false a bits t e m = m
gives_of true a bits t e m = absurd (cc)

takes_of : (read : Bool) (a : Port) (bits : ℕ) (t : Port) → read ≡ true → ObservedMoves read a bits t
    → PortTakes a bits t
takes_of true a bits t e m = m
takes_of false a bits t e m = absurd (cc)

-- after OK to an ABORT write, whether or not its data arrives, what is known is true, once the transfer in flight is
-- reported as `May`
pub observer_knows_abort : ObserverAtAbort
observer_knows_abort before told o q word ok place s t is h k =
    abort_step before (observed_list_flushed told o) o q s h.asked t h.bits is h.asks
    (gives_of q.read h.asked h.bits t (abort_is o s.target.select q is).1 h.moves)
    (observer_all_flushed before told o s.target k)

-- DPIDR: a fresh target is live, and nothing else changed
flies_live : (E : List Transfer → Type 0) (b : StartedTransfer) (increments : Option Bool) (tar : Option ℕ)
    (chosen : Choice) (x : Target)
    → ObservedFlying E b increments tar x → ObservedFlying E b increments tar (port_after_okay chosen DpidrRead x)
flies_live E b increments tar chosen x (owed calm drw pending of at e) =
    owed (record {
      sticky_error = calm.sticky_error;
      write_error = calm.write_error;
      debug_power = calm.debug_power;
      debug_up = calm.debug_up;
    }) drw pending of at e
flies_live E b increments tar chosen x (gone calm none t log fits is e buffer next) =
    gone (record {
      sticky_error = calm.sticky_error;
      write_error = calm.write_error;
      debug_power = calm.debug_power;
      debug_up = calm.debug_up;
    }) none t log fits is e buffer next
flies_live E b increments tar chosen x (failed none error e) = failed none error e
flies_live E b increments tar chosen x (given_up none error at e) = given_up none error at e

flight_live : (E : List Transfer → Type 0) (b : Option StartedTransfer) (increments : Option Bool) (tar : Option ℕ)
    (chosen : Choice) (x : Target) → ObservedFlight E b increments tar x
    → ObservedFlight E b increments tar (port_after_okay chosen DpidrRead x)
flight_live E None increments tar chosen x h = record { now = h.now; later = h.later; aimed = h.aimed }
flight_live E (Some b) increments tar chosen x h = flies_live E b increments tar chosen x h

holds_live : (E : List Transfer → Type 0) (o : Observer) (chosen : Choice) (x : Target) → ObserverHolds E o x
    → ObserverHolds E o (port_after_okay chosen DpidrRead x)
holds_live E o chosen x h = record {
  select = h.select;
  increments = h.increments;
  range = h.range;
  flight = flight_live E o.begun o.increments o.tar chosen x h.flight;
}

knows_live : (E : List Transfer → Type 0) (o : Observer) (chosen : Choice) (x : Target) → ObserverKnows E o x
    → ObserverKnows E o (port_after_okay chosen DpidrRead x)
knows_live E o chosen x (here clean h) = here clean (holds_live E (observer_arrival o) chosen x h)
knows_live E o chosen x (spoiled error rest h) = spoiled error rest (holds_live E (record o { sent = None }) chosen x h)

dpidr_step : (E : List Transfer → Type 0) (o : Observer) (q : Request) (s d : Port) → observed_class o q ≡ Passes
    → PortAsks s q 1 d → ObserverKnows E o s.target → ObserverKnows E o d.target
dpidr_step E o q s d is (a, e, b, mark, c, first, kept, now, last) k =
    let h : ObservedOkayed e q b = observed_ask_okayed mark c e q b now in
    observer_knows_stays E o b d last (subst (ObserverKnows E o) (sym (h.target
    ∙ ap (λ r. port_after_okay h.choice r e.target) (dpidr_is o e.target.select q is).0))
    (knows_live E o h.choice e.target (observer_knows_before E o q s e (a, mark, first, kept) k)))

stands_live : (z : Standing) (word : ℕ) (o : Observer) (q : Request) (s d : Port) → observed_class o q ≡ Passes
    → PortAsks s q 1 d → ObservedStands z word s.target → ObservedStands z word d.target
stands_live z word o q s d is (a, e, b, mark, c, first, kept, now, last) v =
    let h : ObservedOkayed e q b = observed_ask_okayed mark c e q b now in
    observed_stands_stays z word b d last (subst (ObservedStands z word) (sym (h.target
    ∙ ap (λ r. port_after_okay h.choice r e.target) (dpidr_is o e.target.select q is).0))
    (observed_stands_same z word e.target (port_after_okay h.choice DpidrRead e.target) refl refl refl
    (observed_stands_before z word q s e (a, mark, first, kept) v)))

-- after a DPIDR read that is answered OK, what was known is true, with nothing reported
pub observer_knows_dpidr : ObserverAtDpidr
observer_knows_dpidr before told o q word ok place s t is h k =
    let takes : PortTakes h.asked h.bits t =
    takes_of q.read h.asked h.bits t (dpidr_is o s.target.select q is).1 h.moves in
    observer_awaits_by (ObservedSince before told) o.older o o s.target t.target
    (λ F z. observed_read_phase_keeps (ObserverKnows F o) (λ x y e w. observer_knows_stays F o x y e w) h.asked t
    h.bits takes (dpidr_step F o q s h.asked is h.asks z))
    (λ z w v. observed_stands_taken z w h.asked t h.bits takes (stands_live z w o q s h.asked is h.asks v)) k
