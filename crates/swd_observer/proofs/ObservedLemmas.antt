-- The theorem: ones and zeros, the line between two transactions, and whole runs.
use Rattle.std.proofs.Common.{◌≡◌, ℕ, Bool, true, false, List, [], ◌∷◌, ◌++◌, refl, sym, ap, subst, arith, ◌∙◌}
use Rattle.std.proofs.Common.{append-nil, inl, inr}
use Rattle.std.proofs.lemmas.Bool.{and_parts, eqb-true}
use Rattle.std.specs.Prelude.{Option, Some, None, if◌then◌else◌, ◌==◌, ◌||◌, ◌&&◌, not as no}
use Rattle.swd_bits.specs.declared.request.Request.{Request}
use Rattle.swd_bits.specs.declared.tx.TxEnd.{TxEnd}
use Rattle.swd_bits.specs.declared.tx.TxEnd.TheVariants.{Moved, Wait, Fault, NoAck}
use Rattle.swd_port.specs.declared.access.Transfer.{Transfer}
use Rattle.swd_port.specs.declared.state.Reset.{Reset}
use Rattle.swd_port.specs.declared.state.Reset.TheVariants.{Fresh}
use Rattle.swd_port.specs.declared.state.Reply.TheVariants.{Waits, Faults}
use Rattle.swd_port.specs.declared.state.AfterAck.{AfterAck}
use Rattle.swd_port.specs.declared.state.AfterAck.TheVariants.{Idle}
use Rattle.swd_port.specs.declared.select.Select.{Select}
use Rattle.swd_port.specs.Registers.{port_select_zero}
use Rattle.swd_port.specs.Port.{Port, Target, port_register, port_selects_mem_ap}
use Rattle.swd_port.specs.Made.{port_made}
use Rattle.swd_port.specs.Completion.{PortCompletes}
use Rattle.swd_port.specs.Leading.{PortLeads, port_line_awaits, port_after_lead}
use Rattle.swd_port.specs.Asking.{PortAsks, port_reply}
use Rattle.swd_port.specs.Moving.{PortTakes, PortGives, PortPasses}
use Rattle.swd_port.proofs.CompletionLaws.{port_kept}
use Rattle.swd_port.proofs.RequestLaws.{port_replied as told_reply}
use Rattle.swd_observer.specs.declared.told.ObservedAccess.{ObservedAccess}
use Rattle.swd_observer.specs.declared.observer.Observer.{Observer}
use Rattle.swd_observer.specs.declared.observer.StartedTransfer.{StartedTransfer}
use Rattle.swd_observer.specs.Observing.{observer_arrival, observer_arrival_of, observed_doubt, observed_last_accesses}
use Rattle.swd_observer.specs.Observing.{observer_doubted, observer_unknown, observer_as_made, observer_after_tx_end}
use Rattle.swd_observer.specs.Observing.{observed_kind, is_observed_read_kind, observer_at_rest}
use Rattle.swd_observer.specs.Explained.{ObservedSince, and_observed, one_observed}
use Rattle.swd_observer.specs.Laws.{observed_list_flushed}
use Rattle.swd_observer.specs.Knows.{ObservedFlying, owed, gone, failed, given_up, ObservedResting, ObservedFlight}
use Rattle.swd_observer.specs.Knows.{ObserverHolds, ObserverKnows, here, spoiled}
use Rattle.swd_observer.specs.Transacts.{ObservedTransacts, ObservedMoves as Phase}
use Rattle.swd_observer.specs.Runs.{ObservedEvent, Moves, Lifts, ObservedHappens, ObservedRuns, observer_after_event}
use Rattle.swd_observer.specs.Runs.{observed_with_event, observer_after, observed_in_events, ObserverKnowsPort}
use Rattle.swd_observer.specs.Runs.{Accounted, ObservedRunsAccounted, ObservedMadeAccounted, ObservedAnyAccounted}
use Rattle.swd_observer.specs.Runs.{ObservedRestAccounted}
use Rattle.swd_observer.proofs.OlderLemmas.{observer_awaits_by, observer_all_flushed, observed_stands_same}
use Rattle.swd_observer.proofs.OlderLemmas.{observer_watches_stay}
use Rattle.swd_observer.proofs.KnownLemmas.{observer_unsent, observed_no_pending_keeps}
use Rattle.swd_observer.proofs.GivenUpLemmas.{ObservedBefore}
use Rattle.swd_observer.proofs.RefusedLemmas.{observed_wait_reply, observed_fault_reply}
use Rattle.swd_observer.proofs.LostLemmas.{observed_same_self, observer_unanswered_unsent}
use Rattle.swd_observer.proofs.DoubtLemmas.{observer_holds_in_doubt, observer_doubted_unsent}
use Rattle.swd_observer.proofs.RunLemmas.{observer_knows_always}

-- a line reset changes no register
flies_anew : (E : List Transfer → Type 0) (b : StartedTransfer) (increments : Option Bool) (tar : Option ℕ) (r : Reset)
    (x : Target)
    → ObservedFlying E b increments tar x → ObservedFlying E b increments tar (record x { reset = r })
flies_anew E b increments tar r x (owed calm drw pending of at e) = owed (record {
  sticky_error = calm.sticky_error;
  write_error = calm.write_error;
  debug_power = calm.debug_power;
  debug_up = calm.debug_up;
}) drw pending of at e
flies_anew E b increments tar r x (gone calm none t log fits is e buffer next) = gone (record {
  sticky_error = calm.sticky_error;
  write_error = calm.write_error;
  debug_power = calm.debug_power;
  debug_up = calm.debug_up;
}) none t log fits is e buffer next
flies_anew E b increments tar r x (failed none error e) = failed none error e
flies_anew E b increments tar r x (given_up none error at e) = given_up none error at e

flight_anew : (E : List Transfer → Type 0) (b : Option StartedTransfer) (increments : Option Bool) (tar : Option ℕ)
    (r : Reset) (x : Target) → ObservedFlight E b increments tar x
    → ObservedFlight E b increments tar (record x { reset = r })
flight_anew E None increments tar r x h = record { now = h.now; later = h.later; aimed = h.aimed }
flight_anew E (Some b) increments tar r x h = flies_anew E b increments tar r x h

holds_anew : (E : List Transfer → Type 0) (o : Observer) (r : Reset) (x : Target) → ObserverHolds E o x
    → ObserverHolds E o (record x { reset = r })
holds_anew E o r x h = record {
  select = h.select;
  increments = h.increments;
  range = h.range;
  flight = flight_anew E o.begun o.increments o.tar r x h.flight;
}

knows_anew : (E : List Transfer → Type 0) (o : Observer) (r : Reset) (x : Target) → ObserverKnows E o x
    → ObserverKnows E o (record x { reset = r })
knows_anew E o r x (here clean h) = here clean (holds_anew E (observer_arrival o) r x h)
knows_anew E o r x (spoiled error rest h) = spoiled error rest (holds_anew E (record o { sent = None }) r x h)

-- where nothing is waited for, WDATAERR may be set
holds_damaged : (E : List Transfer → Type 0) (o : Observer) (r : Reset) (w : Bool) (x : Target) → o.begun ≡ None
    → ObserverHolds E o x → ObserverHolds E o (record x { reset = r; write_error = w })
holds_damaged E o r w x rest h =
    let k : ObservedResting E o.tar x = subst (λ b. ObservedFlight E b o.increments o.tar x) rest h.flight in
    record {
      select = h.select;
      increments = h.increments;
      range = h.range;
      flight = subst (λ b. ObservedFlight E b o.increments o.tar (record x { reset = r; write_error = w })) (sym rest)
          (record { now = k.now; later = k.later; aimed = k.aimed });
    }

unsent_holds : (E : List Transfer → Type 0) (o : Observer) (x : Target) → o.sent ≡ None → ObserverKnows E o x
    → ObserverHolds E o x
unsent_holds E o x sent (here clean h) = subst (λ s. ObserverHolds E (observer_arrival_of s o) x) sent h
unsent_holds E o x sent (spoiled error rest h) = record {
  select = h.select;
  increments = h.increments;
  range = h.range;
  flight = h.flight;
}

knows_damaged : (E : List Transfer → Type 0) (o : Observer) (r : Reset) (w : Bool) (x : Target) → o.sent ≡ None
    → o.begun ≡ None → ObserverKnows E o x → ObserverKnows E o (record x { reset = r; write_error = w })
knows_damaged E o r w x sent rest k =
    here (observer_unsent o.sent _ sent) (subst
    (λ s. ObserverHolds E (observer_arrival_of s o) (record x { reset = r; write_error = w })) (sym sent)
    (holds_damaged E o r w x rest (unsent_holds E o x sent k)))

led_by : (E : List Transfer → Type 0) (o : Observer) (r : Reset) (resets awaits : Bool) (x : Target)
    → (awaits ≡ true → (o.sent ≡ None) × (o.begun ≡ None)) → ObserverKnows E o x
    → ObserverKnows E o (record x { reset = r; write_error = (resets && awaits) || x.write_error })
led_by E o r true true x waits k =
    knows_damaged E o r true x (waits refl).0 (waits refl).1 k
led_by E o r true false x waits k = knows_anew E o r x k
led_by E o r false awaits x waits k = knows_anew E o r x k

line_led : (E : Type 0) (resets : Bool) (line : AfterAck) → (port_line_awaits line ≡ true → E)
    → port_line_awaits (if resets then Idle else line) ≡ true → E
line_led E true line waits e = absurd (cc)
line_led E false line waits e = waits e

port_completes : (E : List Transfer → Type 0) (o : Observer) (s t : Port) → PortCompletes s t → ObserverKnowsPort E o s
    → ObserverKnowsPort E o t
port_completes E o s t done k = record {
  knows = observer_watches_stay E o s t done k.knows;
  waits = λ e. k.waits (ap (λ l. port_line_awaits l.line) (sym (port_kept s t done).link) ∙ e);
}

port_led : (E : List Transfer → Type 0) (o : Observer) (ones : ℕ) (s : Port) → ObserverKnowsPort E o s
    → ObserverKnowsPort E o (port_after_lead ones s)
port_led E o ones s k = record {
  knows = observer_awaits_by E o.older o o s.target (port_after_lead ones s).target
      (λ F z. led_by F o (if no (ones == 0) then Fresh else s.target.reset) (no (ones == 0))
      (port_line_awaits s.link.line) s.target k.waits z)
      (λ z word v. observed_stands_same z word s.target (port_after_lead ones s).target refl refl refl v)
      k.knows;
  waits = line_led _ (no (ones == 0)) s.link.line k.waits;
}

leads : (E : List Transfer → Type 0) (o : Observer) (ones : ℕ) (s t : Port) → PortLeads s ones t
    → ObserverKnowsPort E o s → ObserverKnowsPort E o t
leads E o ones s t (a, b, first, now, last) k = port_completes E o b t last
    (subst (ObserverKnowsPort E o) (sym now.after) (port_led E o ones a (port_completes E o s a first k)))

-- no data is awaited after a transaction, but where it was before, or an acknowledgement was lost
idle_taken : (bits : ℕ) (s t : Port) → PortTakes s bits t → port_line_awaits t.link.line ≡ false
idle_taken bits s t (a, b, first, now, last) =
    ap (λ l. port_line_awaits l.line) (port_kept b t last).link ∙ ap (λ p. port_line_awaits p.link.line) now.after

idle_given : (bits : ℕ) (s t : Port) → PortGives s bits t → port_line_awaits t.link.line ≡ false
idle_given bits s t (a, b, first, now, last) =
    ap (λ l. port_line_awaits l.line) (port_kept b t last).link ∙ ap (λ p. port_line_awaits p.link.line) now.after

idle_moved : (read : Bool) (bits : ℕ) (s t : Port) → Phase read s bits t → port_line_awaits t.link.line ≡ false
idle_moved true bits s t h = idle_taken bits s t h
idle_moved false bits s t h = idle_given bits s t h

line_passed : (s t : Port) → PortPasses s t → t.link.line ≡ s.link.line
line_passed s t (a, b, first, now, last) =
    ap (λ l. l.line) (port_kept b t last).link ∙ ap (λ p. p.link.line) now.after ∙ ap (λ l. l.line)
    (port_kept s a first).link

line_before : (q : Request) (s d : Port) → ObservedBefore q s d → d.link.line ≡ s.link.line
line_before q s d (a, mark, first, inl e) =
    ap (λ p. p.link.line) e ∙ ap (λ l. l.line) (port_kept s a first).link
line_before q s d (a, mark, first, inr gave) =
    ap (λ p. p.link.line) gave.after ∙ ap (λ l. l.line) (port_kept s a first).link

line_waited : (q : Request) (s t : Port) → PortAsks s q 2 t → t.link.line ≡ s.link.line
line_waited q s t (e, a, b, mark, c, first, kept, now, last) =
    let is : port_reply mark a.target q ≡ Waits = observed_wait_reply mark (port_reply mark a.target q) now.sees in
    let after = told_reply mark c Waits (port_register a.target.select q) a q 2 b is refl now in
    ap (λ l. l.line) (port_kept b t last).link ∙ ap (λ p. p.link.line) after.after
    ∙ line_before q s a (e, mark, first, kept)

line_faulted : (q : Request) (s t : Port) → PortAsks s q 4 t → t.link.line ≡ s.link.line
line_faulted q s t (e, a, b, mark, c, first, kept, now, last) =
    let is : port_reply mark a.target q ≡ Faults = observed_fault_reply mark (port_reply mark a.target q) now.sees in
    let after = told_reply mark c Faults (port_register a.target.select q) a q 4 b is refl now in
    ap (λ l. l.line) (port_kept b t last).link ∙ ap (λ p. p.link.line) after.after
    ∙ line_before q s a (e, mark, first, kept)

begun_none : (read : Bool) (d : Observer) → d.begun ≡ None → (if read then record d { tar = None } else d).begun ≡ None
begun_none true d e = e
begun_none false d e = e

waits_after : (E : List Transfer → Type 0) (o : Observer) (end : TxEnd) (q : Request) (place : ℕ) (s t : Port)
    → ObservedTransacts end q s t → ObserverKnowsPort E o s → port_line_awaits t.link.line ≡ true
    → ((observer_after_tx_end end q place o).sent ≡ None) × ((observer_after_tx_end end q place o).begun ≡ None)
waits_after E o (Moved word ok) q place s t h k e =
    absurd (let clash : false ≡ true = sym (idle_moved q.read h.bits h.asked t h.moves) ∙ e in cc)
waits_after E o Wait q place s t h k e = k.waits
    (ap port_line_awaits (sym (line_passed h.asked t h.passes ∙ line_waited q s h.asked h.asks)) ∙ e)
waits_after E o Fault q place s t h k e = k.waits
    (ap port_line_awaits (sym (line_passed h.asked t h.passes ∙ line_faulted q s h.asked h.asks)) ∙ e)
waits_after E o (NoAck seen) q place s t h k e = (
  observer_unanswered_unsent (is_observed_read_kind (observed_kind (observer_doubted o).select q)) (observer_doubted o)
      (observer_doubted_unsent o),
  begun_none (is_observed_read_kind (observed_kind (observer_doubted o).select q)) (observer_doubted o) refl,
)

-- one event, and all
happens : (before : List Transfer) (told : List ObservedAccess) (o : Observer) (e : ObservedEvent) (s t : Port)
    → ObservedHappens e s t
    → ObserverKnowsPort (ObservedSince before told) o s
    → ObserverKnowsPort (ObservedSince before (observed_with_event e told o)) (observer_after_event e o) t
happens before told o (Moves tx place) s t h k = record {
  knows = observer_knows_always before told o tx.result tx.request place s t h k.knows;
  waits = waits_after (ObservedSince before told) o tx.result tx.request place s t h k;
}
happens before told o (Lifts ones) s t h k = leads (ObservedSince before told) o ones s t h k

run : (before : List Transfer) (told : List ObservedAccess) (o : Observer) (events : List ObservedEvent) (s t : Port)
    → ObservedRuns events s t → ObserverKnowsPort (ObservedSince before told) o s
    → ObserverKnowsPort (ObservedSince before (observed_in_events events told o)) (observer_after events o) t
run before told o [] s t e k = subst (ObserverKnowsPort (ObservedSince before told) o) (sym e) k
run before told o (e ∷ events) s t (m, h, rest) k =
    run before (observed_with_event e told o) (observer_after_event e o) events m t rest
    (happens before told o e s m h k)

-- at the end
accounted : (before : List Transfer) (told : List ObservedAccess) (o : Observer) (t : Port) → ObserverKnowsPort
    (ObservedSince before told) o t → Accounted before (and_observed told (observed_last_accesses o)) t
accounted before told o t k =
    let h : ObserverHolds (ObservedSince before (observed_list_flushed told o ++ one_observed (observed_doubt o)))
    (observer_doubted o) t.target =
    observer_holds_in_doubt before (observed_list_flushed told o) o t.target t.target (observed_same_self t.target)
    (observer_all_flushed before told o t.target k.knows) in
    subst (λ l. Accounted before l t) (sym
    (append-nil (observed_list_flushed told o ++ one_observed (observed_doubt o))))
    (record { now = h.flight.now; later = h.flight.later })

-- from a state of which what is known is true, the accesses that are reported of a run are those that are logged in
-- it
pub observed_runs_accounted : ObservedRunsAccounted
observed_runs_accounted before told o events s t k r =
    accounted before (observed_in_events events told o) (observer_after events o) t (run before told o events s t r k)

none_yet : (log : List Transfer) → ObservedSince log [] log
none_yet log = record { more = []; is = sym (append-nil log); explains = refl }

-- nothing is in flight where nothing is pending
unmoved : (x : Target) → x.pending ≡ None → ObservedResting (ObservedSince x.memory.log []) None x
unmoved x none = record {
  now = none_yet x.memory.log;
  later = λ c k. observed_no_pending_keeps (λ y. ObservedSince x.memory.log [] y.memory.log) c x none
      (none_yet x.memory.log);
  aimed = tt;
}

-- the same from a target in its reset state, by an observer of such a target
pub observed_made_accounted : ObservedMadeAccounted
observed_made_accounted identification m events t r =
    observed_runs_accounted m.log [] observer_as_made events (port_made identification m) t (record {
      knows = here tt (record {
        select = refl;
        increments = refl;
        range = omega arith;
        flight = record { now = none_yet m.log; later = λ c k. none_yet m.log; aimed = (refl, refl) };
      });
      waits = λ e. absurd (cc);
    }) r

-- SELECT is 0
at_zero : (select : Select) → port_selects_mem_ap select ≡ true → (select.dpbanksel == 0) ≡ true
    → select ≡ port_select_zero
at_zero select mem_ap bank0 =
    let ap_zero = and_parts (select.apsel == 0) (select.apbanksel == 0) mem_ap in
    ap (λ n. record { apsel = n; apbanksel = select.apbanksel; dpbanksel = select.dpbanksel })
    (eqb-true select.apsel 0 ap_zero.0)
    ∙ ap (λ n. record { apsel = 0; apbanksel = n; dpbanksel = select.dpbanksel })
    (eqb-true select.apbanksel 0 ap_zero.1)
    ∙ ap (λ n. record { apsel = 0; apbanksel = 0; dpbanksel = n }) (eqb-true select.dpbanksel 0 bank0)

-- the same from a target at rest, by an observer that knows that it is
pub observed_rest_accounted : ObservedRestAccounted
observed_rest_accounted events s t rests r =
    observed_runs_accounted s.target.memory.log [] observer_at_rest events s t (record {
      knows = here tt (record {
        select = at_zero s.target.select rests.mem_ap rests.bank0;
        increments = tt;
        range = tt;
        flight = unmoved s.target rests.pending;
      });
      waits = λ e. absurd (let clash : true ≡ false = sym e ∙ rests.idle in cc);
    }) r

-- the same by an observer that knows nothing, from a state with no transfer pending and no write data awaited
pub observed_any_accounted : ObservedAnyAccounted
observed_any_accounted events s t none idle r =
    observed_runs_accounted s.target.memory.log [] observer_unknown events s t (record {
      knows = here tt (record {
        select = tt;
        increments = tt;
        range = tt;
        flight = unmoved s.target none;
      });
      waits = λ e. absurd (let clash : true ≡ false = sym e ∙ idle in cc);
    }) r
