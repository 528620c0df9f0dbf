-- WAIT and FAULT: nothing is told, and what is known stays known.
use Rattle.std.proofs.Common.{◌≡◌, ℕ, Bool, true, false, List, refl, sym, ap, subst}
use Rattle.std.specs.Prelude.{Option, Some, None, ◌||◌}
use Rattle.swd_bits.specs.declared.request.Request.{Request}
use Rattle.swd_port.specs.declared.access.Transfer.{Transfer}
use Rattle.swd_port.specs.declared.state.Reply.{Reply}
use Rattle.swd_port.specs.declared.state.Reply.TheVariants.{Waits, Faults}
use Rattle.swd_port.specs.declared.mark.Mark.{Mark}
use Rattle.swd_port.specs.Port.{Port, Target, port_register}
use Rattle.swd_port.specs.Choices.{Choice}
use Rattle.swd_port.specs.Answers.{PortSees, is_port_unpowered}
use Rattle.swd_port.specs.Asking.{PortAsks, PortAsksNow, port_reply, port_has_power, port_target_after}
use Rattle.swd_port.specs.Moving.{PortPasses}
use Rattle.swd_port.proofs.RequestLaws.{port_replied}
use Rattle.swd_observer.specs.declared.observer.Observer.{Observer}
use Rattle.swd_observer.specs.declared.observer.StartedTransfer.{StartedTransfer}
use Rattle.swd_observer.specs.Observing.{observer_arrival}
use Rattle.swd_observer.specs.Knows.{ObservedCalm, ObservedFlying, owed, gone, failed, given_up, ObservedFlight}
use Rattle.swd_observer.specs.Knows.{ObserverHolds, ObserverKnows, here, spoiled}
use Rattle.swd_observer.proofs.AskLemmas.{observed_reply_seen}
use Rattle.swd_observer.proofs.KnownLemmas.{observer_knows_stays}
use Rattle.swd_observer.proofs.GivenUpLemmas.{observer_knows_before}

-- where the host sees WAIT the target answered WAIT
pub observed_wait_reply : (mark : Mark) (reply : Reply) → PortSees mark reply 2 → reply ≡ Waits
observed_wait_reply mark reply h =
    observed_reply_seen mark reply 2 h (λ none. let e : true ≡ false = none.not_wait in cc)

-- where the host sees FAULT the target answered FAULT
pub observed_fault_reply : (mark : Mark) (reply : Reply) → PortSees mark reply 4 → reply ≡ Faults
observed_fault_reply mark reply h =
    observed_reply_seen mark reply 4 h (λ none. let e : true ≡ false = none.not_fault in cc)

-- READOK, and STICKYERR where an access port had no power, which it had where a transfer was accepted
abbrev refused : Bool → Bool → Target → Target
refused read_ok unpowered x = record x { read_ok = read_ok; sticky_error = x.sticky_error || unpowered }

calm_refused : (v u : Bool) (x : Target) → (ObservedCalm x → u ≡ false) → ObservedCalm x → ObservedCalm (refused v u x)
calm_refused v u x off calm = record {
  sticky_error = rw (calm.sticky_error, off calm) refl;
  write_error = calm.write_error;
  debug_power = calm.debug_power;
  debug_up = calm.debug_up;
}

flies_refused : (E : List Transfer → Type 0) (b : StartedTransfer) (increments : Option Bool) (tar : Option ℕ)
    (v u : Bool) (x : Target)
    → (ObservedCalm x → u ≡ false) → ObservedFlying E b increments tar x
    → ObservedFlying E b increments tar (refused v u x)
flies_refused E b increments tar v u x off (owed calm drw pending of at e) =
    owed (calm_refused v u x off calm) drw pending of at e
flies_refused E b increments tar v u x off (gone calm none t log fits is e buffer next) =
    gone (calm_refused v u x off calm) none t log fits is e buffer next
flies_refused E b increments tar v u x off (failed none error e) = failed none (rw error refl) e
flies_refused E b increments tar v u x off (given_up none error at e) = given_up none error at e

flight_refused : (E : List Transfer → Type 0) (b : Option StartedTransfer) (increments : Option Bool) (tar : Option ℕ)
    (v u : Bool)
    (x : Target) → (ObservedCalm x → u ≡ false) → ObservedFlight E b increments tar x
    → ObservedFlight E b increments tar (refused v u x)
flight_refused E None increments tar v u x off h = record { now = h.now; later = h.later; aimed = h.aimed }
flight_refused E (Some b) increments tar v u x off h = flies_refused E b increments tar v u x off h

holds_refused : (E : List Transfer → Type 0) (o : Observer) (v u : Bool) (x : Target) → (ObservedCalm x → u ≡ false)
    → ObserverHolds E o x
    → ObserverHolds E o (refused v u x)
holds_refused E o v u x off h = record {
  select = h.select;
  increments = h.increments;
  range = h.range;
  flight = flight_refused E o.begun o.increments o.tar v u x off h.flight;
}

knows_refused : (E : List Transfer → Type 0) (o : Observer) (v u : Bool) (x : Target) → (ObservedCalm x → u ≡ false)
    → ObserverKnows E o x
    → ObserverKnows E o (refused v u x)
knows_refused E o v u x off (here clean h) = here clean (holds_refused E (observer_arrival o) v u x off h)
knows_refused E o v u x off (spoiled error rest h) = spoiled error rest (holds_refused E
    (record o { sent = None }) v u x off h)

or_false : (b : Bool) → (b || false) ≡ b
or_false true = refl
or_false false = refl

powered_calm : (ap : Bool) (x : Target) → ObservedCalm x → is_port_unpowered ap (port_has_power x) ≡ false
powered_calm true x calm = rw (calm.debug_power, calm.debug_up) refl
powered_calm false x calm = refl

waited : (E : List Transfer → Type 0) (o : Observer) (chosen : Choice) (q : Request) (x : Target) → ObserverKnows E o x
    → ObserverKnows E o (port_target_after chosen Waits (port_register x.select q) q.ap x)
waited E o chosen q x k =
    subst (λ s. ObserverKnows E o (record (port_target_after chosen Waits (port_register x.select q) q.ap x)
    { sticky_error = s })) (or_false x.sticky_error)
    (knows_refused E o (port_target_after chosen Waits (port_register x.select q) q.ap x).read_ok false x (λ calm. refl)
    k)

faulted : (E : List Transfer → Type 0) (o : Observer) (chosen : Choice) (q : Request) (x : Target) → ObserverKnows E o x
    → ObserverKnows E o (port_target_after chosen Faults (port_register x.select q) q.ap x)
faulted E o chosen q x k =
    knows_refused E o (port_target_after chosen Faults (port_register x.select q) q.ap x).read_ok
    (is_port_unpowered q.ap (port_has_power x)) x (powered_calm q.ap x) k

passed : (E : List Transfer → Type 0) (o : Observer) (s t : Port) → PortPasses s t → ObserverKnows E o s.target
    → ObserverKnows E o t.target
passed E o s t (a, b, first, now, last) k =
    observer_knows_stays E o b t last (subst (ObserverKnows E o) (sym (ap (λ p. p.target) now.after))
    (observer_knows_stays E o s a first k))

wait_now : (E : List Transfer → Type 0) (o : Observer) (q : Request) (mark : Mark) (c : Choice) (s t : Port)
    → PortAsksNow mark c s q 2 t → ObserverKnows E o s.target → ObserverKnows E o t.target
wait_now E o q mark c s t h k =
    let is : port_reply mark s.target q ≡ Waits = observed_wait_reply mark (port_reply mark s.target q) h.sees in
    let after = port_replied mark c Waits (port_register s.target.select q) s q 2 t is refl h in
    subst (ObserverKnows E o) (sym (ap (λ p. p.target) after.after)) (waited E o c q s.target k)

fault_now : (E : List Transfer → Type 0) (o : Observer) (q : Request) (mark : Mark) (c : Choice) (s t : Port)
    → PortAsksNow mark c s q 4 t → ObserverKnows E o s.target → ObserverKnows E o t.target
fault_now E o q mark c s t h k =
    let is : port_reply mark s.target q ≡ Faults = observed_fault_reply mark (port_reply mark s.target q) h.sees in
    let after = port_replied mark c Faults (port_register s.target.select q) s q 4 t is refl h in
    subst (ObserverKnows E o) (sym (ap (λ p. p.target) after.after)) (faulted E o c q s.target k)

-- what is known is true after a request at which WAIT is seen, and its turnaround
pub observer_knows_wait : (E : List Transfer → Type 0) (o : Observer) (q : Request) (s a t : Port) → PortAsks s q 2 a
    → PortPasses a t → ObserverKnows E o s.target → ObserverKnows E o t.target
observer_knows_wait E o q s d t (a, e, b, mark, c, first, kept, now, last) passes k = passed E o d t passes
    (observer_knows_stays E o b d last (wait_now E o q mark c e b now
    (observer_knows_before E o q s e (a, mark, first, kept) k)))

-- what is known is true after a request at which FAULT is seen, and its turnaround
pub observer_knows_fault : (E : List Transfer → Type 0) (o : Observer) (q : Request) (s a t : Port) → PortAsks s q 4 a
    → PortPasses a t → ObserverKnows E o s.target → ObserverKnows E o t.target
observer_knows_fault E o q s d t (a, e, b, mark, c, first, kept, now, last) passes k = passed E o d t passes
    (observer_knows_stays E o b d last (fault_now E o q mark c e b now
    (observer_knows_before E o q s e (a, mark, first, kept) k)))
