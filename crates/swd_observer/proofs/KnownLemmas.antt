-- What is known stays known when the pending transfer takes effect.
use Rattle.std.proofs.Common.{◌≡◌, ◌≢◌, ◌+◌, ◌%◌, ◌<◌, ℕ, Bool, true, false, List, refl, sym, ap, subst, inl, inr}
use Rattle.std.proofs.Common.{arith, ◌∙◌}
use Rattle.std.specs.Prelude.{Option, Some, None, IfSome, unwrap_or, ◌&&◌, ◌==◌, if◌then◌else◌, not as no}
use Rattle.std.specs.Option.{option_and_then}
use Rattle.swd_port.specs.declared.access.Transfer.{Transfer}
use Rattle.swd_port.specs.Bus.{bus_succeeds, bus_transfer_of}
use Rattle.swd_port.specs.Port.{Port, Target}
use Rattle.swd_port.specs.declared.state.Drw.{Drw}
use Rattle.swd_port.specs.declared.state.Drw.TheVariants.{Reads, Writes}
use Rattle.swd_port.specs.Choices.{Choice, IsPortChoice}
use Rattle.swd_port.specs.Completion.{port_completion, PortCompletes, port_tar_next_address, pending_access_at}
use Rattle.swd_port.proofs.CompletionLaws.{no_pending_same_target}
use Rattle.swd_observer.specs.declared.observer.Observer.{Observer}
use Rattle.swd_observer.specs.declared.observer.StartedTransfer.{StartedTransfer}
use Rattle.swd_observer.specs.declared.observer.SentWrite.{SentWrite}
use Rattle.swd_observer.specs.Observing.{observer_arrival, observed_tar_advance}
use Rattle.swd_observer.specs.Knows.{ObservedCalm, IsObservedPending, ObservedFlying, owed, gone, failed, given_up}
use Rattle.swd_observer.specs.Knows.{ObservedResting, ObservedFlight, ObserverHolds, ObserverKnows, here, spoiled}
use Rattle.swd_observer.specs.Knows.{IsObservedSent}

-- nothing pending: a completion does nothing
pub observed_no_pending_keeps : (P : Target → Type 0) (c : Choice) (x : Target) → x.pending ≡ None → P x
    → P (port_completion c x)
observed_no_pending_keeps P c x none p = subst P (sym (no_pending_same_target c x none)) p

rests_tar : (tar : Option ℕ) (c : Choice) (x : Target) → IfSome tar (λ a. (x.tar ≡ Some a) × (x.pending ≡ None))
    → IfSome tar (λ a. ((port_completion c x).tar ≡ Some a) × ((port_completion c x).pending ≡ None))
rests_tar None c x h = h
rests_tar (Some a) c x (tar, none) = (observed_no_pending_keeps (λ y. y.tar ≡ Some a) c x none tar, refl)

rests_done : (E : List Transfer → Type 0) (tar : Option ℕ) (c : Choice) (x : Target) → IsPortChoice c
    → ObservedResting E tar x → ObservedResting E tar (port_completion c x)
rests_done E tar c x choice h = record {
  now = h.later c choice;
  later = λ d k. observed_no_pending_keeps (λ y. E y.memory.log) d (port_completion c x) refl (h.later c choice);
  aimed = rests_tar tar c x h.aimed;
}

-- the next address, inside a kilobyte
next_inside : (at : ℕ) → at % 4 ≡ 0 → at % 1024 ≢ 1020 → port_tar_next_address at ≡ Some (at + 4)
next_inside at aligned inside = let below : at % 1024 + 4 < 1024 = omega arith in grind arith

advanced_at : (test : Bool) (at : ℕ) (now : Option ℕ) → now ≡ port_tar_next_address at
    → ((at % 4 == 0) && no (at % 1024 == 1020)) ≡ test
    → IfSome (if test then Some (at + 4) else None) (λ a. now ≡ Some a)
advanced_at true at now e test = e ∙ next_inside at (grind arith) (grind arith)
advanced_at false at now e test = tt

advanced : (increments : Option Bool) (tar : Option ℕ) (x : Target) (now : Option ℕ)
    → IfSome increments (λ b. x.increments ≡ b) → IfSome tar (λ a. x.tar ≡ Some a)
    → now ≡ (if x.increments then option_and_then port_tar_next_address x.tar else x.tar)
    → IfSome (observed_tar_advance increments tar) (λ a. now ≡ Some a)
advanced None tar x now inc at e = tt
advanced (Some true) None x now inc at e = tt
advanced (Some true) (Some a) x now inc at e = advanced_at _ a now (rw (inc, at) at e) refl
advanced (Some false) None x now inc at e = tt
advanced (Some false) (Some a) x now inc at e = rw (inc, at) at e

-- where TAR is known the pending transfer is at that address, whatever the target chooses
pub observed_transfer_at_tar : (tar : Option ℕ) (c : Choice) (x : Target) → IfSome tar (λ a. x.tar ≡ Some a)
    → IfSome tar (λ a. unwrap_or x.tar c.address ≡ a)
observed_transfer_at_tar None c x h = tt
observed_transfer_at_tar (Some a) c x h = ap (λ o. unwrap_or o c.address) h

-- a transfer that is owed is done or fails
took_off : (E : List Transfer → Type 0) (b : StartedTransfer) (increments : Option Bool) (tar : Option ℕ) (c : Choice)
    (x : Target)
    (drw : Drw) (test : Bool) → bus_succeeds (pending_access_at (unwrap_or x.tar c.address) drw) x.memory ≡ test
    → IfSome increments (λ b. x.increments ≡ b) → ObservedCalm x → x.pending ≡ Some drw → IsObservedPending b drw
    → IfSome tar (λ a. x.tar ≡ Some a) → E x.memory.log
    → ObservedFlying E b increments tar (port_completion c x)
took_off E b increments tar c x Reads true test inc calm pending of at e =
    gone (record {
      sticky_error = rw (pending, test, calm.sticky_error) refl;
      write_error = calm.write_error;
      debug_power = calm.debug_power;
      debug_up = calm.debug_up;
    }) refl (bus_transfer_of (pending_access_at (unwrap_or x.tar c.address) Reads) x.memory) x.memory.log (record {
      read = sym of;
      addr = observed_transfer_at_tar tar c x at;
      word = λ w. absurd (cc);
    }) (rw (pending, test) refl) e (λ r. rw (pending, test) refl)
    (advanced increments tar x (port_completion c x).tar inc at (rw (pending, test) refl))
took_off E b increments tar c x (Writes word) true test inc calm pending of at e =
    gone (record {
      sticky_error = rw (pending, test, calm.sticky_error) refl;
      write_error = calm.write_error;
      debug_power = calm.debug_power;
      debug_up = calm.debug_up;
    }) refl (bus_transfer_of (pending_access_at (unwrap_or x.tar c.address) (Writes word)) x.memory) x.memory.log
    (record {
      read = sym of.0;
      addr = observed_transfer_at_tar tar c x at;
      word = λ w. of.1;
    }) (rw (pending, test) refl) e (λ r. absurd (let r0 = of.0 in cc))
    (advanced increments tar x (port_completion c x).tar inc at (rw (pending, test) refl))
took_off E b increments tar c x Reads false test inc calm pending of at e =
    failed refl (rw (pending, test, calm.sticky_error) refl) (rw (pending, test) e)
took_off E b increments tar c x (Writes word) false test inc calm pending of at e =
    failed refl (rw (pending, test, calm.sticky_error) refl) (rw (pending, test) e)

-- a transfer in flight, pending, done or failed, is one of these after the pending one took effect
pub observed_flying_completes : (E : List Transfer → Type 0) (b : StartedTransfer) (increments : Option Bool)
    (tar : Option ℕ) (c : Choice) (x : Target)
    → IfSome increments (λ b. x.increments ≡ b) → ObservedFlying E b increments tar x
    → ObservedFlying E b increments tar (port_completion c x)
observed_flying_completes E b increments tar c x inc (owed calm drw pending of at e) =
    took_off E b increments tar c x drw _ refl inc calm pending of at e
observed_flying_completes E b increments tar c x inc (gone calm none t log fits is e buffer next) =
    observed_no_pending_keeps (λ y. ObservedFlying E b increments tar y) c x none
    (gone calm none t log fits is e buffer next)
observed_flying_completes E b increments tar c x inc (failed none error e) =
    observed_no_pending_keeps (λ y. ObservedFlying E b increments tar y) c x none (failed none error e)
observed_flying_completes E b increments tar c x inc (given_up none error at e) =
    observed_no_pending_keeps (λ y. ObservedFlying E b increments tar y) c x none (given_up none error at e)

flight_on : (E : List Transfer → Type 0) (b : Option StartedTransfer) (increments : Option Bool) (tar : Option ℕ)
    (c : Choice) (x : Target) → IsPortChoice c → IfSome increments (λ b. x.increments ≡ b)
    → ObservedFlight E b increments tar x → ObservedFlight E b increments tar (port_completion c x)
flight_on E None increments tar c x choice inc h = rests_done E tar c x choice h
flight_on E (Some b) increments tar c x choice inc h = observed_flying_completes E b increments tar c x inc h

pub observer_holds_completed : (E : List Transfer → Type 0) (o : Observer) (c : Choice) (x : Target) → IsPortChoice c
    → ObserverHolds E o x → ObserverHolds E o (port_completion c x)
observer_holds_completed E o c x choice h = record {
  select = h.select;
  increments = h.increments;
  range = h.range;
  flight = flight_on E o.begun o.increments o.tar c x choice h.increments h.flight;
}

-- no write was sent
pub observer_unsent : (sent : Option SentWrite) (P : SentWrite → Type 0) → sent ≡ None → IfSome sent P
observer_unsent None P e = tt
observer_unsent (Some s) P e = absurd (cc)

sent_completes : (sent : Option SentWrite) (begun : Option StartedTransfer) (c : Choice) (x : Target)
    → IfSome sent (IsObservedSent begun x) → IfSome sent (IsObservedSent begun (port_completion c x))
sent_completes None begun c x is = tt
sent_completes (Some s) begun c x is = (is.0, is.1, λ e. refl)

pub observer_knows_completed : (E : List Transfer → Type 0) (o : Observer) (c : Choice) (x : Target) → IsPortChoice c
    → ObserverKnows E o x → ObserverKnows E o (port_completion c x)
observer_knows_completed E o c x choice (here clean h) =
    here (sent_completes o.sent o.begun c x clean) (observer_holds_completed E (observer_arrival o) c x choice h)
observer_knows_completed E o c x choice (spoiled error rest h) =
    spoiled error rest (observer_holds_completed E (record o { sent = None }) c x choice h)

-- what is known is true after a possible completion
pub observer_knows_stays : (E : List Transfer → Type 0) (o : Observer) (s t : Port) → PortCompletes s t
    → ObserverKnows E o s.target → ObserverKnows E o t.target
observer_knows_stays E o s t (inl e) h = subst (λ p. ObserverKnows E o p.target) (sym e) h
observer_knows_stays E o s t (inr (c, choice, e)) h =
    subst (λ p. ObserverKnows E o p.target) (sym e) (observer_knows_completed E o c s.target choice h)
