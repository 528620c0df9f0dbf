-- Before a request the port may give up a pending write: what is known stays known.
use Rattle.std.proofs.Common.{◌≡◌, ℕ, Bool, true, false, List, refl, sym, subst, inl, inr}
use Rattle.std.specs.Prelude.{Option, Some, None, IfSome}
use Rattle.swd_bits.specs.declared.request.Request.{Request}
use Rattle.swd_port.specs.declared.access.Transfer.{Transfer}
use Rattle.swd_port.specs.declared.mark.Mark.{Mark}
use Rattle.swd_port.specs.Port.{Port, Target}
use Rattle.swd_port.specs.Completion.{PortCompletes}
use Rattle.swd_port.specs.Asking.{PortKeepsOrGivesUp, is_pending_write}
use Rattle.swd_observer.specs.declared.observer.Observer.{Observer}
use Rattle.swd_observer.specs.declared.observer.StartedTransfer.{StartedTransfer}
use Rattle.swd_observer.specs.declared.observer.SentWrite.{SentWrite}
use Rattle.swd_observer.specs.declared.observer.Written.{Written}
use Rattle.swd_observer.specs.declared.observer.Written.TheVariants.{Select as ToSelect, Csw as ToCsw, Tar as ToTar}
use Rattle.swd_observer.specs.declared.observer.Written.TheVariants.{Drw as ToDrw}
use Rattle.swd_observer.specs.Observing.{observer_arrival_of}
use Rattle.swd_observer.specs.Knows.{ObservedFlying, owed, gone, failed, given_up, ObservedResting, ObservedFlight}
use Rattle.swd_observer.specs.Knows.{ObserverHolds, ObserverKnows, here, spoiled, IsObservedSent}
use Rattle.swd_observer.proofs.KnownLemmas.{observer_knows_stays, observer_unsent}
use Rattle.swd_observer.proofs.OkayLemmas.{observed_rests_by, observed_aimed_only}

-- a target once it gave up the pending write
abbrev unwritten : Target → Target
unwritten x = record x { write_error = true; pending = None }

no_write : (x : Target) → is_pending_write x.pending ≡ true → x.pending ≡ None → ⊥
no_write x write none = let clash : is_pending_write x.pending ≡ false = rw none refl in cc

-- a write that is given up is owed before: TAR is where it was, and nothing was logged
flies_given : (E : List Transfer → Type 0) (b : StartedTransfer) (increments : Option Bool) (tar : Option ℕ)
    (x : Target) → is_pending_write x.pending ≡ true → ObservedFlying E b increments tar x
    → IfSome tar (λ a. x.tar ≡ Some a) × E x.memory.log
flies_given E b increments tar x write (owed calm drw pending of at e) = (at, e)
flies_given E b increments tar x write (gone calm none t log fits is e buffer next) = absurd (no_write x write none)
flies_given E b increments tar x write (failed none error e) = absurd (no_write x write none)
flies_given E b increments tar x write (given_up none error at e) = absurd (no_write x write none)

rests_given : (E : List Transfer → Type 0) (tar : Option ℕ) (x : Target) → ObservedResting E tar x
    → ObservedResting E tar (unwritten x)
rests_given E tar x h = observed_rests_by E tar (unwritten x) (observed_aimed_only tar x h.aimed) h.now refl

flight_given : (E : List Transfer → Type 0) (b : Option StartedTransfer) (increments : Option Bool) (tar : Option ℕ)
    (x : Target) → is_pending_write x.pending ≡ true → ObservedFlight E b increments tar x
    → ObservedFlight E b increments tar (unwritten x)
flight_given E None increments tar x write h = rests_given E tar x h
flight_given E (Some b) increments tar x write h =
    let was = flies_given E b increments tar x write h in given_up refl refl was.0 was.1

holds_given : (E : List Transfer → Type 0) (o : Observer) (x : Target) → is_pending_write x.pending ≡ true
    → ObserverHolds E o x → ObserverHolds E o (unwritten x)
holds_given E o x write h = record {
  select = h.select;
  increments = h.increments;
  range = h.range;
  flight = flight_given E o.begun o.increments o.tar x write h.flight;
}

-- the write that was sent is given up, and it is one of DRW
sent_given : (E : List Transfer → Type 0) (w : Written) (word : Option ℕ) (place : ℕ) (o : Observer) (x : Target)
    → is_pending_write x.pending ≡ true
    → IsObservedSent o.begun x (record { written = w; word = word; place = place })
    → ObserverHolds E (observer_arrival_of (Some (record { written = w; word = word; place = place })) o) x
    → ObserverHolds E (record o { sent = None }) (unwritten x)
sent_given E ToSelect word place o x write is h = absurd (no_write x write (is.2 refl))
sent_given E ToCsw word place o x write is h = absurd (no_write x write (is.2 refl))
sent_given E ToTar word place o x write is h = absurd (no_write x write (is.2 refl))
sent_given E ToDrw word place o x write is h =
    let was = flies_given E _ o.increments o.tar x write h.flight in
    record {
      select = h.select;
      increments = h.increments;
      range = h.range;
      flight = subst (λ b. ObservedFlight E b o.increments o.tar (unwritten x)) (sym is.1)
          (observed_rests_by E o.tar (unwritten x) was.0 was.1 refl);
    }

here_given : (E : List Transfer → Type 0) (sent : Option SentWrite) (o : Observer) (x : Target) → o.sent ≡ sent
    → is_pending_write x.pending ≡ true → IfSome sent (IsObservedSent o.begun x)
    → ObserverHolds E (observer_arrival_of sent o) x → ObserverKnows E o (unwritten x)
here_given E None o x none write is h =
    here (observer_unsent o.sent _ none) (subst (λ s. ObserverHolds E (observer_arrival_of s o) (unwritten x))
    (sym none) (holds_given E o x write h))
here_given E (Some s) o x some write is h =
    spoiled refl is.1 (sent_given E s.written s.word s.place o x write is h)

knows_given : (E : List Transfer → Type 0) (o : Observer) (x : Target) → is_pending_write x.pending ≡ true
    → ObserverKnows E o x → ObserverKnows E o (unwritten x)
knows_given E o x write (here is h) = here_given E o.sent o x refl write is h
knows_given E o x write (spoiled error rest h) =
    spoiled refl rest (holds_given E (record o { sent = None }) x write h)

-- before a request the pending transfer may take effect, and a pending write may be given up
abbrev pub ObservedBefore : Request → Port → Port → Type 0
ObservedBefore q s d = (a : Port) × (mark : Mark) × PortCompletes s a × PortKeepsOrGivesUp mark q a d

-- what is known is true when the request comes, whether or not a write was given up before it
pub observer_knows_before : (E : List Transfer → Type 0) (o : Observer) (q : Request) (s d : Port)
    → ObservedBefore q s d → ObserverKnows E o s.target → ObserverKnows E o d.target
observer_knows_before E o q s d (a, mark, first, inl e) k =
    subst (λ p. ObserverKnows E o p.target) (sym e) (observer_knows_stays E o s a first k)
observer_knows_before E o q s d (a, mark, first, inr gave) k =
    subst (λ p. ObserverKnows E o p.target) (sym gave.after)
    (knows_given E o a.target gave.write (observer_knows_stays E o s a first k))
