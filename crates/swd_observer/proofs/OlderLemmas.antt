-- A read that took place and whose word wasn't seen yet.
use Rattle.std.proofs.Common.{◌≡◌, ℕ, Bool, true, List, ◌++◌, refl, sym, ap, subst, inl, inr, ◌∙◌, append-nil}
use Rattle.std.specs.Prelude.{Option, Some, None, IfSome}
use Rattle.swd_bits.specs.declared.request.Request.{Request}
use Rattle.swd_port.specs.declared.access.Transfer.{Transfer}
use Rattle.swd_port.specs.declared.state.Reply.TheVariants.{Waits, Faults}
use Rattle.swd_port.specs.Port.{Port, Target, port_register}
use Rattle.swd_port.specs.Choices.{Choice}
use Rattle.swd_port.specs.Completion.{port_completion, PortCompletes}
use Rattle.swd_port.specs.Asking.{PortAsks, port_reply}
use Rattle.swd_port.specs.Moving.{PortPasses, PortTakes}
use Rattle.swd_port.proofs.RequestLaws.{port_replied as told_reply}
use Rattle.swd_observer.specs.declared.told.ObservedAccess.{ObservedAccess}
use Rattle.swd_observer.specs.declared.told.How.TheVariants.{Took}
use Rattle.swd_observer.specs.declared.observer.Observer.{Observer}
use Rattle.swd_observer.specs.declared.observer.StartedTransfer.{StartedTransfer}
use Rattle.swd_observer.specs.declared.observer.Older.{Older}
use Rattle.swd_observer.specs.declared.observer.Standing.{Standing}
use Rattle.swd_observer.specs.declared.observer.Standing.TheVariants.{Buffer, Returned}
use Rattle.swd_observer.specs.Observing.{observer_arrival, observed_older}
use Rattle.swd_observer.specs.Explained.{ObservedSince, one_observed}
use Rattle.swd_observer.specs.Knows.{ObservedFlying, owed, gone, failed, given_up, ObservedFlight, ObserverHolds}
use Rattle.swd_observer.specs.Knows.{ObserverKnows, here, spoiled, IsObservedOlder, ObservedStands, ObserverAwaits}
use Rattle.swd_observer.specs.Knows.{ObserverWatches}
use Rattle.swd_observer.specs.Laws.{ObserverKnowsSince, ObserverAtWait, ObserverAtFault}
use Rattle.swd_observer.proofs.ExplainLemmas.{observed_since_took}
use Rattle.swd_observer.proofs.KnownLemmas.{observer_knows_stays, observed_no_pending_keeps}
use Rattle.swd_observer.proofs.GivenUpLemmas.{ObservedBefore}
use Rattle.swd_observer.proofs.RefusedLemmas.{observed_wait_reply, observed_fault_reply, observer_knows_wait}
use Rattle.swd_observer.proofs.RefusedLemmas.{observer_knows_fault}

-- what explains a log may be said in other words
flies_as : (E F : List Transfer → Type 0) (f : (log : List Transfer) → E log → F log) (b : StartedTransfer)
    (increments : Option Bool) (tar : Option ℕ) (x : Target) → ObservedFlying E b increments tar x
    → ObservedFlying F b increments tar x
flies_as E F f b increments tar x (owed calm drw pending of at e) = owed calm drw pending of at (f x.memory.log e)
flies_as E F f b increments tar x (gone calm none t log fits is e buffer next) =
    gone calm none t log fits is (f log e) buffer next
flies_as E F f b increments tar x (failed none error e) = failed none error (f x.memory.log e)
flies_as E F f b increments tar x (given_up none error at e) = given_up none error at (f x.memory.log e)

flight_as : (E F : List Transfer → Type 0) (f : (log : List Transfer) → E log → F log) (b : Option StartedTransfer)
    (increments : Option Bool) (tar : Option ℕ) (x : Target) → ObservedFlight E b increments tar x
    → ObservedFlight F b increments tar x
flight_as E F f None increments tar x h = record {
  now = f x.memory.log h.now;
  later = λ c k. f (port_completion c x).memory.log (h.later c k);
  aimed = h.aimed;
}
flight_as E F f (Some b) increments tar x h = flies_as E F f b increments tar x h

holds_as : (E F : List Transfer → Type 0) (f : (log : List Transfer) → E log → F log) (o : Observer) (x : Target)
    → ObserverHolds E o x → ObserverHolds F o x
holds_as E F f o x h = record {
  select = h.select;
  increments = h.increments;
  range = h.range;
  flight = flight_as E F f o.begun o.increments o.tar x h.flight;
}

pub observer_knows_maps : (E F : List Transfer → Type 0) (f : (log : List Transfer) → E log → F log) (o : Observer)
    (x : Target) → ObserverKnows E o x → ObserverKnows F o x
observer_knows_maps E F f o x (here clean h) = here clean (holds_as E F f (observer_arrival o) x h)
observer_knows_maps E F f o x (spoiled error rest h) =
    spoiled error rest (holds_as E F f (record o { sent = None }) x h)

-- it is told, with a word where that is its word
word_told : (known : Option ℕ) (word got : ℕ) → got ≡ word → IfSome known (λ v. word ≡ v) → IfSome known (λ v. got ≡ v)
word_told None word got e h = tt
word_told (Some v) word got e h = e ∙ h

is_told : (before : List Transfer) (told : List ObservedAccess) (h : Older) (word : ℕ) (known : Option ℕ)
    (log : List Transfer) → IfSome known (λ v. word ≡ v) → IsObservedOlder (ObservedSince before told) h word log
    → ObservedSince before (told ++ one_observed (observed_older known (Some h))) log
is_told before told h word known log right i =
    subst (λ l. ObservedSince before (told ++ one_observed (observed_older known (Some h))) l) (sym i.is)
    (observed_since_took before told (record { place = h.place; read = true; addr = h.addr; word = known; how = Took })
    i.read i.front
    refl (record { read = i.reads; addr = i.addr; word = word_told known word i.read.word i.word_of right }) i.explains)

-- what is known is true once the older read, if any, is reported as `Took`, with a word only if it is its own
pub observer_older_flushed : (before : List Transfer) (told : List ObservedAccess) (h : Option Older) (known : Option ℕ)
    (o : Observer) (x : Target)
    → ((s : Standing) (word : ℕ) → IfSome h (λ z. z.standing ≡ s) → ObservedStands s word x
    → IfSome known (λ v. word ≡ v))
    → ObserverAwaits (ObservedSince before told) h o x
    → ObserverKnows (ObservedSince before (told ++ one_observed (observed_older known h))) o x
observer_older_flushed before told None known o x right k =
    subst (λ l. ObserverKnows (ObservedSince before l) o x) (sym (append-nil told)) k
observer_older_flushed before told (Some h) known o x right (word, stands, k) =
    observer_knows_maps (IsObservedOlder (ObservedSince before told) h word)
    (ObservedSince before (told ++ one_observed (observed_older known (Some h))))
    (λ log i. is_told before told h word known log (right h.standing word refl stands) i) o x k

-- the same for a report without its word
pub observer_all_flushed : (before : List Transfer) (told : List ObservedAccess) (o : Observer) (x : Target)
    → ObserverKnowsSince before told o x
    → ObserverKnows (ObservedSince before (told ++ one_observed (observed_older None o.older))) o x
observer_all_flushed before told o x k =
    observer_older_flushed before told o.older None o x (λ s word e stands. tt) k

-- where nothing is held
pub observer_awaits_none : (E : List Transfer → Type 0) (h : Option Older) (o : Observer) (x : Target) → h ≡ None
    → ObserverKnows E o x → ObserverAwaits E h o x
observer_awaits_none E h o x e k = subst (λ z. ObserverAwaits E z o x) (sym e) k

-- a step that keeps what is known and where the word stands
pub observer_awaits_by : (E : List Transfer → Type 0) (h : Option Older) (o p : Observer) (x y : Target)
    → ((F : List Transfer → Type 0) → ObserverKnows F o x → ObserverKnows F p y)
    → ((s : Standing) (word : ℕ) → ObservedStands s word x → ObservedStands s word y) → ObserverAwaits E h o x
    → ObserverAwaits E h p y
observer_awaits_by E None o p x y f g k = f E k
observer_awaits_by E (Some h) o p x y f g (word, stands, k) =
    (word, g h.standing word stands, f (IsObservedOlder E h word) k)

-- the word of an older read stands where it stood, if read buffer, last returned value and pending transfer are
-- unchanged
pub observed_stands_same : (s : Standing) (word : ℕ) (x y : Target) → y.buffer ≡ x.buffer
    → y.last_returned ≡ x.last_returned → y.pending ≡ x.pending → ObservedStands s word x → ObservedStands s word y
observed_stands_same Buffer word x y b l p h = (b ∙ h.0, p ∙ h.1)
observed_stands_same Returned word x y b l p h = l ∙ h

stands_on : (s : Standing) (word : ℕ) (c : Choice) (x : Target) → ObservedStands s word x
    → ObservedStands s word (port_completion c x)
stands_on Buffer word c x h = observed_no_pending_keeps (λ y. (y.buffer ≡ Some word) × (y.pending ≡ None)) c x h.1 h
stands_on Returned word c x h = h

stands_given : (s : Standing) (word : ℕ) (x : Target) → ObservedStands s word x
    → ObservedStands s word (record x { write_error = true; pending = None })
stands_given Buffer word x h = (h.0, refl)
stands_given Returned word x h = h

-- the word of an older read stands where it stood after a possible completion
pub observed_stands_stays : (s : Standing) (word : ℕ) (a b : Port) → PortCompletes a b → ObservedStands s word a.target
    → ObservedStands s word b.target
observed_stands_stays s word a b (inl e) h = subst (λ p. ObservedStands s word p.target) (sym e) h
observed_stands_stays s word a b (inr (c, choice, e)) h =
    subst (λ p. ObservedStands s word p.target) (sym e) (stands_on s word c a.target h)

-- the word of an older read stands where it stood when the next request comes
pub observed_stands_before : (s : Standing) (word : ℕ) (q : Request) (a b : Port) → ObservedBefore q a b
    → ObservedStands s word a.target → ObservedStands s word b.target
observed_stands_before s word q a b (c, mark, first, inl e) h =
    subst (λ p. ObservedStands s word p.target) (sym e) (observed_stands_stays s word a c first h)
observed_stands_before s word q a b (c, mark, first, inr gave) h =
    subst (λ p. ObservedStands s word p.target) (sym gave.after)
    (stands_given s word c.target (observed_stands_stays s word a c first h))

pub observed_stands_passed : (s : Standing) (word : ℕ) (a b : Port) → PortPasses a b → ObservedStands s word a.target
    → ObservedStands s word b.target
observed_stands_passed s word a b (c, d, first, now, last) h = observed_stands_stays s word d b last
    (subst (ObservedStands s word) (sym (ap (λ p. p.target) now.after)) (observed_stands_stays s word a c first h))

-- the word of an older read stands where it stood after the data phase of a read
pub observed_stands_taken : (s : Standing) (word : ℕ) (a b : Port) (bits : ℕ) → PortTakes a bits b
    → ObservedStands s word a.target → ObservedStands s word b.target
observed_stands_taken s word a b bits (c, d, first, now, last) h = observed_stands_stays s word d b last
    (subst (ObservedStands s word) (sym (ap (λ p. p.target) now.after)) (observed_stands_stays s word a c first h))

stands_waited : (s : Standing) (word : ℕ) (q : Request) (a b : Port) → PortAsks a q 2 b → ObservedStands s word a.target
    → ObservedStands s word b.target
stands_waited s word q a b (e, c, d, mark, choice, first, kept, now, last) h =
    let is : port_reply mark c.target q ≡ Waits = observed_wait_reply mark (port_reply mark c.target q) now.sees in
    let after = told_reply mark choice Waits (port_register c.target.select q) c q 2 d is refl now in
    observed_stands_stays s word d b last (subst (ObservedStands s word) (sym (ap (λ p. p.target) after.after))
    (observed_stands_same s word c.target _ refl refl refl
    (observed_stands_before s word q a c (e, mark, first, kept) h)))

stands_faulted : (s : Standing) (word : ℕ) (q : Request) (a b : Port) → PortAsks a q 4 b
    → ObservedStands s word a.target → ObservedStands s word b.target
stands_faulted s word q a b (e, c, d, mark, choice, first, kept, now, last) h =
    let is : port_reply mark c.target q ≡ Faults = observed_fault_reply mark (port_reply mark c.target q) now.sees in
    let after = told_reply mark choice Faults (port_register c.target.select q) c q 4 d is refl now in
    observed_stands_stays s word d b last (subst (ObservedStands s word) (sym (ap (λ p. p.target) after.after))
    (observed_stands_same s word c.target _ refl refl refl
    (observed_stands_before s word q a c (e, mark, first, kept) h)))

-- what is known, of an older read, too, is true after a possible completion
pub observer_watches_stay : (E : List Transfer → Type 0) (o : Observer) (s t : Port) → PortCompletes s t
    → ObserverWatches E o s.target → ObserverWatches E o t.target
observer_watches_stay E o s t done k =
    observer_awaits_by E o.older o o s.target t.target (λ F h. observer_knows_stays F o s t done h)
    (λ z word h. observed_stands_stays z word s t done h) k

-- after WAIT what was known is true, with nothing reported
pub observer_watches_wait : ObserverAtWait
observer_watches_wait before told o q place s t h k =
    observer_awaits_by (ObservedSince before told) o.older o o s.target t.target
    (λ F z. observer_knows_wait F o q s h.asked t h.asks h.passes z)
    (λ z word v. observed_stands_passed z word h.asked t h.passes (stands_waited z word q s h.asked h.asks v)) k

-- after FAULT, too
pub observer_watches_fault : ObserverAtFault
observer_watches_fault before told o q place s t h k =
    observer_awaits_by (ObservedSince before told) o.older o o s.target t.target
    (λ F z. observer_knows_fault F o q s h.asked t h.asks h.passes z)
    (λ z word v. observed_stands_passed z word h.asked t h.passes (stands_faulted z word q s h.asked h.asks v)) k
