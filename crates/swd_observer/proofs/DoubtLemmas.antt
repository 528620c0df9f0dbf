-- The transfer in flight is reported as one that may have taken effect, and may still do so.
use Rattle.std.proofs.Common.{◌≡◌, ◌<◌, ◌^◌, ℕ, Bool, true, false, List, [], ◌∷◌, ◌++◌, refl, sym, subst, ◌∙◌}
use Rattle.std.proofs.Common.{append-nil}
use Rattle.std.specs.Prelude.{Option, Some, None, IfSome, if◌then◌else◌}
use Rattle.std.specs.Option.{option_map}
use Rattle.swd_port.specs.declared.access.Transfer.{Transfer}
use Rattle.swd_port.specs.declared.select.Select.{Select}
use Rattle.swd_port.specs.Port.{Target}
use Rattle.swd_port.specs.Choices.{Choice}
use Rattle.swd_port.specs.Completion.{port_completion}
use Rattle.swd_observer.specs.declared.told.ObservedAccess.{ObservedAccess}
use Rattle.swd_observer.specs.declared.told.How.{How}
use Rattle.swd_observer.specs.declared.told.How.TheVariants.{May}
use Rattle.swd_observer.specs.declared.observer.Observer.{Observer}
use Rattle.swd_observer.specs.declared.observer.StartedTransfer.{StartedTransfer}
use Rattle.swd_observer.specs.declared.observer.SentWrite.{SentWrite}
use Rattle.swd_observer.specs.declared.observer.Written.{Written}
use Rattle.swd_observer.specs.declared.observer.Written.TheVariants.{Select as ToSelect, Csw as ToCsw, Tar as ToTar}
use Rattle.swd_observer.specs.declared.observer.Written.TheVariants.{Drw as ToDrw}
use Rattle.swd_observer.specs.Observing.{observer_arrival_of, observed_doubt, observed_begun}
use Rattle.swd_observer.specs.Observing.{observed_word_of_begun, observed_tar_lost, observer_transfer_undone}
use Rattle.swd_observer.specs.Observing.{observer_unsure, observed_sent_unsure, observer_doubted}
use Rattle.swd_observer.specs.Observing.{observed_increments_sent, observed_whole}
use Rattle.swd_observer.specs.Explained.{ObservedSince, one_observed}
use Rattle.swd_observer.specs.Knows.{ObservedFlying, owed, gone, failed, given_up, ObservedResting, ObservedFlight}
use Rattle.swd_observer.specs.Knows.{ObserverHolds, ObserverKnows, here, spoiled}
use Rattle.swd_observer.proofs.ExplainLemmas.{observed_since_may_took, observed_since_may_not}
use Rattle.swd_observer.proofs.KnownLemmas.{observed_flying_completes, observer_unsent}
use Rattle.swd_observer.proofs.OkayLemmas.{ObservedSame, observed_same_value}
use Rattle.swd_observer.proofs.StepLemmas.{observer_arrival_unsent}

word_may : (r : Bool) (word : Option ℕ) (t : Transfer) → (r ≡ false → IfSome word (λ w. t.word ≡ w))
    → IfSome (if r then None else word) (λ w. t.word ≡ w)
word_may true word t f = tt
word_may false word t f = f refl

abbrev doubtful : How → StartedTransfer → Option ℕ → ObservedAccess
doubtful how b tar = record {
  place = b.place;
  read = b.read;
  addr = tar;
  word = observed_word_of_begun b None;
  how = how;
}

-- it did not take place so far
none_so_far : (before : List Transfer) (told : List ObservedAccess) (t : ObservedAccess) (x : Target)
    (log : List Transfer) → t.how ≡ May
    → ObservedSince before told log → ObservedSince before (told ++ t ∷ []) log
none_so_far before told t x log may e = observed_since_may_not before told t log may e

-- the log as it is explains it
may_now : (before : List Transfer) (told : List ObservedAccess) (how : How) (b : StartedTransfer)
    (increments : Option Bool) (tar : Option ℕ) (x : Target) → how ≡ May
    → ObservedFlying (ObservedSince before told) b increments tar x
    → ObservedSince before (told ++ doubtful how b tar ∷ []) x.memory.log
may_now before told how b increments tar x d (owed calm drw pending of at e) =
    none_so_far before told (doubtful how b tar) x x.memory.log d e
may_now before told how b increments tar x may (gone calm none t log fits is e buffer next) =
    subst (λ l. ObservedSince before (told ++ doubtful how b tar ∷ []) l) (sym is)
    (observed_since_may_took before told (doubtful how b tar) t log may (record {
      read = fits.read;
      addr = fits.addr;
      word = word_may b.read b.word t fits.word;
    }) e)
may_now before told how b increments tar x d (failed none error e) =
    none_so_far before told (doubtful how b tar) x x.memory.log d e
may_now before told how b increments tar x d (given_up none error at e) =
    none_so_far before told (doubtful how b tar) x x.memory.log d e

log_same : (c : Choice) (x y : Target) → ObservedSame x y → (port_completion c y).memory ≡ (port_completion c x).memory
log_same c x y s = rw (s.pending, s.tar, s.memory) refl

doubt_flying : (before : List Transfer) (told : List ObservedAccess) (how : How) (b : StartedTransfer)
    (increments : Option Bool) (tar : Option ℕ) (x y : Target) → ObservedSame x y → how ≡ May
    → IfSome increments (λ i. x.increments ≡ i) → ObservedFlying (ObservedSince before told) b increments tar x
    → ObservedResting (ObservedSince before (told ++ doubtful how b tar ∷ [])) None y
doubt_flying before told how b increments tar x y s d inc h = record {
  now = subst (λ m. ObservedSince before (told ++ doubtful how b tar ∷ []) m.log) (sym s.memory)
      (may_now before told how b increments tar x d h);
  later = λ c k. subst (λ m. ObservedSince before (told ++ doubtful how b tar ∷ []) m.log) (sym (log_same c x y s))
      (may_now before told how b increments tar (port_completion c x) d
      (observed_flying_completes (ObservedSince before told) b increments tar c x inc h));
  aimed = tt;
}

aimed_same : (tar : Option ℕ) (x y : Target) → ObservedSame x y
    → IfSome tar (λ a. (x.tar ≡ Some a) × (x.pending ≡ None)) → IfSome tar (λ a. (y.tar ≡ Some a) × (y.pending ≡ None))
aimed_same None x y s h = tt
aimed_same (Some a) x y s h = (s.tar ∙ h.0, s.pending ∙ h.1)

rest_same : (E : List Transfer → Type 0) (tar : Option ℕ) (x y : Target) → ObservedSame x y → ObservedResting E tar x
    → ObservedResting E tar y
rest_same E tar x y s h = record {
  now = subst (λ m. E m.log) (sym s.memory) h.now;
  later = λ c k. subst (λ m. E m.log) (sym (log_same c x y s)) (h.later c k);
  aimed = aimed_same tar x y s h.aimed;
}

doubt_flight : (before : List Transfer) (told : List ObservedAccess) (how : How) (b : Option StartedTransfer)
    (increments : Option Bool) (tar : Option ℕ) (x y : Target) → ObservedSame x y → how ≡ May
    → IfSome increments (λ i. x.increments ≡ i) → ObservedFlight (ObservedSince before told) b increments tar x
    → ObservedResting (ObservedSince before (told ++ one_observed (observed_begun how None tar b)))
    (observed_tar_lost b tar) y
doubt_flight before told how None increments tar x y s d inc h =
    subst (λ l. ObservedResting (ObservedSince before l) tar y) (sym (append-nil told))
    (rest_same (ObservedSince before told) tar x y s h)
doubt_flight before told how (Some b) increments tar x y s d inc h =
    doubt_flying before told how b increments tar x y s d inc h

-- a TAR of which nothing is known
forget : (E : List Transfer → Type 0) (b : Option StartedTransfer) (tar : Option ℕ) (y : Target)
    → ObservedResting E (observed_tar_lost b tar) y → ObservedResting E (observed_tar_lost b None) y
forget E None tar y h = record { now = h.now; later = h.later; aimed = tt }
forget E (Some b) tar y h = h

range_lost : (b : Option StartedTransfer) (tar : Option ℕ) → IfSome tar (λ a. a < 2 ^ 32)
    → IfSome (observed_tar_lost b tar) (λ a. a < 2 ^ 32)
range_lost None tar h = h
range_lost (Some b) tar h = tt

range_none : (b : Option StartedTransfer) → IfSome (observed_tar_lost b None) (λ a. a < 2 ^ 32)
range_none None = tt
range_none (Some b) = tt

abbrev DoubtedAt : List Transfer → List ObservedAccess → How → Option SentWrite → Observer → Target → Type 0
DoubtedAt before told how s o y = ObserverHolds
    (ObservedSince before (told ++ one_observed
    (observed_begun how None (observer_arrival_of s o).tar (observer_arrival_of s o).begun)))
    (observer_transfer_undone (observer_arrival_of (option_map observed_sent_unsure s) (observer_unsure o))) y

doubt_sent : (before : List Transfer) (told : List ObservedAccess) (how : How) (w : Written) (word : Option ℕ)
    (place : ℕ) (o : Observer) (x y : Target) → ObservedSame x y → how ≡ May
    → ObserverHolds (ObservedSince before told)
    (observer_arrival_of (Some (record { written = w; word = word; place = place })) o) x
    → DoubtedAt before told how (Some (record { written = w; word = word; place = place })) o y
doubt_sent before told how ToSelect word place o x y s d h = record {
  select = tt;
  increments = observed_same_value Bool o.increments x.increments y.increments s.increments h.increments;
  range = range_lost o.begun o.tar h.range;
  flight = doubt_flight before told how o.begun o.increments o.tar x y s d h.increments h.flight;
}
doubt_sent before told how ToCsw word place o x y s d h = record {
  select = observed_same_value Select o.select x.select y.select s.select h.select;
  increments = tt;
  range = range_lost o.begun o.tar h.range;
  flight = doubt_flight before told how o.begun (observed_increments_sent ToCsw word o.increments) o.tar x y s d
      h.increments h.flight;
}
doubt_sent before told how ToTar word place o x y s d h = record {
  select = observed_same_value Select o.select x.select y.select s.select h.select;
  increments = observed_same_value Bool o.increments x.increments y.increments s.increments h.increments;
  range = range_none o.begun;
  flight = forget _ o.begun word y
      (doubt_flight before told how o.begun o.increments word x y s d h.increments h.flight);
}
doubt_sent before told how ToDrw word place o x y s d h = record {
  select = observed_same_value Select o.select x.select y.select s.select h.select;
  increments = observed_same_value Bool o.increments x.increments y.increments s.increments h.increments;
  range = tt;
  flight = doubt_flight before told how (Some (record {
    read = false;
    word = observed_whole o.increments word;
    place = place;
  })) o.increments o.tar x y s d
      h.increments h.flight;
}

doubt_at : (before : List Transfer) (told : List ObservedAccess) (how : How) (sent : Option SentWrite) (o : Observer)
    (x y : Target) → ObservedSame x y → how ≡ May
    → ObserverHolds (ObservedSince before told) (observer_arrival_of sent o) x → DoubtedAt before told how sent o y
doubt_at before told how None o x y s d h = record {
  select = observed_same_value Select o.select x.select y.select s.select h.select;
  increments = observed_same_value Bool o.increments x.increments y.increments s.increments h.increments;
  range = range_lost o.begun o.tar h.range;
  flight = doubt_flight before told how o.begun o.increments o.tar x y s d h.increments h.flight;
}
doubt_at before told how (Some sent) o x y s d h = doubt_sent before told how sent.written sent.word sent.place o x y
    s d h

doubted_sends_none : (o : Observer) → (observer_doubted o).sent ≡ None
doubted_sends_none o = observer_arrival_unsent (option_map observed_sent_unsure o.sent) (observer_unsure o) refl

knows_doubted : (E : List Transfer → Type 0) (o : Observer) (y : Target) → ObserverHolds E (observer_doubted o) y
    → ObserverKnows E (observer_doubted o) y
knows_doubted E o y h = here (observer_unsent (observer_doubted o).sent _ (doubted_sends_none o))
    (subst (λ s. ObserverHolds E (observer_arrival_of s (observer_doubted o)) y) (sym (doubted_sends_none o)) h)

-- a write that didn't arrive, of whatever is told so
never_sent : (before : List Transfer) (told : List ObservedAccess) (t : ObservedAccess) (tar : Option ℕ) (x y : Target)
    → ObservedSame x y → t.how ≡ May → ObservedResting (ObservedSince before told) tar x
    → ObservedResting (ObservedSince before (told ++ t ∷ [])) None y
never_sent before told t tar x y s d r = record {
  now = subst (λ m. ObservedSince before (told ++ t ∷ []) m.log) (sym s.memory)
      (none_so_far before told t x x.memory.log d r.now);
  later = λ c k. subst (λ m. ObservedSince before (told ++ t ∷ []) m.log) (sym (log_same c x y s))
      (none_so_far before told t x (port_completion c x).memory.log d (r.later c k));
  aimed = tt;
}

-- the write didn't arrive, and what was begun is none
spoil_sent : (before : List Transfer) (told : List ObservedAccess) (how : How) (w : Written) (word : Option ℕ)
    (place : ℕ) (o : Observer) (x y : Target) → ObservedSame x y → how ≡ May → o.begun ≡ None
    → ObserverHolds (ObservedSince before told) (record o { sent = None }) x
    → DoubtedAt before told how (Some (record { written = w; word = word; place = place })) o y
spoil_sent before told how ToSelect word place o x y s d rest h = record {
  select = tt;
  increments = observed_same_value Bool o.increments x.increments y.increments s.increments h.increments;
  range = range_lost o.begun o.tar h.range;
  flight = doubt_flight before told how o.begun o.increments o.tar x y s d h.increments h.flight;
}
spoil_sent before told how ToCsw word place o x y s d rest h = record {
  select = observed_same_value Select o.select x.select y.select s.select h.select;
  increments = tt;
  range = range_lost o.begun o.tar h.range;
  flight = doubt_flight before told how o.begun o.increments o.tar x y s d h.increments h.flight;
}
spoil_sent before told how ToTar word place o x y s d rest h = record {
  select = observed_same_value Select o.select x.select y.select s.select h.select;
  increments = observed_same_value Bool o.increments x.increments y.increments s.increments h.increments;
  range = range_none o.begun;
  flight = subst (λ b. ObservedResting (ObservedSince before (told ++ one_observed (observed_begun how None word b)))
      (observed_tar_lost b None) y) (sym rest) (forget (ObservedSince before (told ++ [])) None o.tar y
      (doubt_flight before told how None o.increments o.tar x y s d h.increments
      (subst (λ b. ObservedFlight (ObservedSince before told) b o.increments o.tar x) rest h.flight)));
}
spoil_sent before told how ToDrw word place o x y s d rest h = record {
  select = observed_same_value Select o.select x.select y.select s.select h.select;
  increments = observed_same_value Bool o.increments x.increments y.increments s.increments h.increments;
  range = tt;
  flight = never_sent before told
      (doubtful how (record { read = false; word = observed_whole o.increments word; place = place }) o.tar) o.tar x y s
      d (subst (λ b. ObservedFlight (ObservedSince before told) b o.increments o.tar x) rest h.flight);
}

spoil_at : (before : List Transfer) (told : List ObservedAccess) (how : How) (sent : Option SentWrite) (o : Observer)
    (x y : Target) → ObservedSame x y → how ≡ May
    → o.begun ≡ None → ObserverHolds (ObservedSince before told) (record o { sent = None }) x
    → DoubtedAt before told how sent o y
spoil_at before told how None o x y s d rest h = record {
  select = observed_same_value Select o.select x.select y.select s.select h.select;
  increments = observed_same_value Bool o.increments x.increments y.increments s.increments h.increments;
  range = range_lost o.begun o.tar h.range;
  flight = doubt_flight before told how o.begun o.increments o.tar x y s d h.increments h.flight;
}
spoil_at before told how (Some sent) o x y s d rest h =
    spoil_sent before told how sent.written sent.word sent.place o x y s d rest h

-- once the transfer in flight is reported as `May`, what a doubting observer knows is true, even if the flags change
pub observer_knows_in_doubt : (before : List Transfer) (told : List ObservedAccess) (o : Observer) (x y : Target)
    → ObservedSame x y → ObserverKnows (ObservedSince before told) o x
    → ObserverKnows (ObservedSince before (told ++ one_observed (observed_doubt o))) (observer_doubted o) y
observer_knows_in_doubt before told o x y s (here clean h) =
    knows_doubted _ o y (doubt_at before told May o.sent o x y s refl h)
observer_knows_in_doubt before told o x y s (spoiled error rest h) =
    knows_doubted _ o y (spoil_at before told May o.sent o x y s refl rest h)

-- the same as `ObserverHolds`, since a doubting observer has no unconfirmed write
pub observer_holds_in_doubt : (before : List Transfer) (told : List ObservedAccess) (o : Observer) (x y : Target)
    → ObservedSame x y → ObserverKnows (ObservedSince before told) o x
    → ObserverHolds (ObservedSince before (told ++ one_observed (observed_doubt o))) (observer_doubted o) y
observer_holds_in_doubt before told o x y s (here clean h) =
    doubt_at before told May o.sent o x y s refl h
observer_holds_in_doubt before told o x y s (spoiled error rest h) =
    spoil_at before told May o.sent o x y s refl rest h

-- a doubting observer has no unconfirmed write
pub observer_doubted_unsent : (o : Observer) → (observer_doubted o).sent ≡ None
observer_doubted_unsent o = doubted_sends_none o
