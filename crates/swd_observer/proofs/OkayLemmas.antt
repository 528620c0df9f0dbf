-- OK to a request that isn't exempt: the transfer in flight took effect, and what the request itself leaves.
use Rattle.std.proofs.Common.{◌≡◌, ◌+◌, ◌%◌, ◌<◌, ◌^◌, ℕ, Bool, true, false, List, ◌++◌, refl, sym, ap, subst, arith}
use Rattle.std.proofs.Common.{◌∙◌, append-nil}
use Rattle.std.specs.Prelude.{Option, Some, None, IfSome, ◌&&◌, ◌==◌, nat_lt, if◌then◌else◌, not as no}
use Rattle.std.specs.Option.{option_map, option_and_then}
use Rattle.swd_bits.specs.Phases.{data_phase_word, data_phase_number}
use Rattle.swd_bits.proofs.PhaseLemmas.{data_phase_of_found_word, flipped_data_phase_no_word}
use Rattle.swd_port.specs.declared.access.Transfer.{Transfer}
use Rattle.swd_port.specs.declared.select.Select.{Select}
use Rattle.swd_port.specs.declared.register.Register.{Register}
use Rattle.swd_port.specs.declared.register.Register.TheVariants.{SelectWrite, CswWrite, TarWrite, DrwRead, DrwWrite}
use Rattle.swd_port.specs.declared.state.Drw.{Drw}
use Rattle.swd_port.specs.declared.state.Drw.TheVariants.{Reads as DrwReads, Writes as DrwWrites}
use Rattle.swd_port.specs.declared.state.PowerUp.TheVariants.{Seen}
use Rattle.swd_port.specs.Choices.{Choice}
use Rattle.swd_port.specs.Choices.{port_flipped}
use Rattle.swd_port.specs.declared.csw.Csw.{Csw}
use Rattle.swd_port.specs.Registers.{select_of, csw_of}
use Rattle.swd_port.specs.Port.{Target}
use Rattle.swd_port.specs.Asking.{port_after_okay, pending_drw_once_read}
use Rattle.swd_port.specs.Moving.{Arrives, port_arrival_of, port_after_bits, port_select_after_write}
use Rattle.swd_port.specs.Moving.{port_csw_increments_after, tar_after_write, pending_after_write}
use Rattle.swd_observer.specs.declared.told.ObservedAccess.{ObservedAccess}
use Rattle.swd_observer.specs.declared.told.How.TheVariants.{Took}
use Rattle.swd_observer.specs.declared.observer.Observer.{Observer}
use Rattle.swd_observer.specs.declared.observer.StartedTransfer.{StartedTransfer}
use Rattle.swd_observer.specs.declared.observer.Written.{Written}
use Rattle.swd_observer.specs.declared.observer.Written.TheVariants.{Select as ToSelect, Csw as ToCsw, Tar as ToTar}
use Rattle.swd_observer.specs.declared.observer.Written.TheVariants.{Drw as ToDrw}
use Rattle.swd_observer.specs.declared.observer.RequestEffect.TheVariants.{Reads, Writes}
use Rattle.swd_observer.specs.Observing.{observer_arrival, observer_arrival_of, observed_tar_advance, observed_tar_done}
use Rattle.swd_observer.specs.Observing.{observer_confirmed, observed_flight_access, observed_begun, word_observed}
use Rattle.swd_observer.specs.Observing.{observed_word_of_begun, observed_increments_in, observed_whole}
use Rattle.swd_observer.specs.Observing.{observer_accepted}
use Rattle.swd_observer.specs.Explained.{ObservedSince, one_observed}
use Rattle.swd_observer.specs.Knows.{owed, gone, failed, given_up, ObservedResting, ObservedFlight, ObserverHolds}
use Rattle.swd_observer.specs.Knows.{ObserverKnows, here, spoiled}
use Rattle.swd_observer.proofs.ExplainLemmas.{observed_since_took}
use Rattle.swd_observer.proofs.KnownLemmas.{observed_no_pending_keeps, observer_unsent}
use Rattle.swd_observer.proofs.AskLemmas.{is_observed_harmless, observed_register_for}

-- nothing is pending, and nothing is waited for
pub record ObservedSettled (E : List Transfer → Type 0) (o : Observer) (x : Target) : Type 0 where
  pub select : IfSome o.select (λ s. x.select ≡ s)
  pub increments : IfSome o.increments (λ b. x.increments ≡ b)
  pub range : IfSome o.tar (λ a. a < 2 ^ 32)
  pub aimed : IfSome o.tar (λ a. x.tar ≡ Some a)
  pub now : E x.memory.log
  pub none : x.pending ≡ None

-- what the request that told gave is the word of the read buffer
abbrev pub IsObservedRight : Option ℕ → Target → Type 0
IsObservedRight got x = IfSome got (λ w. (v : ℕ) → x.buffer ≡ Some v → v ≡ w)

matched_word : (r : Bool) (got word : Option ℕ) (t : Transfer) (x : Target)
    → (r ≡ false → IfSome word (λ w. t.word ≡ w)) → (r ≡ true → x.buffer ≡ Some t.word) → IsObservedRight got x
    → IfSome (if r then got else word) (λ w. t.word ≡ w)
matched_word true None word t x f g right = tt
matched_word true (Some w) word t x f g right = right t.word (g refl)
matched_word false got word t x f g right = f refl

-- TAR is where it is known to be, whatever is pending
pub observed_aimed_only : (tar : Option ℕ) (x : Target) → IfSome tar (λ a. (x.tar ≡ Some a) × (x.pending ≡ None))
    → IfSome tar (λ a. x.tar ≡ Some a)
observed_aimed_only None x h = tt
observed_aimed_only (Some a) x h = h.0

aimed_both : (tar : Option ℕ) (x : Target) → x.pending ≡ None → IfSome tar (λ a. x.tar ≡ Some a)
    → IfSome tar (λ a. (x.tar ≡ Some a) × (x.pending ≡ None))
aimed_both None x none h = tt
aimed_both (Some a) x none h = (h, none)

-- with nothing pending, the reports that explain the log still do whatever completes
pub observed_rests_by : (E : List Transfer → Type 0) (tar : Option ℕ) (x : Target) → IfSome tar (λ a. x.tar ≡ Some a)
    → E x.memory.log → x.pending ≡ None → ObservedResting E tar x
observed_rests_by E tar x aimed now none = record {
  now = now;
  later = λ c k. observed_no_pending_keeps (λ y. E y.memory.log) c x none now;
  aimed = aimed_both tar x none aimed;
}

-- in a settled state the reports explain the log, and still do whatever completes
pub observed_settled_rests : (E : List Transfer → Type 0) (o : Observer) (x : Target) → ObservedSettled E o x
    → ObservedResting E o.tar x
observed_settled_rests E o x h = observed_rests_by E o.tar x h.aimed h.now h.none

-- the transfer in flight, once nothing is pending and no flag is set
settle : (before : List Transfer) (told : List ObservedAccess) (got : Option ℕ) (b : Option StartedTransfer)
    (increments : Option Bool) (tar : Option ℕ) (x : Target) → x.sticky_error ≡ false → x.write_error ≡ false
    → x.pending ≡ None → IsObservedRight got x → ObservedFlight (ObservedSince before told) b increments tar x
    → ObservedSince before (told ++ one_observed (observed_begun Took got tar b)) x.memory.log
    × IfSome (observed_tar_done b increments tar) (λ a. x.tar ≡ Some a)
settle before told got None increments tar x quiet whole none right h =
    (subst (λ l. ObservedSince before l x.memory.log) (sym (append-nil told)) h.now, observed_aimed_only tar x h.aimed)
settle before told got (Some b) increments tar x quiet whole none right (owed calm drw pending of at e) =
    absurd (let clash : Some drw ≡ None = sym pending ∙ none in cc)
settle before told got (Some b) increments tar x quiet whole none right (gone calm rest t log fits is e buffer next) = (
  subst (λ l. ObservedSince before (told ++ one_observed (observed_begun Took got tar (Some b))) l) (sym is)
      (observed_since_took before told
      (record { place = b.place; read = b.read; addr = tar; word = observed_word_of_begun b got; how = Took }) t log
      refl (record {
        read = fits.read;
        addr = fits.addr;
        word = matched_word b.read got b.word t x fits.word buffer right;
      }) e),
  next,
)
settle before told got (Some b) increments tar x quiet whole none right (failed rest error e) =
    absurd (let clash : true ≡ false = sym error ∙ quiet in cc)
settle before told got (Some b) increments tar x quiet whole none right (given_up rest error at e) =
    absurd (let clash : true ≡ false = sym error ∙ whole in cc)

range_at : (test : Bool) (at : ℕ) → at < 2 ^ 32 → ((at % 4 == 0) && no (at % 1024 == 1020)) ≡ test
    → IfSome (if test then Some (at + 4) else None) (λ a. a < 2 ^ 32)
range_at true at range e =
    let inside : at + 4 < 2 ^ 32 = grind arith in inside
range_at false at range e = tt

range_advance : (increments : Option Bool) (tar : Option ℕ) → IfSome tar (λ a. a < 2 ^ 32)
    → IfSome (observed_tar_advance increments tar) (λ a. a < 2 ^ 32)
range_advance None tar range = tt
range_advance (Some true) None range = tt
range_advance (Some true) (Some a) range = range_at ((a % 4 == 0) && no (a % 1024 == 1020)) a range refl
range_advance (Some false) tar range = range

-- TAR, as known after the transfer in flight took effect, is below 2^32
pub observed_tar_range_done : (b : Option StartedTransfer) (increments : Option Bool) (tar : Option ℕ)
    → IfSome tar (λ a. a < 2 ^ 32) → IfSome (observed_tar_done b increments tar) (λ a. a < 2 ^ 32)
observed_tar_range_done None increments tar range = range
observed_tar_range_done (Some b) increments tar range = range_advance increments tar range

-- with no flag set and nothing pending, a state is settled once the transfer in flight is reported as `Took`, where
-- the word that was got, if any, is the read buffer's
pub observer_confirm_settles : (before : List Transfer) (told : List ObservedAccess) (got : Option ℕ) (o : Observer)
    (x : Target) → x.sticky_error ≡ false → x.write_error ≡ false → x.pending ≡ None → IsObservedRight got x
    → ObserverKnows (ObservedSince before told) o x
    → ObservedSettled (ObservedSince before (told ++ one_observed (observed_flight_access Took got o)))
    (observer_confirmed o) x
observer_confirm_settles before told got o x quiet whole none right (here clean h) =
    let found = settle before told got (observer_arrival o).begun (observer_arrival o).increments
    (observer_arrival o).tar x quiet whole none right h.flight in
    record {
      select = h.select;
      increments = h.increments;
      range = observed_tar_range_done (observer_arrival o).begun (observer_arrival o).increments
          (observer_arrival o).tar h.range;
      aimed = found.1;
      now = found.0;
      none = none;
    }
observer_confirm_settles before told got o x quiet whole none right (spoiled error rest h) =
    absurd (let clash : true ≡ false = sym error ∙ whole in cc)

-- what a step leaves that an observer keeps
pub record ObservedSame (x y : Target) : Type 0 where
  pub select : y.select ≡ x.select
  pub increments : y.increments ≡ x.increments
  pub tar : y.tar ≡ x.tar
  pub pending : y.pending ≡ x.pending
  pub memory : y.memory ≡ x.memory

-- what is known of a value is true of an equal one
pub observed_same_value : (T : Type 0) (known : Option T) (a b : T) → b ≡ a → IfSome known (λ k. a ≡ k)
    → IfSome known (λ k. b ≡ k)
observed_same_value T None a b e h = tt
observed_same_value T (Some k) a b e h = e ∙ h

same_aimed : (tar : Option ℕ) (a b : Option ℕ) → b ≡ a → IfSome tar (λ k. a ≡ Some k) → IfSome tar (λ k. b ≡ Some k)
same_aimed None a b e h = tt
same_aimed (Some k) a b e h = e ∙ h

-- a state is settled where it has the same as a settled one of what an observer keeps
pub observed_same_settled : (E : List Transfer → Type 0) (o : Observer) (x y : Target) → ObservedSame x y
    → ObservedSettled E o x → ObservedSettled E o y
observed_same_settled E o x y s h = record {
  select = observed_same_value Select o.select x.select y.select s.select h.select;
  increments = observed_same_value Bool o.increments x.increments y.increments s.increments h.increments;
  range = h.range;
  aimed = same_aimed o.tar x.tar y.tar s.tar h.aimed;
  now = subst (λ m. E m.log) (sym s.memory) h.now;
  none = s.pending ∙ h.none;
}

-- a settled observer knows
pub observer_settled_holds : (E : List Transfer → Type 0) (o : Observer) (x : Target) → o.begun ≡ None
    → ObservedSettled E o x → ObserverHolds E o x
observer_settled_holds E o x rest h = record {
  select = h.select;
  increments = h.increments;
  range = h.range;
  flight = subst (λ b. ObservedFlight E b o.increments o.tar x) (sym rest) (observed_settled_rests E o x h);
}

-- in a settled state what an observer knows is true, if it has no unconfirmed write and nothing in flight
pub observer_settled_knows : (E : List Transfer → Type 0) (o : Observer) (x : Target) → o.sent ≡ None → o.begun ≡ None
    → ObservedSettled E o x → ObserverKnows E o x
observer_settled_knows E o x sent rest h =
    here (observer_unsent o.sent _ sent) (subst (λ s. ObserverHolds E (observer_arrival_of s o) x) (sym sent)
    (observer_settled_holds E o x rest h))

-- a request that an observer keeps nothing of
pending_same : (r : Register) (p : Option Drw) → is_observed_harmless r ≡ true → pending_drw_once_read r p ≡ p
pending_same DrwRead p e = absurd (cc)
pending_same r p e = refl

-- OK to a request for a register of which an observer keeps nothing changes nothing of what it keeps
pub observed_same_at_okay : (chosen : Choice) (r : Register) (x : Target) → is_observed_harmless r ≡ true
    → ObservedSame x (port_after_okay chosen r x)
observed_same_at_okay chosen r x e = record {
  select = refl;
  increments = refl;
  tar = refl;
  pending = pending_same r x.pending e;
  memory = refl;
}

write_pends_not : (w : Written) (p : Option Drw) → pending_drw_once_read (observed_register_for w) p ≡ p
write_pends_not ToSelect p = refl
write_pends_not ToCsw p = refl
write_pends_not ToTar p = refl
write_pends_not ToDrw p = refl

-- nor does OK to a write that an observer tracks: its effect comes with its data
pub observed_same_at_write : (chosen : Choice) (w : Written) (x : Target)
    → ObservedSame x (port_after_okay chosen (observed_register_for w) x)
observed_same_at_write chosen w x = record {
  select = refl;
  increments = refl;
  tar = refl;
  pending = write_pends_not w x.pending;
  memory = refl;
}

-- a DRW read is owed
pub observer_knows_drw_read : (E : List Transfer → Type 0) (o : Observer) (x : Target) (chosen : Choice)
    (word : Option ℕ) (place : ℕ)
    → o.sent ≡ None → x.sticky_error ≡ false → x.write_error ≡ false → x.debug_power ≡ true → ObservedSettled E o x
    → ObserverKnows E (observer_accepted Reads word place o) (port_after_okay chosen DrwRead x)
observer_knows_drw_read E o x chosen word place sent quiet whole power h =
    here (observer_unsent o.sent _ sent) (subst
    (λ s. ObserverHolds E (observer_arrival_of s (observer_accepted Reads word place o))
    (port_after_okay chosen DrwRead x)) (sym sent) (record {
      select = h.select;
      increments = h.increments;
      range = h.range;
      flight = owed (record { sticky_error = quiet; write_error = whole; debug_power = power; debug_up = refl })
          DrwReads
          refl refl h.aimed h.now;
    }))

-- a write of which an observer keeps nothing
select_same : (r : Register) (word : ℕ) (s : Select) → is_observed_harmless r ≡ true
    → port_select_after_write (Arrives r word) s ≡ s
select_same SelectWrite word s e = absurd (cc)
select_same r word s e = refl

increments_same : (r : Register) (word : ℕ) (b : Bool) → is_observed_harmless r ≡ true
    → port_csw_increments_after (Arrives r word) b ≡ b
increments_same CswWrite word b e = absurd (cc)
increments_same r word b e = refl

tar_same : (r : Register) (word : ℕ) (tar : Option ℕ) → is_observed_harmless r ≡ true
    → tar_after_write (Arrives r word) tar ≡ tar
tar_same TarWrite word tar e = absurd (cc)
tar_same r word tar e = refl

pends_same : (r : Register) (word : ℕ) (p : Option Drw) → is_observed_harmless r ≡ true
    → pending_after_write (Arrives r word) p ≡ p
pends_same DrwWrite word p e = absurd (cc)
pends_same r word p e = refl

-- the data of a write of which an observer keeps nothing, arrived or corrupted, changes nothing of what it keeps
pub observed_same_at_data : (r : Register) (found : Option ℕ) (refuses : Bool) (x : Target) → is_observed_harmless r
    ≡ true → ObservedSame x (port_after_bits refuses (port_arrival_of r found) x)
observed_same_at_data r None refuses x e = record {
  select = refl;
  increments = refl;
  tar = refl;
  pending = refl;
  memory = refl;
}
observed_same_at_data r (Some word) refuses x e = record {
  select = select_same r word x.select e;
  increments = increments_same r word x.increments e;
  tar = tar_same r word x.tar e;
  pending = pends_same r word x.pending e;
  memory = refl;
}

-- the word that arrives is the one that was sent
pub observed_sent_arrives : (flip : Option ℕ) (sent word : ℕ) (ok : Bool) (found : ℕ) → sent < 2 ^ 33 → word < 2 ^ 32
    → data_phase_word sent ≡ word_observed ok word → data_phase_word (port_flipped flip sent) ≡ Some found
    → IfSome (word_observed ok word) (λ w. found ≡ w)
observed_sent_arrives flip sent word false found range small is e = tt
observed_sent_arrives None sent word true found range small is e =
    let same : Some found ≡ Some word = sym e ∙ is in cc
observed_sent_arrives (Some place) sent word true found range small is e =
    let phase : sent ≡ data_phase_number word = data_phase_of_found_word sent word range is in
    let none : data_phase_word (port_flipped (Some place) sent) ≡ None =
    ap (λ n. data_phase_word (port_flipped (Some place) n)) phase ∙ flipped_data_phase_no_word word place small in
    absurd (let clash : Some found ≡ None = sym e ∙ none in cc)

-- a write that arrived
mapped : (T : Type 0) (f : ℕ → T) (known : Option ℕ) (word : ℕ) → IfSome known (λ w. word ≡ w)
    → IfSome (option_map f known) (λ t. f word ≡ t)
mapped T f None word h = tt
mapped T f (Some w) word h = ap f h

step_by : (c : Csw) (test : Bool) → ((c.size == 2) && nat_lt c.addr_inc 2) ≡ test
    → IfSome (if test then Some (c.addr_inc == 1) else None) (λ b. (c.addr_inc == 1) ≡ b)
step_by c true e = refl
step_by c false e = tt

stepped : (known : Option ℕ) (word : ℕ) → IfSome known (λ w. word ≡ w)
    → IfSome (option_and_then observed_increments_in known) (λ b. ((csw_of word).addr_inc == 1) ≡ b)
stepped None word h = tt
stepped (Some w) word h = subst (λ z. IfSome (observed_increments_in w) (λ b. ((csw_of z).addr_inc == 1) ≡ b)) (sym h)
    (step_by (csw_of w) ((csw_of w).size == 2 && nat_lt (csw_of w).addr_inc 2) refl)

-- what is so of a word is so where a transfer is known to be of a word
pub observed_whole_word_has : (increments : Option Bool) (known : Option ℕ) (P : ℕ → Type 0) → IfSome known P
    → IfSome (observed_whole increments known) P
observed_whole_word_has None known P h = tt
observed_whole_word_has (Some b) known P h = h

tar_arrives : (known : Option ℕ) (word : ℕ) → IfSome known (λ w. word ≡ w)
    → IfSome known (λ a. Some word ≡ Some a)
tar_arrives None word h = tt
tar_arrives (Some w) word h = ap (λ n. Some n) h

-- in a settled state without a flag, the word of a write that an observer tracks arrives: what it knows is true, with
-- the write unconfirmed
pub observer_knows_arrival : (E : List Transfer → Type 0) (o : Observer) (x : Target) (w : Written) (known : Option ℕ)
    (word place : ℕ) (refuses : Bool)
    → o.begun ≡ None → x.sticky_error ≡ false → x.write_error ≡ false → (w ≡ ToDrw → x.debug_power ≡ true)
    → (w ≡ ToDrw → x.debug_up ≡ Seen) → IfSome known (λ v. v < 2 ^ 32)
    → IfSome known (λ v. word ≡ v) → ObservedSettled E o x
    → ObserverKnows E (observer_accepted (Writes w) known place o)
    (port_after_bits refuses (Arrives (observed_register_for w) word) x)
observer_knows_arrival E o x ToSelect known word place refuses rest quiet intact power up range is h =
    here (intact, rest, λ e. h.none)
    (record {
      select = mapped Select select_of known word is;
      increments = h.increments;
      range = h.range;
      flight = subst (λ b. ObservedFlight E b o.increments o.tar (port_after_bits refuses (Arrives SelectWrite word) x))
          (sym rest) (observed_rests_by E o.tar (port_after_bits refuses (Arrives SelectWrite word) x) h.aimed h.now
          h.none);
    })
observer_knows_arrival E o x ToCsw known word place refuses rest quiet intact power up range is h =
    here (intact, rest, λ e. h.none)
    (record {
      select = h.select;
      increments = stepped known word is;
      range = h.range;
      flight = subst (λ b. ObservedFlight E b (option_and_then observed_increments_in known) o.tar
          (port_after_bits refuses (Arrives CswWrite word) x)) (sym rest)
          (observed_rests_by E o.tar (port_after_bits refuses (Arrives CswWrite word) x) h.aimed h.now h.none);
    })
observer_knows_arrival E o x ToTar known word place refuses rest quiet intact power up range is h =
    here (intact, rest, λ e. h.none)
    (record {
      select = h.select;
      increments = h.increments;
      range = range;
      flight = subst (λ b. ObservedFlight E b o.increments known (port_after_bits refuses (Arrives TarWrite word) x))
          (sym rest)
          (observed_rests_by E known (port_after_bits refuses (Arrives TarWrite word) x)
          (tar_arrives known word is) h.now h.none);
    })
observer_knows_arrival E o x ToDrw known word place refuses rest quiet intact power up range is h =
    here (intact, rest, λ e. absurd (cc))
    (record {
      select = h.select;
      increments = h.increments;
      range = h.range;
      flight = owed
          (record { sticky_error = quiet; write_error = intact; debug_power = power refl; debug_up = up refl })
          (DrwWrites word) refl (refl, observed_whole_word_has o.increments known (λ v. word ≡ v) is) h.aimed h.now;
    })
