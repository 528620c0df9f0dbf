-- CTRL/STAT was read: its flags tell what came of the write and of the transfer.
use Rattle.std.proofs.Common.{◌≡◌, ◌<◌, ◌^◌, ℕ, Bool, true, false, List, ◌++◌, refl, sym, ap, subst, ◌∙◌}
use Rattle.std.proofs.Common.{append-nil, inl}
use Rattle.std.specs.Prelude.{Option, Some, None, IfSome, if◌then◌else◌, ◌==◌, ◌&&◌}
use Rattle.swd_bits.specs.declared.request.Request.{Request}
use Rattle.swd_bits.specs.declared.request.Reg4.{Reg4}
use Rattle.swd_bits.specs.declared.request.Reg4.TheVariants.{R0, R4, R8, RC}
use Rattle.swd_bits.specs.Phases.{data_phase_word, data_phase_number}
use Rattle.swd_port.specs.declared.access.Transfer.{Transfer}
use Rattle.swd_port.specs.declared.select.Select.{Select}
use Rattle.swd_port.specs.declared.mark.Mark.{Mark}
use Rattle.swd_port.specs.declared.register.Register.TheVariants.{CtrlStatRead, DpOtherRead}
use Rattle.swd_port.specs.declared.state.AfterAck.TheVariants.{Drives}
use Rattle.swd_port.specs.Choices.{port_flipped}
use Rattle.swd_port.specs.Registers.{register_bit}
use Rattle.swd_port.specs.Port.{Port, Target, port_register, port_dp_register, port_register_where}
use Rattle.swd_port.specs.Port.{port_selects_mem_ap}
use Rattle.swd_port.specs.Choices.{Choice}
use Rattle.swd_port.specs.Completion.{PortCompletes}
use Rattle.swd_port.specs.Asking.{PortAsks, PortAsksNow, port_after_okay, port_value_in, ctrl_stat_word_in}
use Rattle.swd_port.specs.Moving.{PortTakes}
use Rattle.swd_port.specs.Moves.{PortPhaseGot}
use Rattle.swd_port.specs.Laws.WordsRead.{CtrlStatShows}
use Rattle.swd_port.proofs.CompletionLaws.{port_kept}
use Rattle.swd_port.proofs.MovingLaws.{port_data_taken}
use Rattle.swd_port.proofs.StatusLaws.{ctrl_stat_word_reads}
use Rattle.swd_observer.specs.declared.told.ObservedAccess.{ObservedAccess}
use Rattle.swd_observer.specs.declared.told.How.TheVariants.{Not}
use Rattle.swd_observer.specs.declared.observer.Observer.{Observer}
use Rattle.swd_observer.specs.declared.observer.StartedTransfer.{StartedTransfer}
use Rattle.swd_observer.specs.declared.observer.SentWrite.{SentWrite}
use Rattle.swd_observer.specs.Observing.{Status, Confirms, observed_class_dp, observed_class, observer_arrival}
use Rattle.swd_observer.specs.Observing.{observer_arrival_of, observed_begun, observed_tar_lost, observer_flagged}
use Rattle.swd_observer.specs.Observing.{observed_flagged, observed_word_of_begun, word_observed, is_status_observed}
use Rattle.swd_observer.specs.Observing.{is_observed_bank_0, is_other_bank_observed}
use Rattle.swd_observer.specs.Explained.{ObservedSince, one_observed}
use Rattle.swd_observer.specs.Knows.{ObservedCalm, ObservedFlying, owed, gone, failed, given_up, ObservedResting}
use Rattle.swd_observer.specs.Knows.{ObservedFlight, ObserverHolds, ObserverKnows, here, spoiled, IsObservedSent}
use Rattle.swd_observer.proofs.ExplainLemmas.{observed_since_not}
use Rattle.swd_observer.proofs.KnownLemmas.{observer_knows_stays, observer_unsent}
use Rattle.swd_observer.proofs.OkayLemmas.{observed_rests_by}
use Rattle.swd_observer.proofs.GivenUpLemmas.{observer_knows_before}
use Rattle.swd_observer.specs.Transacts.{ObservedMoves}
use Rattle.swd_observer.specs.Laws.{ObserverAtStatus, observed_list_flushed}
use Rattle.swd_observer.proofs.NotedLemmas.{observer_older_noted}
use Rattle.swd_observer.proofs.OlderLemmas.{observer_all_flushed}
use Rattle.swd_observer.proofs.AskLemmas.{ObservedOkayed, observed_ask_okayed}
use Rattle.swd_observer.proofs.StepLemmas.{observer_arrival_unsent, observed_read_phase_keeps, observed_line_at_read}
use Rattle.swd_observer.proofs.StepLemmas.{observed_read_word, observed_left_set, observed_right_set}
use Rattle.swd_observer.proofs.StepLemmas.{observed_select_known}

-- what didn't take place
abbrev undone_told : StartedTransfer → Option ℕ → ObservedAccess
undone_told b tar = record {
  place = b.place;
  read = b.read;
  addr = tar;
  word = observed_word_of_begun b None;
  how = Not;
}

not_rest : (before : List Transfer) (told : List ObservedAccess) (b : Option StartedTransfer) (at tar : Option ℕ)
    (x : Target) → ObservedResting (ObservedSince before told) tar x
    → ObservedResting (ObservedSince before (told ++ one_observed (observed_begun Not None at b))) tar x
not_rest before told None at tar x h =
    subst (λ l. ObservedResting (ObservedSince before l) tar x) (sym (append-nil told)) h
not_rest before told (Some b) at tar x h = record {
  now = observed_since_not before told (undone_told b at) x.memory.log refl h.now;
  later = λ c k. observed_since_not before told (undone_told b at) _ refl (h.later c k);
  aimed = h.aimed;
}

no_tar : (E : List Transfer → Type 0) (b : Option StartedTransfer) (tar : Option ℕ) (x : Target)
    → ObservedResting E tar x → ObservedResting E (observed_tar_lost b tar) x
no_tar E None tar x h = h
no_tar E (Some b) tar x h = record { now = h.now; later = h.later; aimed = tt }

range_lost : (b : Option StartedTransfer) (tar : Option ℕ) → IfSome tar (λ a. a < 2 ^ 32)
    → IfSome (observed_tar_lost b tar) (λ a. a < 2 ^ 32)
range_lost None tar h = h
range_lost (Some b) tar h = tt

-- with a flag set, a transfer that was begun was a bus error, or it is a write that was given up
flag_rest : (before : List Transfer) (told : List ObservedAccess) (b : Option StartedTransfer)
    (increments : Option Bool) (tar : Option ℕ) (x : Target) → (ObservedCalm x → ⊥)
    → ObservedFlight (ObservedSince before told) b increments tar x
    → ObservedResting (ObservedSince before (told ++ one_observed (observed_begun Not None tar b)))
    (observed_tar_lost b tar) x
flag_rest before told None increments tar x off h = not_rest before told None tar tar x h
flag_rest before told (Some b) increments tar x off (owed calm drw pending of at e) = absurd (off calm)
flag_rest before told (Some b) increments tar x off (gone calm none t log fits is e buffer next) = absurd (off calm)
flag_rest before told (Some b) increments tar x off (failed none error e) =
    observed_rests_by _ None x tt (observed_since_not before told (undone_told b tar) x.memory.log refl e) none
flag_rest before told (Some b) increments tar x off (given_up none error at e) =
    observed_rests_by _ None x tt (observed_since_not before told (undone_told b tar) x.memory.log refl e) none

-- where STICKYERR is clear it can only be a write that was given up, and TAR is where it was
clear_rest : (before : List Transfer) (told : List ObservedAccess) (b : Option StartedTransfer)
    (increments : Option Bool) (tar : Option ℕ) (x : Target) → (ObservedCalm x → ⊥) → x.sticky_error ≡ false
    → ObservedFlight (ObservedSince before told) b increments tar x
    → ObservedResting (ObservedSince before (told ++ one_observed (observed_begun Not None tar b))) tar x
clear_rest before told None increments tar x off clear h = not_rest before told None tar tar x h
clear_rest before told (Some b) increments tar x off clear (owed calm drw pending of at e) = absurd (off calm)
clear_rest before told (Some b) increments tar x off clear (gone calm none t log fits is e buffer next) = absurd
    (off calm)
clear_rest before told (Some b) increments tar x off clear (failed none error e) =
    absurd (let clash : true ≡ false = sym error ∙ clear in cc)
clear_rest before told (Some b) increments tar x off clear (given_up none error at e) =
    observed_rests_by _ tar x at (observed_since_not before told (undone_told b tar) x.memory.log refl e) none

calm_not_sticky : (x : Target) → x.sticky_error ≡ true → ObservedCalm x → ⊥
calm_not_sticky x e calm = let clash : true ≡ false = sym e ∙ calm.sticky_error in cc

calm_not_damaged : (x : Target) → x.write_error ≡ true → ObservedCalm x → ⊥
calm_not_damaged x e calm = let clash : true ≡ false = sym e ∙ calm.write_error in cc

-- the observer after a flag, once the write is dropped
abbrev Dropped : List Transfer → List ObservedAccess → Bool → Observer → Observer → Target → Type 0
Dropped before told sticky a o x = ObserverHolds
    (ObservedSince before (told ++ one_observed (observed_begun Not None a.tar a.begun)))
    (record (record o { sent = None }) {
      tar = if sticky then observed_tar_lost a.begun o.tar else o.tar;
      begun = None;
    }) x

drop_here : (before : List Transfer) (told : List ObservedAccess) (sticky : Bool) (sent : Option SentWrite)
    (o : Observer) (x : Target)
    → x.sticky_error ≡ sticky → x.write_error ≡ true → IfSome sent (IsObservedSent o.begun x)
    → ObserverHolds (ObservedSince before told) (observer_arrival_of sent o) x
    → Dropped before told sticky (observer_arrival_of sent o) o x
drop_here before told true None o x flag damaged clean h = record {
  select = h.select;
  increments = h.increments;
  range = range_lost o.begun o.tar h.range;
  flight = flag_rest before told o.begun o.increments o.tar x (calm_not_sticky x flag) h.flight;
}
drop_here before told false None o x flag damaged clean h = record {
  select = h.select;
  increments = h.increments;
  range = h.range;
  flight = clear_rest before told o.begun o.increments o.tar x (calm_not_damaged x damaged) flag h.flight;
}
drop_here before told sticky (Some s) o x flag damaged clean h =
    absurd (let clash : true ≡ false = sym damaged ∙ clean.0 in cc)

drop_spoiled : (before : List Transfer) (told : List ObservedAccess) (sticky : Bool) (a o : Observer) (x : Target)
    → o.begun ≡ None → ObserverHolds (ObservedSince before told) (record o { sent = None }) x
    → Dropped before told sticky a o x
drop_spoiled before told true a o x rest h = record {
  select = h.select;
  increments = h.increments;
  range = range_lost a.begun o.tar h.range;
  flight = no_tar _ a.begun o.tar x (not_rest before told a.begun a.tar o.tar x
      (subst (λ b. ObservedFlight (ObservedSince before told) b o.increments o.tar x) rest h.flight));
}
drop_spoiled before told false a o x rest h = record {
  select = h.select;
  increments = h.increments;
  range = h.range;
  flight = not_rest before told a.begun a.tar o.tar x
      (subst (λ b. ObservedFlight (ObservedSince before told) b o.increments o.tar x) rest h.flight);
}

flags_tell : (before : List Transfer) (told : List ObservedAccess) (sticky damaged : Bool) (o : Observer) (x : Target)
    → x.sticky_error ≡ sticky → x.write_error ≡ damaged → ObserverKnows (ObservedSince before told) o x
    → ObserverKnows (ObservedSince before (told ++ one_observed (observed_flagged sticky damaged o)))
    (observer_flagged sticky damaged o) x
flags_tell before told false false o x flag damaged (here clean h) =
    let none : (observer_arrival o).sent ≡ None = observer_arrival_unsent o.sent o refl in
    here (observer_unsent (observer_arrival o).sent _ none)
    (subst (λ l. ObserverHolds (ObservedSince before l) (observer_arrival (observer_arrival o)) x)
    (sym (append-nil told)) (subst (λ s. ObserverHolds (ObservedSince before told)
    (observer_arrival_of s (observer_arrival o)) x) (sym none) h))
flags_tell before told false false o x flag damaged (spoiled error rest h) =
    absurd (let clash : true ≡ false = sym error ∙ damaged in cc)
flags_tell before told true false o x flag damaged (here clean h) =
    let none : (observer_arrival o).sent ≡ None = observer_arrival_unsent o.sent o refl in
    here (observer_unsent (observer_arrival o).sent _ none) (subst (λ s. ObserverHolds
    (ObservedSince before (told ++ one_observed
    (observed_begun Not None (observer_arrival o).tar (observer_arrival o).begun)))
    (observer_arrival_of s (record (observer_arrival o)
    { tar = observed_tar_lost (observer_arrival o).begun (observer_arrival o).tar; begun = None })) x)
    (sym none)
    (record {
      select = h.select;
      increments = h.increments;
      range = range_lost (observer_arrival o).begun (observer_arrival o).tar h.range;
      flight = flag_rest before told (observer_arrival o).begun (observer_arrival o).increments (observer_arrival o).tar
          x (calm_not_sticky x flag) h.flight;
    }))
flags_tell before told true false o x flag damaged (spoiled error rest h) =
    absurd (let clash : true ≡ false = sym error ∙ damaged in cc)
flags_tell before told true true o x flag damaged (here clean h) =
    here tt (drop_here before told true o.sent o x flag damaged clean h)
flags_tell before told true true o x flag damaged (spoiled error rest h) =
    here tt (drop_spoiled before told true (observer_arrival o) o x rest h)
flags_tell before told false true o x flag damaged (here clean h) =
    here tt (drop_here before told false o.sent o x flag damaged clean h)
flags_tell before told false true o x flag damaged (spoiled error rest h) =
    here tt (drop_spoiled before told false (observer_arrival o) o x rest h)

-- CTRL/STAT leaves all that an observer keeps: power that was seen to be there stays
calm_read : (chosen : Choice) (x : Target) → ObservedCalm x → ObservedCalm (port_after_okay chosen CtrlStatRead x)
calm_read chosen x calm = record {
  sticky_error = calm.sticky_error;
  write_error = calm.write_error;
  debug_power = calm.debug_power;
  debug_up = rw calm.debug_up refl;
}

flies_read : (E : List Transfer → Type 0) (b : StartedTransfer) (increments : Option Bool) (tar : Option ℕ)
    (chosen : Choice) (x : Target)
    → ObservedFlying E b increments tar x → ObservedFlying E b increments tar (port_after_okay chosen CtrlStatRead x)
flies_read E b increments tar chosen x (owed calm drw pending of at e) = owed (calm_read chosen x calm) drw pending of
    at e
flies_read E b increments tar chosen x (gone calm none t log fits is e buffer next) =
    gone (calm_read chosen x calm) none t log fits is e buffer next
flies_read E b increments tar chosen x (failed none error e) = failed none error e
flies_read E b increments tar chosen x (given_up none error at e) = given_up none error at e

flight_read : (E : List Transfer → Type 0) (b : Option StartedTransfer) (increments : Option Bool) (tar : Option ℕ)
    (chosen : Choice) (x : Target) → ObservedFlight E b increments tar x
    → ObservedFlight E b increments tar (port_after_okay chosen CtrlStatRead x)
flight_read E None increments tar chosen x h = record { now = h.now; later = h.later; aimed = h.aimed }
flight_read E (Some b) increments tar chosen x h = flies_read E b increments tar chosen x h

holds_read : (E : List Transfer → Type 0) (o : Observer) (chosen : Choice) (x : Target) → ObserverHolds E o x
    → ObserverHolds E o (port_after_okay chosen CtrlStatRead x)
holds_read E o chosen x h = record {
  select = h.select;
  increments = h.increments;
  range = h.range;
  flight = flight_read E o.begun o.increments o.tar chosen x h.flight;
}

knows_read : (E : List Transfer → Type 0) (o : Observer) (chosen : Choice) (bank0 : Bool) (x : Target)
    → ObserverKnows E o x → ObserverKnows E o (port_after_okay chosen (if bank0 then CtrlStatRead else DpOtherRead) x)
knows_read E o chosen true x (here clean h) = here clean (holds_read E (observer_arrival o) chosen x h)
knows_read E o chosen true x (spoiled error rest h) = spoiled error rest (holds_read E
    (record o { sent = None }) chosen x h)
knows_read E o chosen false x k = k

-- which request it is
status_dp : (other read : Bool) (addr : Reg4) (b : Bool) → observed_class_dp other read addr ≡ Status
    → (port_dp_register read addr b ≡ (if b then CtrlStatRead else DpOtherRead)) × (read ≡ true)
status_dp true true R4 b e = absurd (cc)
status_dp false true R4 true e = (refl, refl)
status_dp false true R4 false e = (refl, refl)
status_dp other true R0 b e = absurd (cc)
status_dp other false R0 b e = absurd (cc)
status_dp other false R4 b e = absurd (cc)
status_dp other true R8 b e = absurd (cc)
status_dp other false R8 b e = absurd (cc)
status_dp other true RC b e = absurd (cc)
status_dp other false RC b e = absurd (cc)

status_by : (ap other : Bool) (s : Select) (read : Bool) (addr : Reg4)
    → (if ap then Confirms else observed_class_dp other read addr) ≡ Status
    → (port_register_where (port_selects_mem_ap s) (s.dpbanksel == 0) ap read addr
    ≡ (if s.dpbanksel == 0 then CtrlStatRead else DpOtherRead)) × (read ≡ true)
status_by true other s read addr e = absurd (cc)
status_by false other s read addr e = status_dp other read addr (s.dpbanksel == 0) e

status_is : (o : Observer) (s : Select) (q : Request) → observed_class o q ≡ Status
    → (port_register s q ≡ (if s.dpbanksel == 0 then CtrlStatRead else DpOtherRead)) × (q.read ≡ true)
status_is o s q e = status_by q.ap (is_other_bank_observed o) s q.read q.addr e

-- DPBANKSEL is 0 where it is known to be
bank_is : (known : Option Select) (s : Select) → is_observed_bank_0 known ≡ true → IfSome known (λ v. s ≡ v)
    → (s.dpbanksel == 0) ≡ true
bank_is None s e h = absurd (cc)
bank_is (Some v) s e h = ap (λ z. z.dpbanksel == 0) h ∙ e

bank_known : (E : List Transfer → Type 0) (o : Observer) (x : Target) → is_status_observed o ≡ true
    → ObserverKnows E o x → (x.select.dpbanksel == 0) ≡ true
bank_known E o x e k = bank_is o.select x.select (observed_left_set _ _ e)
    (observed_select_known E o x (observed_right_set (is_observed_bank_0 o.select) _ e) k)

-- the flags in the word
flags_in : (chosen : Choice) (x : Target) → CtrlStatShows chosen x
flags_in chosen x = ctrl_stat_word_reads chosen.others x.sticky_error x.read_ok x.write_error x.debug_power _
    x.system_power _

status_value : (chosen : Choice) (bank0 : Bool) (x : Target) → bank0 ≡ true
    → port_value_in chosen (if bank0 then CtrlStatRead else DpOtherRead) x ≡ ctrl_stat_word_in chosen x
status_value chosen true x e = refl
status_value chosen false x e = absurd (cc)

told_word : (ok : Bool) (word value : ℕ) → ok ≡ true → IfSome (word_observed ok word) (λ w. value ≡ w) → value ≡ word
told_word true word value e h = h
told_word false word value e h = absurd (cc)

abbrev StatusTold : List Transfer → List ObservedAccess → Observer → ℕ → Bool → Target → Type 0
StatusTold before told o word known x = ObserverKnows
    (ObservedSince before (told ++ one_observed
    (if known then observed_flagged (register_bit 5 word) (register_bit 7 word) o else None)))
    (if known then observer_flagged (register_bit 5 word) (register_bit 7 word) o else o) x

status_at : (before : List Transfer) (told : List ObservedAccess) (o : Observer) (word : ℕ) (ok : Bool)
    (chosen : Choice) (x : Target) (known : Bool) → (ok && is_status_observed o) ≡ known
    → IfSome (word_observed ok word) (λ w. port_value_in chosen
    (if x.select.dpbanksel == 0 then CtrlStatRead else DpOtherRead)
    x ≡ w)
    → ObserverKnows (ObservedSince before told) o x → StatusTold before told o word known x
status_at before told o word ok chosen x false e is k =
    subst (λ l. ObserverKnows (ObservedSince before l) o x) (sym (append-nil told)) k
status_at before told o word ok chosen x true e is k =
    let value : ctrl_stat_word_in chosen x ≡ word =
    sym (status_value chosen (x.select.dpbanksel == 0) x
    (bank_known (ObservedSince before told) o x (observed_right_set ok (is_status_observed o) e) k))
    ∙ told_word ok word (port_value_in chosen (if x.select.dpbanksel == 0 then CtrlStatRead else DpOtherRead) x)
    (observed_left_set ok (is_status_observed o) e) is in
    flags_tell before told (register_bit 5 word) (register_bit 7 word) o x
    (sym (flags_in chosen x).sticky_bit ∙ ap (register_bit 5) value)
    (sym (flags_in chosen x).write_bit ∙ ap (register_bit 7) value) k

status_asked : (before : List Transfer) (told : List ObservedAccess) (o : Observer) (q : Request) (word : ℕ) (ok : Bool)
    (s a b d t : Port) (mark : Mark) (c : Choice) (bits : ℕ) → observed_class o q ≡ Status → PortCompletes s a
    → PortAsksNow mark c a q 1 b → PortCompletes b d → bits < 2 ^ 33 → data_phase_word bits ≡ word_observed ok word
    → PortTakes d bits t
    → ObserverKnows (ObservedSince before told) o s.target
    → StatusTold before told o word (ok && is_status_observed o) d.target
status_asked before told o q word ok s a b d t mark c bits is first now last range carries takes k =
    let h : ObservedOkayed a q b = observed_ask_okayed mark c a q b now in
    let named = status_is o a.target.select q is in
    let line : d.link.line ≡ Drives (port_flipped h.flip (data_phase_number (port_value_in h.choice
    (port_register a.target.select q) a.target))) =
    ap (λ l. l.line) (port_kept b d last).link ∙ h.line ∙ observed_line_at_read q.read (port_register a.target.select q)
    h.flip _ named.1 in
    let got : PortPhaseGot h.flip (port_value_in h.choice (port_register a.target.select q) a.target) bits =
    port_data_taken h.flip (port_value_in h.choice (port_register a.target.select q) a.target) bits d t line
    (h.value named.1) range takes in
    let known : StatusTold before told o word (ok && is_status_observed o) a.target =
    status_at before told o word ok h.choice a.target (ok && is_status_observed o) refl
    (subst (λ r. IfSome (word_observed ok word) (λ w. port_value_in h.choice r a.target ≡ w)) named.0
    (observed_read_word h.flip (port_value_in h.choice (port_register a.target.select q) a.target) bits word ok
    got carries)) (observer_knows_stays (ObservedSince before told) o s a first k) in
    observer_knows_stays _ _ b d last (subst (StatusTold before told o word (ok && is_status_observed o))
    (sym (h.target ∙ ap (λ r. port_after_okay h.choice r a.target) named.0))
    (knows_read _ _ h.choice (a.target.select.dpbanksel == 0) a.target known))

takes_of : (read : Bool) (a : Port) (bits : ℕ) (t : Port) → read ≡ true → ObservedMoves read a bits t
    → PortTakes a bits t
takes_of true a bits t e m = m
takes_of false a bits t e m = absurd (cc)

status_step : (before : List Transfer) (told : List ObservedAccess) (o : Observer) (q : Request) (word : ℕ) (ok : Bool)
    (s d t : Port) (bits : ℕ) → observed_class o q ≡ Status → PortAsks s q 1 d → bits < 2 ^ 33
    → data_phase_word bits ≡ word_observed ok word
    → PortTakes d bits t → ObserverKnows (ObservedSince before told) o s.target
    → StatusTold before told o word (ok && is_status_observed o) t.target
status_step before told o q word ok s d t bits is (a, e, b, mark, c, first, kept, now, last) range carries takes k =
    observed_read_phase_keeps (StatusTold before told o word (ok && is_status_observed o))
    (λ x y e z. observer_knows_stays _ _ x y e z) d t bits takes
    (status_asked before told o q word ok e e b d t mark c bits is (inl refl) now last range carries takes
    (observer_knows_before _ o q s e (a, mark, first, kept) k))

-- after a CTRL/STAT read what is known is true: its flags show whether the write and the transfer failed, if its
-- parity is right and DPBANKSEL is known to be 0
pub observer_knows_status : ObserverAtStatus
observer_knows_status before told o q word ok place s t is h k =
    let takes : PortTakes h.asked h.bits t =
    takes_of q.read h.asked h.bits t (status_is o s.target.select q is).1 h.moves in
    observer_older_noted _ None (if ok && is_status_observed o then observer_flagged (register_bit 5 word)
    (register_bit 7 word) o else o) t.target
    (status_step before (observed_list_flushed told o) o q word ok s h.asked t h.bits is h.asks h.range h.carries
    takes (observer_all_flushed before told o s.target k))
