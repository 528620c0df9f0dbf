-- OK to a request that isn't exempt, whatever is known of SELECT.
use Rattle.std.proofs.Common.{◌≡◌, ◌<◌, ◌^◌, ℕ, Bool, true, false, List, [], ◌∷◌, ◌++◌, refl, sym, ap, subst, inl, inr}
use Rattle.std.proofs.Common.{◌∙◌, append-nil}
use Rattle.std.specs.Prelude.{Option, Some, None, IfSome, if◌then◌else◌}
use Rattle.swd_bits.specs.declared.request.Request.{Request}
use Rattle.swd_bits.specs.Phases.{data_phase_word, data_phase_number}
use Rattle.swd_port.specs.declared.access.Transfer.{Transfer}
use Rattle.swd_port.specs.declared.register.Register.{Register}
use Rattle.swd_port.specs.declared.register.Register.TheVariants.{DrwRead}
use Rattle.swd_port.specs.declared.state.PowerUp.TheVariants.{Seen}
use Rattle.swd_port.specs.declared.state.AfterAck.TheVariants.{Drives, Awaits}
use Rattle.swd_port.specs.Choices.{port_flipped}
use Rattle.swd_port.specs.Port.{Port, Target, port_register}
use Rattle.swd_port.specs.declared.mark.Mark.{Mark}
use Rattle.swd_port.specs.Choices.{Choice}
use Rattle.swd_port.specs.Completion.{PortCompletes}
use Rattle.swd_port.specs.Asking.{PortAsks, PortAsksNow, port_after_okay, port_value_in}
use Rattle.swd_port.specs.Moving.{PortTakes, PortGives, port_arrival, port_arrival_of, port_after_bits}
use Rattle.swd_port.specs.Moves.{PortPhaseGot}
use Rattle.swd_port.proofs.CompletionLaws.{port_kept, no_pending_same}
use Rattle.swd_port.proofs.MovingLaws.{port_data_taken}
use Rattle.swd_observer.specs.declared.told.ObservedAccess.{ObservedAccess}
use Rattle.swd_observer.specs.declared.told.How.TheVariants.{Took, May}
use Rattle.swd_observer.specs.declared.observer.Observer.{Observer}
use Rattle.swd_observer.specs.declared.observer.Written.{Written}
use Rattle.swd_observer.specs.declared.observer.Written.TheVariants.{Drw as ToDrw}
use Rattle.swd_observer.specs.declared.observer.RequestEffect.{RequestEffect}
use Rattle.swd_observer.specs.declared.observer.RequestEffect.TheVariants.{Other, Elsewhere, Reads, Writes, MayRead}
use Rattle.swd_observer.specs.declared.observer.RequestEffect.TheVariants.{MayWrite}
use Rattle.swd_observer.specs.Observing.{observer_arrival_of, observer_confirmed, observed_flight_access, word_observed}
use Rattle.swd_observer.specs.Observing.{observer_accepted, is_observed_posted_read, observed_class, Confirms}
use Rattle.swd_observer.specs.Observing.{observed_kind, observed_whole, observed_itself}
use Rattle.swd_observer.specs.Explained.{ObservedSince, one_observed}
use Rattle.swd_observer.specs.Knows.{ObserverHolds, ObserverKnows, here}
use Rattle.swd_observer.specs.Transacts.{ObservedMoves}
use Rattle.swd_observer.proofs.ExplainLemmas.{observed_since_may_not}
use Rattle.swd_observer.proofs.KnownLemmas.{observer_knows_stays, observer_unsent}
use Rattle.swd_observer.proofs.AskLemmas.{ObservedOkayed, observed_ask_okayed, observed_not_exempt, ObservedKindFits}
use Rattle.swd_observer.proofs.AskLemmas.{observed_kind_fits, observed_register_for, observed_posted_value}
use Rattle.swd_observer.proofs.AskLemmas.{is_observed_writing, is_observed_reading, observed_reads_only}
use Rattle.swd_observer.proofs.AskLemmas.{observed_writes_only, observed_drw_is_ap}
use Rattle.swd_observer.proofs.GivenUpLemmas.{observer_knows_before}
use Rattle.swd_observer.proofs.OkayLemmas.{ObservedSettled, observer_confirm_settles, ObservedSame}
use Rattle.swd_observer.proofs.OkayLemmas.{observed_same_settled, observer_settled_knows, IsObservedRight}
use Rattle.swd_observer.proofs.OkayLemmas.{observed_whole_word_has, observed_same_at_okay, observed_same_at_write}
use Rattle.swd_observer.proofs.OkayLemmas.{observer_knows_drw_read, observed_same_at_data}
use Rattle.swd_observer.proofs.StepLemmas.{observed_first_clear, observed_second_clear, observer_confirmed_unsent}
use Rattle.swd_observer.proofs.StepLemmas.{observed_buffer_right, observed_write_no_word, observed_read_word}
use Rattle.swd_observer.proofs.StepLemmas.{observer_knows_sent_write, observed_line_at_read, observed_line_at_write}
use Rattle.swd_observer.proofs.StepLemmas.{observed_other_bank}
use Rattle.swd_observer.proofs.StepLemmas.{observed_ap_power, observed_read_phase_keeps, observed_found_word}
use Rattle.swd_observer.proofs.StepLemmas.{observed_power_at_drw, observed_drw_register, observed_quiet_at_write}
use Rattle.swd_observer.proofs.UnsureLemmas.{observed_may_select, observed_select_is_sure, observer_holds_may_read}
use Rattle.swd_observer.proofs.UnsureLemmas.{observer_holds_may_write}

-- what is reported of the request itself
abbrev After : List Transfer → List ObservedAccess → Observer → RequestEffect → Option ℕ → ℕ → Target → Type 0
After before told o k word place x = ObserverKnows
    (ObservedSince before (told ++ one_observed (observed_itself k (observed_whole o.increments word) o.tar place)))
    (observer_accepted k word place o) x

-- what is so of a word is so where a transfer is known to be of a word
pub observed_whole_right : (increments : Option Bool) (got : Option ℕ) (x : Target) → IsObservedRight got x
    → IsObservedRight (observed_whole increments got) x
observed_whole_right increments got x h = observed_whole_word_has increments got
    (λ w. (v : ℕ) → x.buffer ≡ Some v → v ≡ w) h

whole_found : (found : Option ℕ) (increments : Option Bool) (known : Option ℕ)
    → IfSome found (λ f. IfSome known (λ v. f ≡ v)) → IfSome found (λ f. IfSome (observed_whole increments known)
    (λ v. f ≡ v))
whole_found None increments known h = tt
whole_found (Some f) increments known h = observed_whole_word_has increments known (λ v. f ≡ v) h

untold : (before : List Transfer) (told : List ObservedAccess) (o : Observer) (x : Target)
    → ObserverKnows (ObservedSince before told) o x → ObserverKnows (ObservedSince before (told ++ [])) o x
untold before told o x k = subst (λ l. ObserverKnows (ObservedSince before l) o x) (sym (append-nil told)) k

held : (E : List Transfer → Type 0) (o : Observer) (x : Target) → o.sent ≡ None → ObserverHolds E o x
    → ObserverKnows E o x
held E o x sent h = here (observer_unsent o.sent _ sent)
    (subst (λ s. ObserverHolds E (observer_arrival_of s o) x) (sym sent) h)

-- one more that may have been, and wasn't
settled_more : (before : List Transfer) (told : List ObservedAccess) (t : ObservedAccess) (o : Observer) (x : Target)
    → t.how ≡ May
    → ObservedSettled (ObservedSince before told) o x → ObservedSettled (ObservedSince before (told ++ t ∷ [])) o x
settled_more before told t o x how h = record {
  select = h.select;
  increments = h.increments;
  range = h.range;
  aimed = h.aimed;
  now = observed_since_may_not before told t x.memory.log how h.now;
  none = h.none;
}

-- a read that was answered OK
read_leaves : (before : List Transfer) (told : List ObservedAccess) (o : Observer) (x : Target) (chosen : Choice)
    (r : Register) (k : RequestEffect)
    (word : Option ℕ) (place : ℕ) → is_observed_writing k ≡ false → ObservedKindFits k r → o.sent ≡ None
    → o.begun ≡ None → x.sticky_error ≡ false → x.write_error ≡ false → (r ≡ DrwRead → x.debug_power ≡ true)
    → ObservedSettled (ObservedSince before told) o x → After before told o k word place (port_after_okay chosen r x)
read_leaves before told o x chosen r Other word place reads fits sent rest quiet intact power h =
    untold before told o (port_after_okay chosen r x) (observer_settled_knows _ o (port_after_okay chosen r x) sent rest
    (observed_same_settled _ o x (port_after_okay chosen r x) (observed_same_at_okay chosen r x fits) h))
read_leaves before told o x chosen r (Elsewhere e) word place reads fits sent rest quiet intact power h =
    observer_settled_knows _ o (port_after_okay chosen r x) sent rest (settled_more before told
    (record { place = place; read = e; addr = None; word = None; how = May }) o (port_after_okay chosen r x) refl
    (observed_same_settled _ o x (port_after_okay chosen r x) (observed_same_at_okay chosen r x fits) h))
read_leaves before told o x chosen r Reads word place reads fits sent rest quiet intact power h =
    untold before told (observer_accepted Reads word place o) (port_after_okay chosen r x)
    (subst (λ z. ObserverKnows (ObservedSince before told) (observer_accepted Reads word place o)
    (port_after_okay chosen z x)) (sym fits)
    (observer_knows_drw_read _ o x chosen word place sent quiet intact (power fits) h))
read_leaves before told o x chosen r (Writes w) word place reads fits sent rest quiet intact power h = absurd (cc)
read_leaves before told o x chosen r MayRead word place reads fits sent rest quiet intact power h =
    held _ (observer_accepted MayRead word place o) (port_after_okay chosen r x) sent
    (observer_holds_may_read before told o x chosen r word place rest fits h)
read_leaves before told o x chosen r (MayWrite w) word place reads fits sent rest quiet intact power h = absurd (cc)

write_leaves : (before : List Transfer) (told : List ObservedAccess) (o : Observer) (y : Target) (r : Register)
    (k : RequestEffect) (ok : Bool)
    (word place : ℕ) (found : Option ℕ) (refuses : Bool) → observed_may_select k ≡ false → is_observed_reading k ≡ false
    → ObservedKindFits k r → o.sent ≡ None
    → o.begun ≡ None → ((w : Written) → r ≡ observed_register_for w → y.sticky_error ≡ false) → y.write_error ≡ false
    → ((w : Written) → r ≡ observed_register_for w → w ≡ ToDrw
    → (y.debug_power ≡ true) × (y.debug_up ≡ Seen)) → word < 2 ^ 32
    → IfSome found (λ f. IfSome (word_observed ok word) (λ v. f ≡ v)) → ObservedSettled (ObservedSince before told) o y
    → After before told o k (word_observed ok word) place (port_after_bits refuses (port_arrival_of r found) y)
write_leaves before told o y r Other ok word place found refuses other writes fits sent rest quiet intact power small
    is h =
    untold before told o (port_after_bits refuses (port_arrival_of r found) y) (observer_settled_knows _ o
    (port_after_bits refuses (port_arrival_of r found) y) sent rest
    (observed_same_settled _ o y (port_after_bits refuses (port_arrival_of r found) y)
    (observed_same_at_data r found refuses y fits) h))
write_leaves before told o y r (Elsewhere e) ok word place found refuses other writes fits sent rest quiet intact power
    small is h =
    observer_settled_knows _ o (port_after_bits refuses (port_arrival_of r found) y) sent rest (settled_more before told
    (record { place = place; read = e; addr = None; word = None; how = May }) o
    (port_after_bits refuses (port_arrival_of r found) y) refl
    (observed_same_settled _ o y (port_after_bits refuses (port_arrival_of r found) y)
    (observed_same_at_data r found refuses y fits) h))
write_leaves before told o y r (Writes w) ok word place found refuses other writes fits sent rest quiet intact power
    small is h =
    untold before told (observer_accepted (Writes w) (word_observed ok word) place o)
    (port_after_bits refuses (port_arrival_of r found) y) (subst (λ z. ObserverKnows (ObservedSince before told)
    (observer_accepted (Writes w) (word_observed ok word) place o)
    (port_after_bits refuses (port_arrival_of z found) y)) (sym fits)
    (observer_knows_sent_write _ o y w ok word place found refuses sent rest (quiet w fits) intact
    (λ e. (power w fits e).0) (λ e. (power w fits e).1) small is h))
write_leaves before told o y r Reads ok word place found refuses other writes fits sent rest quiet intact power small
    is h =
    absurd (cc)
write_leaves before told o y r MayRead ok word place found refuses other writes fits sent rest quiet intact power small
    is h =
    absurd (cc)
write_leaves before told o y r (MayWrite w) ok word place found refuses other writes fits sent rest quiet intact power
    small is h =
    held _ (observer_accepted (MayWrite w) (word_observed ok word) place o)
    (port_after_bits refuses (port_arrival_of r found) y) sent
    (observer_holds_may_write before told o y w (observed_whole o.increments (word_observed ok word)) place r refuses
    found other rest fits (whole_found found o.increments (word_observed ok word) is) h)

write_same : (k : RequestEffect) (r : Register) (chosen : Choice) (x : Target) → is_observed_reading k ≡ false
    → ObservedKindFits k r → ObservedSame x (port_after_okay chosen r x)
write_same Other r chosen x writes fits = observed_same_at_okay chosen r x fits
write_same (Elsewhere e) r chosen x writes fits = observed_same_at_okay chosen r x fits
write_same (Writes w) r chosen x writes fits =
    subst (λ z. ObservedSame x (port_after_okay chosen z x)) (sym fits) (observed_same_at_write chosen w x)
write_same Reads r chosen x writes fits = absurd (cc)
write_same MayRead r chosen x writes fits = absurd (cc)
write_same (MayWrite w) r chosen x writes (inl fits) =
    subst (λ z. ObservedSame x (port_after_okay chosen z x)) (sym fits) (observed_same_at_write chosen w x)
write_same (MayWrite w) r chosen x writes (inr fits) = observed_same_at_okay chosen r x fits

-- the observer and what was told, after such a request
abbrev pub ObserverConfirmed : List Transfer → List ObservedAccess → Observer → Request → ℕ → Bool → ℕ → Target → Type 0
ObserverConfirmed before told o q word ok place x = After before
    (told ++ one_observed (observed_flight_access Took
    (observed_whole o.increments (if is_observed_posted_read q then word_observed ok word else None)) o))
    (observer_confirmed o) (observed_kind (observer_confirmed o).select q) (word_observed ok word) place x

read_asked : (before : List Transfer) (told : List ObservedAccess) (o : Observer) (q : Request) (word : ℕ) (ok : Bool)
    (place : ℕ) (s a b t : Port) (mark : Mark) (c : Choice) (bits : ℕ) → observed_class o q ≡ Confirms → q.read ≡ true
    → PortCompletes s a → PortAsksNow mark c a q 1 b
    → (d : Port) → PortCompletes b d → bits < 2 ^ 33 → data_phase_word bits ≡ word_observed ok word → PortTakes d bits t
    → ObserverKnows (ObservedSince before told) o s.target → ObserverConfirmed before told o q word ok place d.target
read_asked before told o q word ok place s a b t mark c bits tells reads first now d last range carries takes k =
    let h : ObservedOkayed a q b = observed_ask_okayed mark c a q b now in
    let known = observer_knows_stays (ObservedSince before told) o s a first k in
    let plainly = observed_not_exempt o a.target.select q tells (observed_other_bank _ o a.target known) in
    let clear = h.clear plainly in
    let quiet = observed_first_clear a.target.sticky_error _ _ clear in
    let intact = observed_second_clear a.target.sticky_error _ _ clear in
    let line : d.link.line ≡ Drives (port_flipped h.flip (data_phase_number (port_value_in h.choice
    (port_register a.target.select q) a.target))) =
    ap (λ l. l.line) (port_kept b d last).link ∙ h.line ∙ observed_line_at_read q.read (port_register a.target.select q)
    h.flip _ reads in
    let got : PortPhaseGot h.flip (port_value_in h.choice (port_register a.target.select q) a.target) bits =
    port_data_taken h.flip (port_value_in h.choice (port_register a.target.select q) a.target) bits d t line
    (h.value reads) range takes in
    let settled = observer_confirm_settles before told (observed_whole o.increments
    (if is_observed_posted_read q then word_observed ok word else None)) o a.target quiet intact
    (h.settled plainly)
    (observed_whole_right o.increments (if is_observed_posted_read q then word_observed ok word else None) a.target
    (observed_buffer_right (is_observed_posted_read q) ok word
    (port_value_in h.choice (port_register a.target.select q) a.target) h.choice.filler
    a.target
    (observed_posted_value a.target.select q h.choice a.target)
    (observed_read_word h.flip (port_value_in h.choice (port_register a.target.select q) a.target) bits word ok
    got carries))) known in
    let left : ObserverConfirmed before told o q word ok place
    (port_after_okay h.choice (port_register a.target.select q) a.target) =
    read_leaves before (told ++ one_observed (observed_flight_access Took (observed_whole o.increments
    (if is_observed_posted_read q then word_observed ok word else None)) o)) (observer_confirmed o) a.target h.choice
    (port_register a.target.select q) (observed_kind (observer_confirmed o).select q) (word_observed ok word)
    place (observed_reads_only (observer_confirmed o).select q reads)
    (observed_kind_fits (observer_confirmed o).select a.target.select q settled.select) (observer_confirmed_unsent o)
    refl quiet intact
    (λ e. observed_ap_power q a.target clear (observed_drw_is_ap a.target.select q (inl e))) settled in
    observer_knows_stays _ _ b d last (subst (ObserverConfirmed before told o q word ok place) (sym h.target) left)

pub observer_okay_read : (before : List Transfer) (told : List ObservedAccess) (o : Observer) (q : Request) (word : ℕ)
    (ok : Bool) (place : ℕ) (s a t : Port) (bits : ℕ) → observed_class o q ≡ Confirms → q.read ≡ true
    → PortAsks s q 1 a → bits < 2 ^ 33 → data_phase_word bits ≡ word_observed ok word
    → PortTakes a bits t → ObserverKnows (ObservedSince before told) o s.target
    → ObserverConfirmed before told o q word ok place t.target
observer_okay_read before told o q word ok place s d t bits tells reads (a, e, b, mark, c, first, kept, now, last)
    range carries takes k =
    observed_read_phase_keeps (ObserverConfirmed before told o q word ok place)
    (λ x y e h. observer_knows_stays _ _ x y e h) d t bits takes
    (read_asked before told o q word ok place e e b t mark c bits tells reads (inl refl) now d last range carries takes
    (observer_knows_before _ o q s e (a, mark, first, kept) k))

write_asked : (before : List Transfer) (told : List ObservedAccess) (o : Observer) (q : Request) (word : ℕ) (ok : Bool)
    (place : ℕ)
    (s a b : Port) (mark : Mark) (c : Choice) (bits : ℕ) → observed_class o q ≡ Confirms → q.read ≡ false
    → PortCompletes s a → PortAsksNow mark c a q 1 b
    → (d t : Port) → PortCompletes b d → bits < 2 ^ 33 → word < 2 ^ 32 → data_phase_word bits ≡ word_observed ok word
    → PortGives d bits t
    → ObserverKnows (ObservedSince before told) o s.target → ObserverConfirmed before told o q word ok place t.target
write_asked before told o q word ok place s a b mark c bits tells writes first now d t last range small carries
    (e, f, third, given, fourth) k =
    let h : ObservedOkayed a q b = observed_ask_okayed mark c a q b now in
    let known = observer_knows_stays (ObservedSince before told) o s a first k in
    let plainly = observed_not_exempt o a.target.select q tells (observed_other_bank _ o a.target known) in
    let clear = h.clear plainly in
    let quiet = observed_first_clear a.target.sticky_error _ _ clear in
    let intact = observed_second_clear a.target.sticky_error _ _ clear in
    let settled = observer_confirm_settles before told (observed_whole o.increments
    (if is_observed_posted_read q then word_observed ok word else None)) o a.target quiet intact
    (h.settled plainly) (observed_whole_right o.increments
    (if is_observed_posted_read q then word_observed ok word else None) a.target
    (observed_write_no_word q.read _ (word_observed ok word) a.target writes))
    known in
    let fits = observed_kind_fits (observer_confirmed o).select a.target.select q settled.select in
    let same : ObservedSame a.target (port_after_okay h.choice (port_register a.target.select q) a.target) =
    write_same (observed_kind (observer_confirmed o).select q) (port_register a.target.select q) h.choice a.target
    (observed_writes_only (observer_confirmed o).select q writes) fits in
    let none : b.target.pending ≡ None = ap (λ x. x.pending) h.target ∙ same.pending ∙ settled.none in
    let still_d : d ≡ b = no_pending_same b d none last in
    let still_e : e ≡ b = no_pending_same d e (ap (λ p. p.target.pending) still_d ∙ none) third ∙ still_d in
    let line : b.link.line ≡ Awaits (port_register a.target.select q) h.flip =
    h.line ∙ observed_line_at_write q.read (port_register a.target.select q) h.flip _ writes in
    let is : f.target ≡ port_after_bits given.refuses (port_arrival_of (port_register a.target.select q)
    (data_phase_word (port_flipped h.flip bits)))
    (port_after_okay h.choice (port_register a.target.select q) a.target) =
    ap (λ p. p.target) given.after ∙ ap (λ p. port_after_bits given.refuses (port_arrival p.link.line bits) p.target)
    still_e ∙ ap (λ l. port_after_bits given.refuses (port_arrival l bits) b.target) line
    ∙ ap (λ z. port_after_bits given.refuses (port_arrival_of (port_register a.target.select q)
    (data_phase_word (port_flipped h.flip bits))) z) h.target in
    let left : ObserverConfirmed before told o q word ok place
    (port_after_bits given.refuses (port_arrival_of (port_register a.target.select q) (data_phase_word
    (port_flipped h.flip bits))) (port_after_okay h.choice (port_register a.target.select q) a.target)) =
    write_leaves before (told ++ one_observed (observed_flight_access Took (observed_whole o.increments
    (if is_observed_posted_read q then word_observed ok word else None)) o)) (observer_confirmed o)
    (port_after_okay h.choice (port_register a.target.select q) a.target) (port_register a.target.select q)
    (observed_kind (observer_confirmed o).select q) ok word place (data_phase_word
    (port_flipped h.flip bits)) given.refuses (observed_select_is_sure (observer_confirmed o).select q)
    (observed_writes_only (observer_confirmed o).select q writes) fits (observer_confirmed_unsent o) refl
    (λ w named. observed_quiet_at_write w (port_register a.target.select q) h.choice.refuses _ named quiet) intact
    (λ w named drw. (
      observed_ap_power q a.target clear
          (observed_drw_is_ap a.target.select q
          (inr (observed_drw_register w Seen (port_register a.target.select q) named drw))),
      observed_power_at_drw w (port_register a.target.select q) h.choice a.target.debug_up named drw,
    )) small
    (observed_found_word h.flip bits word ok (data_phase_word (port_flipped h.flip bits)) range small carries refl)
    (observed_same_settled _ (observer_confirmed o) a.target
    (port_after_okay h.choice (port_register a.target.select q) a.target) same settled) in
    observer_knows_stays _ _ f t fourth (subst (ObserverConfirmed before told o q word ok place) (sym is) left)

pub observer_okay_write : (before : List Transfer) (told : List ObservedAccess) (o : Observer) (q : Request) (word : ℕ)
    (ok : Bool) (place : ℕ) (s d t : Port) (bits : ℕ) → observed_class o q ≡ Confirms → q.read ≡ false
    → PortAsks s q 1 d → bits < 2 ^ 33 → word < 2 ^ 32
    → data_phase_word bits ≡ word_observed ok word → PortGives d bits t
    → ObserverKnows (ObservedSince before told) o s.target
    → ObserverConfirmed before told o q word ok place t.target
observer_okay_write before told o q word ok place s d t bits tells writes (a, e, b, mark, c, first, kept, now, last)
    range small carries gives k =
    write_asked before told o q word ok place e e b mark c bits tells writes (inl refl) now d t last range small carries
    gives (observer_knows_before _ o q s e (a, mark, first, kept) k)

-- after OK to a request that isn't exempt, with its data phase, what is known is true, once the transfer in flight is
-- reported as `Took`, and the request itself if it may be an access
pub observer_okay_moved : (read : Bool) (before : List Transfer) (told : List ObservedAccess) (o : Observer)
    (q : Request) (word : ℕ) (ok : Bool) (place : ℕ) (s t : Port) → q.read ≡ read → observed_class o q ≡ Confirms
    → (asked : Port) (bits : ℕ) → PortAsks s q 1 asked → bits < 2 ^ 33 → word < 2 ^ 32
    → data_phase_word bits ≡ word_observed ok word
    → ObservedMoves read asked bits t → ObserverKnows (ObservedSince before told) o s.target
    → ObserverConfirmed before told o q word ok place t.target
observer_okay_moved true before told o q word ok place s t is tells asked bits asks range small carries moves k =
    observer_okay_read before told o q word ok place s asked t bits tells is asks range carries moves k
observer_okay_moved false before told o q word ok place s t is tells asked bits asks range small carries moves k =
    observer_okay_write before told o q word ok place s asked t bits tells is asks range small carries moves k
