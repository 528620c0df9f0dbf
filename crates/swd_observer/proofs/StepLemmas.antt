-- What the proofs of one transaction share: flags, words, and the data phase on the line.
use Rattle.std.proofs.Common.{◌≡◌, ◌<◌, ◌^◌, ℕ, Bool, true, false, List, refl, sym, ap, subst, ◌∙◌}
use Rattle.std.specs.Prelude.{Option, Some, None, IfSome, unwrap_or, ◌||◌, ◌&&◌, ◌==◌, if◌then◌else◌, not as no}
use Rattle.swd_bits.specs.declared.request.Request.{Request}
use Rattle.swd_bits.specs.Phases.{data_phase_word, data_phase_number}
use Rattle.swd_port.specs.declared.access.Transfer.{Transfer}
use Rattle.swd_port.specs.declared.register.Register.{Register}
use Rattle.swd_port.specs.declared.select.Select.{Select}
use Rattle.swd_port.specs.declared.state.PowerUp.{PowerUp}
use Rattle.swd_port.specs.declared.state.PowerUp.TheVariants.{Seen}
use Rattle.swd_port.specs.declared.state.AfterAck.TheVariants.{Drives, Awaits}
use Rattle.swd_port.specs.Choices.{Choice}
use Rattle.swd_port.specs.Choices.{port_flipped}
use Rattle.swd_port.specs.Port.{Port, Target}
use Rattle.swd_port.specs.Answers.{is_port_unpowered, is_port_power_there}
use Rattle.swd_port.specs.Completion.{PortCompletes}
use Rattle.swd_port.specs.Asking.{port_phase_after, port_has_power, debug_up_after, stickyerr_once_read}
use Rattle.swd_port.specs.Moving.{PortTakes, port_arrival_of, port_after_bits, Damaged}
use Rattle.swd_port.specs.Moves.{PortPhaseGot, whole, damaged}
use Rattle.swd_observer.specs.declared.observer.Observer.{Observer}
use Rattle.swd_observer.specs.declared.observer.SentWrite.{SentWrite}
use Rattle.swd_observer.specs.declared.observer.Written.{Written}
use Rattle.swd_observer.specs.declared.observer.Written.TheVariants.{Select as ToSelect, Csw as ToCsw, Tar as ToTar}
use Rattle.swd_observer.specs.declared.observer.Written.TheVariants.{Drw as ToDrw}
use Rattle.swd_observer.specs.declared.observer.RequestEffect.TheVariants.{Writes}
use Rattle.swd_observer.specs.Observing.{observer_arrival_of, observer_confirmed, word_observed, observer_accepted}
use Rattle.swd_observer.specs.Observing.{is_observed_select_sent, observed_select_sent, is_observed_other_bank}
use Rattle.swd_observer.specs.Observing.{is_other_bank_observed}
use Rattle.swd_observer.specs.Knows.{ObserverKnows, here, spoiled}
use Rattle.swd_observer.proofs.AskLemmas.{observed_register_for}
use Rattle.swd_observer.proofs.OkayLemmas.{ObservedSettled, IsObservedRight, observer_settled_holds}
use Rattle.swd_observer.proofs.OkayLemmas.{observed_sent_arrives, observer_knows_arrival}

-- flags and power, of what was answered OK
pub observed_first_clear : (a b c : Bool) → (a || b || c) ≡ false → a ≡ false
observed_first_clear false b c e = refl
observed_first_clear true b c e = absurd (cc)

-- of three bits of which none is set, the second isn't set
pub observed_second_clear : (a b c : Bool) → (a || b || c) ≡ false → b ≡ false
observed_second_clear a false c e = refl
observed_second_clear false true c e = absurd (cc)
observed_second_clear true true c e = absurd (cc)

pub observed_third_clear : (a b c : Bool) → (a || b || c) ≡ false → c ≡ false
observed_third_clear a b false e = refl
observed_third_clear false false true e = absurd (cc)
observed_third_clear false true true e = absurd (cc)
observed_third_clear true b true e = absurd (cc)

pub observed_ap_is_powered : (ap power there : Bool) → is_port_unpowered ap (power && there) ≡ false → ap ≡ true
    → power ≡ true
observed_ap_is_powered true true there e f = refl
observed_ap_is_powered true false there e f = absurd (cc)
observed_ap_is_powered false power there e f = absurd (cc)

-- once it is confirmed, nothing is sent or begun
pub observer_arrival_unsent : (s : Option SentWrite) (o : Observer) → s ≡ o.sent → (observer_arrival_of s o).sent ≡ None
observer_arrival_unsent None o e = sym e
observer_arrival_unsent (Some s) o e = refl

-- an observer has no unconfirmed write after OK to a request that isn't exempt
pub observer_confirmed_unsent : (o : Observer) → (observer_confirmed o).sent ≡ None
observer_confirmed_unsent o = observer_arrival_unsent o.sent o refl

-- the word of a read
pub observed_read_word : (flip : Option ℕ) (value bits word : ℕ) (ok : Bool) → PortPhaseGot flip value bits
    → data_phase_word bits ≡ word_observed ok word
    → IfSome (word_observed ok word) (λ w. value ≡ w)
observed_read_word flip value bits word false g e = tt
observed_read_word flip value bits word true (whole f fits is) e = let same : Some value ≡ Some word = sym is ∙ e in cc
observed_read_word flip value bits word true (damaged place f fits is) e =
    absurd (let clash : None ≡ Some word = sym is ∙ e in cc)

-- a word with right parity of a read that gives the read buffer is the buffer's, where that is known; of another read
-- no word is taken
pub observed_buffer_right : (posted ok : Bool) (word value filler : ℕ) (x : Target) → (posted ≡ true → value
    ≡ unwrap_or x.buffer filler)
    → IfSome (word_observed ok word) (λ w. value ≡ w)
    → IsObservedRight (if posted then word_observed ok word else None) x
observed_buffer_right false ok word value filler x is known = tt
observed_buffer_right true false word value filler x is known = tt
observed_buffer_right true true word value filler x is known = λ v e.
    sym (is refl ∙ ap (λ b. unwrap_or b filler) e) ∙ known

-- of a write no word is taken
pub observed_write_no_word : (read rest : Bool) (word : Option ℕ) (x : Target) → read ≡ false
    → IsObservedRight (if read && rest then word else None) x
observed_write_no_word false rest word x e = tt
observed_write_no_word true rest word x e = absurd (cc)

-- a write that was answered OK, and its data, which arrived or not
pub observed_word_small : (ok : Bool) (word : ℕ) → word < 2 ^ 32 → IfSome (word_observed ok word) (λ v. v < 2 ^ 32)
observed_word_small true word h = h
observed_word_small false word h = tt

-- a settled state, and the data of a write that an observer tracks, arrived or corrupted: what it knows is true, with
-- the write unconfirmed
pub observer_knows_sent_write : (E : List Transfer → Type 0) (o : Observer) (y : Target) (w : Written) (ok : Bool)
    (word place : ℕ) (found : Option ℕ) (refuses : Bool) → o.sent ≡ None → o.begun ≡ None → y.sticky_error ≡ false
    → y.write_error ≡ false → (w ≡ ToDrw → y.debug_power ≡ true) → (w ≡ ToDrw → y.debug_up ≡ Seen) → word < 2 ^ 32
    → IfSome found (λ f. IfSome (word_observed ok word) (λ v. f ≡ v)) → ObservedSettled E o y
    → ObserverKnows E (observer_accepted (Writes w) (word_observed ok word) place o)
    (port_after_bits refuses (port_arrival_of (observed_register_for w) found) y)
observer_knows_sent_write E o y w ok word place None refuses sent rest quiet intact power up small is h =
    spoiled refl rest (observer_settled_holds E (record o { sent = None }) (port_after_bits refuses Damaged y) rest
    (record {
      select = h.select;
      increments = h.increments;
      range = h.range;
      aimed = h.aimed;
      now = h.now;
      none = h.none;
    }))
observer_knows_sent_write E o y w ok word place (Some found) refuses sent rest quiet intact power up small is h =
    observer_knows_arrival E o y w (word_observed ok word) found place refuses rest quiet intact power up
    (observed_word_small ok word small) is h

-- a write to another register leaves what is known of SELECT
select_kept : (w : Written) (word : Option ℕ) (old : Option Select) (place : ℕ)
    → no (is_observed_select_sent (Some (record { written = w; word = word; place = place }))) ≡ true
    → observed_select_sent w word old ≡ old
select_kept ToSelect word old place e = absurd (cc)
select_kept ToCsw word old place e = refl
select_kept ToTar word old place e = refl
select_kept ToDrw word old place e = refl

arrived_select : (sent : Option SentWrite) (o : Observer) → no (is_observed_select_sent sent) ≡ true
    → (observer_arrival_of sent o).select ≡ o.select
arrived_select None o e = refl
arrived_select (Some s) o e = select_kept s.written s.word o.select s.place e

-- where no write to SELECT is unconfirmed, SELECT is what it is known to be
pub observed_select_known : (E : List Transfer → Type 0) (o : Observer) (x : Target)
    → no (is_observed_select_sent o.sent) ≡ true → ObserverKnows E o x → IfSome o.select (λ v. x.select ≡ v)
observed_select_known E o x e (here clean h) =
    subst (λ k. IfSome k (λ v. x.select ≡ v)) (arrived_select o.sent o e) h.select
observed_select_known E o x e (spoiled error rest h) = h.select

-- of two bits that are both set, the first is set
pub observed_left_set : (a b : Bool) → (a && b) ≡ true → a ≡ true
observed_left_set true b e = refl
observed_left_set false b e = absurd (cc)

-- of two bits that are both set, the second is set
pub observed_right_set : (a b : Bool) → (a && b) ≡ true → b ≡ true
observed_right_set true b e = e
observed_right_set false b e = absurd (cc)

other_is : (known : Option Select) (s : Select) → is_observed_other_bank known ≡ true → IfSome known (λ v. s ≡ v)
    → (s.dpbanksel == 0) ≡ false
other_is None s e h = absurd (cc)
other_is (Some v) s e h = ap (λ z. z.dpbanksel == 0) h ∙ clear (v.dpbanksel == 0) e
  where
    clear : (b : Bool) → no b ≡ true → b ≡ false
    clear false e = refl
    clear true e = absurd (cc)

-- DPBANKSEL isn't 0 where it is known not to be
pub observed_other_bank : (E : List Transfer → Type 0) (o : Observer) (x : Target) → ObserverKnows E o x
    → is_other_bank_observed o ≡ true → (x.select.dpbanksel == 0) ≡ false
observed_other_bank E o x k e = other_is o.select x.select (observed_left_set _ _ e)
    (observed_select_known E o x (observed_right_set (is_observed_other_bank o.select) _ e) k)

-- after OK to a read its data phase is on the line, with the changed bit, if any
pub observed_line_at_read : (read : Bool) (r : Register) (flip : Option ℕ) (value : ℕ) → read ≡ true
    → port_phase_after read r flip value ≡ Drives (port_flipped flip (data_phase_number value))
observed_line_at_read true r flip value e = refl
observed_line_at_read false r flip value e = absurd (cc)

-- after OK to a write its data is awaited
pub observed_line_at_write : (read : Bool) (r : Register) (flip : Option ℕ) (value : ℕ) → read ≡ false
    → port_phase_after read r flip value ≡ Awaits r flip
observed_line_at_write false r flip value e = refl
observed_line_at_write true r flip value e = absurd (cc)

-- where an AP access meets no flag and isn't without power, debug power is requested
pub observed_ap_power : (q : Request) (x : Target) →
    (x.sticky_error || x.write_error || is_port_unpowered q.ap (port_has_power x)) ≡ false → q.ap ≡ true
    → x.debug_power ≡ true
observed_ap_power q x clear is = observed_ap_is_powered q.ap x.debug_power (is_port_power_there x.debug_up)
    (observed_third_clear x.sticky_error x.write_error (is_port_unpowered q.ap (port_has_power x)) clear) is

-- what a possible completion keeps is kept by the data phase of a read
pub observed_read_phase_keeps : (P : Target → Type 0) (E : (x y : Port) → PortCompletes x y → P x.target
    → P y.target) (s t : Port) (bits : ℕ)
    → PortTakes s bits t → P s.target → P t.target
observed_read_phase_keeps P on s t bits (a, b, first, now, last) k =
    on b t last (subst P (sym (ap (λ p. p.target) now.after)) (on s a first k))

-- the word that arrives is the word that was sent, if that had right parity
pub observed_found_word : (flip : Option ℕ) (sent word : ℕ) (ok : Bool) (found : Option ℕ) → sent < 2 ^ 33
    → word < 2 ^ 32 → data_phase_word sent ≡ word_observed ok word → data_phase_word (port_flipped flip sent) ≡ found
    → IfSome found (λ f. IfSome (word_observed ok word) (λ v. f ≡ v))
observed_found_word flip sent word ok None range small is e = tt
observed_found_word flip sent word ok (Some f) range small is e =
    observed_sent_arrives flip sent word ok f range small is e

-- OK to a write that an observer tracks sets no flag
pub observed_quiet_at_write : (w : Written) (r : Register) (refuses flag : Bool) → r ≡ observed_register_for w
    → flag ≡ false → stickyerr_once_read refuses r flag ≡ false
observed_quiet_at_write ToSelect r refuses flag is quiet = rw is quiet
observed_quiet_at_write ToCsw r refuses flag is quiet = rw is quiet
observed_quiet_at_write ToTar r refuses flag is quiet = rw is quiet
observed_quiet_at_write ToDrw r refuses flag is quiet = rw is quiet

-- after OK to a DRW write debug power was seen acknowledged
pub observed_power_at_drw : (w : Written) (r : Register) (chosen : Choice) (u : PowerUp) → r ≡ observed_register_for w
    → w ≡ ToDrw → debug_up_after chosen.debug_late r u ≡ Seen
observed_power_at_drw w r chosen u is drw = rw (is, drw) refl

-- a tracked write that is one to DRW has the register of one
pub observed_drw_register : (w : Written) (s : PowerUp) (r : Register) → r ≡ observed_register_for w → w ≡ ToDrw
    → r ≡ observed_register_for ToDrw
observed_drw_register w s r is drw = is ∙ ap observed_register_for drw
