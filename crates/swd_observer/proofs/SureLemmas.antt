-- Where nothing that is told is doubtful.
use Rattle.std.proofs.Common.{◌≡◌, ◌≢◌, ℕ, Bool, true, false, List, [], ◌∷◌, ◌++◌, refl, sym, subst}
use Rattle.std.specs.Prelude.{Option, Some, None, IfSome, if◌then◌else◌, ◌&&◌}
use Rattle.swd_bits.specs.declared.request.Request.{Request}
use Rattle.swd_bits.specs.declared.request.Reg4.{Reg4}
use Rattle.swd_bits.specs.declared.request.Reg4.TheVariants.{R0, R4, R8, RC}
use Rattle.swd_bits.specs.declared.tx.TxEnd.{TxEnd}
use Rattle.swd_bits.specs.declared.tx.TxEnd.TheVariants.{Moved, Wait, Fault, NoAck}
use Rattle.swd_port.specs.declared.select.Select.{Select}
use Rattle.swd_port.specs.Port.{port_selects_mem_ap}
use Rattle.swd_port.specs.Registers.{register_bit}
use Rattle.swd_observer.specs.declared.told.ObservedAccess.{ObservedAccess}
use Rattle.swd_observer.specs.declared.told.How.{How}
use Rattle.swd_observer.specs.declared.told.How.TheVariants.{Took, May, Not}
use Rattle.swd_observer.specs.declared.observer.Observer.{Observer}
use Rattle.swd_observer.specs.declared.observer.StartedTransfer.{StartedTransfer}
use Rattle.swd_observer.specs.declared.observer.Older.{Older}
use Rattle.swd_observer.specs.declared.observer.Observations.{Observations}
use Rattle.swd_observer.specs.declared.observer.RequestEffect.TheVariants.{Other, Elsewhere}
use Rattle.swd_observer.specs.Observing.{Class, Passes, Aborts, Status, Confirms, observed_class, observer_arrival}
use Rattle.swd_observer.specs.Observing.{observer_confirmed, observed_begun, is_observed_data_register, observed_kind}
use Rattle.swd_observer.specs.Observing.{observed_older, unless_observed_older, observed_flagged}
use Rattle.swd_observer.specs.Observing.{observed_itself, observed_kind_ap, observed_kind_dp, observed_kind_mem}
use Rattle.swd_observer.specs.Observing.{observed_at_class, observed_at_tx_end, is_status_observed}
use Rattle.swd_observer.specs.Explained.{and_observed, one_observed}
use Rattle.swd_observer.specs.Runs.{Moves, Lifts, observer_after_event, observed_with_event}
use Rattle.swd_observer.specs.Sure.{observer_knows_select, is_observed_elsewhere, IsObservedClear, AreObservedSure}
use Rattle.swd_observer.specs.Sure.{ObservedClearIsSure}

abbrev IsSure : Option ObservedAccess → Type 0
IsSure t = IfSome t (λ x. x.how ≢ May)

one_more : (told : List ObservedAccess) (t : Option ObservedAccess) → AreObservedSure told → IsSure t
    → AreObservedSure (told ++ one_observed t)
one_more [] None h s = tt
one_more [] (Some t) h s = (s, tt)
one_more (u ∷ told) t h s = (h.0, one_more told t h.1 s)

took_sure : (got tar : Option ℕ) (b : Option StartedTransfer) → IsSure (observed_begun Took got tar b)
took_sure got tar None = tt
took_sure got tar (Some b) = λ e. cc

not_sure : (got tar : Option ℕ) (b : Option StartedTransfer) → IsSure (observed_begun Not got tar b)
not_sure got tar None = tt
not_sure got tar (Some b) = λ e. cc

none_sure : (how : How) (got tar : Option ℕ) (b : Option StartedTransfer) → b ≡ None
    → IsSure (observed_begun how got tar b)
none_sure how got tar b e = subst (λ z. IsSure (observed_begun how got tar z)) (sym e) tt

older_sure : (word : Option ℕ) (h : Option Older) → IsSure (observed_older word h)
older_sure word None = tt
older_sure word (Some h) = λ e. cc

unless_sure : (h : Option Older) (t : Option ObservedAccess) → IsSure t → IsSure (unless_observed_older h t)
unless_sure None t s = s
unless_sure (Some h) t s = tt

flag_sure : (known sticky damaged : Bool) (o : Observer) → IsSure
    (if known then observed_flagged sticky damaged o else None)
flag_sure false sticky damaged o = tt
flag_sure true true damaged o = not_sure None (observer_arrival o).tar (observer_arrival o).begun
flag_sure true false true o = not_sure None (observer_arrival o).tar (observer_arrival o).begun
flag_sure true false false o = tt

itself_if : (m d read : Bool) (addr : Reg4) (word tar : Option ℕ) (place : ℕ)
    → is_observed_elsewhere (if m then observed_kind_mem read addr else if d then Elsewhere read else Other) ≡ false
    → IsSure (observed_itself (if m then observed_kind_mem read addr else if d then Elsewhere read else Other) word tar
    place)
itself_if true d true R0 word tar place e = tt
itself_if true d true R4 word tar place e = tt
itself_if true d true R8 word tar place e = tt
itself_if true d true RC word tar place e = tt
itself_if true d false R0 word tar place e = tt
itself_if true d false R4 word tar place e = tt
itself_if true d false R8 word tar place e = tt
itself_if true d false RC word tar place e = tt
itself_if false true read addr word tar place e = absurd (cc)
itself_if false false read addr word tar place e = tt

itself_dp : (read : Bool) (addr : Reg4) (word tar : Option ℕ) (place : ℕ)
    → IsSure (observed_itself (observed_kind_dp read addr) word tar place)
itself_dp true R0 word tar place = tt
itself_dp true R4 word tar place = tt
itself_dp true R8 word tar place = tt
itself_dp true RC word tar place = tt
itself_dp false R0 word tar place = tt
itself_dp false R4 word tar place = tt
itself_dp false R8 word tar place = tt
itself_dp false RC word tar place = tt

itself_by : (ap : Bool) (known : Option Select) (read : Bool) (addr : Reg4) (word tar : Option ℕ) (place : ℕ)
    → observer_knows_select known ≡ true → is_observed_elsewhere
    (if ap then observed_kind_ap known read addr else observed_kind_dp read addr) ≡ false
    → IsSure (observed_itself (if ap then observed_kind_ap known read addr else observed_kind_dp read addr) word tar
    place)
itself_by true None read addr word tar place e f = absurd (cc)
itself_by true (Some s) read addr word tar place e f =
    itself_if (port_selects_mem_ap s) (is_observed_data_register s addr) read addr word tar place f
itself_by false known read addr word tar place e f = itself_dp read addr word tar place

abbrev AllSure : Observations → Type 0
AllSure t = IsSure t.older × IsSure t.before × IsSure t.itself

class_sure : (c : Class) (q : Request) (word : ℕ) (ok : Bool) (place : ℕ) (o : Observer)
    → observer_knows_select (observer_confirmed o).select ≡ true → (c ≡ Aborts → (observer_arrival o).begun ≡ None)
    → is_observed_elsewhere (observed_kind (observer_confirmed o).select q) ≡ false
    → AllSure (observed_at_class c q word ok place o)
class_sure Passes q word ok place o known calm plain = (tt, tt, tt)
class_sure Aborts q word ok place o known calm plain = (
  older_sure None o.older,
  none_sure May None (observer_arrival o).tar (observer_arrival o).begun (calm refl),
  tt,
)
class_sure Status q word ok place o known calm plain = (
  older_sure None o.older,
  flag_sure (ok && is_status_observed o) (register_bit 5 word) (register_bit 7 word) o,
  tt,
)
class_sure Confirms q word ok place o known calm plain = (
  older_sure _ o.older,
  unless_sure _ _ (took_sure _ (observer_arrival o).tar (observer_arrival o).begun),
  itself_by q.ap (observer_confirmed o).select q.read q.addr _ (observer_confirmed o).tar place known plain,
)

end_sure : (end : TxEnd) (q : Request) (place : ℕ) (o : Observer) → IsObservedClear end q o
    → AllSure (observed_at_tx_end end q place o)
end_sure (Moved word ok) q place o h = class_sure (observed_class o q) q word ok place o h.0 h.1 h.2
end_sure Wait q place o h = (tt, tt, tt)
end_sure Fault q place o h = (tt, tt, tt)
end_sure (NoAck seen) q place o h = absurd h

all_more : (told : List ObservedAccess) (t : Observations) → AreObservedSure told → AllSure t
    → AreObservedSure (and_observed told t)
all_more told t s h = one_more ((told ++ one_observed t.older) ++ one_observed t.before) t.itself
    (one_more (told ++ one_observed t.older) t.before (one_more told t.older s h.0) h.1) h.2

-- no access is reported as `May` before the end of a run where each request is acknowledged, SELECT is known, ABORT
-- is written with nothing in flight, and the data registers are those of AP 0
pub observed_clear_is_sure : ObservedClearIsSure
observed_clear_is_sure [] told o s h = s
observed_clear_is_sure (Moves tx place ∷ events) told o s h =
    observed_clear_is_sure events (observed_with_event (Moves tx place) told o)
    (observer_after_event (Moves tx place) o)
    (all_more told (observed_at_tx_end tx.result tx.request place o) s (end_sure tx.result tx.request place o h.0)) h.1
observed_clear_is_sure (Lifts ones ∷ events) told o s h = observed_clear_is_sure events told o s h
