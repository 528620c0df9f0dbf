-- The laws that relate an observer to the port model.
use Rattle.std.specs.Prelude.{ℕ, ◌≡◌, Bool, List, ◌++◌, None, ◌&&◌, if◌then◌else◌}
use Rattle.swd_bits.specs.declared.request.Request.{Request}
use Rattle.swd_bits.specs.declared.tx.TxEnd.{TxEnd}
use Rattle.swd_bits.specs.declared.tx.TxEnd.TheVariants.{Moved, Wait, Fault, NoAck}
use Rattle.swd_port.specs.declared.access.Transfer.{Transfer}
use Rattle.swd_port.specs.Port.{Port, Target}
use Rattle.swd_port.specs.Completion.{PortCompletes}
use Rattle.swd_observer.specs.declared.told.ObservedAccess.{ObservedAccess}
use Rattle.swd_observer.specs.declared.observer.Observer.{Observer}
use Rattle.swd_observer.specs.Observing.{Passes, Aborts, Status, Confirms, observed_class, observer_after_tx_end}
use Rattle.swd_observer.specs.Observing.{observed_at_tx_end, observer_after_confirm, observed_doubt, observed_older}
use Rattle.swd_observer.specs.Observing.{observer_doubted, observed_at_confirm, word_observed, observer_flagged}
use Rattle.swd_observer.specs.Observing.{observed_flagged, is_status_observed}
use Rattle.swd_port.specs.Registers.{register_bit}
use Rattle.swd_observer.specs.Explained.{ObservedSince, and_observed, one_observed}
use Rattle.swd_observer.specs.Knows.{ObserverWatches}
use Rattle.swd_observer.specs.Transacts.{ObservedTransacts}

-- what is known of a target, where the reported accesses are the log's since `before`
abbrev pub ObserverKnowsSince : List Transfer → List ObservedAccess → Observer → Target → Type 0
ObserverKnowsSince before told o x = ObserverWatches (ObservedSince before told) o x

-- what is known remains true whenever a pending transfer takes effect
abbrev pub ObserverAtCompletion : Type 0
ObserverAtCompletion = (before : List Transfer) (told : List ObservedAccess) (o : Observer) (s t : Port)
    → PortCompletes s t → ObserverKnowsSince before told o s.target → ObserverKnowsSince before told o t.target

-- the accesses reported with an older read, whose word stays unknown
abbrev pub observed_list_flushed : List ObservedAccess → Observer → List ObservedAccess
observed_list_flushed told o = told ++ one_observed (observed_older None o.older)

-- WAIT shows nothing, and neither does FAULT: it may come of STICKYORUN
abbrev pub ObserverAtWait : Type 0
ObserverAtWait = (before : List Transfer) (told : List ObservedAccess) (o : Observer) (q : Request) (place : ℕ)
    (s t : Port) → ObservedTransacts Wait q s t → ObserverKnowsSince before told o s.target →
    ObserverKnowsSince before told (observer_after_tx_end Wait q place o) t.target

abbrev pub ObserverAtFault : Type 0
ObserverAtFault = (before : List Transfer) (told : List ObservedAccess) (o : Observer) (q : Request) (place : ℕ)
    (s t : Port) → ObservedTransacts Fault q s t → ObserverKnowsSince before told o s.target →
    ObserverKnowsSince before told (observer_after_tx_end Fault q place o) t.target

-- OK to a request that isn't exempt: the transfer in flight took effect, once, and a read returned the word
-- that this request gave. Nothing else was logged, unless the request itself is reported as `May`.
abbrev pub ObserverAtOkay : Type 0
ObserverAtOkay = (before : List Transfer) (told : List ObservedAccess) (o : Observer) (q : Request) (word : ℕ)
    (ok : Bool) (place : ℕ) (s t : Port) → observed_class o q ≡ Confirms → ObservedTransacts (Moved word ok) q s t
    → ObserverKnowsSince before told o s.target →
    ObserverKnowsSince before (and_observed told (observed_at_confirm q (word_observed ok word) place o))
    (observer_after_confirm q (word_observed ok word) place o) t.target

-- DPIDR shows nothing
abbrev pub ObserverAtDpidr : Type 0
ObserverAtDpidr = (before : List Transfer) (told : List ObservedAccess) (o : Observer) (q : Request) (word : ℕ)
    (ok : Bool) (place : ℕ) (s t : Port) → observed_class o q ≡ Passes → ObservedTransacts (Moved word ok) q s t →
    ObserverKnowsSince before told o s.target → ObserverKnowsSince before told o t.target

-- after ABORT, even with corrupted data, the transfer in flight is reported as `May`
abbrev pub ObserverAtAbort : Type 0
ObserverAtAbort = (before : List Transfer) (told : List ObservedAccess) (o : Observer) (q : Request) (word : ℕ)
    (ok : Bool) (place : ℕ) (s t : Port) → observed_class o q ≡ Aborts → ObservedTransacts (Moved word ok) q s t →
    ObserverKnowsSince before told o s.target →
    ObserverKnowsSince before (observed_list_flushed told o ++ one_observed (observed_doubt o)) (observer_doubted o)
    t.target

-- Without an acknowledgement, the transfer in flight is reported as `May`. The request itself is reported as `May` if
-- it may be a DRW read.
abbrev pub ObserverAtLost : Type 0
ObserverAtLost = (before : List Transfer) (told : List ObservedAccess) (o : Observer) (q : Request) (seen place : ℕ)
    (s t : Port) → ObservedTransacts (NoAck seen) q s t → ObserverKnowsSince before told o s.target →
    ObserverKnowsSince before (and_observed told (observed_at_tx_end (NoAck seen) q place o))
    (observer_after_tx_end (NoAck seen) q place o) t.target

-- A read of CTRL/STAT shows the transfer's result if its parity is right and DPBANKSEL is known to be 0.
abbrev pub ObserverAtStatus : Type 0
ObserverAtStatus = (before : List Transfer) (told : List ObservedAccess) (o : Observer) (q : Request) (word : ℕ)
    (ok : Bool) (place : ℕ) (s t : Port) → observed_class o q ≡ Status → ObservedTransacts (Moved word ok) q s t →
    ObserverKnowsSince before told o s.target → ObserverKnowsSince before (observed_list_flushed told o ++ one_observed
    (if ok && is_status_observed o then observed_flagged (register_bit 5 word) (register_bit 7 word) o else None))
    (record (if ok && is_status_observed o then observer_flagged (register_bit 5 word)
    (register_bit 7 word) o else o) { older = None }) t.target

-- THE THEOREM of one transaction, whatever its request and its result
abbrev pub ObserverAlways : Type 0
ObserverAlways = (before : List Transfer) (told : List ObservedAccess) (o : Observer) (end : TxEnd) (q : Request)
    (place : ℕ) (s t : Port) → ObservedTransacts end q s t → ObserverKnowsSince before told o s.target →
    ObserverKnowsSince before (and_observed told (observed_at_tx_end end q place o))
    (observer_after_tx_end end q place o) t.target
