-- Older reads that are noted.
use Rattle.std.proofs.Common.{◌≡◌, Bool, true, false, List, refl}
use Rattle.std.specs.Prelude.{Option, Some, None, if◌then◌else◌}
use Rattle.swd_port.specs.declared.access.Transfer.{Transfer}
use Rattle.swd_port.specs.Port.{Target}
use Rattle.swd_observer.specs.declared.observer.Observer.{Observer}
use Rattle.swd_observer.specs.declared.observer.Older.{Older}
use Rattle.swd_observer.specs.declared.observer.SentWrite.{SentWrite}
use Rattle.swd_observer.specs.Observing.{observer_arrival_of}
use Rattle.swd_observer.specs.Knows.{ObserverHolds, ObserverKnows, here, spoiled}

-- the older read is unchanged, whether or not TAR becomes unknown at a lost acknowledgement
pub observer_unanswered_older : (read : Bool) (d : Observer)
    → (if read then record d { tar = None } else d).older ≡ d.older
observer_unanswered_older true d = refl
observer_unanswered_older false d = refl

hold_sent : (E : List Transfer → Type 0) (s : Option SentWrite) (h : Option Older) (o : Observer) (x : Target)
    → ObserverHolds E (observer_arrival_of s o) x → ObserverHolds E (observer_arrival_of s (record o { older = h })) x
hold_sent E None h o x k =
    record { select = k.select; increments = k.increments; range = k.range; flight = k.flight }
hold_sent E (Some s) h o x k =
    record { select = k.select; increments = k.increments; range = k.range; flight = k.flight }

-- what is known is true whatever older read is noted
pub observer_older_noted : (E : List Transfer → Type 0) (h : Option Older) (o : Observer) (x : Target)
    → ObserverKnows E o x → ObserverKnows E (record o { older = h }) x
observer_older_noted E h o x (here clean k) = here clean (hold_sent E o.sent h o x k)
observer_older_noted E h o x (spoiled error rest k) = spoiled error rest
    (record { select = k.select; increments = k.increments; range = k.range; flight = k.flight })
