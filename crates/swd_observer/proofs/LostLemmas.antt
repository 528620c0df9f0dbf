-- A request without acknowledgement: the transfer in flight may have taken effect, and a DRW read may have
-- been accepted.
use Rattle.std.proofs.Common.{◌≡◌, ℕ, Bool, true, false, List, [], ◌∷◌, ◌++◌, refl, sym, ap, subst, inl, inr, ◌∙◌}
use Rattle.std.proofs.Common.{append-nil}
use Rattle.std.specs.Prelude.{Option, Some, None, IfSome, unwrap_or, if◌then◌else◌}
use Rattle.swd_bits.specs.declared.request.Request.{Request}
use Rattle.swd_port.specs.declared.access.Transfer.{Transfer}
use Rattle.swd_port.specs.declared.mark.Mark.{Mark}
use Rattle.swd_port.specs.declared.register.Register.{Register}
use Rattle.swd_port.specs.declared.register.Register.TheVariants.{DrwRead}
use Rattle.swd_port.specs.declared.state.Drw.{Drw}
use Rattle.swd_port.specs.declared.state.Drw.TheVariants.{Reads as DrwReads}
use Rattle.swd_port.specs.declared.state.Reply.{Reply}
use Rattle.swd_port.specs.declared.state.Reply.TheVariants.{Okay, Waits, Faults, Silent}
use Rattle.swd_port.specs.declared.access.Access.TheVariants.{Read as AccessRead}
use Rattle.swd_port.specs.Bus.{bus_succeeds, bus_transfer_of}
use Rattle.swd_port.specs.Port.{Port, Target, port_register}
use Rattle.swd_port.specs.Choices.{Choice}
use Rattle.swd_port.specs.Completion.{port_completion, pending_access_at}
use Rattle.swd_port.specs.Asking.{PortAsks, PortAsksNow, port_after_okay, port_target_after, port_reply}
use Rattle.swd_port.specs.Asking.{pending_drw_once_read}
use Rattle.swd_observer.specs.declared.told.ObservedAccess.{ObservedAccess}
use Rattle.swd_observer.specs.declared.told.How.TheVariants.{May}
use Rattle.swd_observer.specs.declared.observer.Observer.{Observer}
use Rattle.swd_observer.specs.declared.observer.Written.{Written}
use Rattle.swd_observer.specs.declared.observer.Written.TheVariants.{Select as ToSelect, Csw as ToCsw, Tar as ToTar}
use Rattle.swd_observer.specs.declared.observer.Written.TheVariants.{Drw as ToDrw}
use Rattle.swd_observer.specs.declared.observer.RequestEffect.{RequestEffect}
use Rattle.swd_observer.specs.declared.observer.RequestEffect.TheVariants.{Other, Elsewhere, Reads, Writes, MayRead}
use Rattle.swd_observer.specs.declared.observer.RequestEffect.TheVariants.{MayWrite}
use Rattle.swd_observer.specs.Observing.{observed_doubt, observer_doubted, observer_arrival_of, observed_kind}
use Rattle.swd_observer.specs.Observing.{is_observed_read_kind, observer_unanswered, observed_unanswered_read}
use Rattle.swd_observer.specs.Observing.{observed_may_access}
use Rattle.swd_observer.specs.Explained.{ObservedSince, one_observed}
use Rattle.swd_observer.specs.Knows.{ObservedResting, ObservedFlight, ObserverHolds, ObserverKnows, here}
use Rattle.swd_observer.specs.Laws.{ObserverAtLost, observed_list_flushed}
use Rattle.swd_observer.proofs.ExplainLemmas.{observed_since_may_took, observed_since_may_not}
use Rattle.swd_observer.proofs.KnownLemmas.{observer_knows_stays, observed_transfer_at_tar, observer_unsent}
use Rattle.swd_observer.proofs.AskLemmas.{ObservedKindFits, observed_kind_fits, is_observed_harmless}
use Rattle.swd_observer.proofs.AskLemmas.{observed_register_for}
use Rattle.swd_observer.proofs.NotedLemmas.{observer_unanswered_older}
use Rattle.swd_observer.proofs.OlderLemmas.{observer_awaits_none, observer_all_flushed}
use Rattle.swd_observer.proofs.OkayLemmas.{ObservedSame}
use Rattle.swd_observer.proofs.GivenUpLemmas.{observer_knows_before}
use Rattle.swd_observer.proofs.DoubtLemmas.{observer_holds_in_doubt, observer_doubted_unsent}

abbrev lost_read : Option ℕ → ℕ → ObservedAccess
lost_read tar place = record { place = place; read = true; addr = tar; word = None; how = May }

-- nothing was accepted
pub observer_no_lost_read : (before : List Transfer) (told : List ObservedAccess) (read : Bool) (place : ℕ)
    (d : Observer) (x : Target) → d.begun ≡ None → ObserverHolds (ObservedSince before told) d x
    → ObserverHolds (ObservedSince before (told
    ++ one_observed (if read then observed_may_access true d.tar None place else None)))
    (if read then record d { tar = None } else d) x
observer_no_lost_read before told false place d x rest h =
    subst (λ l. ObserverHolds (ObservedSince before l) d x) (sym (append-nil told)) h
observer_no_lost_read before told true place d x rest h =
    let r : ObservedResting (ObservedSince before told) d.tar x =
    subst (λ b. ObservedFlight (ObservedSince before told) b d.increments d.tar x) rest h.flight in
    let s : ObservedResting (ObservedSince before (told ++ lost_read d.tar place ∷ [])) None x = record {
      now = observed_since_may_not before told (lost_read d.tar place) x.memory.log refl r.now;
      later = λ c k. observed_since_may_not before told (lost_read d.tar place) (port_completion c x).memory.log refl
          (r.later c k);
      aimed = tt;
    } in
    record {
      select = h.select;
      increments = h.increments;
      range = tt;
      flight = subst (λ b. ObservedFlight (ObservedSince before (told ++ lost_read d.tar place ∷ [])) b d.increments
          None x) (sym rest) s;
    }

-- a DRW read was accepted
aimed_at : (tar : Option ℕ) (x : Target) → IfSome tar (λ a. (x.tar ≡ Some a) × (x.pending ≡ None))
    → IfSome tar (λ a. x.tar ≡ Some a)
aimed_at None x h = tt
aimed_at (Some a) x h = h.0

later_read : (before : List Transfer) (told : List ObservedAccess) (place : ℕ) (tar : Option ℕ) (x : Target)
    (c : Choice) (chosen : Choice) (test : Bool) → bus_succeeds (AccessRead (unwrap_or x.tar c.address)) x.memory ≡ test
    → IfSome tar (λ a. x.tar ≡ Some a) → ObservedSince before told x.memory.log
    → ObservedSince before (told ++ lost_read tar place ∷ [])
    (port_completion c (port_after_okay chosen DrwRead x)).memory.log
later_read before told place tar x c chosen true test at e = rw test
    (observed_since_may_took before told (lost_read tar place)
    (bus_transfer_of (pending_access_at (unwrap_or x.tar c.address) DrwReads) x.memory) x.memory.log refl
    (record { read = refl; addr = observed_transfer_at_tar tar c x at; word = tt }) e)
later_read before told place tar x c chosen false test at e = rw test
    (observed_since_may_not before told (lost_read tar place) x.memory.log refl e)

-- a DRW read that was accepted unseen: what is known is true, once it is reported as `May`, with TAR unknown from
-- then on
pub observer_holds_lost_read : (before : List Transfer) (told : List ObservedAccess) (place : ℕ) (d : Observer)
    (x : Target) (chosen : Choice) → d.begun ≡ None → ObserverHolds (ObservedSince before told) d x
    → ObserverHolds (ObservedSince before (told ++ lost_read d.tar place ∷ [])) (record d { tar = None })
    (port_after_okay chosen DrwRead x)
observer_holds_lost_read before told place d x chosen rest h =
    let r : ObservedResting (ObservedSince before told) d.tar x =
    subst (λ b. ObservedFlight (ObservedSince before told) b d.increments d.tar x) rest h.flight in
    let s : ObservedResting (ObservedSince before (told ++ lost_read d.tar place ∷ [])) None
    (port_after_okay chosen DrwRead x) = record {
      now = observed_since_may_not before told (lost_read d.tar place) x.memory.log refl r.now;
      later = λ c k. later_read before told place d.tar x c chosen
          (bus_succeeds (AccessRead (unwrap_or x.tar c.address)) x.memory) refl
          (aimed_at d.tar x r.aimed) r.now;
      aimed = tt;
    } in
    record {
      select = h.select;
      increments = h.increments;
      range = tt;
      flight = subst (λ b. ObservedFlight (ObservedSince before (told ++ lost_read d.tar place ∷ [])) b d.increments
          None (port_after_okay chosen DrwRead x)) (sym rest) s;
    }

writes_not : (w : Written) → DrwRead ≡ observed_register_for w → ⊥
writes_not ToSelect e = cc
writes_not ToCsw e = cc
writes_not ToTar e = cc
writes_not ToDrw e = cc

reads_drw : (k : RequestEffect) (r : Register) → r ≡ DrwRead → ObservedKindFits k r → is_observed_read_kind k ≡ true
reads_drw Other r e h = absurd (let clash : false ≡ true = sym (ap is_observed_harmless e) ∙ h in cc)
reads_drw (Elsewhere read) r e h = absurd (let clash : false ≡ true = sym (ap is_observed_harmless e) ∙ h in cc)
reads_drw Reads r e h = refl
reads_drw (Writes w) r e h = absurd (writes_not w (sym e ∙ h))
reads_drw MayRead r e h = refl
reads_drw (MayWrite w) r e (inl h) = absurd (writes_not w (sym e ∙ h))
reads_drw (MayWrite w) r e (inr h) = absurd (let clash : false ≡ true = sym (ap is_observed_harmless e) ∙ h in cc)

-- what was left, by the reply that nobody saw
abbrev Lost : List Transfer → List ObservedAccess → Observer → Request → ℕ → Target → Type 0
Lost before told o q place x = ObserverHolds
    (ObservedSince before ((told ++ one_observed (observed_doubt o))
    ++ one_observed (observed_unanswered_read (observed_kind (observer_doubted o).select q) (observer_doubted o).tar
    place))) (observer_unanswered (observed_kind (observer_doubted o).select q) (observer_doubted o)) x

kept_lost : (before : List Transfer) (told : List ObservedAccess) (o : Observer) (q : Request) (place : ℕ)
    (x y : Target) → ObservedSame x y
    → ObserverKnows (ObservedSince before told) o x → Lost before told o q place y
kept_lost before told o q place x y s k =
    observer_no_lost_read before (told ++ one_observed (observed_doubt o))
    (is_observed_read_kind (observed_kind (observer_doubted o).select q)) place (observer_doubted o) y
    refl (observer_holds_in_doubt before told o x y s k)

-- a target has the same as itself of what an observer keeps
pub observed_same_self : (x : Target) → ObservedSame x x
observed_same_self x = record { select = refl; increments = refl; tar = refl; pending = refl; memory = refl }

drw_lost : (before : List Transfer) (told : List ObservedAccess) (o : Observer) (q : Request) (place : ℕ) (x : Target)
    (chosen : Choice)
    → port_register x.select q ≡ DrwRead → ObserverKnows (ObservedSince before told) o x
    → Lost before told o q place (port_after_okay chosen (port_register x.select q) x)
drw_lost before told o q place x chosen named k =
    let h : ObserverHolds (ObservedSince before (told ++ one_observed (observed_doubt o))) (observer_doubted o) x =
    observer_holds_in_doubt before told o x x (observed_same_self x) k in
    let reads : is_observed_read_kind (observed_kind (observer_doubted o).select q) ≡ true =
    reads_drw (observed_kind (observer_doubted o).select q) (port_register x.select q) named
    (observed_kind_fits (observer_doubted o).select x.select q h.select) in
    subst (λ r. Lost before told o q place (port_after_okay chosen r x)) (sym named)
    (subst (λ b. ObserverHolds (ObservedSince before ((told ++ one_observed (observed_doubt o))
    ++ one_observed (if b then observed_may_access true (observer_doubted o).tar None place else None)))
    (if b then record (observer_doubted o) { tar = None } else observer_doubted o) (port_after_okay chosen DrwRead x))
    (sym reads)
    (observer_holds_lost_read before (told ++ one_observed (observed_doubt o)) place (observer_doubted o) x chosen refl
    h))

abbrev is_drw_read : Register → Bool
is_drw_read DrwRead = true
is_drw_read r = false

drw_read_is : (r : Register) → is_drw_read r ≡ true → r ≡ DrwRead
drw_read_is DrwRead e = refl
drw_read_is r e = absurd (cc)

pends_kept : (r : Register) (p : Option Drw) → is_drw_read r ≡ false → pending_drw_once_read r p ≡ p
pends_kept DrwRead p e = absurd (cc)
pends_kept r p e = refl

okay_lost : (before : List Transfer) (told : List ObservedAccess) (o : Observer) (q : Request) (place : ℕ) (x : Target)
    (chosen : Choice)
    (drw : Bool) → is_drw_read (port_register x.select q) ≡ drw → ObserverKnows (ObservedSince before told) o x
    → Lost before told o q place (port_after_okay chosen (port_register x.select q) x)
okay_lost before told o q place x chosen true e k =
    drw_lost before told o q place x chosen (drw_read_is (port_register x.select q) e) k
okay_lost before told o q place x chosen false e k = kept_lost before told o q place x _ (record {
  select = refl;
  increments = refl;
  tar = refl;
  pending = pends_kept (port_register x.select q) x.pending e;
  memory = refl;
}) k

lost_by : (before : List Transfer) (told : List ObservedAccess) (o : Observer) (q : Request) (place : ℕ) (x : Target)
    (chosen : Choice)
    (reply : Reply) → ObserverKnows (ObservedSince before told) o x
    → Lost before told o q place (port_target_after chosen reply (port_register x.select q) q.ap x)
lost_by before told o q place x chosen Okay k =
    okay_lost before told o q place x chosen (is_drw_read (port_register x.select q)) refl k
lost_by before told o q place x chosen Waits k = kept_lost before told o q place x _
    (record { select = refl; increments = refl; tar = refl; pending = refl; memory = refl }) k
lost_by before told o q place x chosen Faults k = kept_lost before told o q place x _
    (record { select = refl; increments = refl; tar = refl; pending = refl; memory = refl }) k
lost_by before told o q place x chosen Silent k = kept_lost before told o q place x x (observed_same_self x) k

-- an observer without an unconfirmed write has none, whether or not TAR becomes unknown at a lost acknowledgement
pub observer_unanswered_unsent : (read : Bool) (d : Observer) → d.sent ≡ None
    → (if read then record d { tar = None } else d).sent ≡ None
observer_unanswered_unsent true d e = e
observer_unanswered_unsent false d e = e

lost_now : (before : List Transfer) (told : List ObservedAccess) (o : Observer) (q : Request) (seen place : ℕ)
    (mark : Mark) (c : Choice) (s t : Port) → PortAsksNow mark c s q seen t
    → ObserverKnows (ObservedSince before told) o s.target
    → ObserverKnows (ObservedSince before ((told ++ one_observed (observed_doubt o))
    ++ one_observed (observed_unanswered_read (observed_kind (observer_doubted o).select q) (observer_doubted o).tar
    place))) (observer_unanswered (observed_kind (observer_doubted o).select q) (observer_doubted o)) t.target
lost_now before told o q seen place mark c s t h k =
    here (observer_unsent (observer_unanswered (observed_kind (observer_doubted o).select q) (observer_doubted o)).sent
    _ (observer_unanswered_unsent (is_observed_read_kind (observed_kind (observer_doubted o).select q))
    (observer_doubted o) (observer_doubted_unsent o)))
    (subst (λ z. ObserverHolds (ObservedSince before ((told ++ one_observed (observed_doubt o))
    ++ one_observed (observed_unanswered_read (observed_kind (observer_doubted o).select q) (observer_doubted o).tar
    place)))
    (observer_arrival_of z (observer_unanswered (observed_kind (observer_doubted o).select q) (observer_doubted o)))
    t.target) (sym (observer_unanswered_unsent (is_observed_read_kind (observed_kind (observer_doubted o).select q))
    (observer_doubted o) (observer_doubted_unsent o)))
    (subst (Lost before told o q place) (sym (ap (λ p. p.target) h.after))
    (lost_by before told o q place s.target c (port_reply mark s.target q) k)))

lost_asked : (before : List Transfer) (told : List ObservedAccess) (o : Observer) (q : Request) (seen place : ℕ)
    (s t : Port) → PortAsks s q seen t → ObserverKnows (ObservedSince before told) o s.target
    → ObserverKnows (ObservedSince before ((told ++ one_observed (observed_doubt o))
    ++ one_observed (observed_unanswered_read (observed_kind (observer_doubted o).select q) (observer_doubted o).tar
    place))) (observer_unanswered (observed_kind (observer_doubted o).select q) (observer_doubted o)) t.target
lost_asked before told o q seen place s t (a, d, b, mark, c, first, kept, now, last) k =
    observer_knows_stays _ _ b t last (lost_now before told o q seen place mark c d b now
    (observer_knows_before (ObservedSince before told) o q s d (a, mark, first, kept) k))

-- after a request without acknowledgement what is known is true, once the transfer in flight is reported as `May`, and
-- the request itself as `May` if it may read DRW
pub observer_knows_lost : ObserverAtLost
observer_knows_lost before told o q seen place s t w k =
    observer_awaits_none _ _ (observer_unanswered (observed_kind (observer_doubted o).select q)
    (observer_doubted o)) t.target
    (observer_unanswered_older (is_observed_read_kind (observed_kind (observer_doubted o).select q))
    (observer_doubted o)) (lost_asked before (observed_list_flushed told o) o q seen place s t w.asks
    (observer_all_flushed before told o s.target k))
