-- The items of the calls of a session, with one call more.
use Rattle.std.proofs.Common.{◌≡◌, ◌∙◌, List, [], ◌∷◌, ◌++◌, Option, None, refl, sym, ap, subst, append_assoc}
use Rattle.std.proofs.Common.{append-nil}
use Rattle.swd_port.specs.declared.cue.Cue.{Cue}
use Rattle.swd_port.specs.declared.outside.Disconnected.{Disconnected}
use Rattle.std.specs.Prelude.{ℕ, Result}
use Rattle.swd_port.specs.Transports.{PortAttempt, port_attempt}
use Rattle.swd_trace.specs.declared.item.Item.{Item}
use Rattle.swd_recorder.specs.declared.in_hand.InHand.{InHand}
use Rattle.swd_check.specs.Watched.{CheckHolds, CheckTakes, checked_rest}
use Rattle.swd_conform.specs.Sessions.{SessionHas, session_hand, session_hand_once, session_items, session_items_of}
use Rattle.swd_conform.specs.Sessions.{session_shown}
use Rattle.swd_conform.specs.declared.session.SessionCheck.{SessionCheck}

-- what a call leaves in hand doesn't depend on what came before it
session_hand_more : (in_hand : Option InHand) (made : List PortAttempt) (call : PortAttempt)
    → session_hand in_hand (made ++ call ∷ []) ≡ session_hand_once call.cue (session_shown call.cue call.told)
session_hand_more in_hand [] call = refl
session_hand_more in_hand (first ∷ made) call =
    session_hand_more (session_hand_once first.cue (session_shown first.cue first.told)) made call

-- its items come behind those of the others
session_items_more : (in_hand : Option InHand) (made : List PortAttempt) (call : PortAttempt)
    → session_items in_hand (made ++ call ∷ []) ≡ session_items in_hand made
    ++ session_items_of (session_hand in_hand made) call.cue (session_shown call.cue call.told)
session_items_more in_hand [] call = append-nil _
session_items_more in_hand (first ∷ made) call =
    let next = session_hand_once first.cue (session_shown first.cue first.told) in
    let items = session_items_of in_hand first.cue (session_shown first.cue first.told) in
    ap (λ (rest : List Item). items ++ rest) (session_items_more next made call)
    ∙ sym (append_assoc items (session_items next made)
    (session_items_of (session_hand next made) call.cue (session_shown call.cue call.told)))

-- a check takes the items of one call more
pub session_takes : {A : Type 0} (cue : Cue) (told : Result ℕ Disconnected) (s t : SessionCheck A)
    → CheckTakes (session_items_of s.in_hand cue (session_shown cue told)) s.items.check t.items.check
    → t.in_hand ≡ session_hand_once cue (session_shown cue told) → (made : List PortAttempt) → SessionHas made s
    → SessionHas (made ++ port_attempt cue told ∷ []) t
session_takes cue told s t takes hand made has =
    let call = port_attempt cue told in
    let before = session_items None made in
    record {
      in_hand = hand ∙ sym (session_hand_more None made call);
      holds = subst (λ (items : List Item). CheckHolds checked_rest t.items.check items)
          (ap (λ (in_hand : Option InHand). before ++ session_items_of in_hand cue (session_shown cue told)) has.in_hand
          ∙ sym (session_items_more None made call))
          (takes checked_rest before has.holds);
    }
