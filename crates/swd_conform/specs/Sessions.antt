-- The check of a session: the items of the calls that were made of a transport.
use Rattle.std.specs.Prelude.{ℕ, ◌≡◌, ◌^◌, Bool, true, false, List, [], ◌∷◌, ◌++◌, Option, None, Some, Result, Ok, Err}
use Rattle.std.specs.Prelude.{nat_lt, if◌then◌else◌}
use Rattle.swd_port.specs.declared.call.Call.{Call}
use Rattle.swd_port.specs.declared.cue.Cue.{Cue}
use Rattle.swd_port.specs.declared.cue.Cue.TheVariants.{Ask, Take, Give}
use Rattle.swd_port.specs.declared.outside.Disconnected.{Disconnected}
use Rattle.swd_port.specs.Transports.{PortAttempt}
use Rattle.swd_trace.specs.declared.item.Item.{Item}
use Rattle.swd_recorder.specs.declared.in_hand.InHand.{InHand}
use Rattle.swd_recorder.specs.Items.{recorded_in_hand_once}
use Rattle.swd_remote.specs.declared.kept.RemoteStreams.{RemoteStreams}
use Rattle.swd_remote.specs.declared.line.Way.{Way}
use Rattle.swd_remote.specs.WholeRuns.{GoesOver}
use Rattle.swd_check.specs.declared.checked.Checked.{Checked}
use Rattle.swd_recorder.specs.Calls.{recorded_call_items}
use Rattle.swd_check.specs.Watched.{CheckHolds, CheckSays, checked_rest}
use Rattle.swd_conform.specs.declared.session.SessionCheck.{SessionCheck}

-- What a call of a transport showed: nothing where it failed, or where a number has too many bits.
abbrev pub session_shown : Cue → Result ℕ Disconnected → Option ℕ
session_shown cue (Err gone) = None
session_shown (Ask request) (Ok seen) = if nat_lt seen 8 then Some seen else None
session_shown Take (Ok seen) = if nat_lt seen (2 ^ 33) then Some seen else None
session_shown (Give bits) (Ok seen) = if nat_lt bits (2 ^ 33) then Some 0 else None
session_shown cue (Ok seen) = Some 0

-- the incomplete transaction after a call that showed this
abbrev pub session_hand_once : Cue → Option ℕ → Option InHand
session_hand_once cue None = None
session_hand_once cue (Some seen) = recorded_in_hand_once cue seen

-- the items of such a call, with this incomplete transaction
abbrev pub session_items_of : Option InHand → Cue → Option ℕ → List Item
session_items_of in_hand cue None = []
session_items_of in_hand cue (Some seen) = recorded_call_items in_hand cue seen

-- the incomplete transaction after these calls, the first one first
abbrev pub session_hand : Option InHand → List PortAttempt → Option InHand
session_hand in_hand [] = in_hand
session_hand in_hand (call ∷ calls) = session_hand (session_hand_once call.cue (session_shown call.cue call.told)) calls

-- and their items
abbrev pub session_items : Option InHand → List PortAttempt → List Item
session_items in_hand [] = []
session_items in_hand (call ∷ calls) =
    session_items_of in_hand call.cue (session_shown call.cue call.told)
    ++ session_items (session_hand_once call.cue (session_shown call.cue call.told)) calls

-- a check that took the items of these calls, which are all of the session
pub record SessionHas {A : Type 0} (made : List PortAttempt) (session : SessionCheck A) : Type 0 where
  pub in_hand : session.in_hand ≡ session_hand None made
  pub holds : CheckHolds checked_rest session.items.check (session_items None made)

-- There is a verdict where the session is checked: that on the items of the calls that were made.
abbrev pub IsSessionVerdict : Bool → List PortAttempt → Option Checked → Type 0
IsSessionVerdict true made (Some checked) = CheckSays checked_rest (session_items None made) checked
IsSessionVerdict false made None = Unit {0}
IsSessionVerdict check made verdict = ⊥

-- what went over a line, and the verdict on it
pub record GoesOverChecked {R W : Type 0} (check : Bool) (way : Way) (remaining : R → Option (List ℕ))
    (contents : W → Option (List ℕ)) (sent left : Option (List ℕ)) (line : RemoteStreams R W) (calls : List Call)
    (verdict : Option Checked) : Type 0 where
  pub over : GoesOver way remaining contents sent left line calls
  pub verdict_on : IsSessionVerdict check over.made verdict
