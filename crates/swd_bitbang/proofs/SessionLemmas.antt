-- Sessions that go on, and that end.
use Rattle.std.proofs.Common.{◌≡◌, ℕ, suc, ◌-◌, ◌<◌, ◌^◌, min, List, [], ◌∷◌, ◌++◌, length, take, drop, get_or, Option}
use Rattle.std.proofs.Common.{Some, None, true, false, Result, Ok, Err, OnOk, IfErr, refl, sym, ap, subst, ◌∙◌}
use Rattle.std.proofs.Common.{append_assoc, append-nil, drop-cons, take-append-drop}
use Rattle.swd_port.specs.Bus.{Bus}
use Rattle.swd_io.specs.declared.block.Block.{Block}
use Rattle.swd_sequences.specs.declared.character.Character.{Character}
use Rattle.swd_sequences.specs.declared.character.Character.TheVariants.{Moves, Looks, Drives, Quits}
use Rattle.swd_bitbang.specs.declared.pins.PinReply.{PinReply}
use Rattle.swd_bitbang.specs.declared.pins.PinReply.TheVariants.{Silent, Level, Quit, Bad}
use Rattle.swd_bitbang.specs.declared.pins.Pins.{Pins}
use Rattle.swd_bitbang.specs.declared.serving.Served.{Served}
use Rattle.swd_bitbang.specs.declared.serving.Served.TheVariants as ends
use Rattle.swd_bitbang.specs.declared.serving.Server.{Server}
use Rattle.swd_sequences.specs.Alphabet.{alphabet_character}
use Rattle.swd_bitbang.specs.Steps.{PinsStep}
use Rattle.swd_bitbang.specs.Protocols.{IsProtocolWhole, ProtocolEnd, ProtocolEndsAs, ProtocolServed, ProtocolSession}
use Rattle.swd_bitbang.specs.Protocols.{ProtocolStep}
use Rattle.swd_bitbang.specs.Sessions.{IsBitbangEnd, IsBitbangOpen, PinsAnswer}
use Rattle.swd_bitbang.specs.Watching.{PinsReach}
use Rattle.swd_bitbang.specs.Serving.{IsServingCutOff, IsServingStop, ServingBegin, ServingStopsIn, ServingTaken}
use Rattle.swd_bitbang.specs.Serving.{bitbang_end_of_sign}

-- one byte more
pub serving_session_one_more : {S : Type 0} (step : ProtocolStep S) (text answers : List ℕ) (byte : ℕ) (more : List ℕ)
    (s m t : S) → ProtocolSession step text answers s m → step byte more m t
    → ProtocolSession step (text ++ byte ∷ []) (answers ++ more) s t
serving_session_one_more step [] answers byte more s m t h a = (
  t,
  more,
  [],
  subst (λ x. step byte more x t) h.1 a,
  (refl, refl),
  ap (λ x. x ++ more) h.0 ∙ sym (append-nil more),
)
serving_session_one_more step (b ∷ text) answers byte more s m t h a = (
  h.0,
  h.1,
  h.2 ++ more,
  h.3,
  serving_session_one_more step text h.2 byte more h.0 m t h.4 a,
  ap (λ x. x ++ more) h.5 ∙ append_assoc h.1 h.2 more,
)

-- bytes, and then more
session_on : {S : Type 0} (step : ProtocolStep S) (text answers next more : List ℕ) (s m t : S)
    → ProtocolSession step text answers s m → ProtocolSession step next more m t
    → ProtocolSession step (text ++ next) (answers ++ more) s t
session_on step [] answers next more s m t h g =
    subst (λ l. ProtocolSession step next (l ++ more) s t) (sym h.0)
    (subst (λ x. ProtocolSession step next more x t) h.1 g)
session_on step (b ∷ text) answers next more s m t h g = (
  h.0,
  h.1,
  h.2 ++ more,
  h.3,
  session_on step text h.2 next more h.0 m t h.4 g,
  ap (λ l. l ++ more) h.5 ∙ append_assoc h.1 h.2 more,
)

-- pins that are reached from some that were reached themselves are reached from the first ones
pub pins_reach_further : {D A : Type 0} (bus : D → Bus) (s m t : Pins D A) → PinsReach bus s m → PinsReach bus m t
    → PinsReach bus s t
pins_reach_further bus s m t h g =
    (h.0 ++ g.0, h.1 ++ g.1, session_on (PinsAnswer bus) h.0 h.1 g.0 g.1 s m t h.2 g.2)

-- pins reach themselves
pub pins_reach_themselves : {D A : Type 0} (bus : D → Bus) (s : Pins D A) → PinsReach bus s s
pins_reach_themselves bus s = ([], [], (refl, refl))

-- a sign that ends no session leaves it open
pub bitbang_open_sign : (sign : PinReply) (place byte : ℕ) → bitbang_end_of_sign sign place byte ≡ None
    → IsBitbangOpen sign
bitbang_open_sign Silent place byte e = tt
bitbang_open_sign (Level level) place byte e = tt
bitbang_open_sign Quit place byte e = absurd cc
bitbang_open_sign Bad place byte e = absurd cc

-- a character that ends the session leaves the pins as they were
pub record BitbangEndedBy {D A : Type 0} (found : Option Character) (place byte : ℕ) (served : Served)
    (s t : Pins D A) : Type 0 where
  pub same : t ≡ s
  pub why : (taken : List ℕ) → alphabet_character byte ≡ found → place ≡ min (length taken) (2 ^ 64 - 1)
      → IsBitbangEnd served s taken byte
  pub stops : IsServingStop served

quiet : {D A : Type 0} (found : Option Character) (place byte : ℕ) (served : Served) (s t : Pins D A) (sign : PinReply)
    → IsBitbangOpen sign → bitbang_end_of_sign sign place byte ≡ Some served
    → BitbangEndedBy found place byte served s t
quiet found place byte served s t Silent o e = absurd cc
quiet found place byte served s t (Level level) o e = absurd cc
quiet found place byte served s t Quit o e = absurd o
quiet found place byte served s t Bad o e = absurd o

-- a character whose sign ends the session leaves the pins unchanged, and is the reason for that end
pub bitbang_sign_ends_session : {D A : Type 0} (bus : D → Bus) (found : Option Character) (place byte : ℕ)
    (served : Served)
    (s t : Pins D A) (sign : PinReply)
    → PinsStep bus found s sign t → bitbang_end_of_sign sign place byte ≡ Some served
    → BitbangEndedBy found place byte served s t
bitbang_sign_ends_session bus (Some (Moves false level)) place byte served s t sign h e = quiet _ place byte served s t
    sign
    (subst IsBitbangOpen (sym h.0) tt) e
bitbang_sign_ends_session bus (Some (Moves true level)) place byte served s t sign h e = quiet _ place byte served s t
    sign
    (subst IsBitbangOpen (sym h.0) tt) e
bitbang_sign_ends_session bus (Some Looks) place byte served s t sign h e =
    quiet _ place byte served s t sign (subst IsBitbangOpen (sym h.1) tt) e
bitbang_sign_ends_session bus (Some (Drives drives)) place byte served s t sign h e = quiet _ place byte served s t sign
    (subst IsBitbangOpen (sym h.0) tt) e
bitbang_sign_ends_session bus (Some Quits) place byte served s t sign h e =
    let is : ends.Quit ≡ served =
    (let k : Some ends.Quit ≡ Some served = ap (λ (x : PinReply). bitbang_end_of_sign x place byte) (sym h.0) ∙ e in cc)
    in
    record {
      same = h.1;
      why = λ taken found at. subst (λ (x : Served). IsBitbangEnd x s taken byte) is found;
      stops = subst IsServingStop is tt;
    }
bitbang_sign_ends_session bus (Some character) place byte served s t sign h e = quiet _ place byte served s t sign
    (subst IsBitbangOpen (sym h.0) tt) e
bitbang_sign_ends_session bus None place byte served s t sign h e =
    let is : ends.Bad place byte ≡ served =
    (let k : Some (ends.Bad place byte) ≡ Some served = ap (λ (x : PinReply). bitbang_end_of_sign x place byte)
    (sym h.0)
    ∙ e in cc) in
    record {
      same = h.1;
      why = λ taken found at. subst (λ (x : Served). IsBitbangEnd x s taken byte) is (found, refl, at);
      stops = subst IsServingStop is tt;
    }

-- a piece of which a beginning was taken
pub serving_piece_parted : (seen piece : List ℕ) (i : ℕ) → i < length piece
    → seen ++ piece ≡ (seen ++ take i piece) ++ get_or piece i 0 ∷ drop (suc i) piece
serving_piece_parted seen piece i h =
    sym (append_assoc seen (take i piece) _
    ∙ ap (λ x. seen ++ x) (ap (λ x. take i piece ++ x) (sym (drop-cons piece i 0 h)) ∙ take-append-drop i piece))

-- what the bytes so far return is queued or written, whether the session ended in a piece or not
pub record ServingAnswersQueued {D A S V W : Type 0} (step : ProtocolStep S) (contents : W → Option (List ℕ))
    (begin : ServingBegin S) (server : Server D A S V) (block : Block W) (text : List ℕ) : Type 0 where
  pub taken : List ℕ
  pub more : List ℕ
  pub is : text ≡ taken ++ more
  -- these were taken, and what they return is queued or written
  pub under_way : ServingTaken step contents begin server block taken

-- after a piece, taken whole or up to the byte that ended the session, what those so far return is queued or written
pub serving_answers_queued : {D A S V W : Type 0} (step : ProtocolStep S) (end : ProtocolEnd S)
    (contents : W → Option (List ℕ)) (begin : ServingBegin S) (server : Server D A S V) (block : Block W)
    (text : List ℕ) (r : Result (Unit {0}) Served) → OnOk r (ServingTaken step contents begin server block text)
    → IfErr r (λ served. ServingStopsIn step end contents begin server block served text)
    → ServingAnswersQueued step contents begin server block text
serving_answers_queued step end contents begin server block text (Ok u) goes stops =
    record { taken = text; more = []; is = sym (append-nil text); under_way = goes }
serving_answers_queued step end contents begin server block text (Err served) goes stops =
    record { taken = stops.taken; more = stops.byte ∷ stops.more; is = stops.is; under_way = stops.under_way }

-- what follows from a fact about an OK result holds of it
pub serving_on_ok_then : {A E P Q : Type 0} (r : Result A E) → (P → Q) → OnOk r P → OnOk r Q
serving_on_ok_then (Ok x) f p = f p
serving_on_ok_then (Err e) f p = tt

-- what follows from a fact about an error holds of it
pub serving_if_err_then : {A E : Type 0} {P Q : E → Type 0} (r : Result A E) → ((e : E) → P e → Q e) → IfErr r P
    → IfErr r Q
serving_if_err_then (Ok x) f p = tt
serving_if_err_then (Err e) f p = f e p

-- a session that a byte ended
pub serving_session_ends_as : {S : Type 0} (step : ProtocolStep S) (end : ProtocolEnd S) (served : Served)
    (old new : Option (List ℕ)) (text taken : List ℕ) (byte : ℕ) (more : List ℕ) (s t : S)
    → text ≡ taken ++ byte ∷ more → IsServingStop served → end served t taken byte
    → ProtocolServed step old new taken s t
    → IsServingCutOff served × ProtocolEndsAs step end served old new text s t
serving_session_ends_as step end ends.Quit old new text taken byte more s t is stop why goes =
    (tt, record { taken = taken; byte = byte; more = more; is = is; ends = why; goes = goes })
serving_session_ends_as step end (ends.Bad place which) old new text taken byte more s t is stop why goes =
    (tt, record { taken = taken; byte = byte; more = more; is = is; ends = why; goes = goes })
serving_session_ends_as step end ends.Ended old new text taken byte more s t is stop why goes = absurd stop
serving_session_ends_as step end ends.Read old new text taken byte more s t is stop why goes = absurd stop
serving_session_ends_as step end (ends.Write sent) old new text taken byte more s t is stop why goes = absurd stop

-- it says nothing of the end of the text
pub serving_cut_off_is_whole : (served : Served) (left : Option (List ℕ)) → IsServingCutOff served
    → IsProtocolWhole served left
serving_cut_off_is_whole ends.Quit left s = tt
serving_cut_off_is_whole (ends.Bad place which) left s = tt
serving_cut_off_is_whole (ends.Write sent) left s = tt
serving_cut_off_is_whole ends.Ended left s = absurd s
serving_cut_off_is_whole ends.Read left s = absurd s
