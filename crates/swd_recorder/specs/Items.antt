-- The items of a wire's calls. The division of the calls into items is this project's choice.
use Rattle.std.specs.Prelude.{ℕ, ◌+◌, ◌==◌, ◌≡◌, ◌≢◌, Bool, List, [], ◌∷◌, ◌++◌, Option, Some, None, if◌then◌else◌}
use Rattle.swd_bits.specs.Bits.{low_bits}
use Rattle.swd_bits.specs.declared.ack.Ack.{Ack}
use Rattle.swd_bits.specs.declared.ack.Ack.TheVariants.{Ok as AckOk, Wait as AckWait, Fault as AckFault}
use Rattle.swd_bits.specs.declared.request.Request.{Request}
use Rattle.swd_bits.specs.declared.tx.TxEnd.{TxEnd}
use Rattle.swd_bits.specs.declared.tx.TxEnd.TheVariants.{Wait, Fault, NoAck}
use Rattle.swd_port.specs.declared.call.Call.{Call}
use Rattle.swd_port.specs.declared.cue.Cue.{Cue}
use Rattle.swd_port.specs.declared.cue.Cue.TheVariants.{Lead, Ask, Take, Give, Pass}
use Rattle.swd_trace.specs.Stands.{stand_moved_in}
use Rattle.swd_trace.specs.declared.item.Item.{Item}
use Rattle.swd_trace.specs.declared.item.Item.TheVariants.{Reset, Switch, Idle, Tx}
use Rattle.swd_recorder.specs.declared.in_hand.InHand.{InHand}

-- ---- items after items

-- a last item, and one more: zeros after zeros are one item
abbrev pub recorded_joined : Item → Item → List Item
recorded_joined (Idle m) (Idle n) = Idle (m + n) ∷ []
recorded_joined last item = last ∷ item ∷ []

-- items and one more
abbrev pub recorded_with_item : List Item → Item → List Item
recorded_with_item [] item = item ∷ []
recorded_with_item (last ∷ []) item = recorded_joined last item
recorded_with_item (first ∷ second ∷ items) item = first ∷ recorded_with_item (second ∷ items) item

-- items and others, one by one
abbrev pub recorded_with_items : List Item → List Item → List Item
recorded_with_items items [] = items
recorded_with_items items (item ∷ more) = recorded_with_items (recorded_with_item items item) more

-- the number of idle cycles at the end
abbrev pub recorded_idle_in : Item → ℕ
recorded_idle_in (Idle n) = n
recorded_idle_in item = 0

abbrev pub recorded_idle_at_end : List Item → ℕ
recorded_idle_at_end [] = 0
recorded_idle_at_end (item ∷ []) = recorded_idle_in item
recorded_idle_at_end (first ∷ second ∷ items) = recorded_idle_at_end (second ∷ items)

-- ---- the items of one call

-- `ones` ones, if any, and with the switch the same again
abbrev pub recorded_high_items : ℕ → Bool → List Item
recorded_high_items ones switch =
    if ones == 0 then [] else Reset ones ∷ (if switch then Switch ∷ Reset ones ∷ [] else [])

-- `zeros` zeros, if any
abbrev pub recorded_low_items : ℕ → List Item
recorded_low_items zeros = if zeros == 0 then [] else Idle zeros ∷ []

-- the acknowledgement with this number, the first bit in time least significant
abbrev pub recorded_ack_seen : ℕ → Option Ack
recorded_ack_seen seen =
    if seen == 1 then Some AckOk
    else if seen == 2 then Some AckWait
    else if seen == 4 then Some AckFault
    else None

-- a whole transaction
abbrev pub recorded_tx_item : Request → TxEnd → List Item
recorded_tx_item request end = Tx (record { request = request; result = end }) ∷ []

-- a transaction without acknowledgement is complete
abbrev pub recorded_unanswered : Request → ℕ → Option Ack → List Item
recorded_unanswered request seen (Some ack) = []
recorded_unanswered request seen None = recorded_tx_item request (NoAck seen)

-- a transaction with an acknowledgement isn't complete yet
abbrev pub recorded_answered : Request → Option Ack → Option InHand
recorded_answered request (Some ack) = Some (record { request = request; ack = ack })
recorded_answered request None = None

-- the result of a transaction whose data phase has these 33 bits
abbrev pub recorded_moved : ℕ → TxEnd
recorded_moved bits = stand_moved_in (low_bits 33 bits)

-- the result of a transaction that was answered WAIT or FAULT
abbrev pub recorded_refused : Ack → TxEnd
recorded_refused AckFault = Fault
recorded_refused ack = Wait

-- The items of a call, with this incomplete transaction. A data phase, or the turnaround after WAIT or FAULT,
-- completes it.
abbrev pub recorded_items_of : Option InHand → Cue → ℕ → List Item
recorded_items_of in_hand (Lead ones undriven switch zeros) seen =
    recorded_high_items ones switch ++ recorded_low_items zeros
recorded_items_of in_hand (Ask request) seen = recorded_unanswered request seen (recorded_ack_seen seen)
recorded_items_of (Some asked) Take seen = recorded_tx_item asked.request (recorded_moved seen)
recorded_items_of (Some asked) (Give bits) seen = recorded_tx_item asked.request (recorded_moved bits)
recorded_items_of (Some asked) Pass seen = recorded_tx_item asked.request (recorded_refused asked.ack)
recorded_items_of None cue seen = []

-- the incomplete transaction after a call
abbrev pub recorded_in_hand_once : Cue → ℕ → Option InHand
recorded_in_hand_once (Ask request) seen = recorded_answered request (recorded_ack_seen seen)
recorded_in_hand_once cue seen = None

-- ---- the items of several calls

-- the incomplete transaction after these calls, the last one first
abbrev pub recorded_in_hand_by : List Call → Option InHand
recorded_in_hand_by [] = None
recorded_in_hand_by (call ∷ calls) = recorded_in_hand_once call.cue call.seen

-- the items of these calls, the last call first
abbrev pub recorded_items_by : List Call → List Item
recorded_items_by [] = []
recorded_items_by (call ∷ calls) = recorded_with_items (recorded_items_by calls)
    (recorded_items_of (recorded_in_hand_by calls) call.cue call.seen)

-- The items were truncated at one of these calls: they are those of the calls before it, and it would have
-- added more.
pub record RecordingCutOff (items : List Item) (calls : List Call) : Type 0 where
  pub after : List Call
  pub call : Call
  pub before : List Call
  pub parts : calls ≡ after ++ call ∷ before
  pub whole : items ≡ recorded_items_by before
  pub more : recorded_items_of (recorded_in_hand_by before) call.cue call.seen ≢ []
