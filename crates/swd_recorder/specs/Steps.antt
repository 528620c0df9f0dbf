-- How a recording corresponds to its wire.
use Rattle.std.specs.Prelude.{ℕ, suc, ◌≡◌, ◌+◌, Bool, true, false, List, [], ◌∷◌, ◌++◌, Option, Some, None}
use Rattle.swd_bits.specs.Bits.{bit}
use Rattle.swd_bits.specs.declared.request.Request.{Request}
use Rattle.swd_bits.specs.declared.tx.TxEnd.TheVariants.{NoAck}
use Rattle.swd_trace.specs.declared.item.Item.{Item}
use Rattle.swd_trace.specs.declared.item.Item.TheVariants.{Reset, Switch, Idle, Tx, Junk, Cut}
use Rattle.swd_port.specs.declared.call.Call.{Call}
use Rattle.swd_port.specs.declared.cue.Cue.{Cue}
use Rattle.swd_port.specs.declared.cue.Cue.TheVariants.{Lead}
use Rattle.swd_port.specs.Steps.{PortMayStep, is_port_ask}
use Rattle.swd_port.specs.declared.wire.Due.{Due}
use Rattle.swd_port.specs.declared.wire.Due.TheVariants.{Nothing, Take, Give, Pass, Lost}
use Rattle.swd_recorder.specs.declared.in_hand.InHand.{InHand}
use Rattle.swd_recorder.specs.Chains.{RecordedPlace, Silent, recorded_place_of, recorded_may_ask}
use Rattle.swd_recorder.specs.Kept.{RecorderKept}

-- how many of the calls are requests
abbrev pub recorder_ask_count : List Call → ℕ
recorder_ask_count [] = 0
recorder_ask_count (call ∷ calls) = recorder_ask_count calls + bit (is_port_ask call.cue)

-- the last item is a transaction without acknowledgement exactly if the wire is lost
abbrev pub is_recorded_place_due : Due → RecordedPlace → Bool
is_recorded_place_due Lost Silent = true
is_recorded_place_due Lost place = false
is_recorded_place_due due place = recorded_may_ask place

-- the number of transactions
abbrev pub recorded_transactions : List Item → ℕ
recorded_transactions [] = 0
recorded_transactions (Tx tx ∷ items) = suc (recorded_transactions items)
recorded_transactions (Reset n ∷ items) = recorded_transactions items
recorded_transactions (Switch ∷ items) = recorded_transactions items
recorded_transactions (Idle n ∷ items) = recorded_transactions items
recorded_transactions (Junk b ∷ items) = recorded_transactions items
recorded_transactions (Cut bits ∷ items) = recorded_transactions items

-- one more is incomplete if the rest of it is due
abbrev pub recorded_due_count : Due → ℕ
recorded_due_count Nothing = 0
recorded_due_count Take = 1
recorded_due_count Give = 1
recorded_due_count Pass = 1
recorded_due_count Lost = 0

-- unless they are truncated, the items end as they do when this is due
abbrev pub IsRecordedPlaced : Due → RecorderKept → Type 0
IsRecordedPlaced due kept = kept.is_cut ≡ false → is_recorded_place_due due (recorded_place_of kept.items) ≡ true

-- a transaction is incomplete exactly if the rest of it is due
abbrev pub recorded_in_hand_count : Option InHand → ℕ
recorded_in_hand_count None = 0
recorded_in_hand_count (Some asked) = 1

-- a line reset inside a transaction
abbrev pub is_recorded_inside : Option InHand → Cue → Bool
is_recorded_inside (Some asked) (Lead ones undriven switch zeros) = true
is_recorded_inside in_hand cue = false

-- a wire with these items allows the call, with this incomplete transaction
abbrev pub RecorderMayAdd : Option InHand → Cue → RecorderKept → Type 0
RecorderMayAdd in_hand cue kept = (due : Due) × PortMayStep due cue
    × (recorded_due_count due ≡ recorded_in_hand_count in_hand) × IsRecordedPlaced due kept

-- the last item is a transaction without acknowledgement
abbrev pub RecordedEndsUnacknowledged : List Item → Type 0
RecordedEndsUnacknowledged items =
    (front : List Item) × (request : Request) × (seen : ℕ)
    × (items ≡ front ++ Tx (record { request = request; result = NoAck seen }) ∷ [])
