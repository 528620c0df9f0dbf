-- The items of the calls of a wire, whatever its host sends. The division of the calls into items is this project's
-- choice.
use Rattle.std.specs.Prelude.{ℕ, ◌-◌, ◌<◌, ◌^◌, Bool, false, List, [], ◌∷◌, ◌++◌, Option, Some, if◌then◌else◌}
use Rattle.swd_bits.specs.declared.tx.TxEnd.TheVariants.{Moved}
use Rattle.swd_port.specs.declared.call.Call.{Call}
use Rattle.swd_port.specs.declared.cue.Cue.{Cue}
use Rattle.swd_port.specs.declared.cue.Cue.TheVariants.{Lead, Give}
use Rattle.swd_trace.specs.declared.item.Item.{Item}
use Rattle.swd_trace.specs.declared.item.Item.TheVariants.{Reset, Switch}
use Rattle.swd_recorder.specs.declared.in_hand.InHand.{InHand}
use Rattle.swd_recorder.specs.Items.{recorded_tx_item, recorded_low_items, recorded_in_hand_by, recorded_items_of}

-- the switch, and as many ones again, if it is sent
abbrev pub recorded_switch_items : ℕ → Bool → List Item
recorded_switch_items ones switch = if switch then Switch ∷ Reset ones ∷ [] else []

-- A line reset of this many ones in place of a write's data phase. The ones after the turnaround are the data, whose
-- parity is wrong, and the rest are a line reset.
abbrev pub recorded_cut_items : InHand → ℕ → Bool → ℕ → List Item
recorded_cut_items asked ones switch zeros = recorded_tx_item asked.request (Moved 4294967295 false)
    ++ Reset (ones - 34) ∷ (recorded_switch_items ones switch ++ recorded_low_items zeros)

-- the items of a call, with this incomplete transaction
abbrev pub recorded_call_items : Option InHand → Cue → ℕ → List Item
recorded_call_items (Some asked) (Lead ones undriven switch zeros) seen = recorded_cut_items asked ones switch zeros
recorded_call_items in_hand cue seen = recorded_items_of in_hand cue seen

-- the items of these calls, the last call first
abbrev pub recorded_calls_items : List Call → List Item
recorded_calls_items [] = []
recorded_calls_items (call ∷ calls) =
    recorded_calls_items calls ++ recorded_call_items (recorded_in_hand_by calls) call.cue call.seen

-- a data phase has 33 bits
abbrev pub IsRecordedCue : Cue → Type 0
IsRecordedCue (Give bits) = bits < 2 ^ 33
IsRecordedCue cue = Unit {0}

-- how many clocks a line reset and idle cycles have at most
abbrev pub IsRecordedRange : Cue → Type 0
IsRecordedRange (Lead ones undriven switch zeros) = (ones < 2 ^ 32) × (zeros < 2 ^ 32)
IsRecordedRange cue = Unit {0}
