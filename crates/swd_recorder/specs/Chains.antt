-- Lists of items as a host sends them: which item may follow which. It is this project's choice that a
-- recording is such a list, and how it is divided into items.
use Rattle.std.specs.Prelude.{ℕ, ◌≡◌, ◌^◌, nat_le, nat_lt, ◌==◌, ◌&&◌, ◌||◌, Bool, true, false, List, [], ◌∷◌, Option}
use Rattle.std.specs.Prelude.{None, Some}
use Rattle.swd_bits.specs.declared.tx.TxEnd.{TxEnd}
use Rattle.swd_bits.specs.declared.tx.TxEnd.TheVariants.{Moved, Wait, Fault, NoAck}
use Rattle.swd_trace.specs.declared.item.Item.{Item}
use Rattle.swd_trace.specs.declared.item.Item.TheVariants.{Reset, Switch, Idle, Tx, Junk, Cut}

-- What comes before the next item.
pub data RecordedPlace : Type 0 where
  -- no item, or a transaction that was acknowledged
  Clear : RecordedPlace
  -- idle cycles
  Low : RecordedPlace
  -- a line reset
  High : RecordedPlace
  -- the switch from JTAG
  Switched : RecordedPlace
  -- a transaction without acknowledgement
  Silent : RecordedPlace

abbrev pub recorded_place_of_end : TxEnd → RecordedPlace
recorded_place_of_end (Moved word ok) = Clear
recorded_place_of_end Wait = Clear
recorded_place_of_end Fault = Clear
recorded_place_of_end (NoAck seen) = Silent

abbrev pub recorded_place_after : Item → RecordedPlace
recorded_place_after (Reset n) = High
recorded_place_after Switch = Switched
recorded_place_after (Idle n) = Low
recorded_place_after (Tx tx) = recorded_place_of_end tx.result
recorded_place_after (Junk b) = Silent
recorded_place_after (Cut bits) = Silent

-- the place after some items, given the place before them
abbrev pub recorded_place_behind : RecordedPlace → List Item → RecordedPlace
recorded_place_behind place [] = place
recorded_place_behind place (item ∷ items) = recorded_place_behind (recorded_place_after item) items

abbrev pub recorded_place_of : List Item → RecordedPlace
recorded_place_of items = recorded_place_behind Clear items

-- a line reset may come anywhere but after another one, which would be the same line reset
abbrev pub recorded_may_reset : RecordedPlace → Bool
recorded_may_reset Clear = true
recorded_may_reset Low = true
recorded_may_reset High = false
recorded_may_reset Switched = true
recorded_may_reset Silent = true

-- the switch comes after a line reset
abbrev pub recorded_may_switch : RecordedPlace → Bool
recorded_may_switch High = true
recorded_may_switch place = false

-- idle cycles: after a line reset at least two, so that they aren't the beginning of a switch
abbrev pub recorded_may_idle : RecordedPlace → ℕ → Bool
recorded_may_idle Clear n = nat_le 1 n
recorded_may_idle Low n = false
recorded_may_idle High n = nat_le 2 n
recorded_may_idle Switched n = false
recorded_may_idle Silent n = false

-- a transaction may start when the line is idle or the one before was acknowledged
abbrev pub recorded_may_ask : RecordedPlace → Bool
recorded_may_ask Clear = true
recorded_may_ask Low = true
recorded_may_ask place = false

-- the number of three bits that are no ACK
abbrev pub is_recorded_no_ack : ℕ → Bool
is_recorded_no_ack seen = (seen == 0) || (seen == 3) || (seen == 5) || (seen == 6) || (seen == 7)

abbrev pub is_recorded_end : TxEnd → Bool
is_recorded_end (Moved word ok) = nat_lt word (2 ^ 32)
is_recorded_end Wait = true
is_recorded_end Fault = true
is_recorded_end (NoAck seen) = is_recorded_no_ack seen

-- the item may come there
abbrev pub recorded_may_follow : RecordedPlace → Item → Bool
recorded_may_follow place (Reset n) = recorded_may_reset place && nat_le 50 n && nat_lt n (2 ^ 64)
recorded_may_follow place Switch = recorded_may_switch place
recorded_may_follow place (Idle n) = recorded_may_idle place n && nat_lt n (2 ^ 64)
recorded_may_follow place (Tx tx) = recorded_may_ask place && is_recorded_end tx.result
recorded_may_follow place (Junk b) = false
recorded_may_follow place (Cut bits) = false

-- each item may come where it does
abbrev pub is_recorded_chain : RecordedPlace → List Item → Bool
is_recorded_chain place [] = true
is_recorded_chain place (item ∷ items) = recorded_may_follow place item && is_recorded_chain (recorded_place_after item)
    items

-- zeros may come there, and join others
abbrev pub recorded_may_lower : RecordedPlace → ℕ → Bool
recorded_may_lower Low n = true
recorded_may_lower place n = recorded_may_idle place n

-- ---- the items of a call behind these

-- the zeros of a call that has nothing else
abbrev pub recorded_lone_idle : List Item → Option ℕ
recorded_lone_idle (Idle n ∷ []) = Some n
recorded_lone_idle items = None

-- they may come there: zeros alone may join others
abbrev pub RecordedMayJoin : RecordedPlace → List Item → Option ℕ → Type 0
RecordedMayJoin place items (Some n) = recorded_may_lower place n ≡ true
RecordedMayJoin place items None = is_recorded_chain place items ≡ true
