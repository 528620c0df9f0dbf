-- The items that a list of bits decodes to. The division into items is this project's choice; the bits of
-- resets, switches and transactions are the standard's, as cited at `Item` and `Tx`.
use Rattle.std.specs.Prelude.{ℕ, zero, suc, ◌-◌, nat_le, Bool, true, false, List, [], ◌∷◌, length, if◌then◌else◌}
use Rattle.swd_bits.specs.Bits.{bits_number}
use Rattle.swd_bits.specs.declared.tx.TxEnd.{TxEnd}
use Rattle.swd_bits.specs.declared.tx.TxEnd.TheVariants.{Moved, Wait, Fault, NoAck}
use Rattle.swd_bits.specs.declared.tx.Tx.{Tx as Transaction}
use Rattle.swd_trace.specs.declared.item.Item.{Item}
use Rattle.swd_trace.specs.declared.item.Item.TheVariants.{Reset, Switch, Idle, Tx, Junk, Cut}
use Rattle.swd_trace.specs.declared.mode.Mode.{Mode}
use Rattle.swd_trace.specs.declared.mode.Mode.TheVariants.{Synced, AfterReset, AfterSwitch, Lost}
use Rattle.swd_trace.specs.Stands.{Stand, Whole, Begun, Broken, stands}

-- the number of ones, and of zeros, at the front
abbrev pub trace_ones : List Bool → ℕ
trace_ones [] = 0
trace_ones (true ∷ bits) = suc (trace_ones bits)
trace_ones (false ∷ bits) = 0

abbrev pub trace_zeros : List Bool → ℕ
trace_zeros [] = 0
trace_zeros (false ∷ bits) = suc (trace_zeros bits)
trace_zeros (true ∷ bits) = 0

-- all the bits are ones
abbrev pub trace_all_ones : List Bool → Bool
trace_all_ones [] = true
trace_all_ones (true ∷ bits) = trace_all_ones bits
trace_all_ones (false ∷ bits) = false

-- the bits begin with these
abbrev pub trace_begins_with : List Bool → List Bool → Bool
trace_begins_with [] bits = true
trace_begins_with (a ∷ front) [] = false
trace_begins_with (true ∷ front) (true ∷ bits) = trace_begins_with front bits
trace_begins_with (true ∷ front) (false ∷ bits) = false
trace_begins_with (false ∷ front) (true ∷ bits) = false
trace_begins_with (false ∷ front) (false ∷ bits) = trace_begins_with front bits

-- the sixteen bits of e79e, least significant first
abbrev pub switch_item : List Bool
switch_item =
    false ∷ true ∷ true ∷ true ∷ true ∷ false ∷ false ∷ true
    ∷ true ∷ true ∷ true ∷ false ∷ false ∷ true ∷ true ∷ true ∷ []

-- the first item of some bits, the mode after it, and its number of bits
pub record FirstItem : Type 0 where
  pub item : Item
  pub after : Mode
  pub taken : ℕ

-- a transaction without acknowledgement leaves the mode lost
abbrev pub decoder_mode_after_tx : TxEnd → Mode
decoder_mode_after_tx (Moved word ok) = Synced
decoder_mode_after_tx Wait = Synced
decoder_mode_after_tx Fault = Synced
decoder_mode_after_tx (NoAck seen) = Lost

abbrev pub whole_tx_item : Transaction → ℕ → FirstItem
whole_tx_item tx len = record { item = Tx tx; after = decoder_mode_after_tx tx.result; taken = len }

-- all of the bits are cut off
abbrev pub cut_first_item : List Bool → FirstItem
cut_first_item bits = record {
  item = Cut (record { len = length bits; bits = bits_number bits });
  after = Synced;
  taken = length bits;
}

-- in mode lost, without fifty ones
abbrev pub junk_first_item : Bool → FirstItem
junk_first_item b = record { item = Junk b; after = Lost; taken = 1 }

-- a proper prefix of fifty ones, or lost
abbrev pub cut_or_junk_item : Bool → List Bool → FirstItem
cut_or_junk_item b bits = if trace_all_ones (b ∷ bits) then cut_first_item (b ∷ bits) else junk_first_item b

-- the first item by what is at the front: a whole transaction, a proper prefix of one, or neither; a prefix
-- of fifty ones is cut
abbrev pub first_item_by_stand : Stand → Bool → List Bool → FirstItem
first_item_by_stand (Whole tx len) b bits = whole_tx_item tx len
first_item_by_stand Begun b bits = cut_first_item (b ∷ bits)
first_item_by_stand Broken b bits = cut_or_junk_item b bits

-- cases 3 to 6: zeros, a transaction, a proper prefix, or neither
abbrev pub first_item_synced : Bool → List Bool → FirstItem
first_item_synced false bits = record {
  item = Idle (trace_zeros (false ∷ bits));
  after = Synced;
  taken = trace_zeros (false ∷ bits);
}
first_item_synced true bits = first_item_by_stand (stands (true ∷ bits)) true bits

-- the cases after the first one, by the mode
abbrev pub first_item_by_mode : Mode → Bool → List Bool → FirstItem
first_item_by_mode Synced b bits = first_item_synced b bits
first_item_by_mode AfterReset b bits =
    if trace_begins_with switch_item (b ∷ bits) then record { item = Switch; after = AfterSwitch; taken = 16 } else
    first_item_synced b bits
first_item_by_mode AfterSwitch b bits = cut_or_junk_item b bits
first_item_by_mode Lost b bits = junk_first_item b

-- the first item of a bit and those after it: fifty ones in any mode, then the other cases
abbrev pub first_item : Mode → Bool → List Bool → FirstItem
first_item mode b bits =
    if nat_le 50 (trace_ones (b ∷ bits)) then
    record { item = Reset (trace_ones (b ∷ bits)); after = AfterReset; taken = trace_ones (b ∷ bits) }
    else first_item_by_mode mode b bits

-- the items, where the first `passed` bits still belong to the item before
unfoldable pub items_after : ℕ → Mode → List Bool → List Item
items_after passed mode [] = []
items_after (suc passed) mode (b ∷ bits) = items_after passed mode bits
items_after zero mode (b ∷ bits) = (first_item mode b bits).item ∷ items_after ((first_item mode b bits).taken - 1)
    (first_item mode b bits).after bits

-- the items of a whole list
abbrev pub reading : Mode → List Bool → List Item
reading mode bits = items_after 0 mode bits

abbrev pub reading_of : List Bool → List Item
reading_of bits = reading Synced bits
