-- The items of a trace as integers.
use Rattle.std.specs.Prelude.{ℕ, ◌≡◌, ◌==◌, ◌<◌, ◌≤◌, ◌^◌, Option, Some, None, if◌then◌else◌}
use Rattle.swd_bits.specs.Bits.{bit, bits_number}
use Rattle.swd_bits.specs.Wire.{bits_of_request}
use Rattle.swd_bits.specs.declared.request.Request.{Request}
use Rattle.swd_bits.specs.declared.tx.TxEnd.{TxEnd}
use Rattle.swd_bits.specs.declared.tx.TxEnd.TheVariants.{Moved, Wait, Fault, NoAck}
use Rattle.swd_bits.specs.declared.tx.Tx.{Tx as TxType}
use Rattle.swd_trace.specs.Listed.{IsEncodableItem}
use Rattle.swd_trace.specs.declared.item.Item.{Item}
use Rattle.swd_trace.specs.declared.item.Item.TheVariants.{Reset, Switch, Idle, Tx, Junk, Cut}
use Rattle.swd_c.specs.declared.item.SwdItem.{SwdItem}

-- an item of this kind whose other fields are 0
abbrev pub c_api_item_of_kind : ℕ → SwdItem
c_api_item_of_kind kind = record { count = 0; bits = 0; word = 0; kind = kind; request = 0; ack = 0; parity_ok = 0 }

abbrev pub c_api_tx_item : Request → TxEnd → SwdItem
c_api_tx_item q (Moved word ok) =
    record (c_api_item_of_kind 4) {
      request = bits_number (bits_of_request q);
      ack = 1;
      word = word;
      parity_ok = bit ok;
    }
c_api_tx_item q Wait = record (c_api_item_of_kind 4) { request = bits_number (bits_of_request q); ack = 2 }
c_api_tx_item q Fault = record (c_api_item_of_kind 4) { request = bits_number (bits_of_request q); ack = 4 }
c_api_tx_item q (NoAck seen) = record (c_api_item_of_kind 4) { request = bits_number (bits_of_request q); ack = seen }

abbrev pub c_api_item : Item → SwdItem
c_api_item (Reset n) = record (c_api_item_of_kind 1) { count = n }
c_api_item Switch = c_api_item_of_kind 2
c_api_item (Idle n) = record (c_api_item_of_kind 3) { count = n }
c_api_item (Tx tx) = c_api_tx_item tx.request tx.result
c_api_item (Junk b) = record (c_api_item_of_kind 5) { bits = bit b }
c_api_item (Cut cut) = record (c_api_item_of_kind 6) { count = cut.len; bits = cut.bits }

-- an item of a trace has these integers: the number of three bits that are no acknowledgement is one of five, and an
-- incomplete item has fewer than fifty bits, with no bit set after them
abbrev pub CApiIsItem : SwdItem → Type 0
CApiIsItem fields = (item : Item) × IsEncodableItem item × (c_api_item item ≡ fields)

-- how any integers are read: the end of a transaction,
abbrev pub c_api_no_ack_from : ℕ → Option TxEnd
c_api_no_ack_from n =
    if n == 0 then Some (NoAck n) else if n == 3 then Some (NoAck n) else if n == 5 then Some (NoAck n)
    else if n == 6 then Some (NoAck n) else if n == 7 then Some (NoAck n) else None

abbrev pub c_api_end_from : ℕ → ℕ → ℕ → Option TxEnd
c_api_end_from ack word parity_ok =
    if ack == 1 then Some (Moved word (parity_ok == 1)) else if ack == 2 then Some Wait
    else if ack == 4 then Some Fault else c_api_no_ack_from ack

-- a transaction,
abbrev pub c_api_tx_by : Option Request → Option TxEnd → Option Item
c_api_tx_by (Some q) (Some end) = Some (Tx (record { request = q; result = end }))
c_api_tx_by q end = None

abbrev pub CApiReadsTransaction : SwdItem → Option Item → Type 0
CApiReadsTransaction fields found = (tx : TxType) → IsEncodableItem (Tx tx) → c_api_item (Tx tx) ≡ fields
    → found ≡ Some (Tx tx)

-- an incomplete item,
abbrev pub CApiReadsCut : ℕ → ℕ → Option Item → Type 0
CApiReadsCut count bits None = Unit {0}
CApiReadsCut count bits (Some item) =
    (item ≡ Cut (record { len = count; bits = bits })) × (count ≤ 49) × (bits < 2 ^ count)

-- and an item of each kind
abbrev pub c_api_item_by : SwdItem → Option Item → Option Item → Option Item
c_api_item_by f tx cut =
    if f.kind == 1 then Some (Reset f.count) else if f.kind == 2 then Some Switch
    else if f.kind == 3 then Some (Idle f.count) else if f.kind == 4 then tx
    else if f.kind == 5 then Some (Junk (f.bits == 1)) else if f.kind == 6 then cut else None
