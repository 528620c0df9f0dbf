-- The row in which a part is counted has its kind for a name.
use Rattle.std.proofs.Common.{◌≡◌, ◌+◌, Bool, true, false, ◌++◌, refl}
use Rattle.swd_bits.specs.Listing.{tx_line_port, tx_line_address, tx_line_direction}
use Rattle.swd_bits.specs.declared.request.Reg4.{Reg4}
use Rattle.swd_bits.specs.declared.request.Reg4.TheVariants.{R0, R4, R8, RC}
use Rattle.swd_bits.specs.declared.tx.TxEnd.{TxEnd}
use Rattle.swd_bits.specs.declared.tx.TxEnd.TheVariants.{Moved, Wait, Fault, NoAck}
use Rattle.swd_trace.specs.declared.item.Item.TheVariants.{Reset, Switch, Idle, Tx, Junk, Cut}
use Rattle.swd_resync.specs.declared.part.Part.{Part}
use Rattle.swd_resync.specs.declared.part.Part.TheVariants.{Item as Told, Phased, Skip}
use Rattle.swd_capture.specs.Tables.{capture_addr_rows, capture_direction_rows, capture_tx_end_row, capture_tx_end_kind}
use Rattle.swd_capture.specs.Tables.{capture_part_kind, capture_port_rows, capture_row_name, capture_part_row}

named_tx : (ap : Bool) (addr : Reg4) (read : Bool) (end : TxEnd)
    → capture_row_name (capture_port_rows ap + capture_addr_rows addr + capture_direction_rows read
    + capture_tx_end_row end)
    ≡ tx_line_port ap ++ tx_line_address addr ++ tx_line_direction read ++ capture_tx_end_kind end
named_tx true R0 true (Moved word true) = refl
named_tx true R0 true (Moved word false) = refl
named_tx true R0 true Wait = refl
named_tx true R0 true Fault = refl
named_tx true R0 true (NoAck seen) = refl
named_tx true R0 false (Moved word true) = refl
named_tx true R0 false (Moved word false) = refl
named_tx true R0 false Wait = refl
named_tx true R0 false Fault = refl
named_tx true R0 false (NoAck seen) = refl
named_tx true R4 true (Moved word true) = refl
named_tx true R4 true (Moved word false) = refl
named_tx true R4 true Wait = refl
named_tx true R4 true Fault = refl
named_tx true R4 true (NoAck seen) = refl
named_tx true R4 false (Moved word true) = refl
named_tx true R4 false (Moved word false) = refl
named_tx true R4 false Wait = refl
named_tx true R4 false Fault = refl
named_tx true R4 false (NoAck seen) = refl
named_tx true R8 true (Moved word true) = refl
named_tx true R8 true (Moved word false) = refl
named_tx true R8 true Wait = refl
named_tx true R8 true Fault = refl
named_tx true R8 true (NoAck seen) = refl
named_tx true R8 false (Moved word true) = refl
named_tx true R8 false (Moved word false) = refl
named_tx true R8 false Wait = refl
named_tx true R8 false Fault = refl
named_tx true R8 false (NoAck seen) = refl
named_tx true RC true (Moved word true) = refl
named_tx true RC true (Moved word false) = refl
named_tx true RC true Wait = refl
named_tx true RC true Fault = refl
named_tx true RC true (NoAck seen) = refl
named_tx true RC false (Moved word true) = refl
named_tx true RC false (Moved word false) = refl
named_tx true RC false Wait = refl
named_tx true RC false Fault = refl
named_tx true RC false (NoAck seen) = refl
named_tx false R0 true (Moved word true) = refl
named_tx false R0 true (Moved word false) = refl
named_tx false R0 true Wait = refl
named_tx false R0 true Fault = refl
named_tx false R0 true (NoAck seen) = refl
named_tx false R0 false (Moved word true) = refl
named_tx false R0 false (Moved word false) = refl
named_tx false R0 false Wait = refl
named_tx false R0 false Fault = refl
named_tx false R0 false (NoAck seen) = refl
named_tx false R4 true (Moved word true) = refl
named_tx false R4 true (Moved word false) = refl
named_tx false R4 true Wait = refl
named_tx false R4 true Fault = refl
named_tx false R4 true (NoAck seen) = refl
named_tx false R4 false (Moved word true) = refl
named_tx false R4 false (Moved word false) = refl
named_tx false R4 false Wait = refl
named_tx false R4 false Fault = refl
named_tx false R4 false (NoAck seen) = refl
named_tx false R8 true (Moved word true) = refl
named_tx false R8 true (Moved word false) = refl
named_tx false R8 true Wait = refl
named_tx false R8 true Fault = refl
named_tx false R8 true (NoAck seen) = refl
named_tx false R8 false (Moved word true) = refl
named_tx false R8 false (Moved word false) = refl
named_tx false R8 false Wait = refl
named_tx false R8 false Fault = refl
named_tx false R8 false (NoAck seen) = refl
named_tx false RC true (Moved word true) = refl
named_tx false RC true (Moved word false) = refl
named_tx false RC true Wait = refl
named_tx false RC true Fault = refl
named_tx false RC true (NoAck seen) = refl
named_tx false RC false (Moved word true) = refl
named_tx false RC false (Moved word false) = refl
named_tx false RC false Wait = refl
named_tx false RC false Fault = refl
named_tx false RC false (NoAck seen) = refl

-- the name of the row in which a part is counted is the text of its kind
pub capture_row_named_by_kind : (part : Part) → capture_row_name (capture_part_row part) ≡ capture_part_kind part
capture_row_named_by_kind (Told (Tx tx)) = named_tx tx.request.ap tx.request.addr tx.request.read tx.result
capture_row_named_by_kind (Told (Reset n)) = refl
capture_row_named_by_kind (Told Switch) = refl
capture_row_named_by_kind (Told (Idle n)) = refl
capture_row_named_by_kind (Told (Junk b)) = refl
capture_row_named_by_kind (Told (Cut bits)) = refl
capture_row_named_by_kind (Phased tx) = named_tx tx.request.ap tx.request.addr tx.request.read tx.result
capture_row_named_by_kind (Skip n) = refl
