-- The counts of each kind of part.
use Rattle.std.specs.Prelude.{◌≡◌, ℕ, ◌+◌, ◌-◌, ◌/◌, ◌%◌, ◌^◌, ◌<◌, ◌==◌, nat_lt, min, Bool, true}
use Rattle.std.specs.Prelude.{false, List, [], ◌∷◌, ◌++◌, length, codes, if◌then◌else◌, slice_index}
use Rattle.std.specs.Fmt.{decimal}
use Rattle.swd_bits.specs.Listing.{tx_line_port, tx_line_address, tx_line_direction}
use Rattle.swd_bits.specs.declared.request.Reg4.{Reg4}
use Rattle.swd_bits.specs.declared.request.Reg4.TheVariants.{R0, R4, R8, RC}
use Rattle.swd_bits.specs.declared.tx.TxEnd.{TxEnd}
use Rattle.swd_bits.specs.declared.tx.TxEnd.TheVariants.{Moved, Wait, Fault, NoAck}
use Rattle.swd_trace.specs.declared.item.Item.{Item}
use Rattle.swd_trace.specs.declared.item.Item.TheVariants.{Reset, Switch, Idle, Tx, Junk, Cut}
use Rattle.swd_resync.specs.declared.part.Part.{Part}
use Rattle.swd_resync.specs.declared.part.Part.TheVariants.{Item as Told, Phased, Skip}
use Rattle.swd_capture.specs.declared.table.Table.{Table}

-- ---- the row in which a part is counted

abbrev pub capture_port_rows : Bool → ℕ
capture_port_rows false = 0
capture_port_rows true = 40

abbrev pub capture_addr_rows : Reg4 → ℕ
capture_addr_rows R0 = 0
capture_addr_rows R4 = 10
capture_addr_rows R8 = 20
capture_addr_rows RC = 30

abbrev pub capture_direction_rows : Bool → ℕ
capture_direction_rows true = 0
capture_direction_rows false = 5

abbrev pub capture_tx_end_row : TxEnd → ℕ
capture_tx_end_row (Moved word true) = 0
capture_tx_end_row (Moved word false) = 1
capture_tx_end_row Wait = 2
capture_tx_end_row Fault = 3
capture_tx_end_row (NoAck seen) = 4

-- transactions by port, address, direction and result, and then the other kinds
abbrev pub capture_item_row : Item → ℕ
capture_item_row (Tx tx) = capture_port_rows tx.request.ap + capture_addr_rows tx.request.addr
    + capture_direction_rows tx.request.read + capture_tx_end_row tx.result
capture_item_row (Reset n) = 80
capture_item_row Switch = 81
capture_item_row (Idle n) = 82
capture_item_row (Junk b) = 83
capture_item_row (Cut bits) = 84

-- and skips
abbrev pub capture_part_row : Part → ℕ
capture_part_row (Told item) = capture_item_row item
capture_part_row (Phased tx) = capture_item_row (Tx tx)
capture_part_row (Skip n) = 85

-- idle cycles, junk bits and the bits of cut ends are counted one by one
abbrev pub capture_item_weight : Item → ℕ
capture_item_weight (Idle n) = n
capture_item_weight (Cut bits) = bits.len
capture_item_weight (Tx tx) = 1
capture_item_weight (Reset n) = 1
capture_item_weight Switch = 1
capture_item_weight (Junk b) = 1

-- and so are the bits of skips
abbrev pub capture_part_weight : Part → ℕ
capture_part_weight (Told item) = capture_item_weight item
capture_part_weight (Phased tx) = capture_item_weight (Tx tx)
capture_part_weight (Skip n) = n

abbrev pub capture_part_counted : ℕ → Part → ℕ
capture_part_counted row part = if capture_part_row part == row then capture_part_weight part else 0

-- the count of a row
abbrev pub capture_count_in_row : ℕ → List Part → ℕ
capture_count_in_row row [] = 0
capture_count_in_row row (part ∷ parts) = capture_part_counted row part + capture_count_in_row row parts

-- ---- the text

-- the name of a part's kind
abbrev pub capture_tx_end_kind : TxEnd → List ℕ
capture_tx_end_kind (Moved word true) = codes "ok"
capture_tx_end_kind (Moved word false) = codes "bad"
capture_tx_end_kind Wait = codes "wait"
capture_tx_end_kind Fault = codes "fault"
capture_tx_end_kind (NoAck seen) = codes "none"

abbrev pub capture_item_kind : Item → List ℕ
capture_item_kind (Tx tx) = tx_line_port tx.request.ap ++ tx_line_address tx.request.addr
    ++ tx_line_direction tx.request.read ++ capture_tx_end_kind tx.result
capture_item_kind (Reset n) = codes "reset"
capture_item_kind Switch = codes "switch"
capture_item_kind (Idle n) = codes "idle"
capture_item_kind (Junk b) = codes "junk"
capture_item_kind (Cut bits) = codes "cut"

abbrev pub capture_part_kind : Part → List ℕ
capture_part_kind (Told item) = capture_item_kind item
capture_part_kind (Phased tx) = capture_item_kind (Tx tx)
capture_part_kind (Skip n) = codes "skip"

abbrev pub capture_row_port : ℕ → List ℕ
capture_row_port n = if n == 0 then codes "dp " else codes "ap "

abbrev pub capture_row_addr : ℕ → List ℕ
capture_row_addr n = if n == 0 then codes "0 " else if n == 1 then codes "4 " else if n == 2 then codes "8 " else codes
    "c "

abbrev pub capture_row_direction : ℕ → List ℕ
capture_row_direction n = if n == 0 then codes "read " else codes "write "

abbrev pub capture_row_end : ℕ → List ℕ
capture_row_end n =
    if n == 0 then codes "ok" else if n == 1 then codes "bad" else if n == 2 then codes "wait" else
    if n == 3 then codes "fault" else codes "none"

abbrev pub capture_row_other : ℕ → List ℕ
capture_row_other n =
    if n == 80 then codes "reset" else if n == 81 then codes "switch" else if n == 82 then codes "idle" else
    if n == 83 then codes "junk" else if n == 84 then codes "cut" else codes "skip"

-- a row's name
abbrev pub capture_row_name : ℕ → List ℕ
capture_row_name n =
    if nat_lt n 80 then (capture_row_port (n / 40) ++ capture_row_addr (n / 10 % 4) ++ capture_row_direction (n / 5 % 2)
    ++ capture_row_end (n % 5)) else capture_row_other n

-- a row's line: its count and its name; no line if the count is 0
abbrev pub capture_row_line : ℕ → List ℕ → List ℕ
capture_row_line count name = if count == 0 then [] else (decimal count ++ codes " " ++ name ++ 10 ∷ [])

-- the line of a row; its count is at most 2^64 - 1
abbrev pub capture_row_printed : List Part → ℕ → List ℕ
capture_row_printed parts row = capture_row_line (min (capture_count_in_row row parts) (2 ^ 64 - 1))
    (capture_row_name row)

-- the table has the counts of these parts
pub record IsCaptureTableOf (parts : List Part) (table : Table) : Type 0 where
  pub rows : length table.counts ≡ 86
  pub counts : (row : ℕ) → row < 86 → slice_index table.counts row ≡ min (capture_count_in_row row parts) (2 ^ 64 - 1)
