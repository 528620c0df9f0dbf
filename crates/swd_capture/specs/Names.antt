-- The registers of a debug port and of a memory access port by name. Source: IHI 0031 (ADIv5.2), B2, "DP architecture
-- versions" and the summary of its registers; C2, the summary of the MEM-AP registers. The form of the text is this
-- project's choice.
use Rattle.std.specs.Prelude.{ℕ, ◌%◌, ◌==◌, ◌&&◌, Bool, true, false, not, List, [], ◌∷◌, ◌++◌, codes, if◌then◌else◌}
use Rattle.std.specs.Prelude.{Option, None, Some}
use Rattle.std.specs.Fmt.{decimal}
use Rattle.swd_bits.specs.Listing.{tx_hex_digit, tx_line_address}
use Rattle.swd_bits.specs.declared.request.Request.{Request}
use Rattle.swd_bits.specs.declared.request.Reg4.{Reg4}
use Rattle.swd_bits.specs.declared.request.Reg4.TheVariants.{R0, R4, R8, RC}
use Rattle.swd_bits.specs.declared.tx.TxEnd.{TxEnd}
use Rattle.swd_bits.specs.declared.tx.TxEnd.TheVariants.{Moved, Wait, Fault, NoAck}
use Rattle.swd_trace.specs.declared.item.Item.{Item}
use Rattle.swd_trace.specs.declared.item.Item.TheVariants.{Reset, Switch, Idle, Tx, Junk, Cut}
use Rattle.swd_port.specs.Registers.{select_of}
use Rattle.swd_port.specs.declared.select.Select.{Select}

-- ---- what is known of SELECT

abbrev pub is_capture_at_eight : Reg4 → Bool
is_capture_at_eight R0 = false
is_capture_at_eight R4 = false
is_capture_at_eight R8 = true
is_capture_at_eight RC = false

-- a write of SELECT: the debug port's register at address 8
abbrev pub capture_writes_select : Request → Bool
capture_writes_select q = is_capture_at_eight q.addr && (not q.ap && not q.read)

-- the word of a write that was answered OK, if its parity is right; with wrong parity what was written is unknown
abbrev pub capture_select_written : Bool → ℕ → Option Select
capture_select_written true word = Some (select_of word)
capture_select_written false word = None

-- after a transaction: WAIT and FAULT change nothing; without an acknowledgement the request may have been another one
abbrev pub capture_select_by_tx : Option Select → Request → TxEnd → Option Select
capture_select_by_tx select q (Moved word ok) =
    if capture_writes_select q then capture_select_written ok word else select
capture_select_by_tx select q Wait = select
capture_select_by_tx select q Fault = select
capture_select_by_tx select q (NoAck seen) = None

-- after an item: a line reset may be due to a loss of power, and junk bits may hide a write
abbrev pub capture_select_after : Option Select → Item → Option Select
capture_select_after select (Reset n) = None
capture_select_after select Switch = None
capture_select_after select (Idle n) = select
capture_select_after select (Tx tx) = capture_select_by_tx select tx.request tx.result
capture_select_after select (Junk b) = None
capture_select_after select (Cut bits) = None

abbrev pub capture_select_from : Option Select → List Item → Option Select
capture_select_from select [] = select
capture_select_from select (item ∷ items) = capture_select_from (capture_select_after select item) items

-- what is known of SELECT after these items, if nothing is known before
abbrev pub capture_select_behind : List Item → Option Select
capture_select_behind items = capture_select_from None items

-- ---- names

-- the number of an access port, and that of a bank as a hexadecimal digit, unless it is 0
abbrev pub capture_ap_number : ℕ → List ℕ
capture_ap_number n = if n == 0 then [] else (decimal n ++ codes " ")

abbrev pub capture_bank_name : ℕ → List ℕ
capture_bank_name n = if n == 0 then [] else (codes "bank " ++ tx_hex_digit (n % 16) ∷ [] ++ codes " ")

-- the debug port's register at address 4, by DPBANKSEL
abbrev pub capture_dp_bank_name : ℕ → List ℕ
capture_dp_bank_name n =
    if n == 0 then codes "ctrl/stat " else if n == 1 then codes "dlcr " else if n == 2 then codes "targetid " else
    if n == 3 then codes "dlpidr " else if n == 4 then codes "eventstat " else codes "4 "

abbrev pub capture_dp_4_name : Option Select → List ℕ
capture_dp_4_name None = codes "4 "
capture_dp_4_name (Some select) = capture_bank_name select.dpbanksel ++ capture_dp_bank_name select.dpbanksel

abbrev pub capture_dp_name : Option Select → Reg4 → Bool → List ℕ
capture_dp_name select R0 true = codes "dpidr "
capture_dp_name select R0 false = codes "abort "
capture_dp_name select R4 read = capture_dp_4_name select
capture_dp_name select R8 true = codes "resend "
capture_dp_name select R8 false = codes "select "
capture_dp_name select RC true = codes "rdbuff "
capture_dp_name select RC false = codes "targetsel "

-- the registers of a MEM-AP, by bank and address
abbrev pub capture_access_name : Reg4 → List ℕ
capture_access_name R0 = codes "csw "
capture_access_name R4 = codes "tar "
capture_access_name R8 = codes "tar_high "
capture_access_name RC = codes "drw "

abbrev pub capture_banked_data_name : Reg4 → List ℕ
capture_banked_data_name R0 = codes "bd0 "
capture_banked_data_name R4 = codes "bd1 "
capture_banked_data_name R8 = codes "bd2 "
capture_banked_data_name RC = codes "bd3 "

abbrev pub capture_barrier_name : Reg4 → List ℕ
capture_barrier_name R0 = codes "mbt "
capture_barrier_name R4 = tx_line_address R4
capture_barrier_name R8 = tx_line_address R8
capture_barrier_name RC = tx_line_address RC

abbrev pub capture_identity_name : Reg4 → List ℕ
capture_identity_name R0 = codes "base_high "
capture_identity_name R4 = codes "cfg "
capture_identity_name R8 = codes "base "
capture_identity_name RC = codes "idr "

abbrev pub capture_mem_ap_name : ℕ → Reg4 → List ℕ
capture_mem_ap_name n addr =
    if n == 0 then capture_access_name addr else if n == 1 then capture_banked_data_name addr else if n == 2 then
    capture_barrier_name addr else if n == 15 then capture_identity_name addr else tx_line_address addr

abbrev pub capture_ap_name : Option Select → Reg4 → List ℕ
capture_ap_name None addr = tx_line_address addr
capture_ap_name (Some select) addr =
    capture_ap_number select.apsel ++ capture_bank_name select.apbanksel ++ capture_mem_ap_name select.apbanksel addr

abbrev pub capture_register_name : Option Select → Request → List ℕ
capture_register_name select q = if q.ap then capture_ap_name select q.addr else capture_dp_name select q.addr q.read
