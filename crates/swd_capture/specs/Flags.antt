-- The flags of the words that a transaction moves. Source: IHI 0031, B2, "ABORT", "CTRL/STAT"; C2, "CSW".
use Rattle.std.specs.Prelude.{ℕ, ◌==◌, Bool, true, false, List, [], ◌++◌, codes, if◌then◌else◌, Option, None, Some}
use Rattle.swd_bits.specs.declared.request.Request.{Request}
use Rattle.swd_bits.specs.declared.request.Reg4.{Reg4}
use Rattle.swd_bits.specs.declared.request.Reg4.TheVariants.{R0, R4, R8, RC}
use Rattle.swd_bits.specs.declared.tx.TxEnd.{TxEnd}
use Rattle.swd_bits.specs.declared.tx.TxEnd.TheVariants.{Moved}
use Rattle.swd_port.specs.Registers.{register_bit}
use Rattle.swd_port.specs.declared.select.Select.{Select}
use Rattle.swd_capture.specs.declared.flags.Flagged.{Flagged}
use Rattle.swd_capture.specs.declared.flags.Flagged.TheVariants.{Abort, CtrlStat, Csw, Nothing}

-- a space and a flag's name if its bit is set
abbrev pub capture_flag_name : ℕ → List ℕ → ℕ → List ℕ
capture_flag_name place name word = if register_bit place word then (codes " " ++ name) else []

abbrev pub capture_abort_flags : ℕ → List ℕ
capture_abort_flags w = capture_flag_name 0 (codes "dapabort") w ++ capture_flag_name 1 (codes "stkcmpclr") w
    ++ capture_flag_name 2 (codes "stkerrclr") w ++ capture_flag_name 3 (codes "wderrclr") w
    ++ capture_flag_name 4 (codes "orunerrclr") w

abbrev pub capture_sticky_flags : ℕ → List ℕ
capture_sticky_flags w = capture_flag_name 0 (codes "orun_detect") w ++ capture_flag_name 1 (codes "sticky_orun") w
    ++ capture_flag_name 4 (codes "sticky_cmp") w ++ capture_flag_name 5 (codes "sticky_err") w
    ++ capture_flag_name 6 (codes "read_ok") w ++ capture_flag_name 7 (codes "wdata_err") w

abbrev pub capture_power_flags : ℕ → List ℕ
capture_power_flags w = capture_flag_name 26 (codes "cdbgrstreq") w ++ capture_flag_name 27 (codes "cdbgrstack") w
    ++ capture_flag_name 28 (codes "cdbgpwrupreq") w ++ capture_flag_name 29 (codes "cdbgpwrupack") w
    ++ capture_flag_name 30 (codes "csyspwrupreq") w ++ capture_flag_name 31 (codes "csyspwrupack") w

abbrev pub capture_csw_flags : ℕ → List ℕ
capture_csw_flags w = capture_flag_name 6 (codes "device_en") w ++ capture_flag_name 7 (codes "tr_in_prog") w
    ++ capture_flag_name 23 (codes "spiden") w ++ capture_flag_name 31 (codes "dbg_sw_enable") w

abbrev pub capture_word_flags : Flagged → ℕ → List ℕ
capture_word_flags Abort w = capture_abort_flags w
capture_word_flags CtrlStat w = capture_sticky_flags w ++ capture_power_flags w
capture_word_flags Csw w = capture_csw_flags w
capture_word_flags Nothing w = []

abbrev pub capture_flags_in_bank : ℕ → Flagged → Flagged
capture_flags_in_bank n flagged = if n == 0 then flagged else Nothing

abbrev pub capture_dp_flagged : Option Select → Reg4 → Bool → Flagged
capture_dp_flagged select R0 true = Nothing
capture_dp_flagged select R0 false = Abort
capture_dp_flagged None R4 read = Nothing
capture_dp_flagged (Some select) R4 read = capture_flags_in_bank select.dpbanksel CtrlStat
capture_dp_flagged select R8 read = Nothing
capture_dp_flagged select RC read = Nothing

-- a read of an access port returns the word of the read before it, so only writes have their own word
abbrev pub capture_ap_flagged : Option Select → Reg4 → Bool → Flagged
capture_ap_flagged None addr read = Nothing
capture_ap_flagged (Some select) R0 false = capture_flags_in_bank select.apbanksel Csw
capture_ap_flagged (Some select) R0 true = Nothing
capture_ap_flagged (Some select) R4 read = Nothing
capture_ap_flagged (Some select) R8 read = Nothing
capture_ap_flagged (Some select) RC read = Nothing

-- the register whose flags the word of a transaction has
abbrev pub capture_flagged_register : Option Select → Request → Flagged
capture_flagged_register select q =
    if q.ap then capture_ap_flagged select q.addr q.read else capture_dp_flagged select q.addr q.read

-- the flags of a transaction's word if its parity is right
abbrev pub capture_tx_flags : Flagged → TxEnd → List ℕ
capture_tx_flags which (Moved word true) = capture_word_flags which word
capture_tx_flags which end = []
