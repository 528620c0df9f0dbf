-- The listing line of a transaction.
use Rattle.std.specs.Prelude.{ℕ, ◌+◌, ◌/◌, ◌%◌, ◌^◌, nat_lt, Bool, true, false, List, [], ◌∷◌, ◌++◌, if◌then◌else◌}
use Rattle.std.specs.Fmt.{decimal}
use Rattle.std.specs.Prelude.{codes}
use Rattle.swd_bits.specs.declared.request.Reg4.{Reg4}
use Rattle.swd_bits.specs.declared.request.Reg4.TheVariants.{R0, R4, R8, RC}
use Rattle.swd_bits.specs.declared.tx.TxEnd.{TxEnd}
use Rattle.swd_bits.specs.declared.tx.TxEnd.TheVariants.{Moved, Wait, Fault, NoAck}
use Rattle.swd_bits.specs.declared.tx.Tx.{Tx}

-- the character of a hexadecimal digit
abbrev pub tx_hex_digit : ℕ → ℕ
tx_hex_digit d = if nat_lt d 10 then 48 + d else 87 + d

-- two hexadecimal digits of a byte, and below eight of a word
unfoldable pub hex2 : ℕ → List ℕ
hex2 n = tx_hex_digit (n / 16) ∷ tx_hex_digit (n % 16) ∷ []

unfoldable pub hex8 : ℕ → List ℕ
hex8 n = hex2 (n / 2 ^ 24) ++ hex2 (n / 2 ^ 16 % 256) ++ hex2 (n / 2 ^ 8 % 256) ++ hex2 (n % 256)

abbrev pub tx_line_port : Bool → List ℕ
tx_line_port true = codes "ap "
tx_line_port false = codes "dp "

abbrev pub tx_line_address : Reg4 → List ℕ
tx_line_address R0 = codes "0 "
tx_line_address R4 = codes "4 "
tx_line_address R8 = codes "8 "
tx_line_address RC = codes "c "

abbrev pub tx_line_direction : Bool → List ℕ
tx_line_direction true = codes "read "
tx_line_direction false = codes "write "

abbrev pub tx_line_parity : Bool → List ℕ
tx_line_parity true = codes "ok "
tx_line_parity false = codes "bad "

abbrev pub tx_line_outcome : TxEnd → List ℕ
tx_line_outcome (Moved word ok) = tx_line_parity ok ++ hex8 word
tx_line_outcome Wait = codes "wait"
tx_line_outcome Fault = codes "fault"
tx_line_outcome (NoAck seen) = codes "none " ++ decimal seen

abbrev pub tx_line : Tx → List ℕ
tx_line tx = tx_line_port tx.request.ap ++ tx_line_address tx.request.addr ++ tx_line_direction tx.request.read
    ++ tx_line_outcome tx.result
