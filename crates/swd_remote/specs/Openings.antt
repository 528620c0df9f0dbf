-- How far a session came in opening its target: what the calls that were made of its transport showed.
use Rattle.std.specs.Prelude.{ℕ, ◌≡◌, ◌==◌, ◌^◌, ◌/◌, ◌%◌, ◌||◌, ◌&&◌, not, Bool, true, false, List, [], ◌∷◌, Option}
use Rattle.std.specs.Prelude.{None, Some, Result, Ok, nat_lt, reverse, if◌then◌else◌}
use Rattle.std.specs.List.{cons_option}
use Rattle.swd_bits.specs.declared.request.Reg4.{Reg4}
use Rattle.swd_bits.specs.declared.request.Reg4.TheVariants.{R0, R4}
use Rattle.swd_bits.specs.declared.request.Request.{Request}
use Rattle.swd_bits.specs.declared.tx.Tx.{Tx}
use Rattle.swd_bits.specs.declared.tx.TxEnd.{TxEnd}
use Rattle.swd_bits.specs.declared.tx.TxEnd.TheVariants.{Moved, Wait, Fault, NoAck}
use Rattle.swd_bits.specs.Phases.{data_phase_word}
use Rattle.swd_port.specs.declared.cue.Cue.{Cue}
use Rattle.swd_port.specs.declared.cue.Cue.TheVariants.{Ask, Take, Give}
use Rattle.swd_port.specs.declared.outside.Disconnected.{Disconnected}
use Rattle.swd_port.specs.Transports.{PortAttempt}
use Rattle.swd_remote.specs.declared.opening.Opening.{Opening}

-- ---- THE TRANSACTIONS

-- the request of a call that was answered OK: its data phase is the next call
abbrev pub opening_answered : Cue → Result ℕ Disconnected → Option Request
opening_answered (Ask request) (Ok seen) = if seen == 1 then Some request else None
opening_answered cue told = None

-- the last call's, the last call first
abbrev pub opening_due : List PortAttempt → Option Request
opening_due [] = None
opening_due (call ∷ calls) = opening_answered call.cue call.told

abbrev pub opening_tx : Request → TxEnd → Option Tx
opening_tx request end = Some (record { request = request; result = end })

-- a request that these bits answered, unless they are OK: the transaction is over
abbrev pub opening_refused : Request → ℕ → Option Tx
opening_refused request seen =
    if seen == 1 then None
    else if seen == 2 then opening_tx request Wait
    else if seen == 4 then opening_tx request Fault
    else if nat_lt seen 8 then opening_tx request (NoAck seen)
    else None

-- a data phase, of which nothing is told where its parity is wrong
abbrev pub opening_moved_word : Option ℕ → TxEnd
opening_moved_word (Some word) = Moved word true
opening_moved_word None = Moved 0 false

abbrev pub opening_moved : Option Request → ℕ → Option Tx
opening_moved None bits = None
opening_moved (Some request) bits =
    if nat_lt bits (2 ^ 33) then opening_tx request (opening_moved_word (data_phase_word bits)) else None

-- the transaction that a call ended, behind a request that was answered OK
abbrev pub opening_ended : Option Request → Cue → Result ℕ Disconnected → Option Tx
opening_ended due (Ask request) (Ok seen) = opening_refused request seen
opening_ended due Take (Ok seen) = opening_moved due seen
opening_ended due (Give bits) (Ok seen) = opening_moved due bits
opening_ended due cue told = None

-- the transactions of these calls, the last one first
abbrev pub opening_txs : List PortAttempt → List Tx
opening_txs [] = []
opening_txs (call ∷ calls) =
    cons_option (opening_ended (opening_due calls) call.cue call.told) (opening_txs calls)

-- ---- WHAT THEY SHOW

-- the registers at 0 and at 4
abbrev pub is_opening_r0 : Reg4 → Bool
is_opening_r0 R0 = true
is_opening_r0 addr = false

abbrev pub is_opening_r4 : Reg4 → Bool
is_opening_r4 R4 = true
is_opening_r4 addr = false

-- of the debug port: a read of DPIDR, and a read and a write of CTRL/STAT
abbrev pub is_opening_dpidr : Request → Bool
is_opening_dpidr request = (not request.ap && request.read) && is_opening_r0 request.addr

abbrev pub is_opening_status : Request → Bool
is_opening_status request = (not request.ap && request.read) && is_opening_r4 request.addr

abbrev pub is_opening_control : Request → Bool
is_opening_control request = (not request.ap && not request.read) && is_opening_r4 request.addr

abbrev pub is_opening_moved : TxEnd → Bool
is_opening_moved (Moved word parity_ok) = true
is_opening_moved end = false

-- its word, if it moved one with right parity, or another
abbrev pub opening_word_or : TxEnd → Option ℕ → Option ℕ
opening_word_or (Moved word true) other = Some word
opening_word_or end other = other

-- the last word of DPIDR that was read with right parity
abbrev pub opening_dpidr_by : Tx → Option ℕ → Option ℕ
opening_dpidr_by tx before = if is_opening_dpidr tx.request then opening_word_or tx.result before else before

abbrev pub opening_dpidr : List Tx → Option ℕ
opening_dpidr [] = None
opening_dpidr (tx ∷ txs) = opening_dpidr_by tx (opening_dpidr txs)

-- the last word of CTRL/STAT that was read with right parity since it was written
abbrev pub opening_status_by : Tx → Option ℕ → Option ℕ
opening_status_by tx before =
    if is_opening_status tx.request then opening_word_or tx.result before
    else if is_opening_control tx.request && is_opening_moved tx.result then None
    else before

abbrev pub opening_status : List Tx → Option ℕ
opening_status [] = None
opening_status (tx ∷ txs) = opening_status_by tx (opening_status txs)

-- whether a word of CTRL/STAT requests debug power: CDBGPWRUPREQ, bit 28
abbrev pub opening_requests_power : Option ℕ → Bool
opening_requests_power None = false
opening_requests_power (Some word) = (word / 2 ^ 28) % 2 == 1

-- whether the last write of it does
abbrev pub opening_asked_by : Tx → Bool → Bool
opening_asked_by tx before =
    if is_opening_control tx.request && is_opening_moved tx.result
    then opening_requests_power (opening_word_or tx.result None)
    else before

abbrev pub opening_asked : List Tx → Bool
opening_asked [] = false
opening_asked (tx ∷ txs) = opening_asked_by tx (opening_asked txs)

-- whether a transfer of an access port was answered OK
abbrev pub is_opening_transfer : Tx → Bool
is_opening_transfer tx = tx.request.ap && is_opening_moved tx.result

abbrev pub opening_is_open : List Tx → Bool
opening_is_open [] = false
opening_is_open (tx ∷ txs) = is_opening_transfer tx || opening_is_open txs

-- what ended the last one
abbrev pub opening_last : List Tx → Option TxEnd
opening_last [] = None
opening_last (tx ∷ txs) = Some tx.result

-- whether an acknowledgement has a bit that isn't this: all three bits are 1 in 7, and 0 in 0
abbrev pub opening_differs : ℕ → Cue → Result ℕ Disconnected → Bool
opening_differs all (Ask request) (Ok seen) = nat_lt seen 8 && not (seen == all)
opening_differs all cue told = false

abbrev pub opening_differs_in : ℕ → List PortAttempt → Bool
opening_differs_in all [] = false
opening_differs_in all (call ∷ calls) = opening_differs all call.cue call.told || opening_differs_in all calls

-- the level of all bits, if there is one
abbrev pub opening_only_level : Bool → Bool → Option Bool
opening_only_level true true = None
opening_only_level false false = None
opening_only_level zero one = Some one

-- ---- HOW FAR IT CAME

-- the calls up to the first transfer of an access port that was answered OK, the last one first
abbrev pub opening_calls : List PortAttempt → List PortAttempt
opening_calls [] = []
opening_calls (call ∷ calls) =
    if opening_is_open (opening_txs (opening_calls calls)) then opening_calls calls else call ∷ opening_calls calls

-- what is known of an opening that was given these calls, the last one first
pub record OpeningKnows (calls : List PortAttempt) (opening : Opening) : Type 0 where
  pub dpidr : opening.dpidr ≡ opening_dpidr (opening_txs calls)
  pub status : opening.status ≡ opening_status (opening_txs calls)
  pub asked : opening.asked ≡ opening_asked (opening_txs calls)
  pub is_open : opening.is_open ≡ opening_is_open (opening_txs calls)
  pub last : opening.last ≡ opening_last (opening_txs calls)
  pub due : opening.due ≡ opening_due calls
  pub zero : opening.zero ≡ opening_differs_in 7 calls
  pub one : opening.one ≡ opening_differs_in 0 calls

-- the same of all calls, the first one first
pub record OpeningShows (made : List PortAttempt) (opening : Opening) : Type 0 where
  pub calls : List PortAttempt
  pub are : reverse calls ≡ made
  pub knows : OpeningKnows (opening_calls calls) opening
