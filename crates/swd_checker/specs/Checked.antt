-- What an item of a trace shows of the port model: that it is a step of it, by a request, a data phase, or ones and
-- zeros.
use Rattle.std.specs.Prelude.{ℕ, ◌≡◌, ◌⊎◌, ◌<◌, ◌^◌, Bool, true, false, Some}
use Rattle.swd_bits.specs.declared.request.Request.{Request}
use Rattle.swd_bits.specs.declared.tx.TxEnd.{TxEnd}
use Rattle.swd_bits.specs.declared.tx.TxEnd.TheVariants.{Moved, Wait, Fault, NoAck}
use Rattle.swd_bits.specs.Phases.{data_phase_number}
use Rattle.swd_port.specs.Choices.{port_flipped}
use Rattle.swd_port.specs.Port.{Port}
use Rattle.swd_port.specs.declared.mark.Mark.{Mark}
use Rattle.swd_port.specs.declared.mark.Mark.TheVariants.{Clean, Wait as WaitMark}
use Rattle.swd_port.specs.Choices.{Choice}
use Rattle.swd_port.specs.Answers.{IsPortNoAck}
use Rattle.swd_port.specs.declared.state.Reply.TheVariants.{Okay}
use Rattle.swd_port.specs.Asking.{PortAsksNow, port_reply}
use Rattle.swd_port.specs.GivingUp.{PortGaveUp}
use Rattle.swd_port.specs.Completion.{PortCompletes}
use Rattle.swd_port.specs.Moving.{PortPasses}
use Rattle.swd_observer.specs.Transacts.{ObservedMoves}

-- the mark neither changes a bit nor loses a request
abbrev pub is_checked_clean : Mark → Bool
is_checked_clean Clean = true
is_checked_clean WaitMark = true
is_checked_clean mark = false

-- A request of the port model, with its mark, before which no write is given up. Where `clean` is true, nothing is
-- damaged or lost.
pub record CheckedAsks (clean : Bool) (s : Port) (q : Request) (seen : ℕ) (t : Port) : Type 0 where
  pub before : Port
  pub after : Port
  pub mark : Mark
  pub choice : Choice
  pub undamaged : clean ≡ true → is_checked_clean mark ≡ true
  pub completes : PortCompletes s before
  pub asks : PortAsksNow mark choice before q seen after
  pub then : PortCompletes after t

-- the 33 bits of a data phase with this word: its parity is right, or wrong
abbrev pub checked_phase : Bool → ℕ → ℕ
checked_phase true word = data_phase_number word
checked_phase false word = port_flipped (Some 32) (data_phase_number word)

-- OK and a data phase
pub record CheckedHasMoved (clean : Bool) (q : Request) (word : ℕ) (ok : Bool) (s t : Port) : Type 0 where
  pub asked : Port
  pub asks : CheckedAsks clean s q 1 asked
  pub small : word < 2 ^ 32
  pub moves : ObservedMoves q.read asked (checked_phase ok word) t

-- WAIT or FAULT, and a turnaround
pub record WasCheckedRefused (clean : Bool) (q : Request) (seen : ℕ) (s t : Port) : Type 0 where
  pub asked : Port
  pub asks : CheckedAsks clean s q seen asked
  pub passes : PortPasses asked t

-- no acknowledgement
pub record WasCheckedLost (clean : Bool) (q : Request) (seen : ℕ) (s t : Port) : Type 0 where
  pub none : IsPortNoAck seen
  pub asks : CheckedAsks clean s q seen t

-- a whole transaction, before which no write is given up
abbrev pub CheckedTransactsKept : Bool → TxEnd → Request → Port → Port → Type 0
CheckedTransactsKept clean (Moved word ok) q s t = CheckedHasMoved clean q word ok s t
CheckedTransactsKept clean Wait q s t = WasCheckedRefused clean q 2 s t
CheckedTransactsKept clean Fault q s t = WasCheckedRefused clean q 4 s t
CheckedTransactsKept clean (NoAck seen) q s t = WasCheckedLost clean q seen s t

-- the target saw the request, and answered OK to it
abbrev pub IsCheckedOkay : (clean : Bool) (end : TxEnd) (q : Request) (s t : Port)
    → CheckedTransactsKept clean end q s t → Type 0
IsCheckedOkay clean (Moved word ok) q s t h = port_reply h.asks.mark h.asks.before.target q ≡ Okay
IsCheckedOkay clean Wait q s t h = port_reply h.asks.mark h.asks.before.target q ≡ Okay
IsCheckedOkay clean Fault q s t h = port_reply h.asks.mark h.asks.before.target q ≡ Okay
IsCheckedOkay clean (NoAck seen) q s t h = port_reply h.asks.mark h.asks.before.target q ≡ Okay

-- A whole transaction, before which the target gives the pending write up. That is no damage of the wire: it may be
-- where `clean` is true.
pub record CheckedTransactsGivenUp (clean : Bool) (end : TxEnd) (q : Request) (s t : Port) : Type 0 where
  pub given : Port
  pub gives : PortGaveUp q s given
  pub transacts : CheckedTransactsKept clean end q given t
  pub okay : IsCheckedOkay clean end q given t transacts

-- a whole transaction
abbrev pub CheckedTransacts : Bool → TxEnd → Request → Port → Port → Type 0
CheckedTransacts clean end q s t =
    CheckedTransactsKept clean end q s t ⊎ CheckedTransactsGivenUp clean end q s t
