-- Transactions of serial wire, as a probe makes them: IHI 0031, "Serial Wire Debug protocol".
use Rattle.std.specs.Prelude.{ℕ, zero, suc, ◌≡◌, ◌≤◌, Bool, true, false, List, [], ◌∷◌, Option, Some, None}
use Rattle.swd_bits.specs.declared.request.Request.{Request}
use Rattle.swd_bits.specs.declared.request.Reg4.TheVariants.{R0}
use Rattle.swd_bits.specs.Bits.{low_bits, bits_number}
use Rattle.swd_bits.specs.Wire.{bits_of_request}
use Rattle.swd_bits.specs.Phases.{data_phase_number, data_phase_word}
use Rattle.swd_sequences.specs.declared.sequence.Sequence.{Sequence}
use Rattle.swd_sequences.specs.declared.sequence.Sequence.TheVariants.{Drive, Hold, Release, Sample}
use Rattle.swd_sequences.specs.Going.{SequenceClock, SequencesGoBy}
use Rattle.swd_dap_probe.specs.declared.settings.Settings.{Settings}
use Rattle.swd_dap_probe.specs.declared.transaction.Answer.{Answer}
use Rattle.swd_dap_probe.specs.declared.transaction.Answer.TheVariants.{Okay, Damaged, Wait, Fault, Missing}

-- a write of ABORT
abbrev pub dap_abort : Request
dap_abort = record { ap = false; read = false; addr = R0 }

-- Sequences go by, and this is the number of the levels that they sample, the first in time least significant.
pub record DapSamples {L : Type 0} (clock : SequenceClock L) (sequences : List Sequence) (number : ℕ) (s t : L) :
    Type 0 where
  pub levels : List Bool
  pub goes : SequencesGoBy clock sequences levels s t
  pub is : number ≡ bits_number levels

-- A request and the turnaround go by, and the three bits of the acknowledgement are sampled.
pub record ProbeAsks {L : Type 0} (clock : SequenceClock L) (settings : Settings) (request : Request) (seen : ℕ)
    (s t : L) : Type 0 where
  pub bits : ℕ
  pub asked : low_bits 8 bits ≡ bits_of_request request
  pub goes : DapSamples clock (Drive bits 8 ∷ Release settings.turnaround ∷ Sample 3 ∷ []) seen s t

-- a data phase that is read, and one that is written, each with its turnaround and the idle cycles
abbrev pub dap_take : Settings → List Sequence
dap_take settings = Sample 33 ∷ Release settings.turnaround ∷ Hold false settings.idle ∷ []

abbrev pub dap_give : Settings → ℕ → List Sequence
dap_give settings word =
    Release settings.turnaround ∷ Drive (data_phase_number word) 33 ∷ Hold false settings.idle ∷ []

-- behind WAIT and FAULT: the turnaround, and the data phase of a read or a write, if there is one
abbrev pub dap_pass : Settings → Bool → Bool → List Sequence
dap_pass settings true true = Release 33 ∷ Release settings.turnaround ∷ []
dap_pass settings true false = Release settings.turnaround ∷ Hold false 33 ∷ []
dap_pass settings false read = Release settings.turnaround ∷ []

-- where there is no acknowledgement
abbrev pub dap_back_off : Settings → List Sequence
dap_back_off settings = Release 33 ∷ Release settings.turnaround ∷ []

-- how the bits of a data phase answer a read: by a word if the parity is right
abbrev pub dap_word_answer : Option ℕ → Answer
dap_word_answer (Some word) = Okay word
dap_word_answer None = Damaged

-- the number of an answer in a reply
abbrev pub dap_value : Answer → ℕ
dap_value (Okay word) = 1
dap_value Wait = 2
dap_value Fault = 4
dap_value Damaged = 8
dap_value (Missing seen) = seen

-- What goes by behind these three bits of an acknowledgement, and how the transaction is answered. `word` is that of a
-- write.
pub data DapBehind {L : Type 0} (clock : SequenceClock L) (settings : Settings) (request : Request) (word seen : ℕ)
    (answer : Answer) (s t : L) : Type 0 where
  reads : seen ≡ 1 → request.read ≡ true → (sent : ℕ) → DapSamples clock (dap_take settings) sent s t
      → answer ≡ dap_word_answer (data_phase_word sent) → DapBehind clock settings request word seen answer s t
  writes : seen ≡ 1 → request.read ≡ false → SequencesGoBy clock (dap_give settings word) [] s t → answer ≡ Okay 0
      → DapBehind clock settings request word seen answer s t
  waits : seen ≡ 2 → SequencesGoBy clock (dap_pass settings settings.data_phase request.read) [] s t → answer ≡ Wait
      → DapBehind clock settings request word seen answer s t
  faults : seen ≡ 4 → SequencesGoBy clock (dap_pass settings settings.data_phase request.read) [] s t
      → answer ≡ Fault → DapBehind clock settings request word seen answer s t
  misses : (seen ≡ 1 → ⊥) → (seen ≡ 2 → ⊥) → (seen ≡ 4 → ⊥) → SequencesGoBy clock (dap_back_off settings) [] s t
      → answer ≡ Missing seen → DapBehind clock settings request word seen answer s t

-- one transaction
pub record DapTransaction {L : Type 0} (clock : SequenceClock L) (settings : Settings) (request : Request) (word : ℕ)
    (answer : Answer) (s t : L) : Type 0 where
  pub seen : ℕ
  pub m : L
  pub asks : ProbeAsks clock settings request seen s m
  pub behind : DapBehind clock settings request word seen answer m t

-- so many transactions of one request, each answered WAIT
abbrev pub DapWaits : {L : Type 0} → SequenceClock L → Settings → Request → ℕ → ℕ → L → L → Type 0
DapWaits clock settings request word zero s t = t ≡ s
DapWaits {L} clock settings request word (suc n) s t = (m : L) × DapWaits clock settings request word n s m
    × DapTransaction clock settings request word Wait m t

-- One request is made: a transaction, and again at each WAIT, at most as often as is set. Only if all were answered
-- WAIT is the request.
pub record DapPersists {L : Type 0} (clock : SequenceClock L) (settings : Settings) (request : Request) (word : ℕ)
    (answer : Answer) (s t : L) : Type 0 where
  pub waits : ℕ
  pub few : waits ≤ settings.retries
  pub m : L
  pub waited : DapWaits clock settings request word waits s m
  pub last : DapTransaction clock settings request word answer m t
  pub gives_up : answer ≡ Wait → waits ≡ settings.retries

-- a request that was made: its word, if it is a write, and how it was answered
pub record DapMade : Type 0 where
  pub request : Request
  pub word : ℕ
  pub answer : Answer

-- requests, one after the other
abbrev pub DapMadeGo : {L : Type 0} → SequenceClock L → Settings → List DapMade → L → L → Type 0
DapMadeGo clock settings [] s t = t ≡ s
DapMadeGo {L} clock settings (made ∷ more) s t = (m : L)
    × DapPersists clock settings made.request made.word made.answer s m × DapMadeGo clock settings more m t
