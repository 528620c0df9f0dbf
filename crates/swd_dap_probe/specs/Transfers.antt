-- What the packets of DAP_Transfer and DAP_TransferBlock make: their requests, and the reads that the probe makes
-- besides, by the table of this crate's README.md.
use Rattle.std.specs.Prelude.{ℕ, zero, suc, ◌≡◌, ◌/◌, ◌%◌, ◌==◌, Bool, true, false, List, [], ◌∷◌, ◌++◌, drop}
use Rattle.std.specs.Prelude.{slice_index, if◌then◌else◌, Option, Some, None}
use Rattle.std.specs.Prelude.{◌+◌, ◌*◌, ◌&&◌}
use Rattle.std.specs.Int.{w32, to_le_bytes}
use Rattle.std.specs.Int.RustNames.{bit_and}
use Rattle.swd_bits.specs.declared.request.Request.{Request}
use Rattle.swd_bits.specs.declared.request.Reg4.TheVariants.{RC}
use Rattle.swd_bits.specs.Wire.{request_reg4_of}
use Rattle.swd_sequences.specs.Going.{SequenceClock}
use Rattle.swd_dap_probe.specs.declared.settings.Settings.{Settings}
use Rattle.swd_dap_probe.specs.declared.transaction.Answer.{Answer}
use Rattle.swd_dap_probe.specs.declared.transaction.Answer.TheVariants.{Okay}
use Rattle.swd_dap_probe.specs.declared.transfers.Asked.{Asked}
use Rattle.swd_dap_probe.specs.declared.transfers.Asked.TheVariants.{Read, Match, Write, Mask}
use Rattle.swd_dap_probe.specs.declared.transfers.Pending.{Pending}
use Rattle.swd_dap_probe.specs.declared.transfers.Pending.TheVariants.{Nothing, Word, Check}
use Rattle.swd_dap_probe.specs.declared.shape.Items.TheVariants.{Transfers}
use Rattle.swd_dap_probe.specs.Shapes.{dap_reads, dap_matches, dap_item_shape, dap_block_count}
use Rattle.swd_dap_probe.specs.Plain.{dap_word}
use Rattle.swd_dap_probe.specs.Transactions.{dap_value, DapMade, DapMadeGo}

-- the bytes of a reply that a request adds at most
abbrev pub dap_asked_bytes : Asked → ℕ
dap_asked_bytes (Read request) = 4
dap_asked_bytes (Match request word) = 0
dap_asked_bytes (Write request word) = 0
dap_asked_bytes (Mask word) = 0

-- those that are still to come of earlier ones
abbrev pub dap_pending_bytes : Pending → ℕ
dap_pending_bytes Nothing = 0
dap_pending_bytes Word = 4
dap_pending_bytes Check = 0

-- REQUESTS

-- the register of a code: APnDP, RnW, A[2], A[3], the first in bit 0
abbrev pub dap_request : ℕ → Request
dap_request code =
    record { ap = code % 2 == 1; read = dap_reads code; addr = request_reg4_of (code / 4 % 4) }

-- the request at the head of these bytes; bit 5 of a write is one of the mask
abbrev pub dap_asked : List ℕ → Asked
dap_asked bytes =
    let code = slice_index bytes 0 in
    if dap_reads code
    then (if dap_matches code then Match (dap_request code) (dap_word bytes 1) else Read (dap_request code))
    else (if code / 32 % 2 == 1 then Mask (dap_word bytes 1) else Write (dap_request code) (dap_word bytes 1))

-- so many requests, one after the other
abbrev pub dap_asked_list : ℕ → List ℕ → List Asked
dap_asked_list zero bytes = []
dap_asked_list (suc n) bytes =
    dap_asked bytes ∷ dap_asked_list n (drop (dap_item_shape Transfers bytes).request bytes)

-- STEPS

-- What a packet makes, as long as each transaction is OK: a transaction, whose word is not told; a read, whose word is;
-- a read that is made again until its word matches; a mask for the words that are compared; one request more is done.
pub data DapStep : Type 0 where
  Makes : Request → ℕ → DapStep
  Tells : Request → DapStep
  Seeks : Request → ℕ → DapStep
  Masks : ℕ → DapStep
  Counts : DapStep

abbrev pub dap_read_buffer : Request
dap_read_buffer = record { ap = false; read = true; addr = RC }

-- a first read of the access port, whose word the read behind it returns
abbrev pub dap_post : Request → List DapStep
dap_post request = if request.ap then Makes request 0 ∷ [] else []

-- those of a request by itself
abbrev pub dap_own : Asked → List DapStep
dap_own (Read request) = if request.ap then Makes request 0 ∷ [] else Tells request ∷ []
dap_own (Match request word) = dap_post request ++ Seeks request word ∷ []
dap_own (Write request word) = Makes request word ∷ []
dap_own (Mask word) = Masks word ∷ []

-- what is pending behind it
abbrev pub dap_own_pending : Pending → Asked → Pending
dap_own_pending pending (Read request) = if request.ap then Word else Nothing
dap_own_pending pending (Match request word) = Nothing
dap_own_pending pending (Write request word) = Check
dap_own_pending pending (Mask word) = pending

-- RDBUFF is read where the word of a read of the access port is pending
abbrev pub dap_fetch : Pending → List DapStep
dap_fetch Nothing = []
dap_fetch Word = Tells dap_read_buffer ∷ []
dap_fetch Check = []

abbrev pub dap_fetched : Pending → Pending
dap_fetched Nothing = Nothing
dap_fetched Word = Nothing
dap_fetched Check = Check

-- and not where the next request is such a read: it returns the word
abbrev pub dap_read_again : Pending → Asked → Option Request
dap_read_again Word (Read request) = if request.ap then Some request else None
dap_read_again pending asked = None

abbrev pub dap_next_by : Option Request → Pending → Asked → List DapStep
dap_next_by (Some request) pending asked = Tells request ∷ []
dap_next_by None pending asked = dap_fetch pending ++ dap_own asked

abbrev pub dap_pending_by : Option Request → Pending → Asked → Pending
dap_pending_by (Some request) pending asked = pending
dap_pending_by None pending asked = dap_own_pending (dap_fetched pending) asked

-- those of a request behind others, and what is pending then
abbrev pub dap_next : Pending → Asked → List DapStep
dap_next pending asked = dap_next_by (dap_read_again pending asked) pending asked

abbrev pub dap_next_pending : Pending → Asked → Pending
dap_next_pending pending asked = dap_pending_by (dap_read_again pending asked) pending asked

-- behind the last request: RDBUFF is read, and told if it has the word of a read
abbrev pub dap_finish : Pending → List DapStep
dap_finish Nothing = []
dap_finish Word = Tells dap_read_buffer ∷ []
dap_finish Check = Makes dap_read_buffer 0 ∷ []

-- those of a list of requests
abbrev pub dap_steps : Pending → List Asked → List DapStep
dap_steps pending [] = dap_finish pending
dap_steps pending (asked ∷ more) =
    dap_next pending asked ++ Counts ∷ dap_steps (dap_next_pending pending asked) more

-- PERFORMING

-- how far a packet came: the requests that were done, the bytes of the words that are told, and the mask
pub record DapRun : Type 0 where
  pub count : ℕ
  pub words : List ℕ
  pub mask : ℕ

abbrev pub dap_run : ℕ → List ℕ → ℕ → DapRun
dap_run count words mask = record { count = count; words = words; mask = mask }

abbrev pub dap_made_by : Request → ℕ → Answer → DapMade
dap_made_by request word answer = record { request = request; word = word; answer = answer }

-- the bytes of the word of a read that was OK
abbrev pub dap_told : Answer → List ℕ
dap_told (Okay word) = to_le_bytes w32 word
dap_told answer = []

-- Behind a transaction that isn't OK none is made, and its number ends the reply: never 1.
pub record DapStops (answer : Answer) (made : List DapMade) (value : ℕ) (from to : DapRun) : Type 0 where
  pub none : made ≡ []
  pub is : value ≡ dap_value answer
  pub told : value ≡ 1 → ⊥
  pub run : to ≡ from

-- one of two, by how a transaction was answered, and by whether words are equal
abbrev pub DapByAnswer : Answer → (ℕ → Type 0) → Type 0 → Type 0
DapByAnswer (Okay word) Goes Stops = Goes word
DapByAnswer answer Goes Stops = Stops

abbrev pub DapByMatch : Bool → Type 0 → Type 0 → Type 0
DapByMatch true Same Other = Same
DapByMatch false Same Other = Other

-- A transaction is the first of those that were made; then this holds of the others.
abbrev pub DapFirst : Request → ℕ → List DapMade → (Answer → List DapMade → Type 0) → Type 0
DapFirst request word made Holds =
    (answer : Answer) × (rest : List DapMade) × (made ≡ dap_made_by request word answer ∷ rest) × Holds answer rest

-- A read is made at most so many times until its word matches where the mask has ones. Then others are. If none
-- matches, the number is 17.
abbrev pub DapSeeks : ℕ → Request → ℕ → DapRun → (List DapMade → Type 0) → List DapMade → ℕ → DapRun → Type 0
DapSeeks zero request wanted run Goes made value to = (made ≡ []) × (value ≡ 17) × (to ≡ run)
DapSeeks (suc n) request wanted run Goes made value to = DapFirst request 0 made (λ answer rest.
    DapByAnswer answer (λ word. DapByMatch (bit_and word run.mask == wanted) (Goes rest)
    (DapSeeks n request wanted run Goes rest value to)) (DapStops answer rest value run to))

-- Steps are performed, in order, up to the first that isn't OK. From `run` these requests are made, each with its
-- answer, the number of the result is this, 1 if all were OK, and `to` is how far it came.
abbrev pub DapStepsGo : Settings → DapRun → List DapStep → List DapMade → ℕ → DapRun → Type 0
DapStepsGo settings run [] made value to = (made ≡ []) × (value ≡ 1) × (to ≡ run)
DapStepsGo settings run (Counts ∷ more) made value to =
    DapStepsGo settings (dap_run (suc run.count) run.words run.mask) more made value to
DapStepsGo settings run (Masks word ∷ more) made value to =
    DapStepsGo settings (dap_run run.count run.words word) more made value to
DapStepsGo settings run (Makes request word ∷ more) made value to = DapFirst request word made (λ answer rest.
    DapByAnswer answer (λ _. DapStepsGo settings run more rest value to) (DapStops answer rest value run to))
DapStepsGo settings run (Tells request ∷ more) made value to = DapFirst request 0 made (λ answer rest.
    DapByAnswer answer (λ word. DapStepsGo settings
    (dap_run run.count (run.words ++ to_le_bytes w32 word) run.mask) more rest value to)
    (DapStops answer rest value run to))
DapStepsGo settings run (Seeks request wanted ∷ more) made value to = DapSeeks (suc settings.matches) request wanted run
    (λ rest. DapStepsGo settings run more rest value to) made value to

-- Over a line: the requests that steps make are made, and nothing else.
pub record DapStepsMade {L : Type 0} (clock : SequenceClock L) (settings : Settings) (steps : List DapStep) (value : ℕ)
    (run to : DapRun) (s t : L) : Type 0 where
  pub made : List DapMade
  pub go : DapMadeGo clock settings made s t
  pub performs : DapStepsGo settings run steps made value to

-- without a request the number of the result is 0
abbrev pub dap_transfer_value : ℕ → ℕ → ℕ
dap_transfer_value count value = if count == 0 then 0 else value

-- DAP_Transfer makes the steps of its requests, and tells how many were done, how the last transaction was answered,
-- and the words.
pub record DapTransfers {L : Type 0} (clock : SequenceClock L) (settings : Settings) (bytes told : List ℕ)
    (mask becomes : ℕ) (s t : L) : Type 0 where
  pub run : DapRun
  pub value : ℕ
  pub does : DapStepsMade clock settings (dap_steps Nothing (dap_asked_list (slice_index bytes 2) (drop 3 bytes))) value
      (dap_run 0 [] mask) run s t
  pub masked : becomes ≡ run.mask
  pub is : told ≡ 5 ∷ run.count ∷ dap_transfer_value (slice_index bytes 2) value ∷ run.words

-- BLOCKS

-- a read with so many behind it: of the access port, the last is one of RDBUFF
abbrev pub dap_block_read : Request → ℕ → Request
dap_block_read request left = if request.ap && (left == 0) then dap_read_buffer else request

-- so many reads
abbrev pub dap_block_reads : Request → ℕ → List DapStep
dap_block_reads request zero = []
dap_block_reads request (suc n) = Tells (dap_block_read request n) ∷ Counts ∷ dap_block_reads request n

-- so many writes, of the words of these bytes from a place on, and a read of RDBUFF behind them
abbrev pub dap_block_writes : Request → List ℕ → ℕ → ℕ → List DapStep
dap_block_writes request bytes place zero = Makes dap_read_buffer 0 ∷ []
dap_block_writes request bytes place (suc n) =
    Makes request (dap_word bytes (4 * place)) ∷ Counts ∷ dap_block_writes request bytes (place + 1) n

-- those of a block of so many words; of none, none
abbrev pub dap_block_by : Request → List ℕ → ℕ → List DapStep
dap_block_by request bytes zero = []
dap_block_by request bytes (suc n) =
    if request.read then dap_post request ++ dap_block_reads request (suc n)
    else dap_block_writes request (drop 5 bytes) 0 (suc n)

abbrev pub dap_block_steps : List ℕ → List DapStep
dap_block_steps bytes = dap_block_by (dap_request (slice_index bytes 4)) bytes (dap_block_count bytes)

-- DAP_TransferBlock makes the steps of its block, and tells the same. No mask is read or set.
pub record DapBlock {L : Type 0} (clock : SequenceClock L) (settings : Settings) (bytes told : List ℕ) (s t : L) :
    Type 0 where
  pub count : ℕ
  pub value : ℕ
  pub words : List ℕ
  pub does : (mask : ℕ) → DapStepsMade clock settings (dap_block_steps bytes) value (dap_run 0 [] mask)
      (dap_run count words mask) s t
  pub is : told ≡ 6 ∷ count % 256 ∷ count / 256 ∷ dap_transfer_value (dap_block_count bytes) value ∷ words
