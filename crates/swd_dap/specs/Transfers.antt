-- Requests of DAP_Transfer, the transactions that a probe makes of them, and the reply: the description of CMSIS-DAP,
-- "DAP_Transfer".
use Rattle.std.specs.Prelude.{ℕ, ◌≡◌, ◌+◌, ◌-◌, ◌^◌, ◌<◌, ◌≤◌, ◌==◌, Bool, true, false, not, ◌&&◌, ◌||◌}
use Rattle.std.specs.Prelude.{List, [], ◌∷◌, ◌++◌, length, take, drop, map, if◌then◌else◌, slice_get, Some}
use Rattle.std.specs.Int.{w32, to_le_bytes, from_le_bytes}
use Rattle.swd_bits.specs.declared.request.Request.{Request}
use Rattle.swd_bits.specs.declared.request.Reg4.{Reg4}
use Rattle.swd_bits.specs.declared.request.Reg4.TheVariants.{R0, R4, R8, RC}
use Rattle.swd_bits.specs.Phases.{data_phase_number}
use Rattle.swd_port.specs.declared.coming.Coming.{Coming}
use Rattle.swd_dap.specs.declared.transfer.Transfer.{Transfer}
use Rattle.swd_dap.specs.declared.beginning.Filled.{Filled}
use Rattle.swd_dap.specs.declared.replies.Told.{Told}

-- a transaction that is announced
abbrev pub dap_transfer_of : Coming → Transfer
dap_transfer_of coming = record { request = coming.request; word = coming.word }

-- a request alone
abbrev pub dap_reading : Request → Transfer
dap_reading q = record { request = q; word = 0 }

-- THE BYTES OF REQUESTS

abbrev pub dap_address : Reg4 → ℕ
dap_address R0 = 0
dap_address R4 = 4
dap_address R8 = 8
dap_address RC = 12

-- APnDP, RnW, A[2], A[3], the first least significant
abbrev pub dap_code : Request → ℕ
dap_code q = (if q.ap then 1 else 0) + (if q.read then 2 else 0) + dap_address q.addr

-- a request, and the word of a write
abbrev pub dap_transfer_bytes : Transfer → List ℕ
dap_transfer_bytes t = dap_code t.request ∷ (if t.request.read then [] else to_le_bytes w32 t.word)

abbrev pub dap_all_bytes : List Transfer → List ℕ
dap_all_bytes [] = []
dap_all_bytes (t ∷ ts) = dap_transfer_bytes t ++ dap_all_bytes ts

abbrev pub dap_transfer_request : List Transfer → List ℕ
dap_transfer_request ts = 5 ∷ 0 ∷ length ts ∷ dap_all_bytes ts

-- THE TRANSACTIONS THAT THE PROBE MAKES OF REQUESTS

-- a read of the access port returns the word of the one before it
abbrev pub dap_posts : Request → Bool
dap_posts q = q.ap && q.read

abbrev pub dap_reads_dp : Request → Bool
dap_reads_dp q = not q.ap && q.read

abbrev pub dap_rdbuff : Request
dap_rdbuff = record { ap = false; read = true; addr = RC }

-- between a read of the access port and anything but another one the probe reads RDBUFF
abbrev pub dap_hidden_between : Request → Request → List Request
dap_hidden_between p q = if dap_posts p && not (dap_posts q) then dap_rdbuff ∷ [] else []

-- and behind the last request, unless that is a read of the debug port
abbrev pub dap_hidden_last : Request → List Request
dap_hidden_last p = if dap_reads_dp p then [] else dap_rdbuff ∷ []

abbrev pub dap_made_behind : Request → List Request → List Request
dap_made_behind p [] = dap_hidden_last p
dap_made_behind p (q ∷ qs) = dap_hidden_between p q ++ q ∷ dap_made_behind q qs

-- the transactions of a packet of requests, each of which is OK
abbrev pub dap_made : List Request → List Request
dap_made [] = []
dap_made (q ∷ qs) = q ∷ dap_made_behind q qs

abbrev pub dap_request_of : Transfer → Request
dap_request_of t = t.request

-- Whether a read of the access port has a word that wasn't fetched, behind a transaction that is OK: RDBUFF fetches it,
-- and a write of the access port drops it.
abbrev pub dap_fetches : Reg4 → Bool
dap_fetches RC = true
dap_fetches r = false

abbrev pub dap_posted_behind : Bool → Request → Bool
dap_posted_behind posted q =
    if q.ap then q.read else posted && not (q.read && dap_fetches q.addr)

-- The transactions that a probe makes of requests, without those that it makes by itself, behind a read of the access
-- port (`posts`) or not: reads of RDBUFF directly behind one.
abbrev pub dap_hides : Bool → Request → Bool
dap_hides posts q = posts && (dap_reads_dp q && dap_fetches q.addr)

abbrev pub dap_shown : Bool → Transfer → List Transfer
dap_shown posts t = if dap_hides posts t.request then [] else t ∷ []

abbrev pub dap_requests_of : Bool → List Transfer → List Transfer
dap_requests_of posts [] = []
dap_requests_of posts (t ∷ ts) = dap_shown posts t ++ dap_requests_of (dap_posts t.request) ts

-- each request that reads has a word in the reply: four bytes
abbrev pub dap_reply_room : Bool → Request → ℕ
dap_reply_room posts q = if q.read && not (dap_hides posts q) then 4 else 0

-- whether the reply to a packet doesn't have the word of a read that was made before it: that of the first read of the
-- access port behind anything else
abbrev pub dap_drops_word : Bool → Bool → List Request → Bool
dap_drops_word posted posts [] = false
dap_drops_word posted posts (q ∷ qs) = (posted && not posts && dap_posts q)
    || dap_drops_word (dap_posted_behind posted q) (dap_posts q) qs

-- whether a word of the reply is that of this transaction, behind a read of the access port (`posts`) or not
abbrev pub dap_has_word : Bool → Request → Bool
dap_has_word posts q = posts || dap_reads_dp q

-- the bytes of the words of these transactions, which are OK
abbrev pub dap_word_length : Bool → ℕ
dap_word_length true = 4
dap_word_length false = 0

abbrev pub dap_words_length : Bool → List Transfer → ℕ
dap_words_length posts [] = 0
dap_words_length posts (t ∷ ts) =
    dap_word_length (dap_has_word posts t.request) + dap_words_length (dap_posts t.request) ts

-- Whether a transaction may follow in a packet, behind what it has. Behind a read of RDBUFF that is no request none may
-- where replies are padded, and no read of the access port: between two of them the probe makes no read of RDBUFF.
-- Behind a read of the access port another one may, or that read of RDBUFF; a first one only where no word waits.
abbrev pub dap_admits : Bool → Filled → Request → Bool
dap_admits padded f q =
    if f.hides then not padded && not (dap_posts q)
    else (if dap_posts q then f.posts || not f.posted else not f.posts || (dap_reads_dp q && dap_fetches q.addr))

-- what a packet has with one more transaction
pub record DapFilledWith (padded : Bool) (f : Filled) (t : Transfer) (size : ℕ) (g : Filled) : Type 0 where
  pub admits : dap_admits padded f t.request ≡ true
  pub bytes : g.bytes ≡ f.bytes + length (dap_all_bytes (dap_shown f.posts t))
  pub fits : g.bytes ≤ size
  pub reply : g.reply ≡ f.reply + dap_reply_room f.posts t.request
  pub replies : g.reply ≤ size
  pub posts : g.posts ≡ dap_posts t.request
  pub posted : g.posted ≡ dap_posted_behind f.posted t.request
  pub hides : g.hides ≡ dap_hides f.posts t.request

-- So many transactions of a plan go by one packet of this size: the probe makes of their requests exactly these
-- transactions, its reply fits, and it drops no word that was read before. Where replies may be padded, the last
-- transaction alone may be no request: else a reply wouldn't tell which one wasn't OK.
pub record IsDapBeginning (plan : List Transfer) (size : ℕ) (padded posted : Bool) (n : ℕ) : Type 0 where
  pub planned : n ≤ length plan
  pub few : length (dap_requests_of false (take n plan)) ≤ 255
  pub fits : length (dap_transfer_request (dap_requests_of false (take n plan))) ≤ size
  pub replies : 3 + dap_words_length false (take n plan) ≤ size
  pub exact : dap_made (map dap_request_of (dap_requests_of false (take n plan)))
      ≡ map dap_request_of (take n plan)
  pub keeps : dap_drops_word posted false (map dap_request_of (take n plan)) ≡ false
  pub tells : padded ≡ true → dap_requests_of false (take (n - 1) plan) ≡ take (n - 1) plan

-- THE REPLY

abbrev pub dap_word_told : Bool → List ℕ → ℕ
dap_word_told true words = from_le_bytes w32 words
dap_word_told false words = 0

abbrev pub dap_words_left : Bool → List ℕ → List ℕ
dap_words_left true words = drop 4 words
dap_words_left false words = words

-- A transaction that was OK. The word of a read that isn't told is any; here it is 0.
abbrev pub dap_told_okay : Transfer → ℕ → Told
dap_told_okay t word = record {
  transfer = t;
  seen = 1;
  bits = data_phase_number (if t.request.read then word else t.word);
}

-- transactions that were OK, with the words of the reply, which are four bytes each, in order
abbrev pub dap_told_of : Bool → List Transfer → List ℕ → List Told
dap_told_of posts [] words = []
dap_told_of posts (t ∷ ts) words =
    dap_told_okay t (dap_word_told (dap_has_word posts t.request) words)
    ∷ dap_told_of (dap_posts t.request) ts (dap_words_left (dap_has_word posts t.request) words)

-- the reply has each word that is told
abbrev pub DapHasWords : Bool → List Transfer → List ℕ → Type 0
DapHasWords posts [] words = Unit {0}
DapHasWords posts (t ∷ ts) words = (dap_has_word posts t.request ≡ true → 4 ≤ length words)
    × DapHasWords (dap_posts t.request) ts (dap_words_left (dap_has_word posts t.request) words)

-- the last transaction, by the result that isn't OK: a data phase whose parity is wrong at 8, else the three bits of
-- an acknowledgement
abbrev pub dap_told_failed : Transfer → ℕ → Told
dap_told_failed t value = if value == 8 then record { transfer = t; seen = 1; bits = 2 ^ 32 } else record {
  transfer = t;
  seen = value;
  bits = 0;
}

-- Where a probe stopped that had done so many requests: behind so many transactions that were OK. Behind a read of the
-- access port two places have as many requests before them, that of the read of RDBUFF which is no request and that of
-- the next one: the number of words tells them apart, if replies aren't padded.
pub record IsDapStop (padded : Bool) (ts : List Transfer) (done words okay : ℕ) : Type 0 where
  pub within : okay < length ts
  pub requests : length (dap_requests_of false (take okay ts)) ≡ done
  pub counted : padded ≡ false → dap_words_length false (take okay ts) ≡ words

-- the transactions before one that wasn't OK, and that one
pub record DapTellsUpTo (ts : List Transfer) (okay value : ℕ) (words : List ℕ) (told : List Told) : Type 0 where
  pub last : Transfer
  pub planned : slice_get ts okay ≡ Some last
  pub long : DapHasWords false (take okay ts) words
  pub is : told ≡ dap_told_of false (take okay ts) words ++ dap_told_failed last value ∷ []

-- what the reply says, all being OK or not: `done` requests were done
abbrev pub DapTellsBy : Bool → Bool → List Transfer → ℕ → ℕ → List ℕ → List Told → Type 0
DapTellsBy true padded ts done value words told =
    (done ≡ length (dap_requests_of false ts)) × DapHasWords false ts words × (told ≡ dap_told_of false ts words)
DapTellsBy false padded ts done value words told =
    (okay : ℕ) × IsDapStop padded ts done (length words) okay × DapTellsUpTo ts okay value words told

-- These are the transactions that the reply to a packet tells, of those that the packet was to make.
pub record DapTells (padded : Bool) (ts : List Transfer) (reply : List ℕ) (told : List Told) : Type 0 where
  pub done : ℕ
  pub value : ℕ
  pub words : List ℕ
  pub is : reply ≡ 5 ∷ done ∷ value ∷ words
  pub by : DapTellsBy (value == 1) padded ts done value words told
