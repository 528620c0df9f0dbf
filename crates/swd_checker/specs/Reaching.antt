-- Worlds to which an item leads from others: each state that they stand for is one that a run reaches.
use Rattle.std.specs.Prelude.{ℕ, ◌≡◌, ◌<◌, ◌-◌, ◌^◌, Bool, true, false, List, Option, Some, None, Contains, All}
use Rattle.std.specs.Prelude.{Any}
use Rattle.std.specs.Prelude.{unwrap_or}
use Rattle.swd_bits.specs.declared.tx.Tx.{Tx as Transaction}
use Rattle.swd_bits.specs.declared.request.Request.{Request}
use Rattle.swd_bits.specs.declared.tx.TxEnd.{TxEnd}
use Rattle.swd_bits.specs.declared.tx.TxEnd.TheVariants.{Moved}
use Rattle.swd_bits.specs.Transactions.{IsTx}
use Rattle.swd_trace.specs.declared.item.Item.{Item}
use Rattle.swd_trace.specs.declared.item.Item.TheVariants.{Tx}
use Rattle.swd_port.specs.Registers.{register_bit}
use Rattle.swd_port.specs.Port.{Port}
use Rattle.swd_checker.specs.declared.identification.Identification.{Identification}
use Rattle.swd_checker.specs.declared.worlds.Kept.{Kept}
use Rattle.swd_checker.specs.declared.worlds.Worlds.{Worlds}
use Rattle.swd_checker.specs.declared.near.Near.{Near}
use Rattle.swd_checker.specs.Worlds.{World, Held, HeldSeen}
use Rattle.swd_checker.specs.Described.{IsCheckedNear}
use Rattle.swd_checker.specs.Words.{Words, IsCheckedWord}
use Rattle.swd_checker.specs.Exact.{WorldWords, CheckedAnswers, IsWorldExact, IsWorldSound, IsWorldPort, IsHeldExact}
use Rattle.swd_checker.specs.Exact.{IsHeldSound, IsNearSound}
use Rattle.swd_checker.specs.Checked.{CheckedTransactsKept, IsCheckedOkay}
use Rattle.swd_checker.specs.Standing.{CheckedShowsPlainly, checked_reads_dpidr, IsIdentified}

-- A step leads from one state to the other, whatever the bus is to answer after it: some bus answers so in between that
-- it does.
abbrev pub WorldSteps : (Port → Port → Type 0) → ℕ → World → WorldWords → World → WorldWords → Type 0
WorldSteps step n w u next v = (after : CheckedAnswers) → (before : CheckedAnswers)
    × ((s : Port) → IsWorldPort w n u before s → (t : Port) × step s t × IsWorldPort next n v after t)

-- each state that the second stands for is one to which a step leads from a state of the first
pub record WorldGoes (step : Port → Port → Type 0) (n : ℕ) (w next : World) : Type 0 where
  pub sound : IsWorldSound w → IsWorldSound next
  pub each : IsWorldSound w → (v : WorldWords) → IsWorldExact next v
      → (u : WorldWords) × IsWorldExact w u × WorldSteps step n w u next v

-- a transaction before which no write is given up, to which the target answers OK where `okay` is true
abbrev pub WorldTransacts : Bool → Bool → TxEnd → Request → Port → Port → Type 0
WorldTransacts okay clean end q s t = (h : CheckedTransactsKept clean end q s t)
    × (okay ≡ true → IsCheckedOkay clean end q s t h)

-- an item
abbrev pub WorldLeads : Bool → ℕ → Item → World → WorldWords → World → WorldWords → Type 0
WorldLeads clean n item w u next v = WorldSteps (λ s t. CheckedShowsPlainly clean 0 item s t) n w u next v

-- an item, the worlds before it, and the word that DPIDR returns
pub record CheckedLink : Type 0 where
  pub from : List Kept
  pub clean : Bool
  pub identification : ℕ
  pub item : Item

abbrev pub checked_link : List Kept → Bool → ℕ → Item → CheckedLink
checked_link from clean n item = record { from = from; clean = clean; identification = n; item = item }

-- there are states that each of the worlds stands for
abbrev pub AreKeptSound : List Kept → Type 0
AreKeptSound items = All (λ kept. IsWorldSound kept.world) items

-- the item leads to this state from one of a world of the list
abbrev pub IsReachedBy : CheckedLink → World → WorldWords → Type 0
IsReachedBy link next v = Any (λ kept. (u : WorldWords) × IsWorldExact kept.world u
    × WorldLeads link.clean link.identification link.item kept.world u next v) link.from

-- to each state that a world stands for, of which there is one
pub record WorldReaches (link : CheckedLink) (next : World) : Type 0 where
  pub sound : IsWorldSound next
  pub each : (v : WorldWords) → IsWorldExact next v → IsReachedBy link next v

-- and to each of each of these worlds
pub record WorldsReach (link : CheckedLink) (ws : Worlds) : Type 0 where
  pub each : All (λ kept. WorldReaches link kept.world) ws.kept.items

-- a world that two together are: it is reached if they are
abbrev pub AreReachedJoined : World → World → Option World → Type 0
AreReachedJoined w other None = Unit {0}
AreReachedJoined w other (Some joined) = (link : CheckedLink) → WorldReaches link w → WorldReaches link other
    → WorldReaches link joined

-- the same of a world of the list and an added one
abbrev pub IsReachedJoined : List Kept → Kept → Option (ℕ × Kept) → Type 0
IsReachedJoined items added None = Unit {0}
IsReachedJoined items added (Some (place, joined)) = (link : CheckedLink)
    → All (λ kept. WorldReaches link kept.world) items → WorldReaches link added.world
    → WorldReaches link joined.world

-- all words of the second are words of the first
pub record HeldHas (held other : Held) : Type 0 where
  pub each : (value : Option ℕ) → IsHeldExact other value → IsHeldExact held value

-- exactly this word, and those whose data phase may have been seen, or sent, as this one with wrong parity
abbrev pub checked_near_of : ℕ → Near
checked_near_of word = record { word = word; places = 2 ^ 32 }

abbrev pub checked_near_changed : ℕ → Near
checked_near_changed word = record { word = word; places = 2 ^ 33 - 1 }

abbrev pub checked_near_seen : ℕ → Bool → Near
checked_near_seen word true = checked_near_of word
checked_near_seen word false = checked_near_changed word

-- those of the words that are among others: there is one
pub record NearNarrows (near : Near) (words : Words) (narrowed : Near) : Type 0 where
  pub sound : IsNearSound near → IsNearSound narrowed
  pub each : (word : ℕ) → IsCheckedNear narrowed word → IsCheckedNear near word × IsCheckedWord words word

-- what is known of a word once it was seen to be one of these
pub record HeldNarrows (held : Held) (seen : Near) (narrowed : Held) : Type 0 where
  pub sound : IsHeldSound held → IsHeldSound narrowed
  pub each : (value : Option ℕ) → IsHeldExact narrowed value → IsHeldExact held value
      × ((filler : ℕ) × (filler < 2 ^ 32) × IsCheckedNear seen (unwrap_or value filler))

-- one of these words, if there are any
abbrev pub IsHeldOfNear : Option Near → Held → Type 0
IsHeldOfNear None held = ⊥
IsHeldOfNear (Some near) held = held ≡ HeldSeen near

-- DPIDR's word is one that the transaction shows, if it read it
pub record IsLinkWord (n : ℕ) (tx : Transaction) : Type 0 where
  pub small : n < 2 ^ 32
  pub seen : checked_reads_dpidr tx.request.addr tx.request.ap tx.request.read ≡ true → (word : ℕ) (ok : Bool)
      → tx.result ≡ Moved word ok → IsCheckedNear (checked_near_seen word ok) n

-- a transaction in a world of the list
pub record LinkSteps (link : CheckedLink) (clean : Bool) (tx : Transaction) : Type 0 where
  pub wire : link.clean ≡ clean
  pub item : link.item ≡ Tx tx
  pub legal : IsTx tx
  pub word : IsLinkWord link.identification tx

pub record LinkHas (link : CheckedLink) (w : World) : Type 0 where
  pub kept : Kept
  pub within : Contains link.from kept
  pub is : kept.world ≡ w
  pub sound : IsWorldSound w

-- What the transaction leads to from this world is reached, where no write is given up before it. If `okay` is true,
-- the target is known to answer OK.
pub record LinkLeads (okay : Bool) (link : CheckedLink) (clean : Bool) (tx : Transaction) (w : World) : Type 0 where
  pub sound : IsWorldSound w
  pub goes : (next : World) → WorldGoes (WorldTransacts okay clean tx.result tx.request) link.identification w next
      → WorldReaches link next

-- DPIDR's word may be this one, and its bit 0 is 1
pub record IsDpidrWord (known : Identification) (n : ℕ) : Type 0 where
  pub small : n < 2 ^ 32
  pub odd : register_bit 0 n ≡ true
  pub may : IsIdentified known n

-- there is such a word
abbrev pub IsWordSound : Option Near → Type 0
IsWordSound None = Unit {0}
IsWordSound (Some near) = IsNearSound near × ((n : ℕ) → IsCheckedNear near n → register_bit 0 n ≡ true)

-- after a transaction: the words that are left are some that may have been before, and that it shows
pub record IdentificationNarrows (tx : Transaction) (known left : Identification) : Type 0 where
  pub sound : IsWordSound known.word → IsWordSound left.word
  pub each : (n : ℕ) → IsDpidrWord left n → IsDpidrWord known n × IsLinkWord n tx
