-- What the calls of a connection do to its reader and its writer.
use Rattle.std.specs.Prelude.{ℕ, ◌≡◌, ◌≢◌, ◌+◌, ◌<◌, ◌^◌, nat_le, Bool, true, false, List, [], ◌∷◌, ◌++◌, length}
use Rattle.std.specs.Prelude.{Option, Some, None, Result, Ok, Err, slice_index, IsErr}
use Rattle.std.specs.Io.KnownBytes.{Appends, Consumes, IsAtEnd}
use Rattle.swd_sequences.specs.declared.character.Character.TheVariants.{Quits}
use Rattle.swd_sequences.specs.Alphabet.{alphabet_byte, alphabet_level}
use Rattle.swd_port.specs.declared.outside.Disconnected.{Disconnected}
use Rattle.swd_sequences.specs.declared.sequence.Sequence.{Sequence}
use Rattle.swd_remote.specs.declared.remote.Fault.{Fault}
use Rattle.swd_remote.specs.declared.remote.Fault.TheVariants.{Ended, NoLevel, Read, Write, TooMany}
use Rattle.swd_remote.specs.declared.remote.Remote.{Remote}
use Rattle.swd_sequences.specs.Clocks.{sequence_characters, is_driven_sequence, sequence_levels, sequence_looks}
use Rattle.swd_remote.specs.Ways.{IsOnRemoteWay, RemoteLengthens, RemoteDelivers, remote_has_broken}

-- this byte is among those that were returned, and isn't a level
abbrev pub IsNoRemoteLevel : ℕ → List ℕ → Type 0
IsNoRemoteLevel byte text = ((level : Bool) → byte ≢ alphabet_level level) × (place : ℕ) × (place < length text)
    × (slice_index text place ≡ byte)

-- fewer bytes were read than wanted: the input ended, or the reader failed
abbrev pub RemoteStopsReading : Fault → ℕ → Option (List ℕ) → Option (List ℕ) → Type 0
RemoteStopsReading Ended count old new = (text : List ℕ) × (length text < count) × Consumes old new text × IsAtEnd new
RemoteStopsReading Read count old new = (text : List ℕ) × (length text < count) × Consumes old new text
RemoteStopsReading fault count old new = ⊥

-- what is read if `count` levels are asked for: all of them if a number is returned, and never more
abbrev pub RemoteReadsLevels : ℕ → Result ℕ Fault → Option (List ℕ) → Option (List ℕ) → Type 0
RemoteReadsLevels count (Ok number) old new = Consumes old new (sequence_levels count number) × (number < 2 ^ count)
RemoteReadsLevels count (Err (NoLevel byte)) old new =
    (text : List ℕ) × (length text ≡ count) × Consumes old new text × IsNoRemoteLevel byte text
RemoteReadsLevels count (Err fault) old new = RemoteStopsReading fault count old new

-- A sequence is queued: exactly its characters are appended.
pub record RemoteQueued {R W : Type 0} (contents : W → Option (List ℕ)) (sequence : Sequence) (s t : Remote R W) :
    Type 0 where
  pub out : RemoteLengthens contents (sequence_characters s.drives sequence) s.outgoing t.outgoing
  pub reader : t.reader ≡ s.reader
  pub drives : t.drives ≡ is_driven_sequence sequence
  pub asked : t.asked ≡ s.asked + sequence_looks sequence
  pub fault : t.fault ≡ None

abbrev pub RemoteQueuesWithin : {R W : Type 0} → Bool → (W → Option (List ℕ)) → Sequence → Remote R W → Remote R W
    → Type 0
RemoteQueuesWithin true contents sequence s t = RemoteQueued contents sequence s t
RemoteQueuesWithin false contents sequence s t = t ≡ record s { fault = Some TooMany }

-- after an error nothing is sent, and at most 64 levels are asked for at once
abbrev pub RemoteQueuesAt : {R W : Type 0} → Option Fault → (W → Option (List ℕ)) → Sequence → Remote R W → Remote R W
    → Type 0
RemoteQueuesAt (Some fault) contents sequence s t = t ≡ s
RemoteQueuesAt None contents sequence s t =
    RemoteQueuesWithin (nat_le (s.asked + sequence_looks sequence) 64) contents sequence s t

-- All queued characters were sent, and exactly as many bytes were read as levels were asked for.
pub record RemoteAnswered {R W : Type 0} (remaining : R → Option (List ℕ)) (contents : W → Option (List ℕ)) (number : ℕ)
    (s t : Remote R W) : Type 0 where
  pub out : RemoteDelivers contents s.outgoing t.outgoing
  pub reads : RemoteReadsLevels s.asked (Ok number) (remaining s.reader) (remaining t.reader)
  pub drives : t.drives ≡ s.drives
  pub asked : t.asked ≡ 0
  pub fault : t.fault ≡ None

-- if the writer failed, a prefix of the queued characters was sent, and nothing is read
abbrev pub RemoteFailsAs : {R W : Type 0} → Option Fault → (R → Option (List ℕ)) → (W → Option (List ℕ)) → Remote R W
    → Remote R W → Type 0
RemoteFailsAs None remaining contents s t = ⊥
RemoteFailsAs (Some Write) remaining contents s t =
    (t.reader ≡ s.reader) × (remote_has_broken t.outgoing ≡ true) × RemoteLengthens contents [] s.outgoing t.outgoing
RemoteFailsAs (Some fault) remaining contents s t =
    RemoteDelivers contents s.outgoing t.outgoing
    × RemoteReadsLevels s.asked (Err fault) (remaining s.reader) (remaining t.reader)

abbrev pub RemoteExchangesAt : {R W : Type 0} → Option Fault → (R → Option (List ℕ)) → (W → Option (List ℕ))
    → Result ℕ Disconnected → Remote R W → Remote R W → Type 0
RemoteExchangesAt (Some fault) remaining contents result s t = IsErr result × (t ≡ s)
RemoteExchangesAt None remaining contents (Ok number) s t = RemoteAnswered remaining contents number s t
RemoteExchangesAt None remaining contents (Err gone) s t = RemoteFailsAs t.fault remaining contents s t

-- The host is done: all queued characters and Q were sent.
abbrev pub RemoteQuitsAt : {R W : Type 0} → Option Fault → (W → Option (List ℕ)) → Result (Unit {0}) Disconnected
    → Remote R W → Remote R W → Type 0
RemoteQuitsAt (Some fault) contents result s t = IsErr result × (t ≡ s)
RemoteQuitsAt None contents (Ok u) s t =
    (t.reader ≡ s.reader) × ((start : Option (List ℕ)) (text : List ℕ) → IsOnRemoteWay contents start s.outgoing text
    → Appends start (contents t.outgoing.writer) (text ++ alphabet_byte Quits ∷ []))
RemoteQuitsAt None contents (Err gone) s t =
    (t.reader ≡ s.reader) × (t.fault ≡ Some Write)
    × RemoteLengthens contents (alphabet_byte Quits ∷ []) s.outgoing t.outgoing
