-- Successive calls of a wire over remote_bitbang characters: what is sent and read for all of them.
use Rattle.std.specs.Prelude.{ℕ, ◌≡◌, Bool, true, false, List, [], ◌∷◌, ◌++◌, Option, Some, None, Result, Ok, Err}
use Rattle.std.specs.Io.KnownBytes.{Appends, Consumes}
use Rattle.swd_sequences.specs.declared.character.Character.TheVariants.{Drives, Quits}
use Rattle.swd_sequences.specs.Alphabet.{alphabet_byte}
use Rattle.swd_port.specs.declared.outside.Disconnected.{Disconnected}
use Rattle.swd_port.specs.declared.cue.Cue.{Cue}
use Rattle.swd_port.specs.declared.cue.Cue.TheVariants.{Ask, Take}
use Rattle.swd_port.specs.Transports.{PortAttempt}
use Rattle.swd_sequences.specs.declared.sequence.Sequence.{Sequence}
use Rattle.swd_remote.specs.declared.remote.Fault.{Fault}
use Rattle.swd_remote.specs.declared.remote.Remote.{Remote}
use Rattle.swd_sequences.specs.Clocks.{all_sequence_characters, sequence_levels}
use Rattle.swd_remote.specs.Packets.{probe_sequences, probe_turnaround, probe_has_clocks, ProbePerforms}
use Rattle.swd_remote.specs.Remotes.{RemoteQueuesAt, RemoteExchangesAt, RemoteQuitsAt}
use Rattle.swd_remote.specs.Ways.{IsOnRemoteWay, RemoteLengthens}

-- the sequences of calls, one call after the other
abbrev pub remote_all_sequences : List PortAttempt → List Sequence
remote_all_sequences [] = []
remote_all_sequences (call ∷ calls) = (probe_sequences call.cue ++ probe_turnaround call.cue)
    ++ remote_all_sequences calls

-- those that have clocks
abbrev pub remote_kept_sequences : Bool → Sequence → List Sequence → List Sequence
remote_kept_sequences true sequence more = sequence ∷ more
remote_kept_sequences false sequence more = more

abbrev pub remote_with_clocks : List Sequence → List Sequence
remote_with_clocks [] = []
remote_with_clocks (sequence ∷ more) = remote_kept_sequences (probe_has_clocks sequence) sequence
    (remote_with_clocks more)

-- all characters of the calls, after the host drove or not
abbrev pub remote_characters_of : Bool → List PortAttempt → List ℕ
remote_characters_of drives calls = all_sequence_characters drives (remote_with_clocks (remote_all_sequences calls))

-- The characters of a connection with these calls, up to its end: the first one says that the host drives SWDIO,
-- whatever the server began with.
abbrev pub remote_connection_characters : List PortAttempt → List ℕ
remote_connection_characters calls = alphabet_byte (Drives true) ∷ remote_characters_of true calls

-- how many levels a cue asks for: those of an acknowledgement, or of a word and its parity
abbrev pub remote_level_count : Cue → ℕ
remote_level_count (Ask request) = 3
remote_level_count Take = 33
remote_level_count cue = 0

-- the levels that a call returned
abbrev pub remote_levels_returned : ℕ → Result ℕ Disconnected → List ℕ
remote_levels_returned count (Ok seen) = sequence_levels count seen
remote_levels_returned count (Err gone) = []

abbrev pub remote_all_levels : List PortAttempt → List ℕ
remote_all_levels [] = []
remote_all_levels (call ∷ calls) = remote_levels_returned (remote_level_count call.cue) call.told
    ++ remote_all_levels calls

-- what a connection does at a sequence, and at an exchange
abbrev pub RemoteQueuesTo : {R W : Type 0} → (W → Option (List ℕ)) → Sequence → Remote R W → Remote R W → Type 0
RemoteQueuesTo contents sequence s t = RemoteQueuesAt s.fault contents sequence s t

abbrev pub RemoteExchangesWith : {R W : Type 0} → (R → Option (List ℕ)) → (W → Option (List ℕ)) → Result ℕ Disconnected
    → Remote R W → Remote R W → Type 0
RemoteExchangesWith remaining contents result s t = RemoteExchangesAt s.fault remaining contents result s t

-- a call was made
abbrev pub IsRemoteCallMade : {R W : Type 0} → (R → Option (List ℕ)) → (W → Option (List ℕ)) → PortAttempt → Remote R W
    → Remote R W → Type 0
IsRemoteCallMade remaining contents call s t =
    ProbePerforms (RemoteQueuesTo contents) (RemoteExchangesWith remaining contents) call.cue call.told s t

-- calls were made, in the order of the list
abbrev pub AreRemoteCallsMade : {R W : Type 0} → (R → Option (List ℕ)) → (W → Option (List ℕ)) → List PortAttempt
    → Remote R W → Remote R W → Type 0
AreRemoteCallsMade remaining contents [] s t = t ≡ s
AreRemoteCallsMade {R} {W} remaining contents (call ∷ calls) s t =
    (m : Remote R W) × IsRemoteCallMade remaining contents call s m × AreRemoteCallsMade remaining contents calls m t

-- Exactly the characters of the calls are queued or sent, and exactly the levels that the calls returned were
-- read.
pub record RemoteExact {R W : Type 0} (remaining : R → Option (List ℕ)) (contents : W → Option (List ℕ))
    (calls : List PortAttempt) (s t : Remote R W) : Type 0 where
  pub out : RemoteLengthens contents (remote_characters_of s.drives calls) s.outgoing t.outgoing
  pub reads : Consumes (remaining s.reader) (remaining t.reader) (remote_all_levels calls)

-- This call met the error, after exact ones. What it sent and read is what its contract says, and nothing was
-- sent or read after it.
pub record RemoteEndsAtFault {R W : Type 0} (remaining : R → Option (List ℕ)) (contents : W → Option (List ℕ))
    (fault : Fault) (calls : List PortAttempt) (s t : Remote R W) : Type 0 where
  pub done : List PortAttempt
  pub last : PortAttempt
  pub rest : List PortAttempt
  pub all : calls ≡ done ++ last ∷ rest
  pub before : Remote R W
  pub exact : RemoteExact remaining contents done s before
  pub well : before.fault ≡ None
  pub after : Remote R W
  pub made : IsRemoteCallMade remaining contents last before after
  pub ended : after.fault ≡ Some fault
  pub nothing : t ≡ after

-- up to the first error
abbrev pub RemoteExactUpTo : {R W : Type 0} → (R → Option (List ℕ)) → (W → Option (List ℕ)) → Option Fault
    → List PortAttempt → Remote R W → Remote R W → Type 0
RemoteExactUpTo remaining contents None calls s t = RemoteExact remaining contents calls s t
RemoteExactUpTo remaining contents (Some fault) calls s t = RemoteEndsAtFault remaining contents fault calls s t

-- this holds for all calls, from a connection without an error and without unanswered levels on
abbrev pub RemoteRunsExactly : {R W : Type 0} → (R → Option (List ℕ)) → (W → Option (List ℕ)) → Type 0
RemoteRunsExactly {R} {W} remaining contents = (calls : List PortAttempt) (s t : Remote R W)
    → AreRemoteCallsMade remaining contents calls s t → s.fault ≡ None → s.asked ≡ 0
    → RemoteExactUpTo remaining contents t.fault calls s t

-- And if the host then sends Q, exactly these characters and Q were sent, after what the writer began with.
abbrev pub RemoteQuitsExactly : {R W : Type 0} → (R → Option (List ℕ)) → (W → Option (List ℕ)) → Type 0
RemoteQuitsExactly {R} {W} remaining contents =
    (calls : List PortAttempt) (start : Option (List ℕ)) (text : List ℕ) (s t u : Remote R W) (told : Unit {0})
    → AreRemoteCallsMade remaining contents calls s t → s.fault ≡ None → s.asked ≡ 0
    → IsOnRemoteWay contents start s.outgoing text → RemoteQuitsAt t.fault contents (Ok told) t u
    → Appends start (contents u.outgoing.writer)
    ((text ++ remote_characters_of s.drives calls) ++ alphabet_byte Quits ∷ [])
    × Consumes (remaining s.reader) (remaining u.reader) (remote_all_levels calls)
