-- A connection from its beginning to its end: of remote_bitbang characters, or of packets.
use Rattle.std.specs.Prelude.{ℕ, ◌≡◌, true, List, [], ◌∷◌, ◌++◌, Option, None, Result}
use Rattle.std.specs.Io.KnownBytes.{Appends, Consumes}
use Rattle.swd_sequences.specs.declared.character.Character.TheVariants.{Drives, Quits}
use Rattle.swd_sequences.specs.Alphabet.{alphabet_byte}
use Rattle.swd_port.specs.declared.outside.Disconnected.{Disconnected}
use Rattle.swd_port.specs.Transports.{PortAttempt, port_attempt}
use Rattle.swd_remote.specs.declared.kept.RemoteStreams.{RemoteStreams}
use Rattle.swd_remote.specs.declared.kept.RemoteTransport.{RemoteTransport}
use Rattle.swd_remote.specs.declared.line.LineTransport.{LineTransport}
use Rattle.swd_remote.specs.declared.line.LineTransport.TheVariants.{Server, Probe}
use Rattle.swd_remote.specs.declared.line.Way.{Way}
use Rattle.swd_remote.specs.declared.line.Way.TheVariants.{Characters, Packets}
use Rattle.swd_port.specs.declared.cue.Cue.{Cue}
use Rattle.swd_remote.specs.declared.remote.Remote.{Remote}
use Rattle.swd_remote.specs.declared.probe_transport.ProbeTransport.{ProbeTransport}
use Rattle.swd_remote.specs.Remotes.{RemoteQuitsAt}
use Rattle.swd_remote.specs.Runs.{AreRemoteCallsMade, IsRemoteCallMade, RemoteExactUpTo, remote_all_levels}
use Rattle.swd_remote.specs.Runs.{remote_connection_characters}
use Rattle.swd_remote.specs.Ways.{IsOnRemoteWay}
use Rattle.swd_remote.specs.Openings.{OpeningShows}
use Rattle.swd_remote.specs.Probes.{HasProbeExchanged, AreProbeCallsMade, ProbeHangsUp}
use Rattle.swd_dap.specs.Calls.{DapCallsAt}

-- nothing was sent or read yet but that the host drives SWDIO, which is on its way
pub record IsFreshRemote {R W : Type 0} (remaining : R → Option (List ℕ)) (contents : W → Option (List ℕ))
    (sent left : Option (List ℕ)) (start : Remote R W) : Type 0 where
  pub well : start.fault ≡ None
  pub asked : start.asked ≡ 0
  pub drives : start.drives ≡ true
  pub writer : IsOnRemoteWay contents sent start.outgoing (alphabet_byte (Drives true) ∷ [])
  pub reader : remaining start.reader ≡ left

-- exactly these calls were made since the beginning, in order
pub record AreRemoteCallsSent {R W : Type 0} (remaining : R → Option (List ℕ)) (contents : W → Option (List ℕ))
    (sent left : Option (List ℕ)) (calls : List PortAttempt) (t : ProbeTransport (Remote R W)) : Type 0 where
  pub start : Remote R W
  pub fresh : IsFreshRemote remaining contents sent left start
  pub made : AreRemoteCallsMade remaining contents calls start t.probe

-- A connection that ended without an error: exactly its first character, those of the calls and Q were sent, and
-- exactly the levels that the calls returned were read.
pub record RemoteWentWell {R W : Type 0} (remaining : R → Option (List ℕ)) (contents : W → Option (List ℕ))
    (sent left : Option (List ℕ)) (calls : List PortAttempt) (line : RemoteStreams R W) : Type 0 where
  pub out : Appends sent (contents line.writer) (remote_connection_characters calls ++ alphabet_byte Quits ∷ [])
  pub reads : Consumes left (remaining line.reader) (remote_all_levels calls)

-- These calls were made up to the end of a connection. Up to the first error they are exact; without an
-- error, all of them and Q are.
pub record RemoteHangsUp {R W : Type 0} (remaining : R → Option (List ℕ)) (contents : W → Option (List ℕ))
    (sent left : Option (List ℕ)) (calls : List PortAttempt) (line : RemoteStreams R W) : Type 0 where
  pub start : Remote R W
  pub fresh : IsFreshRemote remaining contents sent left start
  pub last : Remote R W
  pub made : AreRemoteCallsMade remaining contents calls start last
  pub exact : RemoteExactUpTo remaining contents last.fault calls start last
  pub done : Result (Unit {0}) Disconnected
  pub end : Remote R W
  pub quits : RemoteQuitsAt last.fault contents done last end
  pub reader : line.reader ≡ end.reader
  pub writer : line.writer ≡ end.outgoing.writer
  pub fault : line.fault ≡ end.fault
  pub in_doubt : line.in_doubt ≡ 0
  pub well : line.fault ≡ None → RemoteWentWell remaining contents sent left calls line

-- these calls were made of the transport of a line since the beginning
abbrev pub AreLineCallsSent : {R W : Type 0} → Way → (R → Option (List ℕ)) → (W → Option (List ℕ)) → Option (List ℕ)
    → Option (List ℕ) → List PortAttempt → LineTransport R W → Type 0
AreLineCallsSent Characters remaining contents sent left calls (Server t) =
    AreRemoteCallsSent remaining contents sent left calls t
AreLineCallsSent (Packets speed framed) remaining contents sent left calls (Probe t) = AreProbeCallsMade speed calls t
AreLineCallsSent way remaining contents sent left calls t = ⊥

-- a call of it
abbrev pub LinePerforms : {R W : Type 0} → (R → Option (List ℕ)) → (W → Option (List ℕ)) → Cue → Result ℕ Disconnected
    → LineTransport R W → LineTransport R W → Type 0
LinePerforms remaining contents cue told (Server s) (Server t) =
    IsRemoteCallMade remaining contents (port_attempt cue told) s.probe t.probe
LinePerforms remaining contents cue told (Probe s) (Probe t) = DapCallsAt s.fault told HasProbeExchanged cue s t
LinePerforms remaining contents cue told s t = ⊥

-- these calls were made up to the end of a connection
abbrev pub LineHangsUp : {R W : Type 0} → Way → (R → Option (List ℕ)) → (W → Option (List ℕ)) → Option (List ℕ)
    → Option (List ℕ) → List PortAttempt → RemoteStreams R W → Type 0
LineHangsUp Characters remaining contents sent left calls line = RemoteHangsUp remaining contents sent left calls line
LineHangsUp (Packets speed framed) remaining contents sent left calls line = ProbeHangsUp speed calls line

-- these calls were made since the beginning of a connection, and what it knows of its opening is what they showed
abbrev pub LineKept : {R W B : Type 0} → Way → (R → Option (List ℕ)) → (W → Option (List ℕ)) → Option (List ℕ)
    → Option (List ℕ) → List PortAttempt → RemoteTransport R W B → Type 0
LineKept way remaining contents sent left calls kept =
    ∥ AreLineCallsSent way remaining contents sent left calls kept.transport × OpeningShows calls kept.opening ∥₁

-- and up to its end
abbrev pub LineEnded : {R W : Type 0} → Way → (R → Option (List ℕ)) → (W → Option (List ℕ)) → Option (List ℕ)
    → Option (List ℕ) → List PortAttempt → RemoteStreams R W → Type 0
LineEnded way remaining contents sent left calls line =
    ∥ LineHangsUp way remaining contents sent left calls line × OpeningShows calls line.opening ∥₁
