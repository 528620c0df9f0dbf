-- Buffered characters for a writer.
use Rattle.std.specs.Prelude.{ℕ, ◌≡◌, ◌<◌, Bool, true, false, List, ◌++◌, length, take, Option}
use Rattle.std.specs.Io.KnownBytes.{Appends}
use Rattle.swd_remote.specs.declared.outgoing.Outgoing.{Outgoing}

-- The writer began with `start`, and holds the characters except for the buffered ones.
pub record RemoteCarries {W : Type 0} (contents : W → Option (List ℕ)) (start : Option (List ℕ)) (way : Outgoing W)
    (text : List ℕ)
    : Type 0 where
  pub sent : List ℕ
  pub gone : Appends start (contents way.writer) sent
  pub whole : text ≡ sent ++ way.held.items

-- The writer began with `start`, and failed after exactly the first characters, and not all of them.
pub record RemoteBreaks (start now : Option (List ℕ)) (text : List ℕ) : Type 0 where
  pub sent : ℕ
  pub short : sent < length text
  pub gone : Appends start now (take sent text)

abbrev pub RemoteOnItsWayBy : {W : Type 0} → Bool → (W → Option (List ℕ)) → Option (List ℕ) → Outgoing W → List ℕ
    → Type 0
RemoteOnItsWayBy false contents start way text = RemoteCarries contents start way text
RemoteOnItsWayBy true contents start way text = RemoteBreaks start (contents way.writer) text

-- a writer that began with `start` holds the characters except for the buffered ones, or the writer failed
abbrev pub IsOnRemoteWay : {W : Type 0} → (W → Option (List ℕ)) → Option (List ℕ) → Outgoing W → List ℕ → Type 0
IsOnRemoteWay contents start way text = RemoteOnItsWayBy way.failed contents start way text

-- whether the writer failed
abbrev pub remote_has_broken : {W : Type 0} → Outgoing W → Bool
remote_has_broken way = way.failed

-- these characters are appended
abbrev pub RemoteLengthens : {W : Type 0} → (W → Option (List ℕ)) → List ℕ → Outgoing W → Outgoing W → Type 0
RemoteLengthens contents more before after =
    (start : Option (List ℕ)) (text : List ℕ) → IsOnRemoteWay contents start before text
    → IsOnRemoteWay contents start after (text ++ more)

-- all characters so far are sent, and the buffer is empty
abbrev pub RemoteDelivers : {W : Type 0} → (W → Option (List ℕ)) → Outgoing W → Outgoing W → Type 0
RemoteDelivers contents before after =
    (start : Option (List ℕ)) (text : List ℕ) → IsOnRemoteWay contents start before text
    → Appends start (contents after.writer) text × IsOnRemoteWay contents start after text
