-- The calls of a transport, and those that the calls of a wire make of it.
use Rattle.std.specs.Prelude.{ℕ, ◌≡◌, ◌≤◌, ◌^◌, Bool, true, false, List, [], ◌∷◌, ◌++◌, Result, Ok, Err, is_err}
use Rattle.swd_bits.specs.declared.request.Request.{Request}
use Rattle.swd_port.specs.declared.cue.Cue.{Cue}
use Rattle.swd_port.specs.declared.cue.Cue.TheVariants.{Ask, Take}
use Rattle.swd_port.specs.declared.call.Call.{Call}
use Rattle.swd_port.specs.declared.outside.Disconnected.{Disconnected}
use Rattle.swd_port.specs.declared.outside.Met.{Met}

-- a call of a transport: the host's cue, and the transport's result
pub record PortAttempt : Type 0 where
  pub cue : Cue
  pub told : Result ℕ Disconnected

abbrev pub port_attempt : Cue → Result ℕ Disconnected → PortAttempt
port_attempt cue told = record { cue = cue; told = told }

-- the transport failed, or returned a number with more than these bits
abbrev pub PortTransportFails : ℕ → Result ℕ Disconnected → Type 0
PortTransportFails bits (Ok seen) = 2 ^ bits ≤ seen
PortTransportFails bits (Err e) = Unit {0}

-- The calls that a request makes, where `had` is the last data phase fetched. The data phase of a read that is answered
-- OK is fetched at once. Only where a call fails, or returns a number with too many bits, no acknowledgement is seen.
pub data PortTransportAsks (request : Request) (made : List PortAttempt) (had : ℕ) (met : Met) : Type 0 where
  answers : (request.read ≡ true → met.seen ≡ 1 → ⊥) → made ≡ port_attempt (Ask request) (Ok met.seen) ∷ []
      → met.gone ≡ false → met.fetched ≡ had → PortTransportAsks request made had met
  fetches : request.read ≡ true → met.seen ≡ 1
      → made ≡ port_attempt (Ask request) (Ok 1) ∷ port_attempt Take (Ok met.fetched) ∷ [] → met.gone ≡ false
      → PortTransportAsks request made had met
  loses : (told : Result ℕ Disconnected) → PortTransportFails 3 told → made ≡ port_attempt (Ask request) told ∷ []
      → met.seen ≡ 7 → met.gone ≡ true → met.fetched ≡ had → PortTransportAsks request made had met
  breaks : (told : Result ℕ Disconnected) → PortTransportFails 33 told → request.read ≡ true
      → made ≡ port_attempt (Ask request) (Ok 1) ∷ port_attempt Take told ∷ [] → met.seen ≡ 7 → met.gone ≡ true
      → met.fetched ≡ had → PortTransportAsks request made had met

-- a call at which nothing is seen
pub record PortTransportSends (cue : Cue) (made : List PortAttempt) (had : ℕ) (met : Met) : Type 0 where
  pub told : Result ℕ Disconnected
  pub one : made ≡ port_attempt cue told ∷ []
  pub gone : met.gone ≡ is_err told
  pub seen : met.seen ≡ 0
  pub fetched : met.fetched ≡ had

-- the calls that one call of a wire makes of a transport that hasn't failed; a read's data phase was fetched already
abbrev pub PortTransportMakes : Cue → List PortAttempt → ℕ → Met → Type 0
PortTransportMakes (Ask request) made had met = PortTransportAsks request made had met
PortTransportMakes Take made had met = (made ≡ []) × (met.gone ≡ false) × (met.fetched ≡ had) × (met.seen ≡ had)
PortTransportMakes cue made had met = PortTransportSends cue made had met

-- what is seen once the transport isn't called any more
abbrev pub port_unseen : Cue → ℕ → ℕ
port_unseen (Ask request) had = 7
port_unseen Take had = had
port_unseen cue had = 0

-- the same for any transport: once it failed, no call is made
abbrev pub PortTransportMakesBy : Bool → Cue → List PortAttempt → ℕ → Met → Type 0
PortTransportMakesBy true cue made had met = (made ≡ []) × (met.gone ≡ true) × (met.fetched ≡ had)
    × (met.seen ≡ port_unseen cue had)
PortTransportMakesBy false cue made had met = PortTransportMakes cue made had met

abbrev pub port_met_with : ℕ → Bool → ℕ → Met
port_met_with seen gone fetched = record { seen = seen; gone = gone; fetched = fetched }

-- These calls of a wire, the last one first, made these calls of its transport, the first one first. `gone`: the
-- transport has failed; `fetched`: the last data phase fetched.
abbrev pub PortTransportMade : List Call → List PortAttempt → Bool → ℕ → Type 0
PortTransportMade [] made gone fetched = (made ≡ []) × (gone ≡ false)
PortTransportMade (call ∷ calls) made gone fetched = (before : List PortAttempt) × (more : List PortAttempt)
    × (was : Bool) × (had : ℕ) × (made ≡ before ++ more) × PortTransportMade calls before was had
    × PortTransportMakesBy was call.cue more had (port_met_with call.seen gone fetched)

-- Between two states of a transport the calls of one call of the wire were made of it.
pub record PortTransportSteps {T : Type 0} (Tells : List PortAttempt → T → Type 0) (cue : Cue) (was : Bool) (had : ℕ)
    (met : Met) (s t : T) : Type 0 where
  pub more : List PortAttempt
  pub tells : (made : List PortAttempt) → Tells made s → Tells (made ++ more) t
  pub makes : PortTransportMakesBy was cue more had met

-- the fetch of a read's data phase, which may have failed
pub record PortTransportFetches {T : Type 0} (Tells : List PortAttempt → T → Type 0) (request : Request) (had : ℕ)
    (met : Met) (s t : T) : Type 0 where
  pub told : Result ℕ Disconnected
  pub tells : (made : List PortAttempt) → Tells made s → Tells (made ++ port_attempt Take told ∷ []) t
  pub makes : request.read ≡ true → PortTransportAsks request
      (port_attempt (Ask request) (Ok 1) ∷ port_attempt Take told ∷ []) had met

-- What the transport states holds for exactly the calls that the wire's calls made.
pub record PortTransportHas {T : Type 0} (Tells : List PortAttempt → T → Type 0) (calls : List Call) (gone : Bool)
    (fetched : ℕ) (transport : T) : Type 0 where
  pub made : List PortAttempt
  pub told : Tells made transport
  pub of : PortTransportMade calls made gone fetched

-- the same for any last data phase fetched
pub record PortTransportHasOver {T : Type 0} (Tells : List PortAttempt → T → Type 0) (calls : List Call) (gone : Bool)
    (transport : T) : Type 0 where
  pub made : List PortAttempt
  pub fetched : ℕ
  pub told : Tells made transport
  pub of : PortTransportMade calls made gone fetched
