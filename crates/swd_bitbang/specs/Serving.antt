-- A session in progress.
use Rattle.std.specs.Prelude.{ℕ, ◌≡◌, ◌-◌, ◌^◌, min, List, ◌∷◌, ◌++◌, length, Option, Some, None}
use Rattle.std.specs.Io.KnownBytes.{Appends}
use Rattle.swd_io.specs.Blocks.{BlockBufferSends}
use Rattle.swd_io.specs.declared.block.Block.{Block}
use Rattle.swd_bitbang.specs.declared.pins.PinReply.{PinReply}
use Rattle.swd_bitbang.specs.declared.pins.PinReply.TheVariants.{Quit, Bad}
use Rattle.swd_bitbang.specs.declared.serving.Served.{Served}
use Rattle.swd_bitbang.specs.declared.serving.Served.TheVariants as ends
use Rattle.swd_bitbang.specs.declared.serving.Server.{Server}
use Rattle.swd_bitbang.specs.Protocols.{ProtocolEnd, ProtocolEndsAs, ProtocolSession, ProtocolStep}

-- what a session began with: the state, and what the writer held
abbrev pub ServingBegin : Type 0 → Type 0
ServingBegin S = S × Option (List ℕ)

-- These bytes were taken, and what they return is queued or written.
pub record ServingTaken {D A S V W : Type 0} (step : ProtocolStep S) (contents : W → Option (List ℕ))
    (begin : ServingBegin S) (server : Server D A S V) (block : Block W) (seen : List ℕ) : Type 0 where
  pub answers : List ℕ
  pub session : ProtocolSession step seen answers begin.0 server.protocol
  pub sends : BlockBufferSends contents begin.1 block answers
  pub place : server.place ≡ min (length seen) (2 ^ 64 - 1)

-- These bytes were taken, and what they return was written.
pub record ServingHasTaken {D A S V W : Type 0} (step : ProtocolStep S) (contents : W → Option (List ℕ))
    (begin : ServingBegin S) (state : Server D A S V × W) (seen : List ℕ) : Type 0 where
  pub answers : List ℕ
  pub session : ProtocolSession step seen answers begin.0 state.0.protocol
  pub gone : Appends begin.1 (contents state.1) answers
  pub written : state.0.written ≡ min (length answers) (2 ^ 64 - 1)
  pub place : state.0.place ≡ min (length seen) (2 ^ 64 - 1)

-- how a sign ends a session, at this byte and its position
abbrev pub bitbang_end_of_sign : PinReply → ℕ → ℕ → Option Served
bitbang_end_of_sign Quit place byte = Some ends.Quit
bitbang_end_of_sign Bad place byte = Some (ends.Bad place byte)
bitbang_end_of_sign sign place byte = None

-- a session that a byte ended
abbrev pub IsServingStop : Served → Type 0
IsServingStop ends.Quit = Unit {0}
IsServingStop (ends.Bad place which) = Unit {0}
IsServingStop served = ⊥

-- The session ended within these bytes, and what those before that return is queued or written.
pub record ServingStopsIn {D A S V W : Type 0} (step : ProtocolStep S) (end : ProtocolEnd S)
    (contents : W → Option (List ℕ)) (begin : ServingBegin S) (server : Server D A S V) (block : Block W)
    (served : Served) (text : List ℕ) : Type 0 where
  pub taken : List ℕ
  pub byte : ℕ
  pub more : List ℕ
  pub is : text ≡ taken ++ byte ∷ more
  pub stops : IsServingStop served
  pub ends : end served server.protocol taken byte
  pub under_way : ServingTaken step contents begin server block taken

-- a session that ended before its input did
abbrev pub IsServingCutOff : Served → Type 0
IsServingCutOff ends.Ended = ⊥
IsServingCutOff ends.Read = ⊥
IsServingCutOff served = Unit {0}

abbrev pub ServingEnds : {D A S V W : Type 0} → ProtocolStep S → ProtocolEnd S → (W → Option (List ℕ)) → ServingBegin S
    → Server D A S V × W → Served → List ℕ → Type 0
ServingEnds step end contents begin state served text = IsServingCutOff served
    × ProtocolEndsAs step end served begin.1 (contents state.1) text begin.0 state.0.protocol
