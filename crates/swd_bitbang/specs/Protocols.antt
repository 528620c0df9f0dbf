-- A session by any protocol: the bytes that a host sends, one after another, and what is returned for them.
use Rattle.std.specs.Prelude.{ℕ, ◌≡◌, List, [], ◌∷◌, ◌++◌, Option}
use Rattle.std.specs.Io.KnownBytes.{Appends, Consumes, IsAtEnd}
use Rattle.swd_io.specs.Blocks.{OutputStopped}
use Rattle.swd_bitbang.specs.declared.serving.Served.{Served}
use Rattle.swd_bitbang.specs.declared.serving.Served.TheVariants as ends

-- what a byte does that doesn't end a session: what is returned for it, and the state before and after it
abbrev pub ProtocolStep : Type 0 → Type 1
ProtocolStep S = ℕ → List ℕ → S → S → Type 0

-- why a session ends in this way: the state, the bytes that led to it, and the byte that ends the session
abbrev pub ProtocolEnd : Type 0 → Type 1
ProtocolEnd S = Served → S → List ℕ → ℕ → Type 0

-- bytes that don't end the session, and all that is returned for them
abbrev pub ProtocolSession : {S : Type 0} → ProtocolStep S → List ℕ → List ℕ → S → S → Type 0
ProtocolSession step [] answers s t = (answers ≡ []) × (t ≡ s)
ProtocolSession {S} step (byte ∷ text) answers s t = (m : S) × (first : List ℕ) × (rest : List ℕ) × step byte first s m
    × ProtocolSession step text rest m t × (answers ≡ first ++ rest)

-- What was read and written: the bytes that were read led from one state to another, and exactly what they return was
-- written.
pub record ProtocolServed {S : Type 0} (step : ProtocolStep S) (old new : Option (List ℕ)) (taken : List ℕ)
    (s t : S) : Type 0 where
  pub answers : List ℕ
  pub session : ProtocolSession step taken answers s t
  pub gone : Appends old new answers

-- the same, up to a byte that ends the session in this way; what follows it was ignored
pub record ProtocolServedUpTo {S : Type 0} (step : ProtocolStep S) (IsEnd : S → List ℕ → ℕ → Type 0)
    (old new : Option (List ℕ)) (read : List ℕ) (s t : S) : Type 0 where
  pub taken : List ℕ
  pub byte : ℕ
  pub more : List ℕ
  pub is : read ≡ taken ++ byte ∷ more
  pub ends : IsEnd t taken byte
  pub goes : ProtocolServed step old new taken s t

-- the writer failed: exactly the first bytes of what a prefix of the input returns were written, not all of them, and
-- `sent` is how many, at most 2^64 - 1
pub record ProtocolWriterBreaks {S : Type 0} (step : ProtocolStep S) (sent : ℕ) (old new : Option (List ℕ))
    (read : List ℕ) (s t : S) : Type 0 where
  pub taken : List ℕ
  pub more : List ℕ
  pub is : read ≡ taken ++ more
  pub answers : List ℕ
  pub session : ProtocolSession step taken answers s t
  pub stopped : OutputStopped sent old new answers

-- how a session ended, by what was read of it
abbrev pub ProtocolEndsAs : {S : Type 0} → ProtocolStep S → ProtocolEnd S → Served → Option (List ℕ) → Option (List ℕ)
    → List ℕ → S → S → Type 0
ProtocolEndsAs step end ends.Ended old new read s t = ProtocolServed step old new read s t
ProtocolEndsAs step end ends.Read old new read s t = ProtocolServed step old new read s t
ProtocolEndsAs step end ends.Quit old new read s t = ProtocolServedUpTo step (end ends.Quit) old new read s t
ProtocolEndsAs step end (ends.Bad place which) old new read s t =
    ProtocolServedUpTo step (end (ends.Bad place which)) old new read s t
ProtocolEndsAs step end (ends.Write sent) old new read s t = ProtocolWriterBreaks step sent old new read s t

-- `Ended` is reported only at the end of the input
abbrev pub IsProtocolWhole : Served → Option (List ℕ) → Type 0
IsProtocolWhole ends.Ended left = IsAtEnd left
IsProtocolWhole served left = Unit {0}

-- What a session says of the reader's input, if its bytes are known, of what the reader has left, of what the
-- writer holds before and after, and of the state.
pub record ProtocolServes {S : Type 0} (step : ProtocolStep S) (end : ProtocolEnd S) (served : Served)
    (text left old new : Option (List ℕ)) (s t : S) : Type 0 where
  pub read : List ℕ
  pub consumed : Consumes text left read
  pub whole : IsProtocolWhole served left
  pub ends : ProtocolEndsAs step end served old new read s t
