-- The bits of a trace text that are given to a sink as the text is read.
use Rattle.std.specs.Prelude.{◌≡◌, ℕ, ◌-◌, ◌^◌, ◌<◌, min, Bool, List, [], ◌∷◌, ◌++◌, length, Option, Result, Ok, Err}
use Rattle.std.proofs.Common.{append_assoc, append-nil, sym, subst}
use Rattle.std.specs.Io.KnownBytes.{Consumes, IsAtEnd}
use Rattle.swd_bits.specs.One.{Reads, IsFirstBadScanByte}
use Rattle.swd_text.specs.TextBits.{TextStopsWith, TextBitsAre, TextBitsSoFar}
use Rattle.swd_text.specs.declared.reader.TextReader.{TextReader}
use Rattle.swd_text.specs.declared.fault.TextFault.{TextFault}
use Rattle.swd_text.specs.declared.fault.TextFault.TheVariants.{BadChar, TooLong}
use Rattle.swd_text.specs.declared.fault.TakeFault.{TakeFault}
use Rattle.swd_text.specs.declared.fault.TakeFault.TheVariants.{Text as NoText, Write as NoWrite}
use Rattle.swd_text.specs.declared.fault.DecodeFault.{DecodeFault}
use Rattle.swd_text.specs.declared.fault.DecodeFault.TheVariants.{Text, Read, Write}

-- A sink that was given any bits, or other things, was now given these too. The index is what they are read against,
-- such as what a writer began with.
abbrev pub LeadsSinkOn : {I C A : Type 0} → (I → C → List A → Type 0) → C → List A → C → Type 0
LeadsSinkOn {I} {C} {A} HasTaken before next after =
    (i : I) (seen : List A) → HasTaken i before seen → HasTaken i after (seen ++ next)

-- A sink that was given any bits, or other things, stops, since its writer failed.
abbrev pub LeadsSinkToStop : {I C A : Type 0} → (I → C → List A → Type 0) → (I → C → ℕ → List A → Type 0) → C → ℕ
    → C → Type 0
LeadsSinkToStop {I} {C} {A} HasTaken Stops before told after =
    (i : I) (seen : List A) → HasTaken i before seen → Stops i after told seen

-- nothing leads a sink nowhere
pub sink_takes_nothing : {I C A : Type 0} (HasTaken : I → C → List A → Type 0) (a : C) → LeadsSinkOn HasTaken a [] a
sink_takes_nothing HasTaken a = λ i seen h. subst (HasTaken i a) (sym (append-nil seen)) h

-- some bits and then others lead a sink on as all of them do
pub sink_leads_join : {I C A : Type 0} (HasTaken : I → C → List A → Type 0) (a b c : C) (first next : List A)
    → LeadsSinkOn HasTaken a first b → LeadsSinkOn HasTaken b next c → LeadsSinkOn HasTaken a (first ++ next) c
sink_leads_join HasTaken a b c first next f g = λ i seen h.
    subst (HasTaken i c) (append_assoc seen first next) (g i (seen ++ first) (f i seen h))

-- with one more byte the text has one bit more than 2^64 - 1
pub record IsTextTooLong (seen : List ℕ) (byte : ℕ) : Type 0 where
  pub bits : List Bool
  pub comment : Bool
  pub reads : Reads (seen ++ byte ∷ []) bits comment
  pub long : length bits ≡ 2 ^ 64

-- why this byte, at this place, makes a text invalid
abbrev pub TextStopsAt : TextFault → ℕ → List ℕ → ℕ → Type 0
TextStopsAt (BadChar told) place seen byte = (told ≡ place)
    × ((more : List ℕ) → IsFirstBadScanByte (seen ++ byte ∷ more) (length seen))
TextStopsAt TooLong place seen byte = IsTextTooLong seen byte

module _ {S W : Type 0} (led : S × W → List Bool → S × W → Type 0) where
  -- the bits of a text so far led the sink, and what it writes to, from `start` to here
  pub record TextFeeds (fed : S → ℕ) (start : S × W) (reader : TextReader S) (writer : W) (seen : List ℕ) : Type 0 where
    pub bits : List Bool
    pub reads : Reads seen bits reader.scan
    pub goes : led start bits (reader.sink, writer)
    pub count : fed reader.sink ≡ length bits
    pub counted : length bits < 2 ^ 64

  -- the same between two pieces
  pub record TextHasFed (fed : S → ℕ) (start : S × W) (state : TextReader S × W) (seen : List ℕ) : Type 0 where
    pub feeds : TextFeeds fed start state.0 state.1 seen
    pub place : state.0.place ≡ min (length seen) (2 ^ 64 - 1)

  -- the text is invalid, whatever follows, and the bits before that led the sink here
  pub record TextFeedStopsIn (start now : S × W) (fault : TextFault) (text : List ℕ) : Type 0 where
    pub bits : List Bool
    pub stops : (more : List ℕ) → TextStopsWith fault bits (text ++ more)
    pub goes : led start bits now

-- what a sink was given led it to a state in which it stopped
abbrev pub SinkStopsAfter : {C A : Type 0} → (C → List A → C → Type 0) → (C → ℕ → C → Type 0) → C → ℕ → C → List A
    → Type 0
SinkStopsAfter {C} led stops start told now seen = (last : C) × led start seen last × stops last told now

module _ {S W : Type 0} (led : S × W → List Bool → S × W → Type 0) (stops : S × W → ℕ → S × W → Type 0) where
  -- how a text ends before its reader does
  abbrev pub TextFeedEnds : S × W → TextReader S × W → TakeFault → List ℕ → Type 0
  TextFeedEnds start state (NoText fault) text = TextFeedStopsIn led start (state.0.sink, state.1) fault text
  TextFeedEnds start state (NoWrite told) text =
      TextBitsSoFar (SinkStopsAfter led stops start told (state.0.sink, state.1)) text

  -- What a result says of the reader's text, if its bytes are known, of what the reader has left, and of the sink and
  -- what it writes to.
  abbrev pub TextGoesTo : Result S DecodeFault → Option (List ℕ) → Option (List ℕ) → S × W → W → Type 0
  TextGoesTo (Ok sink) text left start now =
      (read : List ℕ) × Consumes text left read × IsAtEnd left × TextBitsAre (λ bits. led start bits (sink, now)) read
  TextGoesTo (Err (Text fault)) text left start now =
      (read : List ℕ) × (sink : S) × Consumes text left read × TextFeedStopsIn led start (sink, now) fault read
  TextGoesTo (Err Read) text left start now =
      (read : List ℕ) × (sink : S) × Consumes text left read × TextBitsAre (λ bits. led start bits (sink, now)) read
  TextGoesTo (Err (Write told)) text left start now =
      (read : List ℕ) × (sink : S) × Consumes text left read
      × TextBitsSoFar (SinkStopsAfter led stops start told (sink, now)) read
