-- What a host's characters do, one after another, and what is returned to them.
use Rattle.std.specs.Prelude.{ℕ, ◌≡◌, ◌-◌, ◌^◌, min, List, [], ◌∷◌, length, Option, Some, None}
use Rattle.swd_port.specs.Bus.{Bus}
use Rattle.swd_bitbang.specs.declared.pins.PinReply.{PinReply}
use Rattle.swd_bitbang.specs.declared.pins.PinReply.TheVariants.{Silent, Level, Quit, Bad}
use Rattle.swd_bitbang.specs.declared.pins.Pins.{Pins}
use Rattle.swd_bitbang.specs.declared.serving.Served.{Served}
use Rattle.swd_bitbang.specs.declared.serving.Served.TheVariants as ends
use Rattle.swd_sequences.specs.Alphabet.{alphabet_character, alphabet_level}
use Rattle.swd_sequences.specs.declared.character.Character.TheVariants.{Quits}
use Rattle.swd_bitbang.specs.Steps.{PinsStep}
use Rattle.swd_bitbang.specs.Protocols.{ProtocolEndsAs, ProtocolServes, ProtocolSession}

-- the answer to a sign
abbrev pub bitbang_answer_to_sign : PinReply → List ℕ
bitbang_answer_to_sign (Level level) = alphabet_level level ∷ []
bitbang_answer_to_sign sign = []

-- after Quit or a bad character no more characters are read
abbrev pub IsBitbangOpen : PinReply → Type 0
IsBitbangOpen Silent = Unit {0}
IsBitbangOpen (Level level) = Unit {0}
IsBitbangOpen Quit = ⊥
IsBitbangOpen Bad = ⊥

-- one character that doesn't end the session, and its answer
pub record PinsAnswer {D A : Type 0} (bus : D → Bus) (byte : ℕ) (levels : List ℕ) (s t : Pins D A) : Type 0 where
  pub sign : PinReply
  pub steps : PinsStep bus (alphabet_character byte) s sign t
  pub goes_on : IsBitbangOpen sign
  pub tells : levels ≡ bitbang_answer_to_sign sign

-- characters that don't end the session, and all their answers
abbrev pub PinsSession : {D A : Type 0} → (D → Bus) → List ℕ → List ℕ → Pins D A → Pins D A → Type 0
PinsSession bus text levels s t = ProtocolSession (PinsAnswer bus) text levels s t

abbrev pub IsBitbangQuit : List ℕ → ℕ → Type 0
IsBitbangQuit taken byte = alphabet_character byte ≡ Some Quits

abbrev pub IsBitbangBadCharacter : ℕ → ℕ → List ℕ → ℕ → Type 0
IsBitbangBadCharacter place which taken byte = (alphabet_character byte ≡ None) × (which ≡ byte)
    × (place ≡ min (length taken) (2 ^ 64 - 1))

-- why a character ends a session
abbrev pub IsBitbangEnd : {D A : Type 0} → Served → Pins D A → List ℕ → ℕ → Type 0
IsBitbangEnd ends.Quit pins taken byte = IsBitbangQuit taken byte
IsBitbangEnd (ends.Bad place which) pins taken byte = IsBitbangBadCharacter place which taken byte
IsBitbangEnd served pins taken byte = ⊥

-- how a session ended, by what was read of it
abbrev pub BitbangEndsAs : {D A : Type 0} → (D → Bus) → Served → Option (List ℕ) → Option (List ℕ) → List ℕ → Pins D A
    → Pins D A → Type 0
BitbangEndsAs bus served old new read s t = ProtocolEndsAs (PinsAnswer bus) IsBitbangEnd served old new read s t

-- what a session says of the reader's input, of the writer, and of the pins
abbrev pub BitbangServes : {D A : Type 0} → (D → Bus) → Served → Option (List ℕ) → Option (List ℕ) → Option (List ℕ)
    → Option (List ℕ) → Pins D A → Pins D A → Type 0
BitbangServes bus served text left old new s t =
    ProtocolServes (PinsAnswer bus) IsBitbangEnd served text left old new s t
