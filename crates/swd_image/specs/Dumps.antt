-- The results of a dump and of a verification over a wire.
use Rattle.std.specs.Prelude.{ℕ, ◌≡◌, ◌+◌, ◌<◌, ◌≤◌, ◌%◌, ◌^◌, List, length, Option, None, Some}
use Rattle.std.specs.FinMap.{get}
use Rattle.swd_port.specs.PlainBus.{plain_of}
use Rattle.swd_port.specs.PlainBus.{IsPlain, plain_words_of}
use Rattle.swd_host.specs.Reports.{IsAtRest}
use Rattle.swd_run.specs.declared.limits.Limits.{Limits}
use Rattle.swd_image.specs.declared.fault.ImageFault.{ImageFault}
use Rattle.swd_image.specs.declared.fault.ImageFault.TheVariants.{Range}
use Rattle.swd_image.specs.declared.verifying.ByteDifference.{ByteDifference}
use Rattle.swd_image.specs.Bytes.{image_bytes_at, image_bytes_of}
use Rattle.swd_image.specs.Images.{ImageDiffersAt}
use Rattle.swd_image.specs.Lists.{image_dump_list}
use Rattle.swd_port.specs.declared.wire.Wire.{Ghosts}
use Rattle.swd_image.specs.Sessions.{FailsAs, ReadsAs}

module _ {W : Type 0} (wire : Ghosts W) (limits : Limits) where
  -- `count` bytes were read. Whatever was seen, they are the bytes of the words that the calls read. If the wire was
  -- lawful and the target at rest, they are the memory's bytes. Then no word of the memory changed, and the target is
  -- at rest again.
  pub record Dumps (addr count : ℕ) (bytes : List ℕ) (s t : W) : Type 0 where
    pub fits : addr + count ≤ 2 ^ 32
    pub words : List ℕ
    pub reads : ReadsAs wire limits (image_dump_list addr count) words s t
    pub are : bytes ≡ image_bytes_of words (addr % 4) count
    pub memory : wire.lawful t → IsAtRest (wire.port s) → IsPlain (wire.port s).target.memory
        → bytes ≡ image_bytes_at (plain_of (wire.port s).target.memory) addr count
    pub plain : wire.lawful t → IsAtRest (wire.port s) → IsPlain (wire.port s).target.memory → IsPlain (wire.port
        t).target.memory
    pub same : wire.lawful t → IsAtRest (wire.port s) → IsPlain (wire.port s).target.memory
        → (q : ℕ) → get (plain_words_of (wire.port t).target.memory) q ≡ get (plain_words_of (wire.port
        s).target.memory) q
    pub rests : wire.lawful t → IsAtRest (wire.port s) → IsAtRest (wire.port t)

  -- the error of a dump: for a range that extends past the addresses no call was made
  abbrev pub DumpFails : ℕ → ℕ → W → W → ImageFault → Type 0
  DumpFails addr count s t Range = (2 ^ 32 < addr + count) × (t ≡ s)
  DumpFails addr count s t fault =
      (addr + count ≤ 2 ^ 32) × FailsAs wire limits (image_dump_list addr count) s t fault

-- the bytes are the image's, or this is the first one that differs
abbrev pub ComparesImage : ℕ → List ℕ → List ℕ → Option ByteDifference → Type 0
ComparesImage addr bytes found None = found ≡ bytes
ComparesImage addr bytes found (Some difference) =
    ImageDiffersAt addr bytes found difference.addr difference.found difference.expected

-- The bytes of an image's range were read and compared. If the wire was lawful and the target at rest, the result
-- holds for the memory's bytes.
pub record VerifiesImage {W : Type 0} (wire : Ghosts W) (limits : Limits) (addr : ℕ) (bytes : List ℕ) (difference :
    Option ByteDifference) (s t : W) : Type 0 where
  pub found : List ℕ
  pub dumps : Dumps wire limits addr (length bytes) found s t
  pub tells : ComparesImage addr bytes found difference
  pub memory : wire.lawful t → IsAtRest (wire.port s) → IsPlain (wire.port s).target.memory
      → ComparesImage addr bytes (image_bytes_at (plain_of (wire.port s).target.memory) addr (length bytes)) difference
