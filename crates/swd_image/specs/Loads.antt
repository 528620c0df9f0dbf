-- The result of a load over a wire.
use Rattle.std.specs.Prelude.{ℕ, ◌≡◌, ◌+◌, ◌<◌, ◌≤◌, ◌^◌, ◌⊎◌, List, length}
use Rattle.swd_port.specs.PlainBus.{plain_of}
use Rattle.swd_port.specs.PlainBus.{IsPlain}
use Rattle.swd_host.specs.Reports.{IsAtRest}
use Rattle.swd_run.specs.declared.limits.Limits.{Limits}
use Rattle.swd_image.specs.declared.fault.ImageFault.{ImageFault}
use Rattle.swd_image.specs.declared.fault.ImageFault.TheVariants.{Range}
use Rattle.swd_image.specs.Images.{IsImageLoaded}
use Rattle.swd_image.specs.Lists.{image_edge_list, image_edge_words, image_load_list}
use Rattle.swd_port.specs.declared.wire.Wire.{Ghosts}
use Rattle.swd_image.specs.Sessions.{FailsAs, MadeAll, ReadsAs}

module _ {W : Type 0} (wire : Ghosts W) (limits : Limits) (addr : ℕ)
    (bytes : List ℕ) (s t : W) where
  -- The image was loaded. Whatever was seen, these are the calls: they read the partial words, and then wrote each
  -- word, a partial one as it was read, with the image's bytes in it. If the wire was lawful, the target at rest and
  -- the bus a plain memory, this contains the image, and nothing else of it changed. The target is then at rest again.
  pub record Loads : Type 0 where
    pub fits : addr + length bytes ≤ 2 ^ 32
    pub head : ℕ
    pub tail : ℕ
    pub reached : W
    pub edges : ReadsAs wire limits (image_edge_list addr (length bytes))
        (image_edge_words addr (length bytes) head tail) s reached
    pub writes : MadeAll wire limits (image_load_list addr bytes head tail) reached t
    pub memory : wire.lawful t → IsAtRest (wire.port s)
        → IsPlain (wire.port s).target.memory
        → IsImageLoaded addr bytes (plain_of (wire.port s).target.memory) (plain_of (wire.port t).target.memory)
        × IsAtRest (wire.port t) × IsPlain (wire.port t).target.memory

  -- the load failed in its writes
  pub record FailsLate (fault : ImageFault) : Type 0 where
    pub head : ℕ
    pub tail : ℕ
    pub reached : W
    pub edges : ReadsAs wire limits (image_edge_list addr (length bytes))
        (image_edge_words addr (length bytes) head tail) s reached
    pub writes : FailsAs wire limits (image_load_list addr bytes head tail) reached t fault

  -- The error of a load: for an image that extends past the addresses no call was made. Otherwise a call of the reads
  -- failed or wasn't made, or one of the writes.
  abbrev pub LoadFails : ImageFault → Type 0
  LoadFails Range = (2 ^ 32 < addr + length bytes) × (t ≡ s)
  LoadFails fault = (addr + length bytes ≤ 2 ^ 32)
      × (FailsAs wire limits (image_edge_list addr (length bytes)) s t fault ⊎ FailsLate fault)
