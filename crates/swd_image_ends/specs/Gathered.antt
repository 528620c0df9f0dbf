-- The bytes of a file so far.
use Rattle.std.specs.Prelude.{ℕ, ◌≡◌, ◌≤◌, ◌++◌, List, length}
use Rattle.swd_image_ends.specs.declared.file.Bytes.{Bytes}
use Rattle.swd_image_ends.specs.declared.file.FileFault.{FileFault}
use Rattle.swd_image_ends.specs.Files.{ImageEndRefusesFile}

-- these bytes were read, which are not more than the file may have
abbrev pub ImageEndHasRead : {A : Type 0} → ℕ → Bytes A × Unit {0} → List ℕ → Type 0
ImageEndHasRead most file seen = (file.0.bytes.items ≡ seen) × (file.0.most ≡ most) × (length seen ≤ most)

-- the fault at these bytes, whatever follows them
abbrev pub ImageEndReadEndsWith : {A : Type 0} → ℕ → Bytes A × Unit {0} → FileFault → List ℕ → Type 0
ImageEndReadEndsWith most file fault seen = (more : List ℕ) → ImageEndRefusesFile most fault (seen ++ more)
