-- Why a file isn't taken.
use Rattle.std.specs.Prelude.{ℕ, ◌<◌, List, length}
use Rattle.swd_image_ends.specs.declared.file.FileFault.{FileFault}
use Rattle.swd_image_ends.specs.declared.file.FileFault.TheVariants.{TooLong, Memory}

-- what the fault says of a file that may have `most` bytes
abbrev pub ImageEndRefusesFile : ℕ → FileFault → List ℕ → Type 0
ImageEndRefusesFile most TooLong text = most < length text
ImageEndRefusesFile most Memory text = Unit {0}
