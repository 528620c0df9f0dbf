-- What holds of every image that is written.
use Rattle.std.specs.Prelude.{ℕ, ◌+◌, ◌^◌, ◌<◌, ◌≤◌, All, List, length}
use Rattle.swd_image_files.specs.declared.format.Format.{Format}
use Rattle.swd_image_files.specs.declared.format.Format.TheVariants.{Binary, IntelHex, SRecord}
use Rattle.swd_image_files.specs.Files.{IsImage}
use Rattle.swd_image_files.specs.Images.{image_file_add_data, image_file_nothing}
use Rattle.swd_image_files.specs.Texts.{image_file_of_piece}

-- the base at which a file that was written for an address is read: a binary has no addresses of its own
abbrev pub image_file_base_for : Format → ℕ → ℕ
image_file_base_for Binary addr = addr
image_file_base_for IntelHex addr = 0
image_file_base_for SRecord addr = 0

-- the file of an image below 2^32 is read back as one piece of the same bytes at the same address, or as no piece if
-- there are no bytes
abbrev pub ReadsBack : Format → Type 0
ReadsBack format =
    (addr : ℕ) (bytes : List ℕ) → All (λ byte. byte < 256) bytes → addr + length bytes ≤ 2 ^ 32
    → IsImage format (image_file_base_for format addr) (image_file_of_piece format addr bytes)
    (image_file_add_data image_file_nothing addr bytes)
