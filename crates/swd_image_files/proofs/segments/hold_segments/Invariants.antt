use Rattle.std.proofs.Common.{◌≡◌, ◌*◌, ◌-◌, ◌≤◌, length}
use Rattle.swd_image_files.specs.Elf.{elf_contents, elf_program_headers, elf_with_segments}
use Rattle.swd_image_files.specs.Images.{ImageFileContents}
use Rattle.swd_image_files.specs.Readings.{IsImageFileHeld}
use Rattle.swd_image_files.proofs.segments.hold_segments.Given as goal

abbrev pub invariant-loop-number : goal.invariant-loop-number
invariant-loop-number g l = record {
  image : ImageFileContents;
  holds : IsImageFileHeld l.kept image l.held;
  some : l.number ≤ l.table.count;
  within : 32 * (l.table.count - l.number) ≤ length l.rest;
  meaning : elf_contents l.base l.bytes
      ≡ elf_with_segments l.bytes l.base l.number (elf_program_headers (l.table.count - l.number) l.rest) image;
}

abbrev pub decreases-loop-number : goal.decreases-loop-number
decreases-loop-number g l = l.table.count - l.number
