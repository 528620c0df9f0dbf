use Rattle.std.proofs.Common.{◌≡◌, ◌+◌, length}
use Rattle.std.specs.Prelude.{if◌then◌else◌}
use Rattle.swd_image_files.specs.Files.{image_file_after_lines, image_file_of_lines}
use Rattle.swd_image_files.specs.Images.{ImageFileContents}
use Rattle.swd_image_files.specs.Readings.{ImageFileHolds}
use Rattle.swd_image_files.proofs.LineLemmas.{image_file_lines_left}
use Rattle.swd_image_files.proofs.read.read_lines.Given as goal

abbrev pub invariant-loop-more : goal.invariant-loop-more
invariant-loop-more g l = record {
  image : ImageFileContents;
  holds : ImageFileHolds image l.reading.held;
  meaning : image_file_of_lines l.records l.base l.bytes
      ≡ image_file_after_lines l.records l.reading.place image l.line (image_file_lines_left l.more l.rest);
}

abbrev pub decreases-loop-more : goal.decreases-loop-more
decreases-loop-more g l = length l.rest + (if l.more then 1 else 0)
