use Rattle.swd_image_files.proofs.LawLemmas.{image_file_reads_back}
use Rattle.swd_image_files.proofs.laws.written_files_are_read.Goals as goal

pub returns : goal.returns
returns c = image_file_reads_back
