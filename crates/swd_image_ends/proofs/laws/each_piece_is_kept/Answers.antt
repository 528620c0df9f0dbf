use Rattle.swd_image_ends.proofs.ApartLemmas.{loaded_pieces_keep_each}
use Rattle.swd_image_ends.proofs.laws.each_piece_is_kept.Goals as goal

pub returns : goal.returns
returns c = loaded_pieces_keep_each
