use Rattle.std.proofs.Common.{refl}
use Rattle.swd_bits.specs.Listing.{hex2, hex8}
use Rattle.swd_text.proofs.tx_line.word_line.Goals as goal

pub returns : goal.returns
unfolding hex2 hex8
returns c = rw (c.digits-first.ensures, c.digits-second.ensures, c.digits-third.ensures, c.digits-fourth.ensures) refl
