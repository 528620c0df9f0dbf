use Rattle.std.proofs.Common.{not, sym, ap, ◌∙◌}
use Rattle.swd_bits.proofs.BitsLemmas.{odd-low_bits}
use Rattle.swd_draw.specs.Fields.{drawn_word_parity}
use Rattle.swd_draw.proofs.tx_strip.word_bit.Goals as goal

pub returns-then-parity_ok : goal.returns-then-parity_ok
returns-then-parity_ok c = sym (ap (drawn_word_parity c.args.word) c.if-parity_ok.true
    ∙ odd-low_bits 32 c.args.word c.ranges.word.fits)

pub returns-else-parity_ok : goal.returns-else-parity_ok
returns-else-parity_ok c = sym (ap (drawn_word_parity c.args.word) c.if-parity_ok.false
    ∙ ap not (odd-low_bits 32 c.args.word c.ranges.word.fits))
