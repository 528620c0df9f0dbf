use Rattle.std.proofs.Common.{length, sym, ap, ◌∙◌}
use Rattle.swd_bits.proofs.BitsLemmas.{length-low_bits}
use Rattle.swd_trace.specs.Texts.{item_bits}
use Rattle.swd_trace.proofs.item.Item.bit_count.Goals as goal

pub returns-in-Cut : goal.returns-in-Cut
returns-in-Cut c = c.from-in-Cut.ensures ∙ sym (length-low_bits c.in-Cut.bits.len c.in-Cut.bits.bits)
    ∙ ap (λ i. length (item_bits i)) (sym c.in-Cut.is)
