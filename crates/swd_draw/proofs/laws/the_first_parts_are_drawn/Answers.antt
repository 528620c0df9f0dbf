use Rattle.swd_draw.proofs.KeptLemmas.{drawn_all, drawn_few, drawn_front, drawn_or_left_out}
use Rattle.swd_draw.proofs.laws.the_first_parts_are_drawn.Goals as goal

pub returns : goal.returns
returns c = record {
  first = drawn_front;
  parts = drawn_few;
  others = drawn_or_left_out;
  all = drawn_all;
}
