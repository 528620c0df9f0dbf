use Rattle.std.proofs.Common.{subst}
use Rattle.swd_words.specs.Commands.{IsNumberArgument}
use Rattle.swd_words.proofs.draw_words.draw_line.Goals as goal

pub returns : goal.returns
returns c = record {
  file = c.in_ok-file.ensures;
  items = subst (IsNumberArgument 200 c.in_ok-items.items) c.value_in.ensures c.in_ok-items.ensures;
  names = c.is_set-names.ensures;
  resync = c.is_set-resync.ensures;
  overrun = c.is_set-overrun.ensures;
}
