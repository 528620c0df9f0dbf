use Rattle.std.proofs.Common.{subst}
use Rattle.swd_words.specs.Commands.{IsIdrArgument}
use Rattle.swd_words.proofs.target_words.target_line.Goals as goal

pub returns-clause-arguments : goal.returns-clause-arguments
returns-clause-arguments c = record {
  memory = c.in_ok-memory.ensures;
  log = c.in_ok-log.ensures;
  trace = c.in_ok-trace.ensures;
  idr = subst (IsIdrArgument c.in_ok-idr.idr) c.value_in.ensures c.in_ok-idr.ensures;
  buffers = c.is_set.ensures;
}
