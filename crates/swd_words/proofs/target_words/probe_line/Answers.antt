use Rattle.std.proofs.Common.{subst, refl}
use Rattle.swd_words.specs.Commands.{IsSizeArgument}
use Rattle.swd_words.proofs.target_words.probe_line.Goals as goal

pub returns : goal.returns
returns c = record {
  arguments = record {
    memory = c.in_ok-target.ensures.arguments.memory;
    log = c.in_ok-target.ensures.arguments.log;
    trace = c.in_ok-target.ensures.arguments.trace;
    idr = c.in_ok-target.ensures.arguments.idr;
    buffers = c.in_ok-target.ensures.arguments.buffers;
  };
  size = c.in_ok-size.size;
  packet_size = refl;
  sized = subst (IsSizeArgument c.in_ok-size.size) c.value_in.ensures c.in_ok-size.ensures;
}
