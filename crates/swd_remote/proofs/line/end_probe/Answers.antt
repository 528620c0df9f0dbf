use Rattle.swd_remote.proofs.line.end_probe.Goals as goal

pub returns-clause-hangs : goal.returns-clause-hangs
returns-clause-hangs g c = λ speed calls h. record {
  last = c.args.transport;
  made = h;
  end = c.hang_up-packets.result.0;
  told = c.hang_up-packets.result.1;
  ends = c.hang_up-packets.ensures;
  reader = c.into_parts-reader.ensures.reader;
  writer = c.into_parts-reader.ensures.writer;
  fault = c.fault_of.ensures;
  in_doubt = c.in_doubt-in_doubt.ensures;
}
