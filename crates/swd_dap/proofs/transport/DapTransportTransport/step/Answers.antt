use Rattle.swd_port.specs.Transports.{port_attempt}
use Rattle.swd_dap.proofs.CallLemmas.{dap_calls_one_more}
use Rattle.swd_dap.proofs.transport.DapTransportTransport.step.Goals as goal

pub returns : goal.returns
returns g c = record {
  told = λ made h. dap_calls_one_more g.P.Packets.exchanged made (port_attempt c.args.cue c.call.result) c.args.self.now
      c.call.new.self c.call.ensures h;
}
