use Rattle.swd_dap.proofs.CallLemmas.{dap_calls_announced}
use Rattle.swd_dap.proofs.transport.DapTransportTransport.announce.Goals as goal

pub returns : goal.returns
returns g c = λ made h. dap_calls_announced g.P.Packets.exchanged made c.args.self.now c.foresee.new.self
    c.foresee.ensures h
