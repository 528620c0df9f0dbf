use Rattle.swd_clocked.proofs.Whole.{clocked_ask_whole}
use Rattle.swd_clocked.proofs.marked.FaultyClocked.ask_request.Goals as goal

pub returns-clause-asked : goal.returns-clause-asked
returns-clause-asked g c = clocked_ask_whole g.D.Device.bus c.args.request c.see_reply.result c.args.self.now
    c.send_request.new.self
    c.see_reply.new.self c.send_request.ensures.sent c.see_reply.ensures.sees
