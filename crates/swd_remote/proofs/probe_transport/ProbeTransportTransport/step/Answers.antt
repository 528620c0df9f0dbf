use Rattle.std.proofs.Common.{refl, sym, subst}
use Rattle.swd_remote.specs.Packets.{probe_sequences, ProbeQueues, ProbePerforms}
use Rattle.swd_remote.proofs.probe_transport.ProbeTransportTransport.step.Goals as goal

pub returns-in-Ask : goal.returns-in-Ask
returns-in-Ask g c =
    subst (λ x. ProbePerforms g.P.Probe.queues g.P.Probe.exchanges x c.exchange.result c.args.self.now.probe
    c.exchange.new.self) (sym c.in-Ask.is)
    (record {
      queued = c.queue_cue.new.self.probe;
      queues = subst (λ x. ProbeQueues g.P.Probe.queues (probe_sequences x) c.args.self.now.probe
          c.queue_cue.new.self.probe) c.in-Ask.is c.queue_cue.ensures;
      answered = c.exchange.new.self;
      answers = c.exchange.ensures;
      turns = refl;
    })

pub returns-in-Take : goal.returns-in-Take
returns-in-Take g c =
    subst (λ x. ProbePerforms g.P.Probe.queues g.P.Probe.exchanges x c.exchange-seen.result c.args.self.now.probe
    c.queue.new.self.probe) (sym c.in-Take.is)
    (record {
      queued = c.queue_cue.new.self.probe;
      queues = subst (λ x. ProbeQueues g.P.Probe.queues (probe_sequences x) c.args.self.now.probe
          c.queue_cue.new.self.probe) c.in-Take.is c.queue_cue.ensures;
      answered = c.exchange-seen.new.self;
      answers = c.exchange-seen.ensures;
      turns = (c.queue.new.self.probe, c.queue.ensures, refl);
    })
