use Rattle.swd_host.proofs.Words.{◌≡◌, ◌+◌, ◌≤◌, ◌++◌, List, length, Answer, EngineStands}
use Rattle.swd_host.specs.Standing.{EngineStays}
use Rattle.swd_host.specs.Sent.{HostCalls}
use Rattle.swd_host.proofs.SendingRuns.{EngineSentSoFar}
use Rattle.swd_host.proofs.running.perform.Given as goal

-- these answers were added
pub record Added (before after : List Answer) : Type 0 where
  pub part : List Answer
  pub whole : after ≡ before ++ part

abbrev pub invariant-loop-index : goal.invariant-loop-index
invariant-loop-index g l = record {
  added : Added (g.K.AnswerSink.taken l.fn.sink) (g.K.AnswerSink.taken l.sink);
  stays : EngineStays l.index l.accesses l.fn.engine l.engine added.part (g.W.Wire.port l.wire);
  stands : g.W.Wire.lawful l.wire → g.W.Wire.lawful l.fn.wire
      × EngineStands l.index l.accesses l.fn.engine (g.W.Wire.port l.fn.wire) l.engine added.part
      (g.W.Wire.port l.wire);
  room : length (g.K.AnswerSink.taken l.fn.sink) + length l.accesses ≤ g.K.AnswerSink.most l.sink;
  most : g.K.AnswerSink.most l.fn.sink ≤ g.K.AnswerSink.most l.sink;
  keeps : g.K.AnswerSink.keeps l.fn.sink l.sink;
  told : HostCalls g.W.Wire.notes (EngineSentSoFar l.accesses added.part l.fn.engine l.engine) l.fn.wire l.wire;
  plan : g.W.Wire.plan l.wire ≡ g.W.Wire.plan l.fn.wire;
}
