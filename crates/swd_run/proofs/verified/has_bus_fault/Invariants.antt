use Rattle.std.proofs.Common.{◌≡◌, drop}
use Rattle.swd_run.specs.Verified.{report_has_bus_fault}
use Rattle.swd_run.proofs.verified.has_bus_fault.Given as goal

abbrev pub invariant-loop-answer : goal.invariant-loop-answer
invariant-loop-answer l = report_has_bus_fault l.answers ≡ report_has_bus_fault (drop l.answer-index l.answers)
