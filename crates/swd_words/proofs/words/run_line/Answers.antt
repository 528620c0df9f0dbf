use Rattle.std.proofs.Common.{◌∙◌, sym, ap}
use Rattle.std.specs.Option.{option_map}
use Rattle.std.specs.String.{string_bytes}
use Rattle.swd_words.proofs.words.run_line.Goals as goal

pub returns : goal.returns
returns c = record {
  script = ap (option_map string_bytes) (sym c.in-Some-2.is) ∙ c.in_ok-script.ensures;
  plan = c.in_ok-plan.ensures;
  tries = c.in_ok-numbers.ensures.tries;
  resumes = c.in_ok-numbers.ensures.resumes;
  trace = c.in_ok-trace.ensures;
  accesses = c.in_ok-accesses.ensures;
  strict = c.is_set.ensures;
  remote = c.in_ok-lead.ensures;
  report = c.in_ok-report.ensures;
  check = c.is_set-2.ensures;
  progress = c.is_set-3.ensures;
  bursts = c.is_set-4.ensures;
}
