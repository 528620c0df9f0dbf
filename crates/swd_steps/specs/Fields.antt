-- A run as a struct of integers. Zeros are no run.
use Rattle.std.specs.Prelude.{ℕ, ◌==◌, if◌then◌else◌}
use Rattle.swd_host.specs.declared.fields.OutcomeFields.{OutcomeFields}
use Rattle.swd_host.specs.declared.outcome.End.{End}
use Rattle.swd_host.specs.declared.outcome.End.TheVariants.{All, Lost, TriesOut, WrongId, Confused}
use Rattle.swd_host.specs.declared.outcome.Outcome.TheVariants.{Stopped}
use Rattle.swd_host.specs.Engines.{engine_begun, engine_requests}
use Rattle.swd_host.specs.Fields.{fields_of_engine as engine_fields, no_engine_outcome, engine_outcome_fields}
use Rattle.swd_steps.specs.declared.fields.RunFields.{RunFields}
use Rattle.swd_steps.specs.declared.run.Run.{Run}
use Rattle.swd_steps.specs.declared.run.Stage.{Stage}
use Rattle.swd_steps.specs.declared.run.Stage.TheVariants.{Driving, Between, Ended}

abbrev pub stepped_stage_number : Stage → ℕ
stepped_stage_number Driving = 1
stepped_stage_number Between = 2
stepped_stage_number (Ended end) = 3

-- the end of a run
abbrev pub stepped_end_fields : Stage → OutcomeFields
stepped_end_fields (Ended end) = engine_outcome_fields (Stopped end)
stepped_end_fields stage = no_engine_outcome

-- the fields of a run
abbrev pub stepped_fields : Run → RunFields
stepped_fields run = record {
  requests = engine_requests run.engine;
  engine = engine_fields run.engine;
  end = stepped_end_fields run.stage;
  answered = run.answered;
  begun = engine_begun run.engine;
  stage = stepped_stage_number run.stage;
}

-- what the integers stand for, if they are those of a run
abbrev pub stepped_end_from : OutcomeFields → End
stepped_end_from f =
    if f.kind == 5 then All else if f.kind == 6 then Lost else if f.kind == 7 then TriesOut
    else if f.kind == 8 then WrongId f.word else Confused

abbrev pub stepped_stage_from : ℕ → OutcomeFields → Stage
stepped_stage_from n end = if n == 1 then Driving else if n == 2 then Between else Ended (stepped_end_from end)
