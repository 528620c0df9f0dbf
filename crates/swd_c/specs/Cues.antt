-- The cue of a run as integers.
use Rattle.std.specs.Prelude.{ℕ, Bool, Option, Some, None}
use Rattle.swd_bits.specs.Bits.{bit, bits_number}
use Rattle.swd_bits.specs.Wire.{bits_of_request}
use Rattle.swd_port.specs.declared.cue.Cue.{Cue}
use Rattle.swd_port.specs.declared.cue.Cue.TheVariants.{Lead, Ask, Take, Give, Pass}
use Rattle.swd_host.specs.declared.fields.OutcomeFields.{OutcomeFields}
use Rattle.swd_host.specs.declared.outcome.Outcome.{Outcome}
use Rattle.swd_host.specs.Fields.{no_engine_outcome, engine_outcome_fields}
use Rattle.swd_c.specs.declared.cue.SwdCue.{SwdCue}

-- a cue of this kind whose other fields are 0
abbrev pub c_api_cue_of_kind : ℕ → SwdCue
c_api_cue_of_kind kind = record {
  bits = 0;
  ones = 0;
  zeros = 0;
  undriven = 0;
  outcome = no_engine_outcome;
  kind = kind;
  request = 0;
  with_switch = 0;
  begun = 0;
}

-- the cue of a refused call
abbrev pub c_api_refusal : SwdCue
c_api_refusal = c_api_cue_of_kind 255

abbrev pub c_api_outcome : Option Outcome → OutcomeFields
c_api_outcome None = no_engine_outcome
c_api_outcome (Some outcome) = engine_outcome_fields outcome

abbrev pub c_api_lead_cue : ℕ → ℕ → Bool → ℕ → SwdCue
c_api_lead_cue ones undriven switch zeros = record (c_api_cue_of_kind 1) {
  ones = ones;
  zeros = zeros;
  undriven = undriven;
  with_switch = bit switch;
}

abbrev pub c_api_step_cue : Cue → SwdCue
c_api_step_cue (Lead ones undriven switch zeros) = c_api_lead_cue ones undriven switch zeros
c_api_step_cue (Ask q) = record (c_api_cue_of_kind 2) { request = bits_number (bits_of_request q) }
c_api_step_cue Take = c_api_cue_of_kind 3
c_api_step_cue (Give bits) = record (c_api_cue_of_kind 4) { bits = bits }
c_api_step_cue Pass = c_api_cue_of_kind 5

-- there is nothing to send
abbrev pub c_api_rest_cue : Option Outcome → SwdCue
c_api_rest_cue outcome = record (c_api_cue_of_kind 0) { outcome = c_api_outcome outcome }

abbrev pub c_api_cue : Option Cue → Option Outcome → SwdCue
c_api_cue (Some cue) outcome = c_api_step_cue cue
c_api_cue None outcome = c_api_rest_cue outcome
