-- The cues of runs.
use Rattle.std.proofs.Common.{arith, ◌≡◌, Option, Some, None}
use Rattle.swd_port.specs.declared.cue.Cue.{Cue}
use Rattle.swd_port.specs.declared.cue.Cue.TheVariants.{Lead, Ask, Take, Give, Pass}
use Rattle.swd_host.specs.declared.outcome.Outcome.{Outcome}
use Rattle.swd_c.specs.Cues.{c_api_cue}

-- none is told as a refusal
pub c_api_cue_never_refusal : (cue : Option Cue) (outcome : Option Outcome) → (c_api_cue cue outcome).kind ≡ 255 → ⊥
c_api_cue_never_refusal (Some (Lead ones undriven switch zeros)) outcome h = omega arith
c_api_cue_never_refusal (Some (Ask q)) outcome h = omega arith
c_api_cue_never_refusal (Some Take) outcome h = omega arith
c_api_cue_never_refusal (Some (Give bits)) outcome h = omega arith
c_api_cue_never_refusal (Some Pass) outcome h = omega arith
c_api_cue_never_refusal None outcome h = omega arith
