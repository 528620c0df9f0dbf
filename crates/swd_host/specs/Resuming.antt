-- How the report of `resume` is computed.
use Rattle.std.specs.Prelude.{ℕ, ◌-◌, Bool, true, false, if◌then◌else◌, length, max}
use Rattle.swd_host.specs.declared.outcome.End.{End}
use Rattle.swd_host.specs.declared.outcome.End.TheVariants.{All}
use Rattle.swd_host.specs.Reports.{HostReport}

abbrev pub host_end_is_all : End → Bool
host_end_is_all All = true
host_end_is_all end = false

-- How many unanswered accesses any call so far left begun, where the last call left `own`. One that an earlier call
-- started stays begun until it is answered. At `All` the number is 0.
abbrev pub resume_begun : HostReport → HostReport → ℕ → ℕ
resume_begun earlier told own =
    if host_end_is_all told.ended then 0 else max own (earlier.begun - (length told.answers - length earlier.answers))

-- the report of this call, with the accesses that earlier calls left begun
abbrev pub resume_report : HostReport → HostReport → HostReport
resume_report told earlier = record told { begun = resume_begun earlier told told.begun }
