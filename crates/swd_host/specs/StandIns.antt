-- Calls, as a wire tells them that doesn't know which bits of a damaged word arrived.
use Rattle.std.specs.Prelude.{ℕ, ◌≡◌, ◌<◌, ◌^◌, None, List, [], ◌∷◌}
use Rattle.swd_bits.specs.Phases.{data_phase_word}
use Rattle.swd_port.specs.declared.call.Call.{Call}
use Rattle.swd_port.specs.declared.cue.Cue.TheVariants.{Take}
use Rattle.swd_host.specs.declared.engine.Engine.{Engine}
use Rattle.swd_host.specs.Calls.{EngineTurned, EngineTurns}
use Rattle.swd_port.specs.declared.access.Access.{Access}
use Rattle.swd_host.specs.Reports.{HostReport}
use Rattle.swd_host.specs.Sent.{HostReportsCalls}

-- 33 bits whose parity is wrong
pub record IsDamagedPhase (bits : ℕ) : Type 0 where
  pub range : bits < 2 ^ 33
  pub damaged : data_phase_word bits ≡ None

-- A call stands in for another one: it is the same, or both are data phases of reads, with wrong parity.
pub data IsHostStandIn (c d : Call) : Type 0 where
  same_call : d ≡ c → IsHostStandIn c d
  same_damage : c.cue ≡ Take → d.cue ≡ Take → IsDamagedPhase c.seen → IsDamagedPhase d.seen → IsHostStandIn c d

-- each of these calls stands in for the one at its place
abbrev pub AreHostStandIns : List Call → List Call → Type 0
AreHostStandIns [] [] = Unit {0}
AreHostStandIns (c ∷ calls) (d ∷ others) = IsHostStandIn c d × AreHostStandIns calls others
AreHostStandIns calls others = ⊥

-- An engine that made some calls could have made those that stand in for them, and is the same then.
abbrev pub EngineTurnsByStandIns : Type 0
EngineTurnsByStandIns = (e f : Engine) (calls others : List Call) → AreHostStandIns calls others → EngineTurns e calls f
    → EngineTurns e others f

-- the same of one call
abbrev pub EngineTurnedByStandIn : Type 0
EngineTurnedByStandIn = (c d : Call) (e f : Engine) → IsHostStandIn c d → EngineTurned c e f → EngineTurned d e f

-- A report that relates to some calls relates to those that stand in for them.
abbrev pub HostReportsStandIns : Type 0
HostReportsStandIns = (list : List Access) (told : HostReport) (calls others : List Call) → AreHostStandIns calls others
    → HostReportsCalls list told calls → HostReportsCalls list told others

-- where calls stand in for others, these stand in for them
abbrev pub AreHostStandInsBothWays : Type 0
AreHostStandInsBothWays = (calls others : List Call) → AreHostStandIns calls others → AreHostStandIns others calls
