-- The requests of the calls of a conformance run, and how they were answered.
use Rattle.std.specs.Prelude.{ℕ, ◌+◌, ◌==◌, ◌||◌, Bool, false, List, [], ◌∷◌}
use Rattle.swd_port.specs.declared.call.Call.{Call}
use Rattle.swd_port.specs.declared.cue.Cue.{Cue}
use Rattle.swd_port.specs.declared.cue.Cue.TheVariants.{Ask}

-- the number of requests of a call, and of several
abbrev pub conform_asked : Cue → ℕ
conform_asked (Ask request) = 1
conform_asked cue = 0

abbrev pub conform_requests_by : List Call → ℕ
conform_requests_by [] = 0
conform_requests_by (call ∷ calls) = conform_requests_by calls + conform_asked call.cue

-- whether a request was answered by these three bits: a call's, and one of several
abbrev pub conform_sees : ℕ → Cue → ℕ → Bool
conform_sees bits (Ask request) seen = seen == bits
conform_sees bits cue seen = false

abbrev pub conform_saw : ℕ → List Call → Bool
conform_saw bits [] = false
conform_saw bits (call ∷ calls) = conform_sees bits call.cue call.seen || conform_saw bits calls
