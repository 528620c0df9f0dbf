-- A host's cues as sequences of clocks. Their lengths are the standard's (IHI 0031, B4).
use Rattle.std.specs.Prelude.{ℕ, ◌≡◌, ◌-◌, min, nat_lt, Bool, true, false, List, [], ◌∷◌, Result, Ok, Err}
use Rattle.std.specs.Prelude.{if◌then◌else◌}
use Rattle.swd_bits.specs.Bits.{bits_number}
use Rattle.swd_bits.specs.Wire.{bits_of_request as request_bits}
use Rattle.swd_port.specs.declared.cue.Cue.{Cue}
use Rattle.swd_port.specs.declared.cue.Cue.TheVariants.{Lead, Ask, Take, Give, Pass}
use Rattle.swd_port.specs.declared.outside.Disconnected.{Disconnected}
use Rattle.swd_port.specs.CueKinds.{is_port_send}
use Rattle.swd_sequences.specs.declared.sequence.Sequence.{Sequence}
use Rattle.swd_sequences.specs.declared.sequence.Sequence.TheVariants.{Drive, Hold, Release, Sample}

-- The sequences of a cue, up to its answer. A lead is ones, of which the first ones are released if the cue
-- leaves them undriven; with the switch, its sixteen bits and the ones again follow; then zeros. A request is
-- eight bits, a turnaround, and the three bits of the acknowledgement. A data phase is 32 bits and the
-- parity, after a turnaround if it is a write's.
abbrev pub probe_sequences : Cue → List Sequence
probe_sequences (Lead ones undriven switch zeros) =
    Release (min undriven ones) ∷ Hold true (ones - min undriven ones) ∷ Drive 0xe79e (if switch then 16 else 0)
    ∷ Hold true (if switch then ones else 0) ∷ Hold false zeros ∷ []
probe_sequences (Ask request) = Drive (bits_number (request_bits request)) 8 ∷ Release 1 ∷ Sample 3 ∷ []
probe_sequences Take = Sample 33 ∷ []
probe_sequences (Give bits) = Release 1 ∷ Drive bits 33 ∷ []
probe_sequences Pass = Release 1 ∷ []

-- those after its answer: the turnaround after the data phase of a read
abbrev pub probe_turnaround : Cue → List Sequence
probe_turnaround Take = Release 1 ∷ []
probe_turnaround cue = []

abbrev pub probe_has_clocks : Sequence → Bool
probe_has_clocks (Drive bits count) = nat_lt 0 count
probe_has_clocks (Hold level count) = nat_lt 0 count
probe_has_clocks (Release count) = nat_lt 0 count
probe_has_clocks (Sample count) = nat_lt 0 count

-- a sequence is queued if it has clocks
abbrev pub ProbeQueuesBy : {P : Type 0} → Bool → (Sequence → P → P → Type 0) → Sequence → P → P → Type 0
ProbeQueuesBy true queues sequence s t = queues sequence s t
ProbeQueuesBy false queues sequence s t = t ≡ s

-- sequences are queued one after the other
abbrev pub ProbeQueues : {P : Type 0} → (Sequence → P → P → Type 0) → List Sequence → P → P → Type 0
ProbeQueues queues [] s t = t ≡ s
ProbeQueues {P} queues (sequence ∷ more) s t = (m : P) × ProbeQueuesBy (probe_has_clocks sequence) queues sequence s m
    × ProbeQueues queues more m t

-- the queued sequences are exchanged if the host samples; otherwise nothing is sent, and the returned number
-- is 0
abbrev pub ProbeAnswersBy : {P : Type 0} → Bool → (Result ℕ Disconnected → P → P → Type 0) → Result ℕ Disconnected → P
    → P → Type 0
ProbeAnswersBy true exchanges told s t = (told ≡ Ok 0) × (t ≡ s)
ProbeAnswersBy false exchanges told s t = exchanges told s t

-- Performs a cue: its sequences are queued, the queue is exchanged for an answer, and a turnaround is queued.
pub record ProbePerforms {P : Type 0} (IsQueued : Sequence → P → P → Type 0)
    (IsExchanged : Result ℕ Disconnected → P → P → Type 0) (cue : Cue) (told : Result ℕ Disconnected) (s t : P) : Type 0
  where
    pub queued : P
    pub queues : ProbeQueues IsQueued (probe_sequences cue) s queued
    pub answered : P
    pub answers : ProbeAnswersBy (is_port_send cue) IsExchanged told queued answered
    pub turns : ProbeQueues IsQueued (probe_turnaround cue) answered t

-- what was sent is done, or the other end is gone
abbrev pub IsProbeDoneAs : Result ℕ Disconnected → Result (Unit {0}) Disconnected → Type 0
IsProbeDoneAs (Ok seen) (Ok done) = Unit {0}
IsProbeDoneAs (Err gone) (Err told) = Unit {0}
IsProbeDoneAs seen told = ⊥
