-- What the theorem of a run states where the bus is a plain memory: the answers and the memory are those of the plain
-- memory.
use Rattle.std.specs.Prelude.{ℕ, ◌≡◌, ◌≢◌, ◌+◌, ◌≤◌, List, [], ◌∷◌, length, take}
use Rattle.swd_port.specs.declared.access.Access.{Access}
use Rattle.swd_port.specs.declared.access.Answer.{Answer}
use Rattle.swd_port.specs.PlainMemory.{PlainMemory}
use Rattle.swd_port.specs.PlainAnswers.{plain_answer, plain_after}
use Rattle.swd_port.specs.Bus.{Bus}
use Rattle.swd_port.specs.PlainBus.{plain_of, plain_after_all}
use Rattle.swd_port.specs.Port.{Port}
use Rattle.swd_port.specs.Choices.{Choice}
use Rattle.swd_port.specs.Completion.{port_completed}
use Rattle.swd_host.specs.declared.outcome.End.TheVariants.{All}
use Rattle.swd_port.specs.PlainBus.{IsPlain, plain_logged}
use Rattle.swd_host.specs.Plain.{memory_after}
use Rattle.swd_host.specs.declared.task.Bursts.{Bursts}
use Rattle.swd_host.specs.Bursts.{bursts_limit}
use Rattle.swd_host.specs.Reports.{HostReport, IsAtRest, RunsWithin, Fits}

-- the answers of a plain memory to a list of accesses, in order
abbrev pub plain_answers_to : List Access → PlainMemory → List Answer
plain_answers_to [] m = []
plain_answers_to (a ∷ list) m = plain_answer a m ∷ plain_answers_to list (plain_after a m)

-- The answers are exactly those to the first k accesses of the list over the plain memory. The memory `now` is that
-- after these and a prefix of the begun ones, possibly empty. At most `most` accesses are begun.
pub record PlainFitsAt (most k : ℕ) (list : List Access) (m : PlainMemory) (told : HostReport) (now : PlainMemory)
    : Type 0 where
  pub reported : k ≤ length list
  pub answers : told.answers ≡ plain_answers_to (take k list) m
  pub memory : (j : ℕ) × (j ≤ told.begun) × (now ≡ plain_after_all (take (k + j) list) m)
  pub few : told.begun ≤ most
  pub begun : told.begun ≢ 0 → (k + told.begun ≤ length list) × (told.ended ≢ All) ×
      (10 + k + told.begun ≤ told.requests)
  pub all : told.ended ≡ All → k ≡ length list

abbrev pub PlainFits : ℕ → List Access → PlainMemory → HostReport → PlainMemory → Type 0
PlainFits most list m told now = (k : ℕ) × PlainFitsAt most k list m told now

-- a bus that fits a report over a plain memory is a plain memory that fits it
pub record FitsPlainly (limit : ℕ) (list : List Access) (m : PlainMemory) (told : HostReport) (now : Bus) : Type 0 where
  pub plain : IsPlain now
  pub fits : PlainFits limit list m told (plain_of now)

abbrev pub FitsOverPlain : Type 0
FitsOverPlain = (limit : ℕ) (list : List Access) (b : Bus) (told : HostReport) (now : Bus) → IsPlain b
    → Fits limit list b told now → FitsPlainly limit list (plain_of b) told now

-- A run over a target at rest, whose bus is a plain memory: now, and once a transfer that is still pending has taken
-- effect.
pub record RunsPlainly (limit : ℕ) (list : List Access) (told : HostReport) (s t : Port) : Type 0 where
  pub now : FitsPlainly limit list (plain_of s.target.memory) told t.target.memory
  pub later : (c : Choice) → FitsPlainly limit list (plain_of s.target.memory) told (port_completed c t).target.memory

abbrev pub RunsOverPlain : Type 0
RunsOverPlain = (kind : Bursts) (list : List Access) (tries : ℕ) (told : HostReport) (s t : Port) → IsAtRest s
    → IsPlain s.target.memory → RunsWithin kind list tries told s t → RunsPlainly (bursts_limit kind) list told s t

-- the bus is a plain memory, and after this list its log has room for so many more transfers
pub record IsPlainWithRoom (more : ℕ) (list : List Access) (m : Bus) : Type 0 where
  pub plain : IsPlain m
  pub room : plain_logged (memory_after list m) + more ≤ (plain_of m).room
