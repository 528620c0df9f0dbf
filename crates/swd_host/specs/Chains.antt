-- A call and the calls of `resume` after it: what all of them did together.
use Rattle.std.specs.Prelude.{ℕ, zero, suc, ◌≡◌, ◌+◌, ◌-◌, ◌≤◌, List, [], ◌∷◌, ◌++◌, length, take, drop}
use Rattle.swd_port.specs.declared.access.Access.{Access}
use Rattle.swd_port.specs.declared.access.Access.TheVariants.{Read, Write}
use Rattle.swd_port.specs.Bus.{Bus}
use Rattle.swd_port.specs.Port.{Port}
use Rattle.swd_port.specs.Becoming.{MayBecome}
use Rattle.swd_host.specs.declared.outcome.End.TheVariants.{All}
use Rattle.swd_port.specs.PlainBus.{IsPlain, plain_words_of}
use Rattle.swd_host.specs.Plain.{memory_after, answers_of}
use Rattle.swd_host.specs.PlainRuns.{IsPlainWithRoom}
use Rattle.swd_host.specs.declared.task.Bursts.{Bursts}
use Rattle.swd_host.specs.Bursts.{bursts_limit}
use Rattle.swd_host.specs.Reports.{HostReport, Fits, IsAtRest, RunsWithin}
use Rattle.swd_host.specs.Again.{Again, ResumePlacesBelow, ResumesOver, resume_added, resume_own_report}
use Rattle.swd_host.specs.Again.{resume_repeats_of}
use Rattle.swd_host.specs.Resuming.{resume_begun}

-- THE CALLS
-- A run at the port s with this kind of bursts, and the calls of `resume` after it, each with a kind of its own. The
-- arguments after s are the reports of all calls but the last, the first one first, the last report, and the port at
-- the end.
pub data ResumedCalls (kind : Bursts) (list : List Access) (s : Port) : List HostReport → HostReport → Port → Type 0
  where
    ran : {told : HostReport} {t : Port} → (tries : ℕ) → RunsWithin kind list tries told s t
        → ResumedCalls kind list s [] told t
    resumed : {calls : List HostReport} {earlier told : HostReport} {t u : Port}
        → ResumedCalls kind list s calls earlier t
        → (next : Bursts) (tries : ℕ) → told.answers ≡ earlier.answers ++ resume_added earlier told
        → ResumesOver next list tries earlier told t u → ResumedCalls kind list s (calls ++ earlier ∷ []) told u

-- WHAT THEY DID
-- The same calls over memories, from m to `now`. Each call after the first is a run over the rest of the list, from the
-- memory that the one before left.
pub data ResumeChain (limit : ℕ) (list : List Access) (m : Bus) : List HostReport → HostReport → Bus
    → Type 0 where
  first : {told : HostReport} {now : Bus} → Fits limit list m told now → ResumeChain limit list m [] told now
  again : {calls : List HostReport} {earlier told : HostReport} {before now : Bus}
      → ResumeChain limit list m calls earlier before → (own : ℕ)
      → told.answers ≡ earlier.answers ++ resume_added earlier told → told.begun ≡ resume_begun earlier told own
      → Fits 1 (drop (length earlier.answers) list) before (resume_own_report earlier told own) now
      → ResumeChain limit list m (calls ++ earlier ∷ []) told now

-- over a target at rest, such a chain leads to each memory that the last port may become
abbrev pub ResumedCallsAreChained : Type 0
ResumedCallsAreChained = (kind : Bursts) (list : List Access) (s : Port) (calls : List HostReport) (told : HostReport)
    (t : Port) → IsAtRest s → ResumedCalls kind list s calls told t → (now : Bus) → MayBecome t now
    → ResumeChain (bursts_limit kind) list s.target.memory calls told now

-- n places, from i on
abbrev pub resume_places_from : ℕ → ℕ → List ℕ
resume_places_from i zero = []
resume_places_from i (suc n) = i ∷ resume_places_from (suc i) n

-- the accesses at these places
abbrev pub resume_accesses_at : List ℕ → List Access → List Access
resume_accesses_at [] list = []
resume_accesses_at (i ∷ places) list = take 1 (drop i list) ++ resume_accesses_at places list

-- The places of the accesses that were done, in order: for each call those that it answered, and then those of its
-- begun ones that took effect.
abbrev pub resume_chain_places : (limit : ℕ) (list : List Access) (m : Bus) (calls : List HostReport)
    (told : HostReport) (now : Bus)
    → ResumeChain limit list m calls told now → List ℕ
resume_chain_places limit list m calls told now (first fits) = resume_places_from 0 (fits.0 + fits.1.memory.0)
resume_chain_places limit list m calls told now
    (again {calls = before} {earlier = earlier} {before = left} chain own kept begun fits) =
    resume_chain_places limit list m before earlier left chain
    ++ resume_places_from (length earlier.answers) (fits.0 + fits.1.memory.0)

-- The bus, with its log, is that after the accesses at these places. No place occurs more often than there were
-- calls. After the answered accesses only those occur that the report counts as begun. Beside the answered ones there
-- are at most `limit` more, and one for each call of `resume`.
pub record ResumeChainHasDone (limit : ℕ) (list : List Access) (m : Bus) (calls : List HostReport)
    (told : HostReport) (now : Bus) (places : List ℕ) : Type 0 where
  pub memory : now ≡ memory_after (resume_accesses_at places list) m
  pub copies : (i : ℕ) → resume_repeats_of i places ≤ length calls + 1
  pub within : ResumePlacesBelow (length told.answers + told.begun) places
  pub few : length places ≤ length told.answers + limit + length calls

abbrev pub ResumeChainDoes : Type 0
ResumeChainDoes = (limit : ℕ) (list : List Access) (m : Bus) (calls : List HostReport) (told : HostReport)
    (now : Bus) → (chain : ResumeChain limit list m calls told now)
    → ResumeChainHasDone limit list m calls told now (resume_chain_places limit list m calls told now chain)

-- LISTS OF READS, such as blocks
abbrev pub AreBlockReads : List Access → Type 0
AreBlockReads [] = Unit {0}
AreBlockReads (Read at ∷ list) = AreBlockReads list
AreBlockReads (Write at word ∷ list) = ⊥

-- In a plain memory no word changed. Where its log has room for the reads that may have been repeated, the answers are
-- those of the list done once.
pub record ResumeChainHasRead (limit : ℕ) (list : List Access) (m : Bus) (calls : List HostReport)
    (told : HostReport) (now : Bus) : Type 0 where
  pub words : IsPlain m → plain_words_of now ≡ plain_words_of m
  pub answers : IsPlainWithRoom (limit + (length calls - 1)) list m
      → told.answers ≡ answers_of (take (length told.answers) list) m

abbrev pub ResumeChainReads : Type 0
ResumeChainReads = (limit : ℕ) (list : List Access) (m : Bus) (calls : List HostReport) (told : HostReport)
    (now : Bus)
    → 1 ≤ limit → AreBlockReads list → ResumeChain limit list m calls told now
    → ResumeChainHasRead limit list m calls told now

-- LISTS WITH WRITES
-- how many accesses the first call left begun
abbrev pub resume_chain_first_begun : List HostReport → HostReport → ℕ
resume_chain_first_begun [] told = told.begun
resume_chain_first_begun (earlier ∷ calls) told = earlier.begun

-- The report is that of a list in which some accesses were repeated, each directly after itself, at most one for each
-- call of `resume`. A whole list leaves the same words as without repetitions.
pub record ResumeChainHasRepeated (list : List Access) (m : Bus) (calls : List HostReport) (told : HostReport)
    (now : Bus) : Type 0 where
  pub places : List ℕ
  pub few : length places ≤ length calls
  pub again : Again places list m told now
  pub words : told.ended ≡ All → plain_words_of now ≡ plain_words_of (memory_after list m)

-- This holds where the first call left at most one access begun, and the bus is a plain memory whose log has room for
-- the transfers that may have been repeated.
abbrev pub ResumeChainRepeats : Type 0
ResumeChainRepeats = (limit : ℕ) (list : List Access) (m : Bus) (calls : List HostReport) (told : HostReport)
    (now : Bus)
    → resume_chain_first_begun calls told ≤ 1 → IsPlainWithRoom (length calls) list m
    → ResumeChain limit list m calls told now → ResumeChainHasRepeated list m calls told now
